-- A response is joined with the first transaction that it is of.
use Rattle.std.proofs.Common.{◌≡◌, ℕ, suc, ◌+◌, ◌<◌, List, [], ◌∷◌, ◌++◌, length, take, drop, set, get_or, Option, Some, None, refl, sym, ap, subst, ◌∙◌, arith}
use Rattle.std.specs.List.{AllByRecursion}
use Rattle.router_node.specs.Joins.{HasJoined, HasJoinedOne, IsFirstOf, IsOther, IsTheOne}
use Rattle.router_node.specs.Places.{StandsAt}
use Rattle.router_node.specs.declared.finds.Found.{Found}
use Rattle.router_node.specs.declared.stage.Stage.{Stage}
use Rattle.router_node.specs.declared.stage.Stage.TheVariants.{Down, Below, Up, Sent}
use Rattle.router_node.proofs.Holds.{all_next}
use Rattle.router_node.proofs.Places.{as_many, same_there, set_again, split, take_next}
use Rattle.router_node.proofs.Sweeps.{take_past}

one_on : (i : ℕ) → suc i ≡ i + 1
one_on i = omega arith

module _ (f : Found) where
  -- a response is a transaction's, or it isn't
  other : (s : Stage) → (IsTheOne f s → ⊥) → IsOther f s
  other (Down d) n = tt
  other (Below h) n = n
  other (Up r rest) n = tt
  other (Sent a) n = tt

  not_both : (s : Stage) → IsTheOne f s → IsOther f s → ⊥
  not_both (Down d) one isnt = one
  not_both (Below h) one isnt = isnt one
  not_both (Up r rest) one isnt = one
  not_both (Sent a) one isnt = one

  -- the transactions before a place were looked at
  pub others_more : (xs : List Stage) (i : ℕ) (s : Stage) → i < length xs → s ≡ get_or xs i s → AllByRecursion (IsOther f) (take i xs) → (IsTheOne f s → ⊥) → AllByRecursion (IsOther f) (take (i + 1) xs)
  others_more xs i s below is all n =
      subst (λ (k : ℕ). AllByRecursion (IsOther f) (take k xs)) (one_on i) (all_next (IsOther f) (take i xs) (take (suc i) xs) s (take_next xs i s below is) all (other s n))

  pub others_all : (xs : List Stage) (i : ℕ) → (i < length xs → ⊥) → AllByRecursion (IsOther f) (take i xs) → AllByRecursion (IsOther f) xs
  others_all xs i past all = subst (λ (l : List Stage). AllByRecursion (IsOther f) l) (take_past xs i past) all

  pub is_first : (xs : List Stage) (i : ℕ) (s : Stage) → i < length xs → s ≡ get_or xs i s → AllByRecursion (IsOther f) (take i xs) → IsTheOne f s → IsFirstOf f xs i
  is_first xs i s below is all one = record { stage = s; stands = record { before = take i xs; rest = drop (suc i) xs; line = split xs i s below is; place = as_many xs i below }; others = all; one = one }

  -- it is joined where it stands
  pub joined_there : (old new : List Stage) (at : ℕ) (s gap t : Stage) (o : Option Found) → IsFirstOf f old at → StandsAt old at s → new ≡ set (set old at gap) at t → HasJoined s f t o → HasJoinedOne f old new o
  joined_there old new at s gap t None first there put joins =
      let same = same_there old at s first.stage there first.stands in
      let st = first.stands in
      record {
        before = st.before;
        stage = first.stage;
        after = st.rest;
        joined = t;
        others = first.others;
        was = st.line;
        is = put ∙ set_again old at first.stage gap t st;
        joins = subst (λ (x : Stage). HasJoined x f t None) same joins;
      }
  joined_there old new at s gap t (Some g) first there put joins =
      absurd (not_both first.stage first.one (subst (λ (x : Stage). IsOther f x) (same_there old at s first.stage there first.stands) joins.2))

  -- as many are held as before
  pub joined_count : (xs ys : List Stage) (o : Option Found) → HasJoinedOne f xs ys o → length ys ≡ length xs
  joined_count xs ys None j = ap (λ (l : List Stage). length l) j.is ∙ (count j.before j.after j.joined j.stage ∙ sym (ap (λ (l : List Stage). length l) j.was))
    where
      count : (before after : List Stage) (s t : Stage) → length (before ++ s ∷ after) ≡ length (before ++ t ∷ after)
      count [] after s t = refl
      count (x ∷ before) after s t = ap suc (count before after s t)
  joined_count xs ys (Some g) j = ap (λ (l : List Stage). length l) j.0
