-- Tests of lists, and entries before an entry.
use Rattle.std.proofs.Common.{◌≡◌, ℕ, ◌+◌, ◌<◌, ◌≤◌, Bool, true, false, cond, ◌||◌, List, [], ◌∷◌, ◌++◌, length, refl, sym, ap, ◌∙◌, subst, ⊎_elim, arith, append_assoc}
use Rattle.std.specs.List.{filter, list_any, list_all}
use Rattle.std.proofs.lemmas.List.Elements.{filter-append}
use Rattle.std.proofs.lemmas.Bool.{and_from, and_parts, or_left, or_right}
use Rattle.view_lists.specs.Lists.{Has}
use Rattle.view_lists.proofs.Members.{has_either, has_later, has_left, has_none, has_right}
use Rattle.tlm_types.specs.declared.entry.Entry.{Entry}
use Rattle.tlm_model.specs.Each.{AtEach, EachFrom}
use Rattle.tlm_model.specs.History.{IsNumbered, IsNumberedFrom}
use Rattle.tlm_model.proofs.EachLemmas.{AtEach-at, append_nil}
use Rattle.good_history.specs.Counting.{IsRising}
use Rattle.good_history.proofs.CountLemmas.{has_first}

module _ {A : Type 0} (test : A → Bool) where
  pub any_has : (xs : List A) (x : A) → Has xs x → test x ≡ true → list_any test xs ≡ true
  any_has [] x has is = absurd (has_none x has)
  any_has (y ∷ xs) x has is =
      ⊎_elim (λ (same : y ≡ x). or_left (test y) (list_any test xs) (ap test same ∙ is)) (λ (other : Has xs x). or_right (test y) (list_any test xs) (any_has xs x other is)) (has_first y xs x has)

  pub all_has : (xs : List A) → ((x : A) → Has xs x → test x ≡ true) → list_all test xs ≡ true
  all_has [] each = refl
  all_has (y ∷ xs) each = and_from (test y) (list_all test xs) (each y (0, refl)) (all_has xs (λ x has. each x (has_later y xs x has)))

  pub any_none : (xs : List A) → ((x : A) → Has xs x → test x ≡ true → ⊥) → list_any test xs ≡ false
  any_none [] none = refl
  any_none (y ∷ xs) none = first (test y) (none y (0, refl)) (any_none xs (λ x has is. none x (has_later y xs x has) is))
    where
      first : (b : Bool) → (b ≡ true → ⊥) → list_any test xs ≡ false → (b || list_any test xs) ≡ false
      first true not rest = absurd (not refl)
      first false not rest = rest

  pub has_any : (xs : List A) → list_any test xs ≡ true → (x : A) × Has xs x × (test x ≡ true)
  has_any [] is = cc
  has_any (y ∷ xs) is = first (test y) refl (λ rest. has_any xs rest) is
    where
      first : (b : Bool) → test y ≡ b → (list_any test xs ≡ true → (x : A) × Has xs x × (test x ≡ true)) → (b || list_any test xs) ≡ true → (x : A) × Has (y ∷ xs) x × (test x ≡ true)
      first true here more is = (y, (0, refl), here)
      first false here more is = let t = more is in (t.0, has_later y xs t.0 t.1, t.2)

  pub has_all : (xs : List A) (x : A) → list_all test xs ≡ true → Has xs x → test x ≡ true
  has_all [] x all has = absurd (has_none x has)
  has_all (y ∷ xs) x all has =
      let t = and_parts (test y) (list_all test xs) all in
      ⊎_elim (λ (same : y ≡ x). subst (λ (z : A). test z ≡ true) same t.0) (λ (other : Has xs x). has_all xs x t.1 other) (has_first y xs x has)

module _ {X : Type 0} (P : List X → X → Type 0) where
  each_from : (before xs : List X) → ((mid : List X) (x : X) (rest : List X) → xs ≡ mid ++ x ∷ rest → P (before ++ mid) x) → EachFrom P before xs
  each_from before [] f = tt
  each_from before (x ∷ xs) f = (
    subst (λ (l : List X). P l x) (append_nil before) (f [] x xs refl),
    each_from (before ++ x ∷ []) xs (λ mid y rest is. subst (λ (l : List X). P l y) (sym (append_assoc before (x ∷ []) mid)) (f (x ∷ mid) y rest (ap (λ (l : List X). x ∷ l) is))),
  )

  -- what holds wherever the list is parted holds at each element
  pub at_each : (xs : List X) → ((before : List X) (x : X) (rest : List X) → xs ≡ before ++ x ∷ rest → P before x) → AtEach P xs
  at_each xs f = each_from [] xs f

  -- what holds at each element that passes a test holds at this one
  pub at_part : (test : X → Bool) (xs before : List X) (x : X) (rest : List X) → xs ≡ before ++ x ∷ rest → test x ≡ true → AtEach P (filter test xs) → P (filter test before) x
  at_part test xs before x rest is passes each =
      AtEach-at P (filter test before) x (filter test rest) (subst (AtEach P) (ap (filter test) is ∙ (filter-append test before (x ∷ rest) ∙ ap (λ (l : List X). filter test before ++ l) kept)) each)
    where
      kept : cond (test x) (x ∷ filter test rest) (filter test rest) ≡ x ∷ filter test rest
      kept = ap (λ (b : Bool). cond b (x ∷ filter test rest) (filter test rest)) passes

numbered_split : (n : ℕ) (a b : List Entry) → IsNumberedFrom n (a ++ b) → IsNumberedFrom n a × IsNumberedFrom (n + length a) b
numbered_split n [] b i = (tt, subst (λ (k : ℕ). IsNumberedFrom k b) (omega arith) i)
numbered_split n (x ∷ a) b i = let t = numbered_split (n + 1) a b i.1 in ((i.0, t.0), subst (λ (k : ℕ). IsNumberedFrom k b) (omega arith) t.1)

pub numbered_has : (n : ℕ) (h : List Entry) (x : Entry) → IsNumberedFrom n h → Has h x → (n ≤ x.position) × (x.position < n + length h)
numbered_has n [] x i has = absurd (has_none x has)
numbered_has n (y ∷ h) x i has =
    ⊎_elim
    (λ (same : y ≡ x). let at : y.position ≡ x.position = ap (λ (e : Entry). e.position) same in (omega (arith, i.0), omega (arith, i.0)))
    (λ (other : Has h x). let t = numbered_has (n + 1) h x i.1 other in (omega (arith, t.0), omega (arith, t.1)))
    (has_first y h x has)

pub numbered_rises : (n : ℕ) (h : List Entry) → IsNumberedFrom n h → IsRising (λ (e : Entry). e.position) h
numbered_rises n [] i = tt
numbered_rises n (x ∷ h) i = (λ y has. (let t = numbered_has (n + 1) h y i.1 has in omega (arith, i.0, t.0)), numbered_rises (n + 1) h i.1)

-- Where a history is parted: the entries before an entry are those of lower positions.
pub record Parted (h before : List Entry) (e : Entry) : Type 0 where
  pub here : Has h e
  pub up : (x : Entry) → Has before x → Has h x
  pub below : (x : Entry) → Has before x → x.position < e.position
  pub back : (x : Entry) → Has h x → x.position < e.position → Has before x

pub parted : (h before : List Entry) (e : Entry) (rest : List Entry) → IsNumbered h → h ≡ before ++ e ∷ rest → Parted h before e
parted h before e rest i is =
    let t = numbered_split 0 before (e ∷ rest) (subst IsNumbered is i) in
    let at : e.position ≡ length before = omega (arith, t.1.0) in
    record {
      here = subst (λ (l : List Entry). Has l e) (sym is) (has_right before (e ∷ rest) e (0, refl));
      up = λ x has. subst (λ (l : List Entry). Has l x) (sym is) (has_left before (e ∷ rest) x has);
      below = λ x has. (let b = numbered_has 0 before x t.0 has in omega (arith, b.1, at));
      back = λ x has less.
          ⊎_elim
          (λ (early : Has before x). early)
          (λ (late : Has (e ∷ rest) x). let b = numbered_has (0 + length before) (e ∷ rest) x t.1 late in absurd (omega (arith, b.0, at, less)))
          (has_either before (e ∷ rest) x (subst (λ (l : List Entry). Has l x) is has));
    }

-- what a rising list has before one of its items
pub rising_front : (front : List Entry) (y : Entry) (rest : List Entry) (x : Entry) → IsRising (λ (e : Entry). e.position) (front ++ y ∷ rest) → Has (front ++ y ∷ rest) x → x.position < y.position → Has front x
rising_front [] y rest x rising has less =
    ⊎_elim
    (λ (same : y ≡ x). let at : y.position ≡ x.position = ap (λ (e : Entry). e.position) same in absurd (omega (arith, less)))
    (λ (late : Has rest x). let b = rising.0 x late in absurd (omega (arith, b, less)))
    (has_first y rest x has)
rising_front (z ∷ front) y rest x rising has less =
    ⊎_elim
    (λ (same : z ≡ x). subst (Has (z ∷ front)) same (0, refl))
    (λ (late : Has (front ++ y ∷ rest) x). has_later z front x (rising_front front y rest x rising.1 late less))
    (has_first z (front ++ y ∷ rest) x has)
