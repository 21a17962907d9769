-- One more job that has finished.
use Rattle.std.proofs.Common.{◌≡◌, ℕ, zero, suc, ◌+◌, ◌<◌, ◌≤◌, Bool, true, false, cond, List, [], ◌∷◌, ◌++◌, length, get_or, map, Some, refl, ap, sym, subst, ◌∙◌, ⊎_elim, arith, length-append}
use Rattle.std.proofs.lemmas.List.{get_or-map, get_or_append_left, get_or_push, length-map}
use Rattle.run_queue.specs.Queue.{AreNumbered}
use Rattle.std.specs.Prelude.{slice_get, slice_index_or, All, count_by}
use Rattle.std.proofs.lemmas.List.Sums.{count_by-le-length, sum_by-cons, sum_by_push}
use mathlib.Core.Option.{some, some-injective, some-ne-none}
use lib.ListN.{get_elem?}
use Rattle.atomic_table.specs.Seated.{TableId}
use Rattle.view_lists.proofs.Places.{at_end, at_short}
use Rattle.one_history.specs.Held.{Held}
use Rattle.token_book.specs.Purse.{Purse}
use Rattle.tlm_types.specs.declared.ends.EndOf.{EndOf}
use Rattle.tlm_types.specs.declared.entry.Content.{Content}
use Rattle.tlm_model.specs.Plan.{Plan}
use Rattle.run_outcome.proofs.ListLemmas.{at_push, within}
use Rattle.net_end.specs.Leaves.{IsFinished}
use Rattle.plat_end.specs.End.{AreFinished}

-- what stands at a place is read there
read_there : {A : Type 0} (xs : List A) (k : ℕ) (x : A) → get_elem? xs k ≡ some x → slice_index_or xs k x ≡ x
read_there [] k x at = absurd (some-ne-none x (sym at))
read_there (y ∷ xs) zero x at = some-injective y x at
read_there (y ∷ xs) (suc k) x at = read_there xs k x at

-- what holds of all, by their places, holds of the one that stands at a place
pub each_there : {A : Type 0} (P : ℕ → A → Type 0) (xs : List A) (k : ℕ) (x : A) → ((i : ℕ) (d : A) → i < length xs → P i (slice_index_or xs i d)) → get_elem? xs k ≡ some x → P k x
each_there P xs k x each at = subst (P k) (read_there xs k x at) (each k x (at_short xs k x at))

pub finished_more : (table tokens : TableId) (p : Plan) (n : ℕ) (ends : List EndOf) (wallets : List Purse) (notes : List (Held Content Plan)) (end : EndOf) (wallet : Purse) (note : Held Content Plan) → AreFinished table tokens p n ends wallets notes → IsFinished table tokens p n end note wallet
    → AreFinished table tokens p (n + 1) (ends ++ end ∷ []) (wallets ++ wallet ∷ []) (notes ++ note ∷ [])
finished_more table tokens p n ends wallets notes end wallet note are is = record {
  ends_count = length-append ends (end ∷ []) ∙ ap (λ (k : ℕ). k + 1) are.ends_count;
  wallets_count = length-append wallets (wallet ∷ []) ∙ ap (λ (k : ℕ). k + 1) are.wallets_count;
  notes_count = length-append notes (note ∷ []) ∙ ap (λ (k : ℕ). k + 1) are.notes_count;
  each = λ k l b s at_end_k at_wallet at_note.
      let a = are.ends_count in
      let c = are.wallets_count in
      let d = are.notes_count in
      ⊎_elim
      (λ (before : slice_get ends k ≡ Some l). let less = within ends k l before in ⊎_elim
      (λ (early : slice_get wallets k ≡ Some b). ⊎_elim
      (λ (known : get_elem? notes k ≡ some s). are.each k l b s before early known)
      (λ (late : (k ≡ length notes) × (note ≡ s)). let q = late.0 in absurd (omega arith))
      (at_end notes note s k at_note))
      (λ (late : (k ≡ length wallets) × (wallet ≡ b)). let q = late.0 in absurd (omega arith))
      (at_push wallets wallet k b at_wallet))
      (λ (last : (k ≡ length ends) × (end ≡ l)). let q = last.0 in ⊎_elim
      (λ (early : slice_get wallets k ≡ Some b). let less = within wallets k b early in absurd (omega arith))
      (λ (late : (k ≡ length wallets) × (wallet ≡ b)). ⊎_elim
      (λ (known : get_elem? notes k ≡ some s). let less = at_short notes k s known in absurd (omega arith))
      (λ (here : (k ≡ length notes) × (note ≡ s)).
      let place : k ≡ n = omega arith in
      subst (λ (j : ℕ). IsFinished table tokens p j l s b) (sym place)
      (subst (λ (x : EndOf). IsFinished table tokens p n x s b) last.1 (subst (λ (x : Purse). IsFinished table tokens p n end s x) late.1 (subst (λ (x : Held Content Plan). IsFinished table tokens p n end x wallet) here.1 is))))
      (at_end notes note s k at_note))
      (at_push wallets wallet k b at_wallet))
      (at_push ends end k l at_end_k);
}

pub finished_next : (table tokens : TableId) (p : Plan) (n m : ℕ) (ends more_ends : List EndOf) (wallets more_wallets : List Purse) (notes more_notes : List (Held Content Plan)) (end : EndOf) (wallet : Purse) (note : Held Content Plan)
    → m ≡ n + 1 → more_ends ≡ ends ++ end ∷ [] → more_wallets ≡ wallets ++ wallet ∷ [] → more_notes ≡ notes ++ note ∷ []
    → AreFinished table tokens p n ends wallets notes → IsFinished table tokens p n end note wallet → AreFinished table tokens p m more_ends more_wallets more_notes
finished_next table tokens p n m ends more_ends wallets more_wallets notes more_notes end wallet note one ends_are wallets_are notes_are are is =
    subst (λ (k : ℕ). AreFinished table tokens p k more_ends more_wallets more_notes) (sym one)
    (subst (λ (l : List EndOf). AreFinished table tokens p (n + 1) l more_wallets more_notes) (sym ends_are)
    (subst (λ (l : List Purse). AreFinished table tokens p (n + 1) (ends ++ end ∷ []) l more_notes) (sym wallets_are)
    (subst (λ (l : List (Held Content Plan)). AreFinished table tokens p (n + 1) (ends ++ end ∷ []) (wallets ++ wallet ∷ []) l) (sym notes_are)
    (finished_more table tokens p n ends wallets notes end wallet note are is))))

-- where as many pass as there are, all pass
pub all_pass : {A : Type 0} (test : A → Bool) (xs : List A) → length xs ≤ count_by test xs → All (λ x. test x ≡ true) xs
all_pass test [] many = λ i d below. absurd (omega arith)
all_pass test (x ∷ xs) many = by_test (test x) refl (λ more. all_pass test xs more) (omega (arith, sum_by-cons (λ y. cond (test y) 1 0) x xs))
  where
    by_test : (b : Bool) → test x ≡ b → (length xs ≤ count_by test xs → All (λ y. test y ≡ true) xs) → suc (length xs) ≤ cond b 1 0 + count_by test xs → All (λ y. test y ≡ true) (x ∷ xs)
    by_test true is rest many = all_more (rest (omega arith))
      where
        all_more : All (λ y. test y ≡ true) xs → All (λ y. test y ≡ true) (x ∷ xs)
        all_more all zero d below = is
        all_more all (suc i) d below = all i d (omega arith)
    by_test false is rest many = let few = count_by-le-length test xs in absurd (omega arith)

abbrev one_if : Bool → ℕ
one_if b = cond b 1 0

-- where the first so many pass, as many pass
pub first_pass : {A : Type 0} (test : A → Bool) (n : ℕ) (xs : List A) → ((k : ℕ) (d : A) → k < n → test (slice_index_or xs k d) ≡ true) → n ≤ length xs → n ≤ count_by test xs
first_pass test zero xs pass few = omega arith
first_pass test (suc n) [] pass few = absurd (omega arith)
first_pass test (suc n) (x ∷ xs) pass few =
    let rest = first_pass test n xs (λ k d below. pass (suc k) d (omega arith)) (omega arith) in
    let here : one_if (test x) ≡ 1 = ap one_if (pass 0 x (omega arith)) in
    omega (arith, here, rest, sum_by-cons (λ y. one_if (test y)) x xs)

pub numbered_pass : {A : Type 0} (number : A → ℕ) (test : A → Bool) (n : ℕ) (xs : List A) → AreNumbered number xs → All (λ x. number x < n → test x ≡ true) xs → n ≤ length xs → n ≤ count_by test xs
numbered_pass number test n xs numbered all many = first_pass test n xs (λ k d below.
    let within : k < length xs = omega arith in
    all k d within (subst (λ (m : ℕ). m < n) (sym (numbered k d within)) below)) many

-- the jobs that are left where the last one is let go, whose number is too great for one that is done
pub record StillEnough {A : Type 0} (number : A → ℕ) (test : A → Bool) (n : ℕ) (xs : List A) : Type 0 where
  pub numbered : AreNumbered number xs
  pub many : n ≤ length xs
  pub enough : n ≤ count_by test xs

pub one_let_go : {A : Type 0} (number : A → ℕ) (test : A → Bool) (n : ℕ) (xs after : List A) (x : A) → xs ≡ after ++ x ∷ [] → n < length xs → (test x ≡ true → number x < n) → StillEnough number test n xs → StillEnough number test n after
one_let_go {A} number test n xs after x is more past left =
    let long : length xs ≡ length after + 1 = ap length is ∙ length-append after (x ∷ []) in
    let number_is : number x ≡ length after =
    ap number (sym (get_or_push after x x (length after) refl)) ∙ (ap (λ (l : List A). number (slice_index_or l (length after) x)) (sym is) ∙ left.numbered (length after) x (omega arith)) in
    let none : one_if (test x) ≡ 0 = not_passed (test x) (λ passes. let low = past passes in omega arith) in
    let fewer : count_by test xs ≡ count_by test after + one_if (test x) = ap (count_by test) is ∙ sum_by_push (λ y. one_if (test y)) after x in
    record {
      numbered = λ k d below. ap number (sym (get_or_append_left after (x ∷ []) d k below)) ∙ (ap (λ (l : List A). number (slice_index_or l k d)) (sym is) ∙ left.numbered k d (omega arith));
      many = omega arith;
      enough = let e = left.enough in omega arith;
    }
  where
    not_passed : (b : Bool) → (b ≡ true → ⊥) → one_if b ≡ 0
    not_passed true never = absurd (never refl)
    not_passed false never = refl

-- jobs with the same numbers are numbered as well
pub numbered_again : {A : Type 0} (f : A → ℕ) (xs ys : List A) → map f ys ≡ map f xs → AreNumbered f xs → AreNumbered f ys
numbered_again f xs ys same numbered =
    let long : length ys ≡ length xs = sym (length-map ys f) ∙ (ap length same ∙ length-map xs f) in
    λ k d below.
    let within : k < length xs = omega arith in
    sym (get_or-map f ys k d 0 below) ∙ (ap (λ (ns : List ℕ). get_or ns k 0) same ∙ (get_or-map f xs k d 0 within ∙ numbered k d within))
