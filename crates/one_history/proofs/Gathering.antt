-- All seats become one.
use Rattle.std.proofs.Common.{◌≡◌, ℕ, ◌+◌, List, [], ◌∷◌, length, sym, ap, ◌∙◌, subst, ⊎_elim, arith}
use Rattle.std.proofs.lemmas.Bool.{cases_eq}
use mathlib.Core.Option.{some, some-injective}
use lib.ListN.{get_elem?}
use Rattle.one_history.specs.declared.entry.Entry.{Entry}
use Rattle.one_history.specs.declared.view.Owned.{Owned}
use Rattle.one_history.specs.Held.{Held}
use Rattle.view_lists.specs.Lists.{Has, Within}
use Rattle.one_history.specs.Moves.{own_of, first_number, first_own}
use Rattle.one_history.specs.Seats.{Gathers, Tell, owned}

module _ {E : Type 0} where
  -- a list of one object
  pub alone_owned : (xs : List (Owned E)) (o : ℕ) → length xs ≡ 1 → first_number xs ≡ o → xs ≡ owned o (first_own xs) ∷ []
  alone_owned [] o h n = absurd (omega arith)
  alone_owned (x ∷ []) o h n = ap (λ (k : ℕ). owned k x.own ∷ []) n
  alone_owned (x ∷ y ∷ ys) o h n = absurd (omega arith)

module _ {E G : Type 0} where
  -- one seat more is gathered
  pub gathers_more : (all : List (Held E G)) (n m : ℕ) (x : Held E G) (got now : List (Owned E)) → Gathers all n got → n ≡ m + 1 → get_elem? all m ≡ some x → ((y : Owned E) → Has got y → Has now y) → Has now (owned m (own_of x.knows)) → Gathers all m now
  gathers_more all n m x got now h len is keep new o s from at =
      ⊎_elim
      (λ (same : o ≡ m). let e : x ≡ s = some-injective x s (sym is ∙ ap (λ (k : ℕ). get_elem? all k) (sym same) ∙ at) in
      subst (λ (y : Held E G). Has now (owned o (own_of y.knows))) e (subst (λ (k : ℕ). Has now (owned k (own_of x.knows))) (sym same) new))
      (λ (other : o ≡ m → ⊥). keep (owned o (own_of s.knows)) (h o s (omega arith) at))
      (cases_eq o m)

  -- one note more has told
  pub tells_more : (all : List (Held E G)) (n m : ℕ) (x : Held E G) (got now : List (Entry E)) → Tell all n got → n ≡ m + 1 → get_elem? all m ≡ some x → Within got now → Within x.knows.known now → Tell all m now
  tells_more all n m x got now h len is keep new k s from at =
      ⊎_elim
      (λ (same : k ≡ m). let e : x ≡ s = some-injective x s (sym is ∙ ap (λ (i : ℕ). get_elem? all i) (sym same) ∙ at) in
      subst (λ (y : Held E G). Within y.knows.known now) e new)
      (λ (other : k ≡ m → ⊥). λ e has. keep e (h k s (omega arith) at e has))
      (cases_eq k m)
