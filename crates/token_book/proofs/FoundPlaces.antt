-- The place of an object that was found in a wallet, and what becomes of it.
use Rattle.std.proofs.Common.{◌≡◌, ◌≢◌, ℕ, zero, suc, ◌+◌, ◌<◌, ◌==◌, true, false, cond, List, [], ◌∷◌, Option, None, Some, refl, sym, ap, ◌∙◌, subst, ⊎_elim, arith}
use Rattle.std.specs.Prelude.{slice_get, slice_set, slice_index_or, remove, unwrap_or, IsSome}
use Rattle.std.specs.Ordering.{nat_cmp}
use Rattle.std.specs.Cmp.{nat_cmp_total}
use Rattle.std.proofs.lemmas.Bool.{cases_eq, cond-true, cond-false, eq-eqb, ne_eqb}
use Rattle.std.proofs.lemmas.Option.{get_or_from_slice_get}
use Rattle.std.specs.FinMap as map
use Rattle.std.specs.FinMap.{FinMap, get-from_entries}
use Rattle.atomic_table.specs.Seated.{TableId}
use Rattle.token_book.specs.Pocket.{Pocket, no_pocket}
use Rattle.token_book.specs.Purse.{Purse, purse, with_pocket, pocket_of, AreApart, AreFull}
use Rattle.token_book.proofs.PlaceLists.{AreApart-remove, AreApart-set, AreFull-remove, AreFull-set, find_full, from_entries-remove, from_entries-set}

-- a wallet holds of an object what is found of it in its list of places
pub held_found : (w : Purse) (most o : ℕ) (es seen : List (ℕ × Pocket)) (x : Option Pocket) → purse most es ≡ w → seen ≡ es → map.find nat_cmp o seen ≡ x → map.get w.held o ≡ x
held_found w most o es seen x is same found =
    ap (λ (v : Purse). map.get v.held o) (sym is) ∙ get-from_entries nat_cmp_total es o ∙ ap (λ (l : List (ℕ × Pocket)). map.find nat_cmp o l) (sym same) ∙ found

-- what isn't none is some
pub some_or : {A : Type 0} (o : Option A) → (o ≡ None → ⊥) → IsSome o
some_or None lost = absurd (lost refl)
some_or (Some x) lost = refl

-- the place of an object is e, which stands at the index i
pub record IsFound (w : Purse) (o i : ℕ) (es : List (ℕ × Pocket)) (e : ℕ × Pocket) : Type 0 where
  pub at : slice_get es i ≡ Some e
  pub object : e.0 ≡ o
  pub held : map.get w.held o ≡ Some e.1

pub found : (w : Purse) (most o i : ℕ) (es seen : List (ℕ × Pocket)) (e : ℕ × Pocket) → purse most es ≡ w → seen ≡ es
    → (p : Pocket) × (slice_get seen i ≡ Some (o, p)) × (map.find nat_cmp o seen ≡ Some p) → e ≡ slice_index_or es i e → IsFound w o i es e
found w most o i es seen e is same there value =
    let at : slice_get es i ≡ Some (o, there.0) = ap (λ (l : List (ℕ × Pocket)). slice_get l i) (sym same) ∙ there.1 in
    let place : e ≡ (o, there.0) = value ∙ get_or_from_slice_get es i (o, there.0) e at in
    record {
      at = at ∙ ap (λ (y : ℕ × Pocket). Some y) (sym place);
      object = ap (λ (y : ℕ × Pocket). y.0) place;
      held = held_found w most o es seen (Some there.0) is same there.2 ∙ ap (λ (y : ℕ × Pocket). Some y.1) (sym place);
    }

pub full_found : (w : Purse) (most o i : ℕ) (es : List (ℕ × Pocket)) (e : ℕ × Pocket) → purse most es ≡ w → AreFull es → IsFound w o i es e → 0 < e.1.left + e.1.bytes
full_found w most o i es e is full here = find_full es o e.1 full (sym (get-from_entries nat_cmp_total es o) ∙ ap (λ (v : Purse). map.get v.held o) is ∙ here.held)

-- the places after the one at an index was changed to e, and was taken out if e is empty
abbrev pub settled : List (ℕ × Pocket) → ℕ → ℕ × Pocket → List (ℕ × Pocket)
settled es i e = cond (e.1.left + e.1.bytes == 0) (remove (slice_set es i e) i) (slice_set es i e)

-- a place that was changed stands where it stood
pub get-set : (es : List (ℕ × Pocket)) (i : ℕ) (e x : ℕ × Pocket) → slice_get es i ≡ Some e → slice_get (slice_set es i x) i ≡ Some x
get-set [] i e x at = absurd (cc (at))
get-set (y ∷ ys) zero e x at = refl
get-set (y ∷ ys) (suc i) e x at = get-set ys i e x at

remove-set : (es : List (ℕ × Pocket)) (i : ℕ) (x : ℕ × Pocket) → remove (slice_set es i x) i ≡ remove es i
remove-set [] i x = refl
remove-set (y ∷ ys) zero x = refl
remove-set (y ∷ ys) (suc i) x = ap (λ (l : List (ℕ × Pocket)). y ∷ l) (remove-set ys i x)

module _ (es : List (ℕ × Pocket)) (i : ℕ) (e : ℕ × Pocket) (p : Pocket) (at : slice_get es i ≡ Some e) where
  pub AreApart-settled : AreApart es → AreApart (settled es i (e.0, p))
  AreApart-settled apart =
      elim (p.left + p.bytes == 0) as (λ b. AreApart (cond b (remove (slice_set es i (e.0, p)) i) (slice_set es i (e.0, p)))) [
        | true ↦ subst AreApart (sym (remove-set es i (e.0, p))) (AreApart-remove es i e apart at)
        | false ↦ AreApart-set es i e p apart at
      ]

  pub AreFull-settled : AreFull es → AreFull (settled es i (e.0, p))
  AreFull-settled full =
      ⊎_elim
      (λ (none : p.left + p.bytes ≡ 0). subst AreFull (sym (cond-true (p.left + p.bytes == 0) (remove (slice_set es i (e.0, p)) i) (slice_set es i (e.0, p)) (eq-eqb (p.left + p.bytes) 0 none) ∙ remove-set es i (e.0, p))) (AreFull-remove es i e full at))
      (λ (some : p.left + p.bytes ≢ 0). subst AreFull (sym (cond-false (p.left + p.bytes == 0) (remove (slice_set es i (e.0, p)) i) (slice_set es i (e.0, p)) (ne_eqb (p.left + p.bytes) 0 some))) (AreFull-set es i (e.0, p) full (omega arith)))
      (cases_eq (p.left + p.bytes) 0)

  -- to change a place is to give its object that pocket
  pub from_entries-settled : AreApart es → map.from_entries {R = nat_cmp} (settled es i (e.0, p)) ≡ cond (p.left + p.bytes == 0) (map.remove (map.from_entries es) e.0) (map.insert (map.from_entries es) e.0 p)
  from_entries-settled apart =
      elim (p.left + p.bytes == 0) as (λ b. map.from_entries {R = nat_cmp} (cond b (remove (slice_set es i (e.0, p)) i) (slice_set es i (e.0, p))) ≡ cond b (map.remove (map.from_entries es) e.0) (map.insert (map.from_entries es) e.0 p)) [
        | true ↦ ap (λ (l : List (ℕ × Pocket)). map.from_entries {R = nat_cmp} l) (remove-set es i (e.0, p)) ∙ from_entries-remove es i e apart at
        | false ↦ from_entries-set es i e p apart at
      ]

-- so the wallet has the changed pocket of the object
pub with_pocket-settled : (table : TableId) (w : Purse) (most o i : ℕ) (es : List (ℕ × Pocket)) (e : ℕ × Pocket) (change : Pocket → Pocket) → purse most es ≡ w → AreApart es → IsFound w o i es e
    → purse most (settled es i (e.0, change e.1)) ≡ with_pocket w o (change (pocket_of table w o))
with_pocket-settled table w most o i es e change is apart here =
    ap (λ (h : FinMap nat_cmp Pocket). let x : Purse = record { places = most; held = h } in x) (from_entries-settled es i e (change e.1) here.at apart)
    ∙ ap (λ (v : Purse). with_pocket v e.0 (change e.1)) is
    ∙ ap (λ (k : ℕ). with_pocket w k (change e.1)) here.object
    ∙ ap (λ (x : Option Pocket). with_pocket w o (change (unwrap_or x (no_pocket table)))) (sym here.held)
