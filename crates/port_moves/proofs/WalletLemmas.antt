-- Who has a place in a wallet after tickets were moved.
use Rattle.std.proofs.Common.{◌≡◌, ◌⊎◌, ℕ, ◌<◌, Option, Some, None, IsSome, refl, sym, ◌∙◌, subst, inl, inr, arith}
use Rattle.std.specs.FinMap as map
use Rattle.atomic_table.specs.Seated.{TableId}
use Rattle.token_book.specs.Pocket.{Pocket}
use Rattle.token_book.specs.Account.{Slip}
use Rattle.token_book.specs.Purse.{Purse, HasPlace, left_in, left_of, pulled, put_in}
use Rattle.token_book.proofs.Rooms.{place-pulled, place-put_in}

some_left : (p : Option Pocket) → 0 < left_in p → IsSome p
some_left None some = absurd (omega (arith, some))
some_left (Some p) some = refl

-- two is some
pub some_of : {n : ℕ} → n ≡ 2 → 0 < n
some_of q = omega (arith, q)

-- who has a place after tickets were moved had one before, or got them
pub pulled_in : (t : TableId) (object bytes : ℕ) (v w : Purse) → w ≡ pulled t v object bytes → 0 < left_of v object → (o : ℕ) → HasPlace w o → HasPlace v o
pulled_in t object bytes v w is some o has = elim (place-pulled t v object bytes o (subst (λ (x : Purse). HasPlace x o) is has)) [
  | inl same ↦ subst (HasPlace v) (sym same) (some_left (map.get v.held object) some)
  | inr old ↦ old
]

pub put_once : (t : Slip) (v w : Purse) (object : ℕ) → w ≡ put_in v t → t.owner ≡ object → (o : ℕ) → HasPlace w o → HasPlace v o ⊎ (o ≡ object)
put_once t v w object is own o has = elim (place-put_in v t o (subst (λ (x : Purse). HasPlace x o) is has)) [
  | inl same ↦ inr (same ∙ own)
  | inr old ↦ inl old
]
