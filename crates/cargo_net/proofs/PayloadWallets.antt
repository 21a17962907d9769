-- The wallet of a payload, from which a ticket of its hop was pulled.
use Rattle.std.proofs.Common.{◌≡◌, ℕ, ◌-◌, ◌<◌, ◌==◌, cond, ◌∙◌, ap, arith, subst, inl}
use Rattle.atomic_table.specs.Seated.{TableId}
use Rattle.token_book.specs.Purse.{HasRoom, IsOf, Purse, bytes_of, left_of, pulled}
use Rattle.token_book.proofs.Rooms.{left-place}
use Rattle.cargo_model.specs.Tickets.{Pulls, Puts}
use Rattle.cargo_net.specs.Wallets.{HoldsSame}
use Rattle.cargo_model.proofs.Wallets.{pulled_here}

-- what the call of a wallet says of a pull
pub from_pull : (tokens table : TableId) (number at : ℕ) (old new : Purse) → at ≡ number → table ≡ tokens → new ≡ pulled table old at 0 → IsOf table new
    → ((o : ℕ) → left_of new o ≡ cond (o == at) (left_of old at - 1) (left_of old o)) → ((o : ℕ) → bytes_of new o ≡ cond (o == at) (bytes_of old at - 0) (bytes_of old o)) → Pulls tokens number 0 old new
from_pull tokens table number at old new q t is of left bytes =
    subst (λ (n : ℕ). Pulls tokens n 0 old new) q (record { of = subst (λ (i : TableId). IsOf i new) t of; places = ap (λ (w : Purse). w.places) is; left = left; bytes_left = bytes })

-- the same of a ticket for so many bytes
pub from_pull_for : (tokens table : TableId) (number at logged bytes : ℕ) (old new : Purse) → at ≡ number → bytes ≡ logged → table ≡ tokens → new ≡ pulled table old at bytes → IsOf table new
    → ((o : ℕ) → left_of new o ≡ cond (o == at) (left_of old at - 1) (left_of old o)) → ((o : ℕ) → bytes_of new o ≡ cond (o == at) (bytes_of old at - bytes) (bytes_of old o)) → Pulls tokens number logged old new
from_pull_for tokens table number at logged bytes old new q b t is of left bytes_left =
    subst (λ (n : ℕ). Pulls tokens n logged old new) q
    (subst (λ (d : ℕ). Pulls tokens at d old new) b (record { of = subst (λ (i : TableId). IsOf i new) t of; places = ap (λ (w : Purse). w.places) is; left = left; bytes_left = bytes_left }))

-- where two tickets were there, one is left, which keeps the place for the other
pub room_left : (tokens : TableId) (number : ℕ) (old new : Purse) → Pulls tokens number 0 old new → 1 < left_of old number → HasRoom new number
room_left tokens number old new pull two = inl (left-place new number (let e = pulled_here tokens number 0 old new pull in omega arith))

-- what was pulled and put back is as it was
pub holds_same : (tokens : TableId) (number : ℕ) (old w new : Purse) → Pulls tokens number 0 old w → Puts tokens number w new → 1 < left_of old number → HoldsSame new old
holds_same tokens number old w new pull put two = record {
  places = put.places ∙ pull.places;
  left = λ o. as_before o;
  bytes = λ o. put.bytes_left o ∙ (let e = pull.bytes_left o in grind arith);
}
  where
    as_before : (o : ℕ) → left_of new o ≡ left_of old o
    as_before o =
        let y = put.left o in
        let z = pull.left o in
        grind arith
