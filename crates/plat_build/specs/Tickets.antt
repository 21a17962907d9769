-- The wallets of initiators while the tickets of the objects are issued.
use Rattle.std.specs.Prelude.{ℕ, ◌≡◌, ◌<◌, ◌≤◌, ◌+◌, ◌==◌, List, length, if◌then◌else◌}
use mathlib.Core.Option.{some}
use lib.ListN.{get_elem?}
use Rattle.atomic_table.specs.Seated.{TableId}
use Rattle.token_book.specs.Account.{Account, out_of}
use Rattle.token_book.specs.Purse.{Purse, HasPlace, IsOf, left_of, bytes_of}
use Rattle.tlm_types.specs.declared.words.ObjectNo.{ObjectNo}
use Rattle.tlm_model.specs.Plan.{Plan}
use Rattle.route_plan.specs.Counted.{share_at}
use Rattle.cargo_model.specs.Known.{objects_of}
use Rattle.plat_net.specs.Objects.{HasObject, bytes_at}

-- the wallet of initiator i, which has the tickets of the first n objects: as many as the plan counts for it there, for as many bytes; it has a place for each object
pub record IsStocked (tokens : TableId) (p : Plan) (n i : ℕ) (w : Purse) : Type 0 where
  pub of : IsOf tokens w
  pub places : w.places ≡ length (objects_of p.platform)
  pub left : (k : ℕ) (o : ObjectNo) → k < n → HasObject p.platform k o → left_of w k ≡ share_at p i o
  pub bytes : (k : ℕ) (o : ObjectNo) → k < n → HasObject p.platform k o → bytes_of w k ≡ bytes_at p i o
  pub few : (o : ℕ) → HasPlace w o → o < n

-- the wallet of each initiator
pub record AreStocked (tokens : TableId) (p : Plan) (n : ℕ) (wallets : List Purse) : Type 0 where
  pub count : length wallets ≡ length p.platform.initiators
  pub each : (i : ℕ) (w : Purse) → get_elem? wallets i ≡ some w → IsStocked tokens p n i w

-- those of the first k initiators have the tickets of object n too
pub record AreStockedTo (tokens : TableId) (p : Plan) (n k : ℕ) (wallets : List Purse) : Type 0 where
  pub count : length wallets ≡ length p.platform.initiators
  pub before : (i : ℕ) (w : Purse) → i < k → get_elem? wallets i ≡ some w → IsStocked tokens p (n + 1) i w
  pub after : (i : ℕ) (w : Purse) → k ≤ i → get_elem? wallets i ≡ some w → IsStocked tokens p n i w

-- so many tickets of an object, and so many bytes of it, came into a wallet that had none
pub record GotRights (tokens : TableId) (object tickets bytes : ℕ) (old new : Purse) : Type 0 where
  pub of : IsOf tokens new
  pub places : new.places ≡ old.places
  pub left : (o : ℕ) → left_of new o ≡ (if o == object then tickets else left_of old o)
  pub bytes_too : (o : ℕ) → bytes_of new o ≡ (if o == object then bytes else bytes_of old o)
  pub few : (o : ℕ) → HasPlace new o → o < object + 1

-- so much more is out of a book
pub record IsOut (tickets bytes : ℕ) (old new : Account) : Type 0 where
  pub table : new.table ≡ old.table
  pub owner : new.owner ≡ old.owner
  pub tickets_out : out_of 0 new.out ≡ out_of 0 old.out + tickets
  pub bytes_out : out_of 1 new.out ≡ out_of 1 old.out + bytes
