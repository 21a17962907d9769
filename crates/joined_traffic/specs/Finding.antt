-- Which addresses a held grant covers.
use Rattle.std.specs.Prelude.{ℕ, ◌≡◌, ◌+◌, ◌<◌, ◌≤◌, Bool, false, ◌&&◌, IsTrue, nat_le}
use Rattle.tlm_types.specs.declared.words.ObjectNo.{ObjectNo}
use Rattle.tlm_types.specs.declared.entry.Access.{Access}
use Rattle.tlm_types.specs.declared.entry.Entry.{Entry}
use Rattle.tlm_types.specs.declared.entry.What.{What}
use Rattle.tlm_types.specs.declared.entry.What.TheVariants.{Granted}
use Rattle.tlm_model.specs.declared.platform.Platform.{Platform}
use Rattle.tlm_model.specs.Plan.{Initiator}
use Rattle.tlm_model.specs.Route.{route_of}
use Rattle.good_history.specs.Grants.{allows, is_inside, serves}

abbrev pub leads_to : Platform → Initiator → ObjectNo → What → ℕ → Bool
leads_to p i o (Granted gate first last kind) a = is_inside (route_of p i a) o first last
leads_to p i o w a = false

-- The initiator's addresses that lead into the range of a grant are those from low to high.
pub record AreAddressesOf (p : Platform) (i : Initiator) (x : Entry) (low high : ℕ) : Type 0 where
  pub led : (a : ℕ) → low ≤ a → a ≤ high → IsTrue (leads_to p i x.object x.what a)
  pub others : (a : ℕ) → IsTrue (leads_to p i x.object x.what a) → (low ≤ a) × (a ≤ high)

abbrev pub covers_by : What → ℕ → ℕ → ℕ → Access → Bool
covers_by (Granted gate first last kind) low high a access = allows kind access.command && (nat_le low a && nat_le (a + access.length) (high + 1))
covers_by w low high a access = false

-- the whole access lies in the addresses of the grant, and the kind allows its command
abbrev pub covers : Entry → ℕ → ℕ → ℕ → Access → Bool
covers x low high a access = covers_by x.what low high a access

-- an own grant covers just what it serves
abbrev pub CoversWhatServes : Type 0
CoversWhatServes =
    (p : Platform) (i : Initiator) (x : Entry) (low high a : ℕ) (access : Access)
    → AreAddressesOf p i x low high → x.txn.initiator ≡ i.number → 0 < access.length
    → covers x low high a access ≡ serves p i x a access
