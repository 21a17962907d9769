-- The grants that an initiator holds (IEEE 1666-2011, clause 11.2).
use Rattle.std.specs.Prelude.{ℕ, ◌≡◌, ◌+◌, ◌-◌, ◌<◌, ◌≤◌, Bool, ◌&&◌, ◌==◌, List, length, nat_le}
use Rattle.std.specs.List.{list_any}
use Rattle.view_lists.specs.Lists.{Has, Within}
use Rattle.one_history.specs.declared.view.Frame.{Frame}
use Rattle.one_history.specs.declared.view.View.{View}
use Rattle.one_history.specs.Gates.{total_gates}
use Rattle.shared_object.specs.Written.{Written, written_at}
use Rattle.tlm_types.specs.declared.words.Command.{Command}
use Rattle.tlm_types.specs.declared.words.ObjectNo.TheVariants.{Memory}
use Rattle.tlm_types.specs.declared.entry.Content.{Content}
use Rattle.tlm_types.specs.declared.entry.Entry.{Entry}
use Rattle.tlm_types.specs.declared.entry.What.TheVariants.{Granted}
use Rattle.tlm_model.specs.Plan.{Plan}
use Rattle.tlm_model.specs.Scripts.{first_gate}
use Rattle.region_object.specs.Call.{HasGrant}
use Rattle.region_object.specs.Grants.{allows}
use Rattle.dmi_grants.specs.declared.table.Held.{Held}
use Rattle.dmi_grants.specs.Made.{count_without, dmi_gates}

-- what contracts see of a table: the grants in the order in which they were taken, and for how many there is room
pub record TableView : Type 0 where
  pub held : List Held
  pub room : ℕ

-- the entry that gave a grant
abbrev pub granted_by : Held → Entry
granted_by h = record { position = h.position; object = Memory h.memory; txn = h.txn; time = h.time; what = Granted h.gate h.first h.last h.kind }

-- an access of n bytes at an address lies in the addresses of a grant, and its kind allows the command
abbrev pub covers : ℕ → ℕ → Command → Held → Bool
covers address n command h = allows h.kind command && (nat_le h.low address && nat_le (address + n) (h.high + 1))

-- gate g of memory m is held
abbrev pub is_held : List Held → ℕ → ℕ → Bool
is_held held m g = list_any (λ (h : Held). (h.memory == m) && (h.gate == g)) held

-- the table has a free place for each gate of the memory that it doesn't hold
abbrev pub HasPlaces : Plan → ℕ → TableView → Type 0
HasPlaces p m t = length t.held + count_without (is_held t.held m) (first_gate p.platform m) (dmi_gates p m) ≤ t.room

-- of each grant of memory m that is held, these entries have the grant
abbrev pub AreKnown : ℕ → List Written → List Held → Type 0
AreKnown m known held = (h : Held) → Has held h → h.memory ≡ m → HasGrant known h.gate h.first h.last h.kind

-- a grant of memory m by which accesses may be made: its gate is one of the history, its entry is among these, and the addresses lead into its
-- range
pub record IsUsable (frame : Frame Plan) (m : ℕ) (known : List Written) (h : Held) : Type 0 where
  pub memory : h.memory ≡ m
  pub gate : h.gate < total_gates frame
  pub granted : HasGrant known h.gate h.first h.last h.kind
  pub inside : (h.first ≤ h.base) × (h.base + (h.high - h.low) ≤ h.last)

-- as a note learns more, a grant by which accesses may be made stays one
abbrev pub StaysUsable : Type 0
StaysUsable =
    (frame : Frame Plan) (m : ℕ) (note back : View Content Plan) (h : Held) → Within note.known back.known
    → IsUsable frame m (written_at m note.known) h → IsUsable frame m (written_at m back.known) h

-- and the grants that are held stay known
abbrev pub StayKnown : Type 0
StayKnown = (m : ℕ) (note back : View Content Plan) (held : List Held) → Within note.known back.known → AreKnown m (written_at m note.known) held → AreKnown m (written_at m back.known) held
