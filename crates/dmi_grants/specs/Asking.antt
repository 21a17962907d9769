-- What a wish for a grant does (IEEE 1666-2011, clause 11.2.5).
use Rattle.std.specs.Prelude.{ℕ, ◌≡◌, ◌+◌, ◌-◌, ◌<◌, ◌≤◌, ◌++◌, true, false, IsTrue, IsSomeAnd, List, [], ◌∷◌, length, Some, slice_get}
use Rattle.view_lists.specs.Lists.{Within}
use Rattle.one_history.specs.declared.view.Frame.{Frame}
use Rattle.one_history.specs.declared.view.View.{View}
use Rattle.one_history.specs.Lists.{StandBelow}
use Rattle.shared_object.specs.Written.{Written, written_at}
use Rattle.token_book.specs.Purse.{Purse, left_of}
use Rattle.tlm_types.specs.declared.entry.Content.{Content}
use Rattle.tlm_types.specs.declared.words.Command.{Command}
use Rattle.tlm_types.specs.declared.words.MemoryTraits.{MemoryTraits}
use Rattle.tlm_types.specs.declared.words.TxnId.{TxnId}
use Rattle.tlm_model.specs.declared.platform.MemoryRow.{MemoryRow}
use Rattle.tlm_model.specs.declared.platform.Platform.{Platform}
use Rattle.tlm_model.specs.Plan.{Plan}
use Rattle.tlm_model.specs.Scripts.{first_gate}
use Rattle.tlm_model.specs.Store.{is_allowed}
use Rattle.route_plan.specs.declared.step.Route.{Route}
use Rattle.region_object.specs.declared.call.Denial.{Denial}
use Rattle.region_object.specs.declared.call.Denial.TheVariants.{NoDmi, NotAllowed, GatesSpent}
use Rattle.region_object.specs.declared.call.RegionCall.TheVariants.{Grant}
use Rattle.region_object.specs.declared.call.RegionReply.TheVariants.{Granted}
use Rattle.dmi_grants.specs.declared.ask.Asked.{Asked}
use Rattle.dmi_grants.specs.declared.ask.Asked.TheVariants.{Held as IsHeldAt, Denied}
use Rattle.dmi_grants.specs.declared.table.Held.{Held}
use Rattle.dmi_grants.specs.Made.{HasSpent, IsMade, IsRoomyFor, dmi_gates, is_given_in}
use Rattle.dmi_grants.specs.Ranges.{AreAddressesOf, lifted_at}
use Rattle.dmi_grants.specs.Table.{AreKnown, HasPlaces, IsUsable, TableView}

-- a route that ends within its memory
abbrev pub IsInMemory : Platform → Route → Type 0
IsInMemory p route = IsSomeAnd (slice_get p.memories route.memory) (λ (row : MemoryRow). route.offset < row.traits.size)

-- the grant of each gate of the memory is among these entries
abbrev pub AreGiven : Plan → ℕ → List Written → Type 0
AreGiven p m known = (k : ℕ) → k < dmi_gates p m → IsTrue (is_given_in known (first_gate p.platform m + k))

-- why a memory with these traits gives no grant for a command: the first of the causes; that the gates are spent is known by these entries
abbrev pub IsCause : Plan → ℕ → List Written → Command → MemoryTraits → Denial → Type 0
IsCause p m known c traits NoDmi = traits.dmi ≡ false
IsCause p m known c traits NotAllowed = (traits.dmi ≡ true) × (is_allowed traits c ≡ false)
IsCause p m known c traits GatesSpent = (traits.dmi ≡ true) × (is_allowed traits c ≡ true) × AreGiven p m known

abbrev pub IsCauseAt : Plan → ℕ → List Written → Command → Denial → Type 0
IsCauseAt p m known c denial = IsSomeAnd (slice_get p.platform.memories m) (λ (row : MemoryRow). IsCause p m known c row.traits denial)

-- What a wish for a grant needs at the end of this route: the offset is below the memory's size, the table has a free place for each gate that
-- it doesn't hold, and what it holds is known; and a ticket of the memory, unless all its gates are known to be given, so that a grant would be
-- denied for that.
pub record MayAsk (p : Plan) (command : Command) (table : TableView) (note : View Content Plan) (w : Purse) (route : Route) : Type 0 where
  pub inside : IsInMemory p.platform route
  pub places : HasPlaces p route.memory table
  pub known : AreKnown route.memory (written_at route.memory note.known) table.held
  pub room : IsRoomyFor route.memory w
  pub ticket : left_of w route.memory ≡ 0 → IsCauseAt p route.memory (written_at route.memory note.known) command GatesSpent

-- The memory gave a grant, in one entry, and it is held last: its range translated up is from low to high, of which low leads to base. These are
-- all addresses of the initiator that lead into it.
pub record IsTaken (frame : Frame Plan) (who : ℕ) (command : Command) (address : ℕ) (route : Route) (txn : TxnId) (time : ℕ) (old new : TableView) (note back : View Content Plan) (which : ℕ) : Type 0 where
  pub held : Held
  pub table : new ≡ record { held = old.held ++ held ∷ []; room = old.room }
  pub place : which ≡ length old.held
  pub told : (held.txn ≡ txn) × (held.time ≡ time)
  pub made : IsMade frame route.memory (Grant txn time command) note back (Some held.position) (Granted held.gate held.first held.last held.kind)
  pub range : lifted_at frame.world who address (held.first, held.last) ≡ Some (held.low, held.high)
  pub addresses : AreAddressesOf frame.world who route.memory held.first held.last held.low held.high held.base
  pub base : held.base + (address - held.low) ≡ route.offset
  pub within : (held.low ≤ address) × (address ≤ held.high)
  pub usable : IsUsable frame route.memory (written_at route.memory back.known) held

-- No grant was given, and this is why: the note knows no less, still below what it has seen, and the table is as it was.
pub record IsDenied (frame : Frame Plan) (command : Command) (m : ℕ) (old new : TableView) (note back : View Content Plan) (denial : Denial) : Type 0 where
  pub table : new ≡ old
  pub keeps : Within note.known back.known
  pub below : StandBelow note.known note.seen → StandBelow back.known back.seen
  pub cause : IsCauseAt frame.world m (written_at m back.known) command denial

-- what was answered, and for what a ticket was spent
abbrev pub HasAsked : Frame Plan → ℕ → Command → ℕ → Route → TxnId → ℕ → TableView → TableView → View Content Plan → View Content Plan → Purse → Purse → Asked → Type 0
HasAsked frame who command address route txn time old new note back before after (IsHeldAt which) = IsTaken frame who command address route txn time old new note back which × HasSpent route.memory 1 before after
HasAsked frame who command address route txn time old new note back before after (Denied denial) = IsDenied frame command route.memory old new note back denial × HasSpent route.memory 0 before after
