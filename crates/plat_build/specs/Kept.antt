-- What is seen of what waits to be handed out, and what is handed out.
use Rattle.std.specs.Prelude.{ℕ, ◌≡◌, ◌+◌, ◌<◌, ◌≤◌, Bool, true, List, [], length, replicate, Option, Some, IsSomeAnd, slice_get}
use mathlib.Core.Option.{some}
use lib.ListN.{get_elem?}
use Rattle.atomic_table.specs.Seated.{TableId}
use Rattle.one_history.specs.declared.view.Frame.{Frame}
use Rattle.one_history.specs.Held.{Held}
use Rattle.one_history.specs.Moves.{fresh}
use Rattle.shared_object.specs.Steps.{IsNote}
use Rattle.token_book.specs.Account.{Account, fresh as fresh_book}
use Rattle.token_book.specs.Purse.{Purse, HasPlace, IsOf, left_of, bytes_of}
use Rattle.tlm_types.specs.declared.entry.Content.{Content}
use Rattle.tlm_types.specs.declared.words.ObjectNo.{ObjectNo}
use Rattle.tlm_model.specs.declared.operation.Operation.{Operation}
use Rattle.tlm_model.specs.declared.platform.Platform.{Platform}
use Rattle.tlm_model.specs.Plan.{Plan}
use Rattle.generic_payload.specs.Payload.{new_payload}
use Rattle.script_engine.specs.State.{begun_engine}
use Rattle.route_plan.specs.Counted.{share_at}
use Rattle.plat_build.specs.declared.kept.Start.{Start}
use Rattle.cargo_model.specs.Known.{objects_of}
use Rattle.plat_net.specs.Objects.{HasObject, bytes_at}

-- a wallet has tickets of the objects of the platform alone
abbrev pub HasNoOthers : Platform → Purse → Type 0
HasNoOthers p w = (k : ℕ) → length (objects_of p) ≤ k → left_of w k ≡ 0

-- for each initiator, each router and each memory, whether what it gets still waits
pub record Waiting : Type 0 where
  pub starts : List Bool
  pub routers : List Bool
  pub memories : List Bool

-- all of it waits
abbrev pub all_waiting : Platform → Waiting
all_waiting p = record { starts = replicate (length p.initiators) true; routers = replicate (length p.routers) true; memories = replicate (length p.memories) true }

-- a note that has seen nothing
pub record IsBlank (table : TableId) (note : Held Content Plan) : Type 0 where
  pub is_note : IsNote table note
  pub seen : note.knows.seen ≡ 0
  pub known : note.knows.known ≡ []
  pub looks : note.knows.looks ≡ []

-- the wallet of an initiator: a place for each object and for no other, as many tickets of it as the plan counts for this initiator, and as many bytes
pub record HasShares (tokens : TableId) (p : Plan) (initiator : ℕ) (w : Purse) : Type 0 where
  pub of : IsOf tokens w
  pub places : w.places ≡ length (objects_of p.platform)
  pub left : (k : ℕ) (o : ObjectNo) → HasObject p.platform k o → left_of w k ≡ share_at p initiator o
  pub bytes : (k : ℕ) (o : ObjectNo) → HasObject p.platform k o → bytes_of w k ≡ bytes_at p initiator o
  pub few : (o : ℕ) → HasPlace w o → o < length (objects_of p.platform)

-- what an initiator starts with: its whole script, a new payload, a note that has seen nothing, and its tickets
pub record IsStart (table tokens : TableId) (p : Plan) (initiator : ℕ) (s : Start) : Type 0 where
  pub engine : IsSomeAnd (slice_get p.scripts initiator) (λ (script : List Operation). s.engine ≡ begun_engine initiator script)
  pub payload : s.payload ≡ new_payload 4096
  pub note : IsBlank table s.note
  pub wallet : HasShares tokens p initiator s.wallet

-- what waits for each initiator
abbrev pub AreStarts : TableId → TableId → Plan → List (Option Start) → Type 0
AreStarts table tokens p starts = (i : ℕ) (s : Start) → get_elem? starts i ≡ some (Some s) → IsStart table tokens p i s

abbrev pub AreBlank : TableId → List (Option (Held Content Plan)) → Type 0
AreBlank table notes = (k : ℕ) (n : Held Content Plan) → get_elem? notes k ≡ some (Some n) → IsBlank table n

-- the seats of the objects from number n on, which have done nothing
abbrev pub AreFreshFrom : TableId → Frame Plan → ℕ → List (Held Content Plan) → Type 0
AreFreshFrom table frame n seats = (k : ℕ) (s : Held Content Plan) → get_elem? seats k ≡ some s → (s.table ≡ table) × (s.knows ≡ fresh frame (n + k))

-- the books of the owners from number n on, with nothing out
abbrev pub AreFreshBooksFrom : TableId → ℕ → List Account → Type 0
AreFreshBooksFrom tokens n books = (k : ℕ) (b : Account) → slice_get books k ≡ Some b → b ≡ fresh_book tokens (n + k)
