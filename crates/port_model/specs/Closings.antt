-- What a port tells of the grants that its invalidations end (IEEE 1666-2011, clause 11.2.6). It has no grants and makes no direct accesses.
use Rattle.std.specs.Prelude.{ℕ, zero, suc, ◌≡◌, ◌+◌, ◌<◌, Bool, ◌&&◌, IsTrue, List, Option, Some, None, slice_get, if◌then◌else◌}
use Rattle.std.specs.List.{list_any}
use mathlib.Core.Option.{some}
use lib.ListN.{get_elem?}
use Rattle.view_lists.specs.Lists.{Has}
use Rattle.tlm_types.specs.declared.words.ObjectNo.TheVariants.{Memory}
use Rattle.tlm_types.specs.declared.entry.Entry.{Entry}
use Rattle.tlm_model.specs.declared.platform.MemoryRow.{MemoryRow}
use Rattle.tlm_model.specs.History.{IsNumbered, entries_at, is_object}
use Rattle.tlm_model.specs.Plan.{Plan, Initiator}
use Rattle.tlm_model.specs.Scripts.{first_gate}
use Rattle.flow_model.specs.Events.{Among, Event}
use Rattle.good_history.specs.Grants.{closes}
use Rattle.good_history.specs.Kept.{GivesGatesInOrder}
use Rattle.joined_traffic.specs.Parts.{HasReturned, IsOwnClosing, is_invalidation}
use Rattle.route_plan.specs.Planned.{asks_in, invalidates}

-- A history has all of these events; it is numbered, and each gate is given in order. An event at a memory stands in that memory's log at its number.
pub record HasAllOf (known : List Event) (h : List Entry) : Type 0 where
  pub within : (e : Event) → Among known e → Has h e.entry
  pub numbered : IsNumbered h
  pub gates : GivesGatesInOrder h
  pub places : (m : ℕ) (e : Event) → Among known e → e.object ≡ Memory m → get_elem? (entries_at (Memory m) h) e.number ≡ some e.entry

-- in each history that has all of these events, the own invalidations of requests below s have returned before position n
abbrev pub HaveReturned : List Event → List Entry → ℕ → ℕ → Type 0
HaveReturned known mine s n = (y : Entry) → Has mine y → IsTrue (is_invalidation y.what) → y.txn.seq < s → (h : List Entry) → HasAllOf known h → HasReturned h n y

-- in each of them an own closing is for an own invalidation of the same request, and the grant is known that it overlaps
abbrev pub IsClosingOf : List Event → List Entry → Entry → Type 0
IsClosingOf known mine e = (h : List Entry) → HasAllOf known h → IsOwnClosing h mine e e.what

-- an invalidation of the initiator is routed to memory m
abbrev pub invalidates_at : Plan → Initiator → ℕ → Bool
invalidates_at p i m = list_any (invalidates p i m) (asks_in i)

-- one of these events closes the gate, at memory m
abbrev pub is_closed_at : ℕ → List Event → ℕ → Bool
is_closed_at m known g = list_any (λ (e : Event). is_object (Memory m) e.object && closes g e.what) known

-- how many of the n gates from g on don't have this
abbrev pub count_open : (ℕ → Bool) → ℕ → ℕ → ℕ
count_open closed g zero = 0
count_open closed g (suc n) = (if closed g then 0 else 1) + count_open closed (g + 1) n

abbrev pub gates_given_by : Option MemoryRow → ℕ
gates_given_by None = 0
gates_given_by (Some row) = if row.traits.dmi then row.traits.gates else 0

-- how many gates of memory m aren't known to be closed: it gives none where it grants no direct access
abbrev pub open_gates : Plan → ℕ → List Event → ℕ
open_gates p m known = count_open (is_closed_at m known) (first_gate p.platform m) (gates_given_by (slice_get p.platform.memories m))
