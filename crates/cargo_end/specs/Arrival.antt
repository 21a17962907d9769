-- An access that has come back to its initiator, in the words of the end of a run.
use Rattle.std.specs.Prelude.{ℕ, ◌≡◌, ◌+◌, ◌-◌, List, [], ◌∷◌, length, sum_by, Option, Some, None}
use Rattle.tlm_types.specs.declared.words.Command.TheVariants.{Read}
use Rattle.tlm_types.specs.declared.words.ObjectNo.{ObjectNo}
use Rattle.tlm_types.specs.declared.words.ObjectNo.TheVariants.{Memory, Hop, Pool}
use Rattle.tlm_types.specs.declared.entry.Entry.{Entry}
use Rattle.tlm_model.specs.declared.platform.Style.TheVariants.{FourPhase}
use Rattle.tlm_model.specs.declared.ask.Ask.TheVariants.{Access as AnAccess}
use Rattle.tlm_model.specs.History.{entries_at}
use Rattle.tlm_model.specs.Plan.{Plan, Initiator}
use Rattle.tlm_model.specs.Requests.{got_in}
use Rattle.tlm_model.specs.Route.{Route}
use Rattle.token_book.specs.Purse.{Purse, left_of}
use Rattle.flow_model.specs.World.{IsPassage, hop_count}
use Rattle.flow_model.specs.Events.{Event, Finds, FindsAt, IsTake}
use Rattle.flow_model.specs.Platform.{passage_of, world_of}
use Rattle.route_plan.specs.Planned.{at_hop, at_memory, at_pool}
use Rattle.cargo_model.specs.Known.{object_number}
use Rattle.cargo_model.specs.Laws.{Case, HasEnded, LeftAtEnd, knows}
use Rattle.cargo_model.specs.Origins.{AreThere}
use Rattle.cargo_model.specs.Tickets.{Stocks}
use Rattle.cargo_model.specs.Travel.{IsAsked, IsReplied, numbers_for, route_for}
use Rattle.generic_payload.specs.Payload.{PayloadView}
use Rattle.joined_traffic.specs.Accesses.{chosen, entries_of, visits}
use Rattle.joined_traffic.specs.Driven.{IsDriven}
use Rattle.joined_traffic.specs.Issued.{Before, EndsBefore, IsReplyOf}

-- the share of an access at an address, at each object
abbrev pub given_at : Plan → Initiator → ℕ → ObjectNo → ℕ
given_at p i a (Memory m) = at_memory p i m (AnAccess a 0)
given_at p i a (Hop h) = at_hop p i h (AnAccess a 0)
given_at p i a (Pool n) = at_pool p i n (AnAccess a 0)

-- the entries at memories of an access with this route: one at the memory, or none
abbrev pub AreReplies : Option Route → List Entry → Type 0
AreReplies None replies = replies ≡ []
AreReplies (Some r) replies = (e : Entry) × (replies ≡ e ∷ []) × (e.object ≡ Memory r.memory)

module _ (s : Case) where
  abbrev pub Asked : Type 0
  Asked = IsAsked s.p s.tokens (knows s) s.x s.pass

  abbrev pub route : Asked → Option Route
  route asked = route_for s.p s.tokens (knows s) s.x s.pass asked

  -- what an access that has come back leaves in its wallet
  abbrev pub HasLeft : Asked → Purse → Type 0
  HasLeft asked z = Stocks s.tokens (hop_count s.pass) (numbers_for s.p s.tokens (knows s) s.x s.pass asked) (LeftAtEnd s) 0 0 0 z

  -- the wallet says how many calls it made on a hop
  abbrev pub calls_by : Purse → ℕ → ℕ
  calls_by z o = 4 - left_of z (object_number s.p.platform (Hop o))

  abbrev pub ArrivesDriven : Type 0
  ArrivesDriven = (asked : Asked) (z : Purse) (issued : ℕ) → HasLeft asked z → FindsAt (knows s) (IsTake s.x) issued → IsDriven (world_of s.p) (knows s) s.x s.pass issued (calls_by z)

  -- the entries that it made at an object
  abbrev pub spent_by : Purse → List Entry → ObjectNo → ℕ
  spent_by z replies (Memory m) = length (entries_at (Memory m) replies)
  spent_by z replies (Hop o) = sum_by (entries_of s.p (λ x. calls_by z) (Hop o)) (chosen (visits (Hop o) s.x (passage_of s.p s.x)) s.x)
  spent_by z replies (Pool i) = sum_by (entries_of s.p (λ x. calls_by z) (Pool i)) (chosen (visits (Pool i) s.x (passage_of s.p s.x)) s.x)

  abbrev pub ArrivesPaid : Type 0
  ArrivesPaid = (asked : Asked) (z : Purse) (replies : List Entry) → IsPassage s.pass → AreThere s.p s.x s.pass (route asked) → asked.initiator.row.style ≡ FourPhase → asked.initiator.number ≡ s.x.initiator →
      HasLeft asked z → AreReplies (route asked) replies → (o : ObjectNo) →
      spent_by z replies o + left_of z (object_number s.p.platform o) ≡ given_at s.p asked.initiator asked.request.address o

  -- the known Access is the reply to the request, and the payload of a read has its bytes
  pub record Replies (asked : Asked) (v : PayloadView) (r : Route) (e : Event) : Type 0 where
    pub txn : e.txn ≡ s.x
    pub object : e.object ≡ Memory r.memory
    pub reply : IsReplyOf s.p asked.initiator e.entry asked.request
    pub read : asked.access.command ≡ Read → got_in e.what ≡ Some v.bytes

  abbrev pub ArrivesReplied : Type 0
  ArrivesReplied = (asked : Asked) (v : PayloadView) → asked.initiator.row.style ≡ FourPhase → IsReplied s.p s.tokens (knows s) s.x s.pass asked.access (route asked) v →
      (r : Route) → route asked ≡ Some r → Finds (knows s) (Replies asked v r)

  -- before a later position all that is known of it stands in the history
  abbrev pub ArrivesWaited : Type 0
  ArrivesWaited = (h : List Event) (n : ℕ) → ((e : Event) → knows s e → Before h n e) → (e : HasEnded s 0) → EndsBefore (world_of s.p) h n s.x s.pass e.time
