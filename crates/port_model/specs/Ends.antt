-- What a port that has finished hands in.
use Rattle.std.specs.Prelude.{ℕ, ◌≡◌, max, List, length, map, Some, None, slice_get}
use Rattle.view_lists.specs.Lists.{Has}
use Rattle.tlm_types.specs.declared.ends.EndOf.{EndOf}
use Rattle.tlm_types.specs.declared.words.ObjectNo.{ObjectNo}
use Rattle.tlm_types.specs.declared.words.TxnId.{TxnId}
use Rattle.tlm_types.specs.declared.entry.Entry.{Entry}
use Rattle.tlm_model.specs.declared.platform.Style.TheVariants.{FourPhase}
use Rattle.tlm_model.specs.Plan.{Plan, Initiator, initiators_of}
use Rattle.tlm_model.specs.Requests.{Request, numbers_in, requests_of, refused_of}
use Rattle.flow_model.specs.World.{Passage}
use Rattle.flow_model.specs.Events.{Among, Event, entries}
use Rattle.flow_model.specs.Numbers.{EndIs}
use Rattle.flow_model.specs.Valid.{HasNoCycle}
use Rattle.flow_model.specs.Platform.{passage_of, world_of}
use Rattle.report_model.specs.Ends.{IsEndOf, end_with, refused_at}
use Rattle.joined_traffic.specs.Accesses.{txn_of}
use Rattle.joined_traffic.specs.Driven.{HasDriven, HasPaid}
use Rattle.joined_traffic.specs.Ended.{HaveEnded}
use Rattle.joined_traffic.specs.Issued.{EndsOwn, HasIssued, HasWaited, IsIssued, issued_at}
use Rattle.script_engine.specs.declared.op.Op.TheVariants as next
use Rattle.script_engine.specs.State.{op_of}
use Rattle.port_model.specs.Stages.{Stage, calls_by, end_by}
use Rattle.port_model.specs.Way.{IsReply, IsUnderWay, Port}
use Rattle.port_model.specs.Laws.{Knows}

-- A four-phase initiator that has ended its script, as far as it knows: its entries are replies to its requests, by replies that stand in
-- the history.
pub record HasIssuedSo (p : Plan) (h : List Event) (issued ends : TxnId → ℕ) (i : Initiator) (mine : List Entry) : Type 0 where
  pub ended : EndsOwn p.platform i mine
  pub replies : (e : Entry) → Has mine e → IsReply p i h e
  pub accesses : (x : TxnId) (pass : Passage) → passage_of p x ≡ Some pass → x.initiator ≡ i.number → IsIssued p h i mine ends x
  pub times : (x : TxnId) (pass : Passage) → passage_of p x ≡ Some pass → x.initiator ≡ i.number → issued x ≡ issued_at ends i x.seq
  pub reads : (e : Entry) (r : Request) → Has mine e → passage_of p e.txn ≡ None → slice_get (requests_of p.platform i mine) e.txn.seq ≡ Some r →
      (e.time ≡ issued_at ends i e.txn.seq) × HasWaited p h i mine ends r.stage e.position

-- How a four-phase initiator ended, by its history and the ends of its requests: no syncs, and each refused request with its time of issue.
pub record IsPhaseEnd (p : Plan) (i : Initiator) (h : List Entry) (ends : TxnId → ℕ) (end : EndOf) : Type 0 where
  pub transactions : end.transactions ≡ numbers_in i.script
  pub syncs : end.syncs ≡ 0
  pub time : end.end ≡ end_with (λ s. ends (txn_of i.number s)) i
  pub refused : end.refused.items ≡ map (λ r. refused_at r (issued_at ends i r.seq)) (refused_of p.platform i h)

-- the numbers that an initiator knows are those of the stages of its port
pub record AreOf (i : Initiator) (stage : ℕ → Stage) (issued ends : TxnId → ℕ) (calls : TxnId → ℕ → ℕ) : Type 0 where
  pub of_ends : (s : ℕ) → ends (txn_of i.number s) ≡ end_by (stage s)
  pub of_calls : (s o : ℕ) → calls (txn_of i.number s) o ≡ calls_by (stage s) o
  pub of_issued : (s : ℕ) → issued (txn_of i.number s) ≡ issued_at ends i s

-- the end of each of its accesses on the first hop, by the entries of the history
abbrev pub KnowsEnds : Plan → List Event → (TxnId → ℕ) → Initiator → Type 0
KnowsEnds p h ends i = (x : TxnId) (pass : Passage) → passage_of p x ≡ Some pass → x.initiator ≡ i.number → EndIs (world_of p) (Among h) x pass 0 (ends x)

-- what it hands in
pub record HandsIn (p : Plan) (h : List Event) (issued ends : TxnId → ℕ) (calls : TxnId → ℕ → ℕ) (i : Initiator) (mine : List Entry) (left : ObjectNo → ℕ) (port : Port) (end : EndOf) : Type 0 where
  pub driven : HasDriven p h issued calls i.number mine
  pub paid : HasPaid p h calls i.number mine left
  pub has_issued : HasIssuedSo p h issued ends i mine
  pub end_is : IsPhaseEnd p i mine ends end
  -- it knows the end of each of its accesses, also of those for which it did not wait
  pub known_ends : KnowsEnds p h ends i

-- the end that the code of a port makes
pub record IsEndOfPort (port : Port) (end : EndOf) : Type 0 where
  pub transactions : end.transactions ≡ port.engine.seq
  pub syncs : end.syncs ≡ 0
  pub time : end.end ≡ max port.time port.latest
  pub refused : end.refused.items ≡ port.refused

-- A port whose script has ended, and of which nothing is away, hands in all that the end of a run wants of it.
abbrev pub PortsHandIn : Type 0
PortsHandIn = (p : Plan) (i : Initiator) (port : Port) (known : List Event) (seen : ℕ) (left : ObjectNo → ℕ) (h : List Event) (issued ends : TxnId → ℕ) (calls : TxnId → ℕ → ℕ) (end : EndOf)
    → (u : IsUnderWay p i port known seen left) → slice_get (initiators_of p) i.number ≡ Some i → i.row.style ≡ FourPhase
    → op_of port.engine ≡ next.Done → length port.away ≡ 0 → Knows known h → AreOf i u.stage issued ends calls → IsEndOfPort port end
    → HandsIn p h issued ends calls i u.mine left port end

-- Once all have finished, replies that stand in the history are those of the initiator itself.
abbrev pub RepliesAreOwn : Type 0
RepliesAreOwn = (p : Plan) (h : List Event) (issued ends : TxnId → ℕ) (calls : TxnId → ℕ → ℕ) (mine : ℕ → List Entry) (left : ℕ → ObjectNo → ℕ)
    → HaveEnded p h issued calls mine left
    → (i : Initiator) → slice_get (initiators_of p) i.number ≡ Some i → i.row.style ≡ FourPhase → HasIssuedSo p h issued ends i (mine i.number) → HasIssued p h issued ends i (mine i.number)

-- Once all have finished, the ends that an initiator knows are those of the history, and so how it ended is what the report says of it.
abbrev pub EndsAreTheirs : Type 0
EndsAreTheirs = (p : Plan) (h : List Event) (issued ends : TxnId → ℕ) (calls : TxnId → ℕ → ℕ) (mine : ℕ → List Entry) (left : ℕ → ObjectNo → ℕ)
    → HasNoCycle p.platform → HaveEnded p h issued calls mine left → ((x : TxnId) → passage_of p x ≡ None → ends x ≡ 0)
    → (i : Initiator) → slice_get (initiators_of p) i.number ≡ Some i → i.row.style ≡ FourPhase → KnowsEnds p h ends i
    → (end : EndOf) → IsPhaseEnd p i (mine i.number) ends end → IsEndOf p i (entries h) end
