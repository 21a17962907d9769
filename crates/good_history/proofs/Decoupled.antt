-- Right histories of plans without four-phase initiators.
use Rattle.std.proofs.Common.{ℕ, List, [], ◌∷◌, ◌++◌, Option, Some, None, subst}
use Rattle.std.specs.Prelude.{slice_get, MatchOption}
use Rattle.tlm_types.specs.declared.words.ObjectNo.{ObjectNo}
use Rattle.tlm_types.specs.declared.words.ObjectNo.TheVariants.{Memory, Hop, Pool}
use Rattle.tlm_types.specs.declared.words.TxnId.{TxnId}
use Rattle.tlm_types.specs.declared.entry.Entry.{Entry}
use Rattle.tlm_types.specs.declared.entry.What.{What}
use Rattle.tlm_types.specs.declared.entry.What.TheVariants.{Access as Accessed, Granted, Invalidated, Closed, Call, Take, Acquire, Release}
use Rattle.tlm_model.specs.declared.platform.Platform.{Platform}
use Rattle.tlm_model.specs.Each.{EachFrom}
use Rattle.tlm_model.specs.Kept.{KeepsRequests}
use Rattle.tlm_model.specs.Plan.{Plan, Initiator, initiators_of}
use Rattle.tlm_model.specs.Requests.{Request, requests_of}
use Rattle.tlm_model.specs.Scripts.{IsPlaced, OfRequest}
use Rattle.tlm_model.proofs.EachLemmas.{EachFrom-weaker}
use Rattle.flow_model.specs.World.{World, Passage}
use Rattle.flow_model.specs.Events.{Event, number_in, numbered_from}
use Rattle.flow_model.specs.Platform.{world_of}
use Rattle.flow_model.specs.Points.{InOrderBy}
use Rattle.flow_model.specs.Plans.{HasNoFourPhase, IsAsked, IsDecoupled}
use Rattle.flow_model.proofs.Decoupled.{decoupled_traffic, no_passage}
use Rattle.good_history.specs.Laws.{AllDecoupled, DecoupledIsGood, DecoupledIsSound, SoundIsDecoupled}

-- an entry of an access that passes no hop
decoupled_by : (p : Platform) (w : World) (i : ℕ) (before : List Event) (x : TxnId) (n : ℕ) (d : ObjectNo) (v : What) → IsPlaced p i d v → InOrderBy w before x None d n v → IsDecoupled d v
decoupled_by p w i before x n (Memory m) (Accessed way access status got) placed order = tt
decoupled_by p w i before x n (Memory m) (Granted g f l k) placed order = tt
decoupled_by p w i before x n (Memory m) (Invalidated f l) placed order = tt
decoupled_by p w i before x n (Memory m) (Closed g) placed order = tt
decoupled_by p w i before x n (Memory m) (Call c a) placed order = placed
decoupled_by p w i before x n (Memory m) (Take s) placed order = placed
decoupled_by p w i before x n (Memory m) (Acquire s) placed order = placed
decoupled_by p w i before x n (Memory m) (Release s f) placed order = placed
decoupled_by p w i before x n (Hop h) (Accessed way access status got) placed order = placed
decoupled_by p w i before x n (Hop h) (Granted g f l k) placed order = placed
decoupled_by p w i before x n (Hop h) (Invalidated f l) placed order = placed
decoupled_by p w i before x n (Hop h) (Closed g) placed order = placed
decoupled_by p w i before x n (Hop h) (Call c a) placed order = order
decoupled_by p w i before x n (Hop h) (Take s) placed order = placed
decoupled_by p w i before x n (Hop h) (Acquire s) placed order = placed
decoupled_by p w i before x n (Hop h) (Release s f) placed order = placed
decoupled_by p w i before x n (Pool h) (Accessed way access status got) placed order = placed
decoupled_by p w i before x n (Pool h) (Granted g f l k) placed order = placed
decoupled_by p w i before x n (Pool h) (Invalidated f l) placed order = placed
decoupled_by p w i before x n (Pool h) (Closed g) placed order = placed
decoupled_by p w i before x n (Pool h) (Call c a) placed order = placed
decoupled_by p w i before x n (Pool h) (Take s) placed order = order
decoupled_by p w i before x n (Pool h) (Acquire s) placed order = order
decoupled_by p w i before x n (Pool h) (Release s f) placed order = order

-- each entry of a request is asked for
asked_by : (p : Plan) (Q : Initiator → Request → Type 0) (before : List Entry) (e : Entry) → OfRequest p before e Q → OfRequest p before e (λ i r. Unit {0})
asked_by p Q before e o = by_initiator (slice_get (initiators_of p) e.txn.initiator) o
  where
    by_request : (i : Initiator) (r : Option Request) → MatchOption r ⊥ (λ r. Q i r) → MatchOption r ⊥ (λ r. Unit {0})
    by_request i None o = o
    by_request i (Some r) o = tt

    by_initiator : (i : Option Initiator) → MatchOption i ⊥ (λ i. MatchOption (slice_get (requests_of p.platform i before) e.txn.seq) ⊥ (λ r. Q i r)) → MatchOption i ⊥ (λ i. MatchOption (slice_get (requests_of p.platform i before) e.txn.seq) ⊥ (λ r. Unit {0}))
    by_initiator None o = o
    by_initiator (Some i) o = by_request i (slice_get (requests_of p.platform i before) e.txn.seq) o

is_asked : (p : Plan) (h : List Entry) → KeepsRequests p h → IsAsked p h
is_asked p h k = EachFrom-weaker _ _ (λ before e o. asked_by p _ before e o) [] h k.scripts.replies

module _ (p : Plan) (none : HasNoFourPhase p) where
  abbrev OrderAt : List Event → Event → Type 0
  OrderAt before e = InOrderBy (world_of p) before e.txn ((world_of p).passage e.txn) e.object e.number e.what

  abbrev PlacedAt : List Entry → Entry → Type 0
  PlacedAt before e = IsPlaced p.platform e.txn.initiator e.object e.what

  decoupled_from : (b : List Event) (c d h : List Entry) → EachFrom OrderAt b (numbered_from c h) → EachFrom PlacedAt d h → AllDecoupled h
  decoupled_from b c d [] orders places = tt
  decoupled_from b c d (e ∷ h) orders places =
      let g : Event = record { entry = e; number = number_in c e.txn e.what } in (
        decoupled_by p.platform (world_of p) e.txn.initiator b e.txn g.number e.object e.what places.0 (subst (λ (f : Option Passage). InOrderBy (world_of p) b e.txn f e.object g.number e.what) (no_passage p none e.txn) orders.0),
        decoupled_from (b ++ g ∷ []) (c ++ e ∷ []) (d ++ e ∷ []) h orders.1 places.1,
      )

pub sound_is_decoupled : SoundIsDecoupled
sound_is_decoupled p h none s = decoupled_from p none [] [] [] h s.traffic.passes.orders s.requests.scripts.places

pub decoupled_is_sound : DecoupledIsSound
decoupled_is_sound p h none decoupled k grants = record { requests = k; traffic = (decoupled_traffic p h none (is_asked p h k) decoupled).0; grants = grants }

pub decoupled_is_good : DecoupledIsGood
decoupled_is_good p h none decoupled k grants ends closed = record {
  sound = decoupled_is_sound p h none decoupled k grants;
  requests = ends;
  traffic = (decoupled_traffic p h none (is_asked p h k) decoupled).1;
  grants = closed;
}
