-- What a four-phase initiator that has finished tells of grants.
use Rattle.std.proofs.Common.{◌≡◌, ◌⊎◌, ℕ, ◌<◌, ◌≤◌, ◌+◌, Bool, true, false, ◌&&◌, ◌==◌, cond, IsTrue, List, [], ◌∷◌, ◌++◌, length, Option, Some, None, slice_get, nat_eq, nat_lt, refl, ap, sym, subst, ◌∙◌, inl, inr, arith}
use Rattle.std.specs.Prelude.{MatchOption}
use Rattle.std.specs.Option.{option_or}
use Rattle.std.proofs.lemmas.Bool.{and_parts, eqb-true, ltb-true}
use Rattle.view_lists.specs.Lists.{Has}
use Rattle.view_lists.proofs.Members.{has_later}
use Rattle.tlm_types.specs.declared.entry.Entry.{Entry}
use Rattle.tlm_types.specs.declared.entry.What.{What}
use Rattle.tlm_types.specs.declared.entry.What.TheVariants.{Access as Accessed, Granted, Invalidated, Closed, Call, Take, Acquire, Release}
use Rattle.tlm_types.specs.declared.words.ObjectNo.{ObjectNo}
use Rattle.tlm_types.specs.declared.words.ObjectNo.TheVariants.{Memory, Hop, Pool}
use Rattle.tlm_types.specs.declared.words.TxnId.{TxnId}
use Rattle.tlm_types.specs.declared.words.Way.{Way}
use Rattle.tlm_types.specs.declared.words.Way.TheVariants.{Blocking, FourPhase as fourphase_way, Direct, Debug}
use Rattle.tlm_model.specs.declared.platform.Style.{Style}
use Rattle.tlm_model.specs.declared.platform.Style.TheVariants.{FourPhase}
use Rattle.tlm_model.specs.Plan.{Plan, Initiator, initiators_of}
use Rattle.tlm_model.specs.Requests.{Asked, Transport, DebugRead, Invalidation, Request}
use Rattle.tlm_model.specs.History.{IsNumberedFrom}
use Rattle.tlm_model.specs.Scripts.{HasWay, IsWay, OfRequest, is_answer}
use Rattle.flow_model.specs.World.{Passage}
use Rattle.flow_model.specs.Backed.{BackedBy, IsBacked}
use Rattle.flow_model.specs.Events.{Among, Event, IsTake, entries}
use Rattle.flow_model.specs.Platform.{passage_of, world_of}
use Rattle.flow_model.specs.Traffic.{slots_of}
use Rattle.flow_model.specs.Law.{Premises}
use Rattle.flow_model.proofs.Each.{at_each}
use Rattle.flow_model.proofs.Splits.{among_self, among_whole}
use Rattle.good_history.specs.Grants.{asks, has_dmi, is_hinting, last_of, plain_of}
use Rattle.good_history.specs.Kept.{IsAskedFor, is_direct_way}
use Rattle.good_history.specs.Plain.{is_direct, is_plain_at, may_go_direct}
use Rattle.good_history.specs.Own.{own}
use Rattle.good_history.proofs.CountLemmas.{has_kept}
use Rattle.joined_traffic.specs.Parts.{EndsOwnGrants, HasOwnWay, HasReturned, IsAskSettled, IsOwnClosing, IsOwnUse, KeepsOwnGrants, KnowsAllGiven, KnowsClosing, is_invalidation}
use Rattle.joined_traffic.specs.Accesses.{txn_of}
use Rattle.joined_traffic.specs.Ended.{HaveEnded}
use Rattle.joined_traffic.specs.Issued.{HaveIssued}
use Rattle.joined_traffic.proofs.AskedLemmas.{IsPast}
use Rattle.joined_traffic.proofs.HopEnds.{entry_from}
use Rattle.joined_traffic.proofs.JoinLemmas.{numbered_below}
use Rattle.joined_traffic.proofs.MemoryLemmas.{among_has, has_among}
use Rattle.joined_traffic.proofs.OwnLemmas.{at_initiator, at_own, of_request, stands}
use Rattle.joined_traffic.proofs.AccessLemmas.{entry_among, split_later}
use Rattle.joined_traffic.proofs.ScriptLemmas.{access_got, kind_of, known, served}
use Rattle.joined_traffic.proofs.StartLemmas.{IsKind, has_passage, taken}
use Rattle.joined_traffic.proofs.TimeLemmas.{premises_before, same_take}
use Rattle.port_model.specs.Closings.{HasAllOf}
use Rattle.port_model.specs.Laws.{Knows as KnowsEvents}
use Rattle.port_model.specs.Stages.{IsBack, Stage, count_of}
use Rattle.port_model.specs.Stages.Stage.{Ahead, Under, Back}
use Rattle.port_model.specs.Way.{IsBegun, IsUnderWay, Port}
use Rattle.port_model.proofs.Origins.{has_address}
use Rattle.port_model.proofs.Takes.{made_count}
use Rattle.script_engine.specs.declared.op.Op.TheVariants as next
use Rattle.script_engine.specs.State.{is_fenced, op_of}
use Rattle.script_engine.proofs.Steps.{ends as ends_at}
use Rattle.port_model.proofs.ClosingLemmas.{all_less}

-- the last entry of an initiator is its own, and one of the list
last_has : (n : ℕ) (es : List Entry) (a : Entry) → last_of n es ≡ Some a → Has es a × (a.txn.initiator ≡ n)
last_has n [] a is = absurd (cc (is))
last_has n (x ∷ es) a is = by (last_of n es) refl is (λ q. last_has n es a q)
  where
    one : (x a : Entry) → Some x ≡ Some a → x ≡ a
    one x a q = cc

    here : (b : Bool) → (x.txn.initiator == n) ≡ b → cond b (Some x) None ≡ Some a → Has (x ∷ es) a × (a.txn.initiator ≡ n)
    here true at same = let e = one x a same in subst (λ (y : Entry). Has (x ∷ es) y × (y.txn.initiator ≡ n)) e ((0, refl), eqb-true x.txn.initiator n at)
    here false at same = absurd (cc (same))

    by : (o : Option Entry) → last_of n es ≡ o → option_or o (cond (x.txn.initiator == n) (Some x) None) ≡ Some a → (last_of n es ≡ Some a → Has es a × (a.txn.initiator ≡ n)) → Has (x ∷ es) a × (a.txn.initiator ≡ n)
    by (Some b) at same rest = let r = rest (at ∙ same) in (has_later x es a r.0, r.1)
    by None at same rest = here (x.txn.initiator == n) refl same

-- what has returned before a position has returned before a later one
returned_later : (h : List Entry) (n m : ℕ) (y : Entry) → n ≤ m → HasReturned h n y → HasReturned h m y
returned_later h n m y less r = record { log = r.log; rest = r.rest; log_is = r.log_is; closed = λ x has cut. later x.what (r.closed x has cut) }
  where
    later : (w : What) → KnowsClosing h n w → KnowsClosing h m w
    later (Granted g f l k) c = (c.0, c.1, (let b = c.2 in omega arith), c.3)
    later (Accessed way access status got) c = tt
    later (Invalidated f l) c = tt
    later (Closed g) c = tt
    later (Call k a) c = tt
    later (Take k) c = tt
    later (Acquire k) c = tt
    later (Release k f) c = tt

-- no direct access
abbrev IsNotDirect : What → Type 0
IsNotDirect (Accessed way access status got) = is_direct_way way ≡ false
IsNotDirect w = Unit {0}

quiet_way : (asked : Asked) (w : What) → HasWay FourPhase asked w → IsNotDirect w
quiet_way asked (Accessed way access status got) way_is = by asked way way_is
  where
    by : (asked : Asked) (way : Way) → IsWay FourPhase asked way → is_direct_way way ≡ false
    by (Transport a) way q = ap is_direct_way q
    by (DebugRead a) way q = ap is_direct_way q
    by (Invalidation n) way q = absurd q
quiet_way asked (Granted g f l k) way_is = tt
quiet_way asked (Invalidated f l) way_is = tt
quiet_way asked (Closed g) way_is = tt
quiet_way asked (Call k a) way_is = tt
quiet_way asked (Take k) way_is = tt
quiet_way asked (Acquire k) way_is = tt
quiet_way asked (Release k f) way_is = tt

quiet_kind : (o : ObjectNo) (w : What) → IsKind o w → ((m : ℕ) → o ≡ Memory m → IsNotDirect w) → IsNotDirect w
quiet_kind (Memory m) w kind f = f m refl
quiet_kind (Hop m) (Call k a) kind f = tt
quiet_kind (Pool m) (Take k) kind f = tt
quiet_kind (Pool m) (Acquire k) kind f = tt
quiet_kind (Pool m) (Release k d) kind f = tt
quiet_kind o w kind f = absurd kind

cut_answers : (w : What) → IsTrue (is_invalidation w) → is_answer w ≡ true
cut_answers (Invalidated f l) is = refl
cut_answers (Accessed way access status got) is = let wrong : false ≡ true = is in cc (wrong)
cut_answers (Granted g f l k) is = let wrong : false ≡ true = is in cc (wrong)
cut_answers (Closed g) is = let wrong : false ≡ true = is in cc (wrong)
cut_answers (Call k a) is = let wrong : false ≡ true = is in cc (wrong)
cut_answers (Take k) is = let wrong : false ≡ true = is in cc (wrong)
cut_answers (Acquire k) is = let wrong : false ≡ true = is in cc (wrong)
cut_answers (Release k f) is = let wrong : false ≡ true = is in cc (wrong)

low_or_high : (a b : ℕ) → (a < b) ⊎ (b ≤ a)
low_or_high a b = grind arith

back_ahead : (v : Stage) → v ≡ Ahead → IsBack v → ⊥
back_ahead Ahead q b = b
back_ahead Under q b = b
back_ahead (Back end calls) q b = cc

true_false : true ≡ false → ⊥
true_false q = cc

-- an invalidation stands at a memory
cut_place : (o : ObjectNo) (w : What) → IsKind o w → IsTrue (is_invalidation w) → (m : ℕ) × (o ≡ Memory m)
cut_place (Memory m) w k is = (m, refl)
cut_place (Hop o) (Call p a) k is = let wrong : false ≡ true = is in cc (wrong)
cut_place (Pool i) (Take s) k is = let wrong : false ≡ true = is in cc (wrong)
cut_place (Pool i) (Acquire s) k is = let wrong : false ≡ true = is in cc (wrong)
cut_place (Pool i) (Release s f) k is = let wrong : false ≡ true = is in cc (wrong)
cut_place o w k is = absurd k

module _ (p : Plan) (h : List Event) (issued ends : TxnId → ℕ) (calls : TxnId → ℕ → ℕ) (mine : ℕ → List Entry) (left : ℕ → ObjectNo → ℕ)
    (ended : HaveEnded p h issued calls mine left) (have : HaveIssued p h issued ends mine) (pr : Premises (world_of p) (slots_of p) (λ before x. issued x) h)
    (i : Initiator) (at_number : slice_get (initiators_of p) i.number ≡ Some i) (style : i.row.style ≡ FourPhase)
    (port : Port) (known_events : List Event) (seen : ℕ) (rest : ObjectNo → ℕ) (u : IsUnderWay p i port known_events seen rest) (done : op_of port.engine ≡ next.Done) (same : mine i.number ≡ u.mine) (tells : KnowsEvents known_events h) (whole : HasAllOf h (entries h)) where
  quiet : port.waiting ≡ false
  quiet = by port.waiting refl
    where
      by : (b : Bool) → port.waiting ≡ b → port.waiting ≡ false
      by false q = q
      by true q = absurd (true_false (sym (u.asking.fenced q) ∙ ap is_fenced done))

  long : length u.made ≡ count_of i
  long = made_count p i port known_events seen rest u quiet ∙ (sym (ends_at.numbers port.engine done) ∙ u.asking.numbers)

  all : HasAllOf known_events (entries h)
  all = all_less known_events h (entries h) tells whole

  to_mine : (e : Entry) → Has (mine i.number) e → Has u.mine e
  to_mine e m = subst (λ (l : List Entry). Has l e) same m

  from_mine : (e : Entry) → Has u.mine e → Has (mine i.number) e
  from_mine e m = subst (λ (l : List Entry). Has l e) (sym same) m

  not_direct : (s : ℕ) → may_go_direct i s ≡ false
  not_direct s = ap (λ (y : Style). is_direct y && is_plain_at i.script s) style

  asks_none : (a : Entry) → a.txn.initiator ≡ i.number → asks p a ≡ false
  asks_none a owner =
      ap (λ (o : Option Initiator). plain_of o a.txn.seq && (is_hinting a.what && has_dmi p.platform a.object)) (ap (slice_get (initiators_of p)) owner ∙ at_number)
      ∙ ap (λ (b : Bool). b && (is_hinting a.what && has_dmi p.platform a.object)) (not_direct a.txn.seq)

  never : (a : Entry) → a.txn.initiator ≡ i.number → IsTrue (asks p a) → ⊥
  never a owner ask = let wrong : false ≡ true = sym (asks_none a owner) ∙ ask in cc (wrong)

  -- an own invalidation is one of those that it knows
  cut_mine : (y : Entry) → Among (entries h) y → y.txn.initiator ≡ i.number → IsTrue (is_invalidation y.what) → Has (mine i.number) y
  cut_mine y m owner is =
      let g = entry_from h y m in
      let own_g : g.event.txn.initiator ≡ i.number = ap (λ (d : Entry). d.txn.initiator) g.is ∙ owner in
      let place = cut_place g.event.object g.event.what (kind_of p h issued ends calls mine left ended have pr i at_number style g.event g.known own_g) (ap (λ (d : Entry). is_invalidation d.what) g.is ∙ is) in
      subst (Has (mine i.number)) g.is (known p h issued ends calls mine left ended have pr i at_number style place.0 g.event g.known own_g place.1)

  -- before each of its entries its invalidations of earlier requests have returned
  returned_at : (before after : List Event) (e : Event) → h ≡ before ++ e ∷ after → e.txn.initiator ≡ i.number → (y : Entry) → Has u.mine y → IsTrue (is_invalidation y.what) → y.txn.seq < e.txn.seq → HasReturned (entries h) e.position y
  returned_at before after e is owner y m cut less = go (passage_of p e.txn) refl
    where
      here : Among h e
      here = among_self h before after e is

      txn_is : txn_of i.number e.txn.seq ≡ e.txn
      txn_is = ap (λ (n : ℕ). txn_of n e.txn.seq) (sym owner)

      backed : IsBacked (world_of p) (Among before) e
      backed = at_each (λ b f. IsBacked (world_of p) (Among b) f) h pr.backed before e after is

      -- it stands at the Take of its access or after it
      take_before : (pass : Passage) → passage_of p e.txn ≡ Some pass → (t : Event) → Among h t → IsTake e.txn t → t.position ≤ e.position
      take_before pass q t known_t take = elim (taken (world_of p) before (at_each _ before (premises_before p h issued ends mine ended.objects.numbered pr have before after e is).backed) e.txn pass e.object e.time e.number e.what
          (kind_of p h issued ends calls mine left ended have pr i at_number style e here owner) (access_got p h issued ends calls mine left ended have pr i at_number style e pass here owner q)
          (subst (λ (v : Option Passage). BackedBy (world_of p) (Among before) e.txn v e.object e.time e.number e.what) q backed)) [
            | inl f ↦ (let one : t ≡ e = same_take p h issued ends mine ended.objects.numbered pr have e.txn t e known_t take here (record { object = f.1; txn = refl; slot = f.0; what = f.2 }) in
                let position : t.position ≡ e.position = ap (λ (d : Event). d.position) one in omega arith)
            | inr f ↦ (let one : t ≡ f.event = same_take p h issued ends mine ended.objects.numbered pr have e.txn t f.event known_t take (among_whole h before after e f.event is f.known) f.is in
                let position : t.position ≡ f.event.position = ap (λ (d : Event). d.position) one in
                let sooner : f.event.position < e.position = split_later 0 before after e f.event (subst (λ (l : List Event). IsNumberedFrom 0 (entries l)) is ended.objects.numbered) f.known in
                omega arith)
          ]

      by_begun : (pass : Passage) → passage_of p e.txn ≡ Some pass → IsBegun p i known_events u.made u.mine u.stage e.txn.seq → HasReturned (entries h) e.position y
      by_begun pass q b =
          returned_later (entries h) b.take.event.position e.position y
          (take_before pass q b.take.event (tells b.take.event b.take.known) (subst (λ (x : TxnId). IsTake x b.take.event) txn_is b.take.is))
          (b.returned y m cut less (entries h) all)

      go : (v : Option Passage) → passage_of p e.txn ≡ v → HasReturned (entries h) e.position y
      go None q =
          let place = has_passage (world_of p) (Among before) e.txn (passage_of p e.txn) e.object e.time e.number e.what (kind_of p h issued ends calls mine left ended have pr i at_number style e here owner) backed q in
          let mem = known p h issued ends calls mine left ended have pr i at_number style place.0 e here owner place.1 in
          (u.has.reads e.entry (to_mine e.entry mem) q).returned y m cut less (entries h) all
      go (Some pass) q =
          let a = has_address p i at_number e.txn.seq pass (ap (passage_of p) txn_is ∙ q) in
          by_begun pass q (u.accesses.begun e.txn.seq pass (let l = a.below in let n = long in omega arith) (ap (passage_of p) txn_is ∙ q))

  asked_kind : (before : List Entry) (e : Entry) (o : ObjectNo) (w : What) → IsKind o w → IsAskedFor p before e w
  asked_kind before e (Memory m) (Granted g f l k) kind = absurd kind
  asked_kind before e (Hop m) (Granted g f l k) kind = absurd kind
  asked_kind before e (Pool m) (Granted g f l k) kind = absurd kind
  asked_kind before e o (Accessed way access status got) kind = tt
  asked_kind before e o (Invalidated f l) kind = tt
  asked_kind before e o (Closed g) kind = tt
  asked_kind before e o (Call k a) kind = tt
  asked_kind before e o (Take k) kind = tt
  asked_kind before e o (Acquire k) kind = tt
  asked_kind before e o (Release k f) kind = tt

  settled_by : (before : List Entry) (limit : ℕ) (w : What) (o : Option Entry) → ((a : Entry) → o ≡ Some a → a.txn.initiator ≡ i.number) → IsAskSettled p (entries h) limit w o
  settled_by before limit w None owner = tt
  settled_by before limit w (Some a) owner = λ ask. absurd (never a (owner a refl) ask)

  use_by : (before : List Entry) (r : Request) (w : What) → IsNotDirect w → IsOwnUse w p before i r
  use_by before r (Accessed (Direct g) access status got) quiet = absurd (let wrong : true ≡ false = quiet in cc (wrong))
  use_by before r (Accessed Blocking access status got) quiet = tt
  use_by before r (Accessed fourphase_way access status got) quiet = tt
  use_by before r (Accessed Debug access status got) quiet = tt
  use_by before r (Granted g f l k) quiet = tt
  use_by before r (Invalidated f l) quiet = tt
  use_by before r (Closed g) quiet = tt
  use_by before r (Call k a) quiet = tt
  use_by before r (Take k) quiet = tt
  use_by before r (Acquire k) quiet = tt
  use_by before r (Release k f) quiet = tt

  way_by : (limit : ℕ) (before : List Entry) (r : Request) (w : What) → HasOwnWay w p (entries h) limit before i r
  way_by limit before r (Accessed way access status got) = λ other plain x has serving. absurd (let wrong : false ≡ true = sym (not_direct r.seq) ∙ plain in cc (wrong))
  way_by limit before r (Granted g f l k) = tt
  way_by limit before r (Invalidated f l) = tt
  way_by limit before r (Closed g) = tt
  way_by limit before r (Call k a) = tt
  way_by limit before r (Take k) = tt
  way_by limit before r (Acquire k) = tt
  way_by limit before r (Release k f) = tt

  -- an own closing is for an invalidation that stands before it
  closing_by : (past : List Entry) (e : Entry) (w : What) → ((y : Entry) → Has (mine i.number) y → y.position < e.position → Among past y) → IsOwnClosing (entries h) u.mine e w → IsOwnClosing (entries h) past e w
  closing_by past e (Closed g) back c = (c.0, among_has past c.0 (back c.0 (from_mine c.0 c.1) c.3), c.2, c.3, c.4)
  closing_by past e (Accessed way access status got) back c = tt
  closing_by past e (Granted g f l k) back c = tt
  closing_by past e (Invalidated f l) back c = tt
  closing_by past e (Call k a) back c = tt
  closing_by past e (Take k) back c = tt
  closing_by past e (Acquire k) back c = tt
  closing_by past e (Release k f) back c = tt

  closing_kind : (past : List Entry) (e : Event) (o : ObjectNo) (w : What) → IsKind o w → ((m : ℕ) → o ≡ Memory m → IsOwnClosing (entries h) past e.entry w) → IsOwnClosing (entries h) past e.entry w
  closing_kind past e (Memory m) w kind f = f m refl
  closing_kind past e (Hop m) (Call k a) kind f = tt
  closing_kind past e (Pool m) (Take k) kind f = tt
  closing_kind past e (Pool m) (Acquire k) kind f = tt
  closing_kind past e (Pool m) (Release k d) kind f = tt
  closing_kind past e o w kind f = absurd kind

  -- the request of an own entry, and its way
  asked_as : (Q : Initiator → Request → Type 0) (b : List Entry) (before after : List Event) (e : Event) → h ≡ before ++ e ∷ after → e.txn.initiator ≡ i.number → IsPast i (mine i.number) b e.position → ((r : Request) → Q i r) → OfRequest p b e.entry Q
  asked_as Q b before after e is owner past f =
      let s = stands p h issued ends calls mine left ended have pr i at_number style before after e is owner b past in
      of_request p b e.entry Q i s.request (at_initiator p h issued ends calls mine left ended have pr i at_number style e owner) s.asked (f s.request)

  own_here : (y : Entry) → Has (own i.number (entries h)) y → Among (entries h) y × (y.txn.initiator ≡ i.number)
  own_here y m = let kept = has_kept (λ (d : Entry). nat_eq d.txn.initiator i.number) (entries h) y m in (has_among (entries h) y kept.0, eqb-true y.txn.initiator i.number kept.1)

  pub port_keeps : KeepsOwnGrants p (entries h) (own i.number (entries h))
  port_keeps = record {
    asked = at_own p h issued ends calls mine left ended have pr i at_number style _ (λ b before after e is owner past.
        asked_kind b e.entry e.object e.what (kind_of p h issued ends calls mine left ended have pr i at_number style e (among_self h before after e is) owner));
    answered = at_own p h issued ends calls mine left ended have pr i at_number style _ (λ b before after e is owner past.
        settled_by b e.position e.what (last_of e.txn.initiator b) (λ a q. (last_has e.txn.initiator b a q).1 ∙ owner));
    uses = at_own p h issued ends calls mine left ended have pr i at_number style _ (λ b before after e is owner past.
        asked_as (λ j r. IsOwnUse e.what p b j r) b before after e is owner past (λ r. use_by b r e.what
        (quiet_kind e.object e.what (kind_of p h issued ends calls mine left ended have pr i at_number style e (among_self h before after e is) owner) (λ m place.
        (let d = served p h issued ends calls mine left ended have pr i at_number style e.entry (known p h issued ends calls mine left ended have pr i at_number style m e (among_self h before after e is) owner place) in
        quiet_way d.request.asked e.what (subst (λ (y : Style). HasWay y d.request.asked e.what) style d.made.way))))));
    ways = at_own p h issued ends calls mine left ended have pr i at_number style _ (λ b before after e is owner past.
        asked_as (λ j r. HasOwnWay e.what p (entries h) e.position b j r) b before after e is owner past (λ r. way_by e.position b r e.what));
    closings = at_own p h issued ends calls mine left ended have pr i at_number style _ (λ b before after e is owner past.
        closing_kind b e e.object e.what (kind_of p h issued ends calls mine left ended have pr i at_number style e (among_self h before after e is) owner) (λ m place.
        closing_by b e.entry e.what past.all (u.has.closings e.entry (to_mine e.entry (known p h issued ends calls mine left ended have pr i at_number style m e (among_self h before after e is) owner place)) (entries h) all)));
    returns = at_own p h issued ends calls mine left ended have pr i at_number style _ (λ b before after e is owner past y has cut earlier. (
        let parts = and_parts (y.txn.initiator == e.txn.initiator) (nat_lt y.txn.seq e.txn.seq) earlier in
        let y_own : y.txn.initiator ≡ i.number = eqb-true y.txn.initiator e.txn.initiator parts.0 ∙ owner in
        let m = (past.answers y (has_among b y has) y_own (cut_answers y.what cut)).0 in
        returned_at before after e is owner y (to_mine y m) cut (ltb-true y.txn.seq e.txn.seq parts.1)));
  }

  made_below : (s : ℕ) → IsBack (u.stage s) → s < length u.made
  made_below s b = elim (low_or_high s (length u.made)) [ inl l ↦ l | inr l ↦ absurd (back_ahead (u.stage s) (u.staged.ahead s l) b) ]

  pub port_ends : EndsOwnGrants p (entries h) i.number (own i.number (entries h))
  port_ends = record {
    answered = by (last_of i.number (own i.number (entries h))) (λ a q. (last_has i.number (own i.number (entries h)) a q).1);
    returns = λ y has cut. (
        let o = own_here y has in
        let m = to_mine y (cut_mine y o.0 o.1 cut) in
        u.returned (length (entries h)) all_below y m cut (made_below y.txn.seq (u.has.back y m)) (entries h) all);
  }
    where
      by : (o : Option Entry) → ((a : Entry) → o ≡ Some a → a.txn.initiator ≡ i.number) → MatchOption o (Unit {0}) (λ a. IsTrue (asks p a) → KnowsAllGiven p (entries h) (length (entries h)) a.object)
      by None owner = tt
      by (Some a) owner = λ ask. absurd (never a (owner a refl) ask)

      all_below : (e : Event) → Among known_events e → e.position < length (entries h)
      all_below e k = let l : e.position < 0 + length (entries h) = numbered_below 0 (entries h) ended.objects.numbered e.entry (entry_among h e (tells e k)) in omega arith
