-- A port does what is next alone, once all has come back: a debug read or an invalidation.
use Rattle.std.proofs.Common.{◌≡◌, ◌⊎◌, ℕ, suc, ◌+◌, ◌<◌, ◌≤◌, IsTrue, IsSome, Bool, true, false, cond, max, nat_eq, eq-eqb, List, [], ◌∷◌, ◌++◌, length, length-append, append_assoc, Option, Some, None, refl, sym, ap, ◌∙◌, subst, inl, inr, arith, get_or, map}
use Rattle.std.proofs.lemmas.Grind.{common_steps}
use Rattle.std.specs.Prelude.{slice_get}
use Rattle.std.specs.List.{filter}
use Rattle.std.proofs.lemmas.List.{map-append, append-nil}
use Rattle.std.proofs.lemmas.List.Elements.{filter-append}
use Rattle.std.proofs.lemmas.Option.{slice_get_within}
use Rattle.view_lists.specs.Lists.{Has}
use Rattle.tlm_types.specs.declared.ends.RefusedItem.{RefusedItem}
use Rattle.tlm_types.specs.declared.words.ObjectNo.{ObjectNo}
use Rattle.tlm_types.specs.declared.words.TxnId.{TxnId}
use Rattle.tlm_types.specs.declared.entry.Entry.{Entry}
use Rattle.tlm_model.specs.History.{entries_at, is_object}
use Rattle.tlm_model.specs.Plan.{Plan, Initiator}
use Rattle.tlm_model.specs.Requests.{Request, requests_of, has_no_route}
use Rattle.tlm_model.specs.Route.{route_of}
use Rattle.generic_payload.specs.Payload.{PayloadView}
use Rattle.flow_model.specs.World.{Passage}
use Rattle.flow_model.specs.Events.{Among, Event, Finds}
use Rattle.flow_model.specs.Issue.{issues_from, settled}
use Rattle.flow_model.specs.Platform.{passage_of}
use Rattle.report_model.specs.Ends.{refused_at}
use Rattle.joined_traffic.specs.Accesses.{sum_below, txn_of}
use Rattle.script_engine.specs.declared.op.Op.{Op}
use Rattle.script_engine.specs.declared.part.Part.{Part}
use Rattle.script_engine.specs.declared.part.Part.TheVariants.{Asks, Invalidates}
use Rattle.script_engine.specs.declared.part.Transfer.{Transfer}
use Rattle.script_engine.specs.declared.part.TransferKind.TheVariants as transfer
use Rattle.script_engine.specs.Part.{is_fenced_part, part_of}
use Rattle.script_engine.specs.State.{Due, State, is_fenced, next_of, op_at, op_for, op_of, passed_by, payload_of, told_by}
use Rattle.script_engine.specs.Asking.{asked_by, asked_by_part, numbers_at, request_for, requests_at, stage_after, stage_by, time_after_op}
use Rattle.script_engine.proofs.Steps.{passes}
use Rattle.port_model.specs.Stages.{HasTickets, IsBack, Stage, ahead, charged, count_of, end_by, moved, outstanding_by, price, under_by}
use Rattle.port_model.specs.Stages.Stage.{Ahead, Under, Back}
use Rattle.port_model.specs.Issues.{IsWaitingOp, IsWaitingPart, current_at, issue_by, issue_of, issues_at, time_by}
use Rattle.port_model.specs.Closings.{HaveReturned, IsClosingOf, invalidates_at, open_gates}
use Rattle.port_model.proofs.ClosingLemmas.{access_closing, all_less, closing_more, no_invalidation, open_less}
use Rattle.joined_traffic.proofs.ScriptLemmas.{access_answers}
use Rattle.tlm_model.specs.declared.operation.Operation.{Operation}
use Rattle.tlm_model.specs.Requests.{Invalidation}
use Rattle.tlm_model.specs.Scripts.{is_answer}
use Rattle.port_model.specs.Way.{Agrees, HasAccesses, HasEntries, IsReading, IsTimeOf, IsUnderWay, Port, Replied, pending, refused_in, top}
use Rattle.port_model.specs.Laws.{AreBelow, Knows, next_request, refused_for}
use Rattle.port_model.proofs.IssueSteps.{in_order}
use Rattle.port_model.proofs.Kept.{Grows, agrees_less, begun_more, get_kept, get_last, get_new, reading_more, returned_more, waited_more}
use Rattle.port_model.proofs.Sums.{ends_moved, more_differs, moved_here, moved_other, same_or_not, sum_moved}
use Rattle.port_model.proofs.Ops.{asks_one, more_numbers, refused_same, seq_of}
use Rattle.port_model.specs.Issues.{time_after, engine_after}
use Rattle.port_model.specs.Laws.{HasSettled}
use Rattle.port_model.proofs.Takes.{all_back, low_made, made_count, made_passed}
use Rattle.view_lists.specs.Lists.{AreDistinct}
use Rattle.view_lists.proofs.Members.{has_either, has_later, has_left, has_none, has_one, has_right}
use Rattle.port_model.specs.Stages.{made_at, made_by}
use Rattle.joined_traffic.specs.Accesses.{entries_of, visits}
use Rattle.tlm_types.specs.declared.words.ObjectNo.TheVariants.{Memory, Hop, Pool}
use Rattle.port_model.specs.Way.{IsReply}
use Rattle.port_model.specs.Laws.{replies_of}
use Rattle.port_model.proofs.Kept.{served_more}
use Rattle.port_model.proofs.PlainTakes.{false_is_true, get_tail}
use Rattle.port_model.specs.Laws.{HasDoneAlone, PassesInvalidation, ReadsDebug, HasSettled}
use Rattle.port_model.proofs.PlainTakes.{next_time, settled_here, transfer_issue, transfer_time}
use Rattle.port_model.proofs.Takes.{waited_at}

debug_free : (op : Op) (x : Transfer) → part_of op ≡ Asks x → x.kind ≡ transfer.DebugRead → is_fenced op ≡ false
debug_free op x next_is o = grind (arith, common_steps)

debug_waits : (op : Op) (x : Transfer) → part_of op ≡ Asks x → x.kind ≡ transfer.DebugRead → IsWaitingOp op
debug_waits op x next_is o = grind (arith, common_steps)

debug_stage : (x : Transfer) (payload : PayloadView) (t g : ℕ) → x.kind ≡ transfer.DebugRead → (request_for x payload t g).stage ≡ g + 1
debug_stage x payload t g o = grind (arith, common_steps)

debug_after : (op : Op) (x : Transfer) (g : ℕ) → part_of op ≡ Asks x → x.kind ≡ transfer.DebugRead → g + 1 ≤ stage_after op g
debug_after op x g next_is o = grind (arith, common_steps)

invalidation_free : (op : Op) (s a n : ℕ) → part_of op ≡ Invalidates s a n → is_fenced op ≡ false
invalidation_free op s a n is = ap is_fenced_part is

invalidation_waits : (op : Op) (s a n : ℕ) → part_of op ≡ Invalidates s a n → IsWaitingOp op
invalidation_waits op s a n is = subst IsWaitingPart (sym is) tt

invalidation_asks : (op : Op) (payload : PayloadView) (t g s a n : ℕ) → part_of op ≡ Invalidates s a n → asked_by op payload t g ≡ record { seq = s; address = a; asked = Invalidation n; time = t; stage = g + 1 } ∷ []
invalidation_asks op payload t g s a n is = ap (λ (part : Part). asked_by_part part payload t g) is

invalidation_issues : (op : Op) (t s a n : ℕ) → part_of op ≡ Invalidates s a n → issue_of op t ≡ t ∷ []
invalidation_issues op t s a n is = ap (λ (part : Part). issue_by part t) is

invalidation_time : (op : Op) (t s a n : ℕ) → part_of op ≡ Invalidates s a n → time_after op t ≡ t
invalidation_time op t s a n is = ap (λ (part : Part). time_by part t) is

invalidation_after : (op : Op) (g s a n : ℕ) → part_of op ≡ Invalidates s a n → g + 1 ≤ stage_after op g
invalidation_after op g s a n is = subst (λ (part : Part). g + 1 ≤ stage_by part g) (sym is) (omega arith)

-- it has the next number, and there is one
pub invalidation_number : (e : State) (s a n : ℕ) → next_of e ≡ Invalidates s a n → s ≡ e.seq
invalidation_number e s a n is = by e.due e.remaining is
  where
    first : (o : Operation) → part_of (op_for e.seq o) ≡ Invalidates s a n → s ≡ e.seq
    first o is = grind (arith, common_steps)

    by : (due : Option Due) (ops : List Operation) → part_of (op_at e.seq due ops) ≡ Invalidates s a n → s ≡ e.seq
    by (Some w) ops is = cc
    by None [] is = cc
    by None (o ∷ ops) is = first o is

pub invalidation_numbers : (e : State) (s a n : ℕ) → next_of e ≡ Invalidates s a n → e.seq < numbers_at e
invalidation_numbers e s a n is =
    let free = invalidation_free (op_of e) s a n is in
    let seq : (passed_by e).seq ≡ e.seq + 1 = passes.seq e 4096 0 0 free ∙ ap (λ (l : List Request). e.seq + length l) (invalidation_asks (op_of e) (payload_of e 4096) 0 0 s a n is) in
    let all = passes.numbers e free in
    let less : (passed_by e).seq ≤ numbers_at (passed_by e) = omega arith in
    omega (arith, seq, all, less)

-- what is next is done alone: its request has a stage of its own, it is issued at the current time, and it takes no time
record IsAlone (port : Port) (blocking step : ℕ) (q : Request) : Type 0 where
  free : is_fenced (op_of port.engine) ≡ false
  waits : IsWaitingOp (op_of port.engine)
  asks : asked_by (op_of port.engine) (payload_of port.engine 4096) blocking step ≡ q ∷ []
  issue : issue_of (op_of port.engine) port.time ≡ port.time ∷ []
  time : time_after (op_of port.engine) port.time ≡ port.time
  stage : q.stage ≡ step + 1
  after : step + 1 ≤ stage_after (op_of port.engine) step
  number : q.seq ≡ port.engine.seq
  more : port.engine.seq < numbers_at port.engine

new_one : (reply : Option Entry) (e : Entry) → Has (replies_of reply) e → reply ≡ Some e
new_one None e h = absurd (has_none e h)
new_one (Some f) e h = ap (λ (g : Entry). Some g) (has_one f e h)

same_entry : (o : Option Entry) (e f : Entry) → o ≡ Some e → o ≡ Some f → e ≡ f
same_entry o e f a b = cc

some_of : (o : Option Entry) → IsSome o → (e : Entry) × (o ≡ Some e)
some_of None s = cc
some_of (Some e) s = (e, refl)

has_reply : (o : Option Entry) (e : Entry) → o ≡ Some e → Has (replies_of o) e
has_reply o e q = subst (λ (r : Option Entry). Has (replies_of r) e) (sym q) (0, refl)

distinct_one : (o : Option Entry) → AreDistinct (replies_of o)
distinct_one None = tt
distinct_one (Some e) = ((λ h. has_none e h), tt)

distinct_more : (xs ys : List Entry) → AreDistinct xs → AreDistinct ys → ((e : Entry) → Has ys e → Has xs e → ⊥) → AreDistinct (xs ++ ys)
distinct_more [] ys d c f = c
distinct_more (x ∷ xs) ys d c f = (
  λ h. elim (has_either xs ys x h) [ inl a ↦ d.0 a | inr b ↦ f x b (0, refl) ],
  distinct_more xs ys d.1 c (λ e q h. f e q (has_later x xs e h)),
)

none_some : (pass : Passage) → None ≡ Some pass → {A : Type 0} → A
none_some pass e = cc

back_ahead : (v : Stage) → v ≡ Ahead → IsBack v → ⊥
back_ahead Ahead q b = b
back_ahead Under q b = b
back_ahead (Back end calls) q b = cc

under_is_ahead : (v : Stage) → v ≡ Under → v ≡ Ahead → ⊥
under_is_ahead v a b = cc

three : (k s : ℕ) → k < s + 1 → (k ≡ s) ⊎ (k < s)
three k s l = grind arith

made_none : (p : Plan) (o : ObjectNo) (x : TxnId) (v : Option Passage) → v ≡ None → (n : ℕ) → made_by (visits o x v) n ≡ 0
made_none p (Hop h) x None q n = refl
made_none p (Pool h) x None q n = refl
made_none p (Memory h) x None q n = refl
made_none p o x (Some pass) q n = cc

module _ (p : Plan) (i : Initiator) (port : Port) (known more : List Event) (seen after : ℕ) (left rest : ObjectNo → ℕ) (own : List Entry)
    (u : IsUnderWay p i port known seen left) (knows : Knows known more) (below : AreBelow more after) (quiet : HasSettled port)
    (q : Request) (o : IsAlone port u.asking.blocking u.step q) (c : HasDoneAlone p i port q.address known more seen own left rest)
    (refused : List RefusedItem) (refused_is : refused ≡ port.refused ++ refused_for p i q port.time) where
  abbrev s : ℕ
  s = port.engine.seq

  abbrev op : Op
  op = op_of port.engine

  abbrev made_d : List Request
  made_d = u.made ++ q ∷ []

  abbrev stage_d : ℕ → Stage
  stage_d = moved u.stage s (Back 0 (λ k. 0))

  abbrev mine_d : List Entry
  mine_d = u.mine ++ own

  count : length u.made ≡ s
  count = made_count p i port known seen left u quiet.free

  ahead_now : u.stage s ≡ Ahead
  ahead_now = u.staged.ahead s (let c = count in omega arith)

  within : s < count_of i
  within = let l = o.more in let c = u.asking.numbers in omega arith

  back_kept : (k : ℕ) → IsBack (u.stage k) → stage_d k ≡ u.stage k
  back_kept k b = elim (same_or_not k s) [
    | inl e ↦ absurd (back_ahead (u.stage k) (ap u.stage e ∙ ahead_now) b)
    | inr d ↦ moved_other u.stage s (Back 0 (λ k. 0)) k d
  ]

  grows_d : Grows known more u.made made_d u.mine mine_d u.stage stage_d (u.step + 1)
  grows_d = record {
    knows = knows;
    kept = λ j r e. get_kept u.made (q ∷ []) j r e;
    new = λ j r e. elim (get_new u.made q j r e) [ inl a ↦ inl a | inr b ↦ inr (let c : q.stage ≡ r.stage = ap (λ (d : Request). d.stage) b.1 in let z = o.stage in omega arith) ];
    has = λ e m. has_left u.mine own e m;
    back = back_kept;
    low = λ j r e. (let l = low_made p i port known seen left u quiet.free j r e in omega arith);
    cut = λ y m is. elim (has_either u.mine own y m) [
      | inl a ↦ inl a
      | inr b ↦ inr (let f : y.txn.seq ≡ s = ap (λ (x : TxnId). x.seq) (c.entry y b).txn in let n = count in omega arith)
    ];
  }

  agrees_d : (end : ℕ → ℕ) → Agrees stage_d end → Agrees u.stage end
  agrees_d = agrees_less p i known more u.made made_d u.mine mine_d u.stage stage_d (u.step + 1) grows_d

  issues_d : (end : ℕ → ℕ) → Agrees u.stage end → issues_at end port.time port.engine ≡ port.time ∷ issues_at end port.time (passed_by port.engine)
  issues_d end a =
      in_order.waiting end port.time port.engine [] o.waits (settled_here p i port known seen left u quiet.none quiet.free quiet.settled end a)
      ∙ (ap (λ (l : List ℕ). l ++ issues_at end (time_after op port.time) (engine_after port.engine [])) o.issue
      ∙ (ap (λ (t : ℕ). port.time ∷ issues_at end t (engine_after port.engine [])) o.time
      ∙ ap (λ (b : Bool). port.time ∷ issues_at end port.time (cond b (told_by port.engine []) (passed_by port.engine))) o.free))

  current_d : (end : ℕ → ℕ) → Agrees u.stage end → current_at end port.time port.engine ≡ current_at end port.time (passed_by port.engine)
  current_d end a =
      in_order.waiting_current end port.time port.engine [] o.waits (settled_here p i port known seen left u quiet.none quiet.free quiet.settled end a)
      ∙ (ap (λ (t : ℕ). current_at end t (engine_after port.engine [])) o.time
      ∙ ap (λ (b : Bool). current_at end port.time (cond b (told_by port.engine []) (passed_by port.engine))) o.free)

  is_time : IsTimeOf i u.stage s port.time
  is_time end a = next_time p i port known seen left u port.time end a (issues_at end port.time (passed_by port.engine)) (issues_d end a)

  backs : (j : ℕ) (r : Request) → slice_get u.made j ≡ Some r → IsBack (u.stage j)
  backs j r e = all_back p i port known seen left u quiet.none quiet.free j (slice_get_within u.made j r e)

  back_now : IsBack (stage_d s)
  back_now = subst IsBack (sym (moved_here u.stage s (Back 0 (λ k. 0)))) tt

  asked_here : slice_get made_d s ≡ Some q
  asked_here = subst (λ (n : ℕ). slice_get made_d n ≡ Some q) count (get_last u.made q)

  fresh : (e : Entry) → Has u.mine e → e.txn ≡ txn_of i.number s → ⊥
  fresh e m f = back_ahead (u.stage e.txn.seq) (ap (λ (k : ℕ). u.stage k) (ap (λ (x : TxnId). x.seq) f) ∙ ahead_now) (u.has.back e m)

  data Owner (e : Entry) : Type 0 where
    Old : Has u.mine e → Owner e
    New : Has own e → Owner e

  owner : (e : Entry) → Has mine_d e → Owner e
  owner e m = elim (has_either u.mine own e m) [ inl a ↦ Old a | inr b ↦ New b ]

  within_d : (e : Entry) → Owner e → Finds (Among more) (λ f. f.entry ≡ e)
  within_d e (Old m) = let f = u.has.within e m in record { event = f.event; known = knows f.event f.known; is = f.is }
  within_d e (New f) = (c.entry e f).stands

  own_d : (e : Entry) → Owner e → e.txn.initiator ≡ i.number
  own_d e (Old m) = u.has.own e m
  own_d e (New f) = ap (λ (x : TxnId). x.initiator) (c.entry e f).txn

  once_d : (e f : Entry) → Owner e → Owner f → e.txn ≡ f.txn → IsTrue (is_answer e.what) → IsTrue (is_answer f.what) → e ≡ f
  once_d e f (Old m) (Old n) g a b = u.has.once e f m n g a b
  once_d e f (Old m) (New r) g a b = absurd (fresh e m (g ∙ (c.entry f r).txn))
  once_d e f (New r) (Old n) g a b = absurd (fresh f n (sym g ∙ (c.entry e r).txn))
  once_d e f (New r) (New t) g a b = c.once e f r t a b

  entry_back : (e : Entry) → Owner e → IsBack (stage_d e.txn.seq)
  entry_back e (Old m) = let b = u.has.back e m in subst IsBack (sym (back_kept e.txn.seq b)) b
  entry_back e (New f) = subst (λ (k : ℕ). IsBack (stage_d k)) (sym (ap (λ (x : TxnId). x.seq) (c.entry e f).txn)) back_now

  served_d : (e : Entry) → Owner e → IsReply p i more e
  served_d e (Old m) = served_more p i known more u.made made_d u.mine mine_d u.stage stage_d (u.step + 1) grows_d e (u.has.served e m)
  served_d e (New f) = (c.entry e f).reply

  reads_d : (e : Entry) → Owner e → passage_of p e.txn ≡ None → IsReading p i more made_d mine_d stage_d e
  reads_d e (Old m) none = reading_more p i known more u.made made_d u.mine mine_d u.stage stage_d (u.step + 1) grows_d e (u.has.reads e m none)
  reads_d e (New f) none =
      let n : e.txn.seq ≡ s = ap (λ (x : TxnId). x.seq) (c.entry e f).txn in
      record {
        request = q;
        asked = ap (slice_get made_d) n ∙ asked_here;
        is_issued = λ end a. ap (λ (k : ℕ). get_or (issues_from end 0 0 i.script) k 0) n ∙ (is_time end (agrees_d end a) ∙ sym (c.time e f));
        returned = λ y m is less h all. elim (has_either u.mine own y m) [
          | inl a ↦ u.returned e.position (λ d k. (let b = u.below d k in let l = c.later e f in omega arith)) y a is (let t = count in omega arith) h (all_less known more h knows all)
          | inr b ↦ absurd (let z : y.txn.seq ≡ s = ap (λ (x : TxnId). x.seq) (c.entry y b).txn in omega arith)
        ];
        waited = waited_more p i known more u.made made_d u.mine mine_d u.stage stage_d (u.step + 1) grows_d q.stage e.position (let z = o.stage in omega arith)
            (waited_at p i port known seen left u q.stage e.position (c.later e f) (λ j r g less. backs j r g));
      }

  closings_d : (e : Entry) → Owner e → IsClosingOf more mine_d e
  closings_d e (Old m) = closing_more known more u.mine mine_d e knows (λ y k. has_left u.mine own y k) (u.has.closings e m)
  closings_d e (New f) = closing_more more more own mine_d e (λ d k. k) (λ y k. has_right u.mine own y k) (c.closings e f)

  entries_d : HasEntries p i more made_d mine_d stage_d
  entries_d = record {
    within = λ e m. within_d e (owner e m);
    distinct = distinct_more u.mine own u.has.distinct c.distinct (λ e f m. fresh e m (c.entry e f).txn);
    own = λ e m. own_d e (owner e m);
    once = λ e f m n g a b. once_d e f (owner e m) (owner f n) g a b;
    back = λ e m. entry_back e (owner e m);
    served = λ e m. served_d e (owner e m);
    reads = λ e m none. reads_d e (owner e m) none;
    closings = λ e m. closings_d e (owner e m);
  }

  long_d : length made_d ≡ s + 1
  long_d = let c = count in let l : length made_d ≡ length u.made + 1 = length-append u.made (q ∷ []) in omega arith

  no_pass : (k : ℕ) (pass : Passage) → k ≡ s → passage_of p (txn_of i.number k) ≡ Some pass → {A : Type 0} → A
  no_pass k pass e passes = none_some pass (sym c.no_access ∙ (ap (λ (m : ℕ). passage_of p (txn_of i.number m)) (sym e) ∙ passes))

  reply_here : IsSome (route_of p.platform i q.address) → Replied mine_d (txn_of i.number s)
  reply_here some =
      let f = c.routed some in
      record { entry = f.0; has = has_right u.mine own f.0 f.1; of = (c.entry f.0 f.1).txn; answers = f.2 }

  accesses_d : HasAccesses p i more made_d mine_d stage_d
  accesses_d = record {
    begun = λ k pass less passes. elim (three k s (let l = long_d in omega arith)) [
      | inl e ↦ no_pass k pass e passes
      | inr l ↦ begun_more p i known more u.made made_d u.mine mine_d u.stage stage_d (u.step + 1) grows_d k (u.accesses.begun k pass (let c = count in omega arith) passes)
    ];
    returned = λ k pass end calls b passes. elim (same_or_not k s) [
      | inl e ↦ no_pass k pass e passes
      | inr d ↦ returned_more p i known more u.made made_d u.mine mine_d u.stage stage_d (u.step + 1) grows_d k pass end calls (u.accesses.returned k pass end calls (sym (moved_other u.stage s (Back 0 (λ k. 0)) k d) ∙ b) passes)
    ];
    no_end = λ k none. elim (same_or_not k s) [
      | inl e ↦ ap (λ (m : ℕ). end_by (stage_d m)) e ∙ ap end_by (moved_here u.stage s (Back 0 (λ k. 0)))
      | inr d ↦ ap end_by (moved_other u.stage s (Back 0 (λ k. 0)) k d) ∙ u.accesses.no_end k none
    ];
    replied = λ k r e b some. elim (get_new u.made q k r e) [
      | inl a ↦ (let l = slice_get_within u.made k r a in let t = count in
          let g = u.accesses.replied k r a (backs k r a) some in record { entry = g.entry; has = has_left u.mine own g.entry g.has; of = g.of; answers = g.answers })
      | inr f ↦ subst (λ (m : ℕ). Replied mine_d (txn_of i.number m)) (sym (f.0 ∙ count)) (reply_here (subst (λ (d : Request). IsSome (route_of p.platform i d.address)) (sym f.1) some))
    ];
  }

  tickets_d : HasTickets p i stage_d mine_d rest
  tickets_d = record {
    paid = λ b. (
        let m : sum_below (λ k. charged p i b k (stage_d k)) (count_of i) + charged p i b s (u.stage s) ≡ sum_below (λ k. charged p i b k (u.stage k)) (count_of i) + made_at p b (txn_of i.number s) (λ k. 0) = sum_moved (λ k v. charged p i b k v) u.stage s (Back 0 (λ k. 0)) (count_of i) within in
        let z : charged p i b s (u.stage s) ≡ 0 = ap (charged p i b s) ahead_now in
        let w : made_at p b (txn_of i.number s) (λ k. 0) ≡ 0 = made_none p b (txn_of i.number s) (passage_of p (txn_of i.number s)) c.no_access (entries_of p (λ y k. 0) b (txn_of i.number s)) in
        let n : length (entries_at b mine_d) ≡ length (entries_at b u.mine) + length (entries_at b own) =
        ap length (filter-append (λ (e : Entry). is_object b e.object) u.mine own) ∙ length-append (entries_at b u.mine) (entries_at b own) in
        let old = u.tickets.paid b in
        let pay = c.pays b in
        omega arith);
    enough = λ b. (
        let m : sum_below (λ k. ahead p i b k (stage_d k)) (count_of i) + ahead p i b s (u.stage s) ≡ sum_below (λ k. ahead p i b k (u.stage k)) (count_of i) + 0 = sum_moved (λ k v. ahead p i b k v) u.stage s (Back 0 (λ k. 0)) (count_of i) within in
        let z : ahead p i b s (u.stage s) ≡ price p i b s = ap (ahead p i b s) ahead_now in
        let old = u.tickets.enough b in
        elim (c.keeps b) [
          | inl f ↦ omega arith
          | inr f ↦ (
              let g : sum_below (λ k. ahead p i b k (u.stage k)) (count_of i) + open_gates p f.0 known ≤ left b =
              subst (λ (d : ObjectNo). sum_below (λ k. ahead p i d k (u.stage k)) (count_of i) + open_gates p f.0 known ≤ left d) (sym f.1) (u.closes f.0 f.2) in
              let l = f.3 in
              omega arith)
        ]);
  }

  returned_d : (n : ℕ) → ((e : Event) → Among more e → e.position < n) → HaveReturned more mine_d (length made_d) n
  returned_d n all y m is less h has = elim (has_either u.mine own y m) [
    | inl a ↦ u.returned n (λ e k. all e (knows e k)) y a is (below_made y.txn.seq (u.has.back y a)) h (all_less known more h knows has)
    | inr b ↦ c.returned n all y b is (let l = long_d in omega arith) h has
  ]
    where
      below_made : (k : ℕ) → IsBack (u.stage k) → k < length u.made
      below_made k b = elim (under_or_past k (length u.made)) [ inl l ↦ l | inr l ↦ absurd (back_ahead (u.stage k) (u.staged.ahead k l) b) ]
        where
          under_or_past : (a b : ℕ) → (a < b) ⊎ (b ≤ a)
          under_or_past a b = grind arith

  closes_d : (m : ℕ) → IsTrue (invalidates_at p i m) → sum_below (λ k. ahead p i (Memory m) k (stage_d k)) (count_of i) + open_gates p m more ≤ rest (Memory m)
  closes_d m is =
      let moves : sum_below (λ k. ahead p i (Memory m) k (stage_d k)) (count_of i) + ahead p i (Memory m) s (u.stage s) ≡ sum_below (λ k. ahead p i (Memory m) k (u.stage k)) (count_of i) + 0 = sum_moved (λ k v. ahead p i (Memory m) k v) u.stage s (Back 0 (λ k. 0)) (count_of i) within in
      let z : ahead p i (Memory m) s (u.stage s) ≡ price p i (Memory m) s = ap (ahead p i (Memory m) s) ahead_now in
      let old = u.closes m is in
      let l = open_less p m known more knows in
      elim (c.keeps (Memory m)) [
        | inl f ↦ omega arith
        | inr f ↦ (
            let same : m ≡ f.0 = same_memory m f.0 f.1 in
            let g : left (Memory m) + open_gates p m more ≤ price p i (Memory m) s + rest (Memory m) + open_gates p m known =
            subst (λ (k : ℕ). left (Memory m) + open_gates p k more ≤ price p i (Memory m) s + rest (Memory m) + open_gates p k known) (sym same) f.3 in
            omega arith)
      ]
    where
      same_memory : (a b : ℕ) → Memory a ≡ Memory b → a ≡ b
      same_memory a b e = cc

  outstanding_d : length port.away ≡ outstanding_by i stage_d
  outstanding_d =
      let m : sum_below (λ k. under_by (stage_d k)) (count_of i) + under_by (u.stage s) ≡ sum_below (λ k. under_by (u.stage k)) (count_of i) + 0 = sum_moved (λ k v. under_by v) u.stage s (Back 0 (λ k. 0)) (count_of i) within in
      let z : under_by (u.stage s) ≡ 0 = ap under_by ahead_now in
      let old = u.staged.outstanding in
      omega arith

  under_d : (k : ℕ) → Among port.away k → stage_d k ≡ Under
  under_d k m = elim (same_or_not k s) [
    | inl e ↦ absurd (under_is_ahead (u.stage s) (ap u.stage (sym e) ∙ u.staged.under k m) ahead_now)
    | inr d ↦ moved_other u.stage s (Back 0 (λ k. 0)) k d ∙ u.staged.under k m
  ]

  back_not_ahead : Back 0 (λ k. 0) ≡ Ahead → ⊥
  back_not_ahead e = cc

  begun_d : (k : ℕ) → k < length made_d → stage_d k ≡ Ahead → ⊥
  begun_d k less e = elim (same_or_not k s) [
    | inl f ↦ back_not_ahead (sym (moved_here u.stage s (Back 0 (λ k. 0))) ∙ (ap stage_d (sym f) ∙ e))
    | inr d ↦ elim (three k s (let l = long_d in omega arith)) [
      | inl f ↦ false_is_true (nat_eq k s) d (eq-eqb k s f)
      | inr l ↦ u.staged.begun k (let c = count in omega arith) (sym (moved_other u.stage s (Back 0 (λ k. 0)) k d) ∙ e)
    ]
  ]

  ahead_d : (k : ℕ) → length made_d ≤ k → stage_d k ≡ Ahead
  ahead_d k l = let g = long_d in let c = count in moved_other u.stage s (Back 0 (λ k. 0)) k (more_differs k s (omega arith)) ∙ u.staged.ahead k (omega arith)

  latest_d : port.latest ≡ settled (λ k. end_by (stage_d k)) (count_of i) 0
  latest_d =
      let m : settled (λ k. end_by (stage_d k)) (count_of i) 0 ≡ max (settled (λ k. end_by (u.stage k)) (count_of i) 0) 0 = ends_moved u.stage s (Back 0 (λ k. 0)) (count_of i) within (ap end_by ahead_now) in
      let l = u.issuing.latest in
      omega arith

  refused_d : (end : ℕ → ℕ) → Agrees stage_d end → refused ≡ refused_in p i end made_d
  refused_d end a =
      let old : port.refused ≡ map (λ (r : Request). refused_at r (get_or (issues_from end 0 0 i.script) r.seq 0)) (filter (λ (r : Request). has_no_route p.platform i r r.asked) u.made) = u.refused end (agrees_d end a) in
      let when : get_or (issues_from end 0 0 i.script) q.seq 0 ≡ port.time =
      ap (λ (n : ℕ). get_or (issues_from end 0 0 i.script) n 0) o.number ∙ is_time end (agrees_d end a) in
      refused_is
      ∙ (ap (λ (l : List RefusedItem). l ++ refused_for p i q port.time) old
      ∙ (ap (λ (l : List RefusedItem). map (λ (r : Request). refused_at r (get_or (issues_from end 0 0 i.script) r.seq 0)) (filter (λ (r : Request). has_no_route p.platform i r r.asked) u.made) ++ l) (one (has_no_route p.platform i q q.asked) port.time (sym when))
      ∙ (sym (map-append (λ (r : Request). refused_at r (get_or (issues_from end 0 0 i.script) r.seq 0)) (filter (λ (r : Request). has_no_route p.platform i r r.asked) u.made) (filter (λ (r : Request). has_no_route p.platform i r r.asked) (q ∷ [])))
      ∙ ap (map (λ (r : Request). refused_at r (get_or (issues_from end 0 0 i.script) r.seq 0))) (sym (filter-append (λ (r : Request). has_no_route p.platform i r r.asked) u.made (q ∷ []))))))
    where
      one : (b : Bool) (x : ℕ) → x ≡ get_or (issues_from end 0 0 i.script) q.seq 0 → cond b (refused_at q x ∷ []) [] ≡ map (λ (r : Request). refused_at r (get_or (issues_from end 0 0 i.script) r.seq 0)) (cond b (q ∷ []) [])
      one false x e = refl
      one true x e = ap (λ (n : ℕ). refused_at q n ∷ []) e

  seq_d : (passed_by port.engine).seq ≡ port.engine.seq + 1
  seq_d = passes.seq port.engine 4096 u.asking.blocking u.step o.free ∙ ap (λ (l : List Request). port.engine.seq + length l) o.asks

  all_back_d : (j : ℕ) (r : Request) → slice_get made_d j ≡ Some r → IsBack (stage_d j)
  all_back_d j r e = elim (get_new u.made q j r e) [
    | inl a ↦ (let b = backs j r a in subst IsBack (sym (back_kept j b)) b)
    | inr f ↦ subst (λ (m : ℕ). IsBack (stage_d m)) (sym (f.0 ∙ count)) back_now
  ]

  done_alone : IsUnderWay p i (record port { engine = passed_by port.engine; refused = refused }) more after rest
  done_alone = record {
    made = made_d;
    mine = mine_d;
    stage = stage_d;
    step = stage_after (op_of port.engine) u.step;
    below = below;
    asking = record {
      blocking = time_after_op p.platform i u.asking.blocking (op_of port.engine);
      passed = u.asking.passed ++ q ∷ [];
      is_made = ap (λ (l : List Request). l ++ q ∷ []) (made_passed p i port known seen left u quiet.free)
          ∙ (sym (append-nil (u.asking.passed ++ q ∷ [])) ∙ ap (λ (l : List Request). (u.asking.passed ++ q ∷ []) ++ l) (sym (ap (λ (b : Bool). pending b (passed_by port.engine) (time_after_op p.platform i u.asking.blocking (op_of port.engine)) (stage_after (op_of port.engine) u.step)) quiet.free)));
      asked = λ m. ap (requests_of p.platform i) (append_assoc u.mine own m)
          ∙ (u.asking.asked (own ++ m)
          ∙ (ap (λ (l : List Entry). u.asking.passed ++ requests_at p.platform i l u.asking.blocking u.step port.engine) (sym (append_assoc u.mine own m))
          ∙ (ap (λ (l : List Request). u.asking.passed ++ l) (passes.requests p.platform i ((u.mine ++ own) ++ m) u.asking.blocking u.step 4096 port.engine o.free
          ∙ ap (λ (l : List Request). l ++ requests_at p.platform i ((u.mine ++ own) ++ m) (time_after_op p.platform i u.asking.blocking (op_of port.engine)) (stage_after (op_of port.engine) u.step) (passed_by port.engine)) o.asks)
          ∙ sym (append_assoc u.asking.passed (q ∷ []) (requests_at p.platform i ((u.mine ++ own) ++ m) (time_after_op p.platform i u.asking.blocking (op_of port.engine)) (stage_after (op_of port.engine) u.step) (passed_by port.engine))))));
      count = length-append u.asking.passed (q ∷ []) ∙ (ap (λ (n : ℕ). n + 1) u.asking.count ∙ sym seq_d);
      fenced = λ w. false_is_true port.waiting quiet.free w;
      numbers = passes.numbers port.engine o.free ∙ u.asking.numbers;
      low = λ j r e. (
          let z : top port.waiting (stage_after (op_of port.engine) u.step) ≡ stage_after (op_of port.engine) u.step = ap (λ (b : Bool). top b (stage_after (op_of port.engine) u.step)) quiet.free in
          let f = o.after in
          elim (get_new u.made q j r e) [
            | inl a ↦ (let l = low_made p i port known seen left u quiet.free j r a in omega arith)
            | inr b ↦ (let d : q.stage ≡ r.stage = ap (λ (g : Request). g.stage) b.1 in let st = o.stage in omega arith)
          ]);
    };
    issuing = record {
      issues = λ end a k. (
          let one : port.engine.seq + 1 + k ≡ port.engine.seq + suc k = omega arith in
          ap (λ (n : ℕ). get_or (issues_from end 0 0 i.script) (n + k) 0) seq_d
          ∙ (ap (λ (n : ℕ). get_or (issues_from end 0 0 i.script) n 0) one
          ∙ (u.issuing.issues end (agrees_d end a) (suc k)
          ∙ get_tail (issues_at end port.time port.engine) (issues_at end port.time (passed_by port.engine)) port.time k (issues_d end (agrees_d end a)))));
      current = λ end a. u.issuing.current end (agrees_d end a) ∙ current_d end (agrees_d end a);
      latest = latest_d;
      settled = λ w. false_is_true port.waiting quiet.free w;
    };
    staged = record {
      begun = begun_d;
      ahead = ahead_d;
      waits = λ w. false_is_true port.waiting quiet.free w;
      back = λ j r e less. all_back_d j r e;
      alone = λ w. false_is_true port.waiting quiet.free w;
      under = under_d;
      outstanding = outstanding_d;
    };
    has = entries_d;
    accesses = accesses_d;
    tickets = tickets_d;
    returned = returned_d;
    closes = closes_d;
    refused = refused_d;
  }

pub debug_read : ReadsDebug
debug_read p i port known more seen after left rest reply u knows below quiet x next_is o c =
    done_alone p i port known more seen after left rest (replies_of reply) u knows below quiet (request_for x (payload_of port.engine 4096) u.asking.blocking u.step)
    (record {
      free = debug_free (op_of port.engine) x next_is o;
      waits = debug_waits (op_of port.engine) x next_is o;
      asks = asks_one (op_of port.engine) x (payload_of port.engine 4096) u.asking.blocking u.step next_is;
      issue = transfer_issue (op_of port.engine) x port.time next_is;
      time = transfer_time (op_of port.engine) x port.time next_is;
      stage = debug_stage x (payload_of port.engine 4096) u.asking.blocking u.step o;
      after = debug_after (op_of port.engine) x u.step next_is o;
      number = seq_of port.engine x next_is;
      more = more_numbers port.engine x next_is;
    })
    (record {
      no_access = c.no_access;
      entry = λ e m. (let f = c.entry e (new_one reply e m) in record { txn = f.txn; stands = f.stands; reply = f.reply });
      distinct = distinct_one reply;
      once = λ e f m n a b. same_entry reply e f (new_one reply e m) (new_one reply f n);
      time = λ e m. c.time e (new_one reply e m);
      later = λ e m. c.later e (new_one reply e m);
      routed = λ some. (let f = some_of reply (c.routed some) in (f.0, has_reply reply f.0 f.1, access_answers f.0.what (c.entry f.0 f.1).access));
      pays = c.pays;
      keeps = λ b. inl (c.keeps b);
      closings = λ e m h all. access_closing h (replies_of reply) e e.what (c.entry e (new_one reply e m)).access;
      returned = λ n all y m is. absurd (no_invalidation y.what (c.entry y (new_one reply y m)).access is);
    })
    (port.refused ++ refused_for p i (next_request port x) port.time)
    (ap (λ (l : List RefusedItem). port.refused ++ l) (refused_same p i x (payload_of port.engine 4096) u.asking.blocking u.step port.time))

pub invalidation_passed : PassesInvalidation
invalidation_passed p i port known more seen after left rest own u knows below quiet s a n next_is c =
    done_alone p i port known more seen after left rest own u knows below quiet (record { seq = s; address = a; asked = Invalidation n; time = u.asking.blocking; stage = u.step + 1 })
    (record {
      free = invalidation_free (op_of port.engine) s a n next_is;
      waits = invalidation_waits (op_of port.engine) s a n next_is;
      asks = invalidation_asks (op_of port.engine) (payload_of port.engine 4096) u.asking.blocking u.step s a n next_is;
      issue = invalidation_issues (op_of port.engine) port.time s a n next_is;
      time = invalidation_time (op_of port.engine) port.time s a n next_is;
      stage = refl;
      after = invalidation_after (op_of port.engine) u.step s a n next_is;
      number = invalidation_number port.engine s a n next_is;
      more = invalidation_numbers port.engine s a n next_is;
    })
    c port.refused (sym (append-nil port.refused))
