use Rattle.std.proofs.Common.{◌≡◌, true, length, refl, ap, sym, ◌∙◌}
use Rattle.tlm_types.specs.declared.words.Phase.TheVariants.{BeginReq, BeginResp}
use Rattle.tlm_types.specs.declared.words.TlmSync.TheVariants.{Updated}
use Rattle.base_phases.specs.declared.phases.LaneState.TheVariants.{Free}
use Rattle.base_phases.specs.Phases.{next_state}
use Rattle.hop_object.specs.View.{HopView}
use Rattle.hop_object.specs.Lanes.{requester}
use Rattle.hop_object.specs.Hops.{begin_answer, begin_time, can_begin}
use Rattle.hop_object.proofs.Begins.{few_fit, is_refused, is_accepted, is_completed, is_responded}
use Rattle.hop_object.proofs.hop.Hop.begin_req.Goals as goal

pub overflow_cast-result : goal.overflow_cast-result
overflow_cast-result g c = few_fit c.len.result (length c.self.inside.lanes.items) c.self.inside.traits.lanes (c.len.ensures ∙ c.self.inside.lanes.ok.0) c.self.invariant.kept.few c.self.invariant.kept.small

pub returns-then-not-can_begin : goal.returns-then-not-can_begin
returns-then-not-can_begin g c =
    let lanes = ap (λ (v : HopView g.row.T.Denot). v.lanes) c.self.view_is in
    is_refused c.args.self.now c.args.position c.args.txn c.args.at c.args.item c.requester.result c.len.result (sym c.can_begin.ensures ∙ c.if-not-can_begin.true) (c.requester.ensures ∙ ap requester (c.deref.ensures.value ∙ lanes)) (c.len.ensures ∙ c.self.inside.lanes.ok.0 ∙ ap length lanes)

pub leave-requires-clause-can : goal.leave-requires-clause-can
leave-requires-clause-can g c = sym c.can_begin.ensures ∙ c.if-not-can_begin.false

pub leave-requires-clause-may : goal.leave-requires-clause-may
leave-requires-clause-may g c = c.requires.may (sym c.can_begin.ensures ∙ c.if-not-can_begin.false)

pub complete_now-requires-clause-can : goal.complete_now-requires-clause-can
complete_now-requires-clause-can g c = sym c.can_begin.ensures ∙ c.if-not-can_begin.false

pub complete_now-requires-clause-may : goal.complete_now-requires-clause-may
complete_now-requires-clause-may g c = c.requires.may (sym c.can_begin.ensures ∙ c.if-not-can_begin.false)

pub answer_now-leg-requires-clause-can : goal.answer_now-leg-requires-clause-can
answer_now-leg-requires-clause-can g c = sym c.can_begin.ensures ∙ c.if-not-can_begin.false

pub answer_now-leg-requires-clause-may : goal.answer_now-leg-requires-clause-may
answer_now-leg-requires-clause-may g c = c.requires.may (sym c.can_begin.ensures ∙ c.if-not-can_begin.false)

pub leave-requires-clause-next : goal.leave-requires-clause-next
leave-requires-clause-next g c =
    let answer : c.begin_answer-answer.result ≡ begin_answer c.args.self.now = c.begin_answer-answer.ensures in
    ap (next_state Free BeginReq) (sym answer ∙ c.in-Accepted.is)

pub leave-requires-clause-answer : goal.leave-requires-clause-answer
leave-requires-clause-answer g c = c.begin_answer-answer.ensures

pub leave-requires-clause-down : goal.leave-requires-clause-down
leave-requires-clause-down g c = refl

pub complete_now-requires-clause-answer : goal.complete_now-requires-clause-answer
complete_now-requires-clause-answer g c =
    let answer : c.begin_answer-answer.result ≡ begin_answer c.args.self.now = c.begin_answer-answer.ensures in
    sym answer ∙ c.in-Completed.is

pub answer_now-leg-requires-clause-tokens : goal.answer_now-leg-requires-clause-tokens
answer_now-leg-requires-clause-tokens g c = c.requires.tokens

pub answer_now-leg-requires-clause-answer : goal.answer_now-leg-requires-clause-answer
answer_now-leg-requires-clause-answer g c =
    let answer : c.begin_answer-answer.result ≡ begin_answer c.args.self.now = c.begin_answer-answer.ensures in
    let part : c.in-Updated-BeginResp.field-0 ≡ BeginResp = rw c.in-Updated-BeginResp.is at c.in-Updated-BeginResp.field-0-is in
    sym answer ∙ c.in-Updated-BeginResp.is ∙ ap Updated part

pub returns-in-Accepted : goal.returns-in-Accepted
returns-in-Accepted g c =
    let can : can_begin c.args.self.now ≡ true = sym c.can_begin.ensures ∙ c.if-not-can_begin.false in
    let answer : c.begin_answer-answer.result ≡ begin_answer c.args.self.now = c.begin_answer-answer.ensures in
    let timed : c.max-time.result ≡ begin_time c.args.self.now c.args.at = c.max-time.ensures ∙ ap (λ (v : HopView g.row.T.Denot). begin_time v c.args.at) c.self.view_is in
    is_accepted c.args.self.now c.args.position c.args.txn c.args.at c.args.item c.leave.new.self c.begin_answer-answer.result c.max-time.result can (sym answer ∙ c.in-Accepted.is) c.in-Accepted.is timed c.leave.ensures

pub returns-in-Completed : goal.returns-in-Completed
returns-in-Completed g c =
    let can : can_begin c.args.self.now ≡ true = sym c.can_begin.ensures ∙ c.if-not-can_begin.false in
    let answer : c.begin_answer-answer.result ≡ begin_answer c.args.self.now = c.begin_answer-answer.ensures in
    let timed : c.max-time.result ≡ begin_time c.args.self.now c.args.at = c.max-time.ensures ∙ ap (λ (v : HopView g.row.T.Denot). begin_time v c.args.at) c.self.view_is in
    is_completed c.args.self.now c.args.position c.args.txn c.args.at c.args.item c.complete_now.new.self c.begin_answer-answer.result c.max-time.result can (sym answer ∙ c.in-Completed.is) c.in-Completed.is timed c.complete_now.ensures

pub returns-in-Updated-BeginResp : goal.returns-in-Updated-BeginResp
returns-in-Updated-BeginResp g c =
    let can : can_begin c.args.self.now ≡ true = sym c.can_begin.ensures ∙ c.if-not-can_begin.false in
    let answer : c.begin_answer-answer.result ≡ begin_answer c.args.self.now = c.begin_answer-answer.ensures in
    let timed : c.max-time.result ≡ begin_time c.args.self.now c.args.at = c.max-time.ensures ∙ ap (λ (v : HopView g.row.T.Denot). begin_time v c.args.at) c.self.view_is in
    let part : c.in-Updated-BeginResp.field-0 ≡ BeginResp = rw c.in-Updated-BeginResp.is at c.in-Updated-BeginResp.field-0-is in
    let is = c.in-Updated-BeginResp.is ∙ ap Updated part in
    is_responded c.args.self.now c.args.position c.args.txn c.args.at c.args.item c.answer_now-leg.new.self c.begin_answer-answer.result c.max-time.result c.answer_now-leg.result can (sym answer ∙ is) is timed c.answer_now-leg.ensures.hop c.answer_now-leg.ensures.leg
