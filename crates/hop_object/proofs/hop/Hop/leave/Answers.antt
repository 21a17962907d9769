use Rattle.std.proofs.Common.{◌≡◌, ◌≤◌, true, not, Some, sym, subst, ap, ◌∙◌, arith}
use Rattle.tlm_types.specs.declared.words.Phase.TheVariants.{BeginReq}
use Rattle.base_phases.specs.declared.phases.LaneState.TheVariants.{Free}
use Rattle.base_phases.specs.Phases.{next_state}
use Rattle.hop_object.specs.View.{HopView}
use Rattle.hop_object.specs.Inside.{view_of}
use Rattle.hop_object.specs.Hops.{can_begin, begin_answer, MayCall}
use Rattle.hop_object.proofs.Keeps.{kept_entered}
use Rattle.hop_object.proofs.hop.Hop.leave.Goals as goal

pub invariant_of-self : goal.invariant_of-self
invariant_of-self g c =
    let v = view_of c.self.inside in
    let p = c.args.position in
    let k = c.self.invariant in
    let may : MayCall v p = subst (λ (w : HopView g.row.T.Denot). MayCall w p) (sym c.self.view_is) c.requires.may in
    let can : can_begin v ≡ true = ap can_begin c.self.view_is ∙ c.requires.can in
    let answer = c.args.answer in
    let is : answer ≡ begin_answer v = c.requires.answer ∙ sym (ap begin_answer c.self.view_is) in
    let next : next_state Free BeginReq answer ≡ Some c.args.state = ap (next_state Free BeginReq) c.requires.answer ∙ c.requires.next in
    let late : v.request_end ≤ c.max-time.result = omega (arith, c.max-time.ensures) in
    let kept = kept_entered v p c.args.txn c.max-time.result answer c.args.state (Some c.args.item) v.book k.kept may.past can is next late may.below (ap not c.requires.down) (λ n. omega arith) in
    record {
      kept = rw (c.put.ensures.items, c.push.ensures, c.of_call-event.ensures, c.request_end_begun-self-inside.ensures) kept;
      roomy = omega (arith, c.put.ensures.capacity, k.roomy);
    }
