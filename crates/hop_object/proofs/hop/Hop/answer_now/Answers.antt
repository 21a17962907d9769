use Rattle.std.proofs.Common.{◌≡◌, ◌≤◌, ◌<◌, length, ◌+◌, ◌*◌, true, None, refl, sym, ap, subst, ◌∙◌, arith}
use Rattle.tlm_types.specs.declared.words.Phase.TheVariants.{BeginResp}
use Rattle.tlm_types.specs.declared.words.TlmSync.TheVariants.{Updated}
use Rattle.base_phases.specs.declared.phases.LaneState.TheVariants.{Responding}
use Rattle.hop_object.specs.View.{HopView}
use Rattle.hop_object.specs.Inside.{view_of}
use Rattle.hop_object.specs.Hops.{can_begin, begin_answer, leg_out, MayCall}
use Rattle.hop_object.proofs.LegLemmas.{out_issued}
use Rattle.hop_object.proofs.Keeps.{few_out, kept_entered}
use Rattle.hop_object.proofs.hop.Hop.answer_now.Goals as goal

pub invariant_of-self : goal.invariant_of-self
invariant_of-self g c =
    let v = view_of c.self.inside in
    let p = c.args.position in
    let k = c.self.invariant in
    let may : MayCall v p = subst (λ (w : HopView g.row.T.Denot). MayCall w p) (sym c.self.view_is) c.requires.may in
    let can : can_begin v ≡ true = ap can_begin c.self.view_is ∙ c.requires.can in
    let is : Updated BeginResp ≡ begin_answer v = sym (ap begin_answer c.self.view_is ∙ c.requires.answer) in
    let late : v.request_end ≤ c.max-time.result = omega (arith, c.max-time.ensures) in
    let kept = kept_entered v p c.args.txn c.max-time.result (Updated BeginResp) Responding None (leg_out v.book p Responding) k.kept may.past can is refl late may.below refl (λ n. omega (arith, out_issued n v.book (4 * p + 3))) in
    record {
      kept = rw (c.put.ensures.items, c.push.ensures, c.issue.ensures.book) kept;
      roomy = omega (arith, c.put.ensures.capacity, k.roomy);
    }

pub issue-requires-clause-tokens : goal.issue-requires-clause-tokens
issue-requires-clause-tokens g c = ap (λ (v : HopView g.row.T.Denot). v.book.table) c.self.view_is ∙ c.requires.tokens

pub issue-requires-clause-position : goal.issue-requires-clause-position
issue-requires-clause-position g c = c.requires.may.below

pub issue-requires-clause-few : goal.issue-requires-clause-few
issue-requires-clause-few g c = λ n. few_out (view_of c.self.inside) c.self.invariant.kept n

pub push-requires : goal.push-requires
push-requires g c = subst (λ (v : HopView g.row.T.Denot). length v.log.events < v.log.room) (sym c.self.view_is) c.requires.may.room
