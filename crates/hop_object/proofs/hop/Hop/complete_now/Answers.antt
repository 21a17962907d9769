use Rattle.std.proofs.Common.{◌≡◌, ◌≤◌, true, sym, ap, subst, ◌∙◌, arith}
use Rattle.tlm_types.specs.declared.words.TlmSync.TheVariants.{Completed}
use Rattle.hop_object.specs.View.{HopView}
use Rattle.hop_object.specs.Inside.{view_of}
use Rattle.hop_object.specs.Hops.{can_begin, begin_answer, MayCall}
use Rattle.hop_object.proofs.Keeps.{kept_passed}
use Rattle.hop_object.proofs.hop.Hop.complete_now.Goals as goal

pub invariant_of-self : goal.invariant_of-self
invariant_of-self g c =
    let v = view_of c.self.inside in
    let p = c.args.position in
    let k = c.self.invariant in
    let may : MayCall v p = subst (λ (w : HopView g.row.T.Denot). MayCall w p) (sym c.self.view_is) c.requires.may in
    let can : can_begin v ≡ true = ap can_begin c.self.view_is ∙ c.requires.can in
    let is : Completed ≡ begin_answer v = sym (ap begin_answer c.self.view_is ∙ c.requires.answer) in
    let late : v.request_end ≤ c.max-time.result = omega (arith, c.max-time.ensures) in
    let kept = kept_passed v p c.args.txn c.max-time.result k.kept may.past can is late in
    record { kept = rw c.push.ensures kept; roomy = k.roomy }
