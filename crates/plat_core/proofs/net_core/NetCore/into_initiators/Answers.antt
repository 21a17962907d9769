use Rattle.std.proofs.Common.{◌≡◌, ap, length, take, vec_len, ◌∙◌, arith}
use Rattle.plat_core.specs.Core.{all_true}
use Rattle.plat_core.specs.NetCore.{NetView}
use Rattle.plat_core.proofs.NetEnding.{have_to_leave}
use Rattle.plat_core.proofs.net_core.NetCore.into_initiators.Goals as goal

pub returns-clause-leave : goal.returns-clause-leave
returns-clause-leave g c =
    let n = g.N.Naming in
    let v = c.self.inside in
    let ok = v.finished.ok.0 in
    let long : vec_len v.finished ≡ length v.finished.items = omega (arith, ok) in
    have_to_leave n.table n.tokens n.frame (record { actors = v.actors.items; finished = v.finished.items; rounds = v.rounds; note = v.note }) v.made c.in-Some.note c.truncate.new.self.items c.self.invariant c.in-Some.is
    (ap (λ (w : NetView). all_true w.finished) c.self.view_is ∙ c.requires)
    (c.truncate.ensures.items ∙ ap (λ k. take k v.actors.items) (c.len.ensures ∙ long))
