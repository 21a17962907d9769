use Rattle.std.proofs.Common.{List, length, subst, ap, ◌∙◌}
use Rattle.tlm_model.specs.declared.platform.InitiatorRow.{InitiatorRow}
use Rattle.tlm_model.specs.declared.platform.Platform.{Platform}
use Rattle.tlm_model.specs.Plan.{Plan}
use Rattle.stepped_actors.specs.Begin.{actors_of}
use Rattle.stepped_actors.specs.declared.actor.SteppedActor.{SteppedActor}
use Rattle.plat_core.specs.NetCore.{AreBegunRounds}
use Rattle.plat_core.proofs.NetBegun.{core_begun}
use Rattle.plat_core.proofs.net_core.NetCore.new.Goals as goal

pub invariant_of-result : goal.invariant_of-result
invariant_of-result g c =
    let n = g.N.Naming in
    let a = c.in_ok-actors in
    let p = c.plan.ensures in
    let rows = c.as_slice-count.result.now in
    let count = length rows in
    let finished = c.in_ok-finished.ensures in
    core_begun n.table n.tokens n.frame a.actors.items c.in_ok-finished.finished.items c.in_ok-rounds.rounds a.note count a.ensures.begun
    (a.ensures.count ∙ ap (λ (x : Plan). actors_of x.platform) p.world) a.ensures.note
    (ap (λ (l : List InitiatorRow). length l) c.as_slice-count.ensures ∙ (ap (λ (x : Platform). length x.initiators) c.platform.ensures.same ∙ ap (λ (x : Plan). length x.platform.initiators) (p.plan ∙ p.world)))
    (subst (λ (l : List SteppedActor). AreBegunRounds l count c.in_ok-rounds.rounds) c.deref.ensures.value c.in_ok-rounds.ensures)
    (finished.items_if_clones_equal (λ y q. q))
