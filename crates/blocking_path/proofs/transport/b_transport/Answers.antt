use Rattle.std.proofs.Common.{◌<◌, length, subst, ◌∙◌}
use Rattle.tlm_model.specs.Plan.{Plan}
use Rattle.plat_net.specs.Calls.{HasNoPassage}
use Rattle.plat_net.proofs.WalkLemmas.{leads_to_memory}
use Rattle.blocking_path.proofs.transport.b_transport.Goals as goal

pub b_transport_along-requires-clause-memory : goal.b_transport_along-requires-clause-memory
b_transport_along-requires-clause-memory g c =
    subst (λ (p : Plan). c.in-Some.route.memory < length p.platform.memories) (c.plan.ensures.plan ∙ c.plan.ensures.world) (leads_to_memory c.plan.result.now c.args.who c.address.result c.in-Some.route c.in-Some.ensures)

pub b_transport_along-requires-clause-passage : goal.b_transport_along-requires-clause-passage
b_transport_along-requires-clause-passage g c = subst (λ (p : Plan). HasNoPassage p c.args.txn) c.plan.ensures.world c.requires.passage
