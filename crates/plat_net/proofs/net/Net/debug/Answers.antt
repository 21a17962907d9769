use Rattle.std.proofs.Common.{◌<◌, length, subst}
use Rattle.tlm_model.specs.Plan.{Plan}
use Rattle.plat_net.proofs.WalkLemmas.{leads_to_memory}
use Rattle.plat_net.proofs.net.Net.debug.Goals as goal

pub call_memory-payload-requires-clause-memory : goal.call_memory-payload-requires-clause-memory
call_memory-payload-requires-clause-memory g c =
    subst (λ (p : Plan). c.in-Some.route.memory < length p.platform.memories) c.plan.ensures.plan (leads_to_memory c.plan.result.now c.args.who c.address.result c.in-Some.route c.in-Some.ensures)
