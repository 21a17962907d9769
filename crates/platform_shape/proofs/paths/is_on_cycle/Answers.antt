use Rattle.platform_shape.proofs.PathLemmas.{cycle_found, cycle_past}
use Rattle.platform_shape.proofs.paths.is_on_cycle.Goals as goal

pub returns-in-Some : goal.returns-in-Some
returns-in-Some c =
    cycle_found c.args.platform.now c.args.number c.in-Some.router.now c.as_slice-routers.result.now c.walks_on.result c.as_slice-routers.ensures c.in-Some.ensures.lookup.3.0 c.in-Some.ensures.lookup.1 c.walks_on.ensures

pub returns : goal.returns
returns c = cycle_past c.args.platform.now c.args.number c.as_slice-routers.result.now c.as_slice-routers.ensures c.in-None.ensures.lookup.3
