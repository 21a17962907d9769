use Rattle.std.proofs.Common.{ap, ◌∙◌, length, nat_lt}
use Rattle.platform_shape.specs.Paths.{paths_to}
use Rattle.platform_shape.specs.Walks.{seen}
use Rattle.platform_shape.proofs.PathLemmas.{twice_counted}
use Rattle.platform_shape.proofs.paths.leads_twice.Goals as goal

pub returns : goal.returns
returns c =
    twice_counted (length c.as_slice-windows.result.now) c.args.platform.now c.args.from c.args.to c.in_ok-paths.paths c.in_ok-paths.ensures
    ∙ ap (λ rows. nat_lt 1 (paths_to (length rows) c.args.platform.now c.args.from (seen c.args.to))) c.as_slice-windows.ensures
