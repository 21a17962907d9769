use Rattle.std.proofs.Common.{ap, ◌∙◌, length}
use Rattle.tlm_model.specs.declared.platform.Target.TheVariants.{Memory}
use Rattle.platform_shape.specs.declared.walks.Component.TheVariants as component
use Rattle.platform_shape.specs.Paths.{reaches}
use Rattle.platform_shape.proofs.PathLemmas.{path_counted}
use Rattle.platform_shape.proofs.paths.has_path_to_memory.Goals as goal

pub returns : goal.returns
returns c =
    path_counted (length c.as_slice-windows.result.now) c.args.platform.now c.args.initiator.now.bind (component.Memory c.args.memory) c.in_ok-paths.paths c.in_ok-paths.ensures
    ∙ ap (λ rows. reaches (length rows) c.args.platform.now c.args.initiator.now.bind (Memory c.args.memory)) c.as_slice-windows.ensures
