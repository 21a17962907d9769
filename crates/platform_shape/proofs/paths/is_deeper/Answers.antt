use Rattle.platform_shape.proofs.PathLemmas.{deeper_counted}
use Rattle.platform_shape.proofs.paths.is_deeper.Goals as goal

pub returns : goal.returns
returns c = deeper_counted c.args.most c.args.platform.now c.args.from c.in_ok-longer.longer c.in_ok-longer.ensures
