use Rattle.region_object.proofs.DirectLemmas.{direct_is_ok}
use Rattle.region_object.proofs.laws.direct_accesses_are_ok.Goals as goal

pub returns : goal.returns
returns c m gate p some allows log fit = direct_is_ok m gate p some allows log fit
