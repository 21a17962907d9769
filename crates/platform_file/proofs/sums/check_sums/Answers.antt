use Rattle.platform_model.specs.declared.fault.PlatformFault.TheVariants as fault
use Rattle.platform_file.proofs.Chains.{returned}
use Rattle.platform_file.proofs.sums.check_sums.Goals as goal

pub returns-in_err-sizes : goal.returns-in_err-sizes
returns-in_err-sizes c = returned _ fault.Memory _ c.from_residual.ensures.1 tt

pub returns-in_err-gates : goal.returns-in_err-gates
returns-in_err-gates c = returned _ fault.Memory _ c.from_residual-in_err-gates.ensures.1 tt
