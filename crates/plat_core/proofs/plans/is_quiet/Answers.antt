use Rattle.std.proofs.Common.{sym, subst}
use Rattle.plat_core.proofs.QuietLemmas.{IsQuiet, quiet_written, written_quiet}
use Rattle.plat_core.proofs.plans.is_quiet.Goals as goal

pub returns : goal.returns
returns c = (
  λ yes. subst IsQuiet c.pieces.ensures.written (quiet_written c.pieces.result.now (c.is_quiet_by.ensures.0 yes)),
  λ all. c.is_quiet_by.ensures.1 (written_quiet c.pieces.result.now (subst IsQuiet (sym c.pieces.ensures.written) all)),
)
