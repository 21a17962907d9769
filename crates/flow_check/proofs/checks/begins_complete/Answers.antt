use Rattle.std.proofs.Common.{[], ◌∷◌, arith}
use Rattle.tlm_types.specs.declared.words.Phase.TheVariants.{BeginReq}
use Rattle.tlm_types.specs.declared.words.TlmSync.TheVariants.{Completed}
use Rattle.flow_check.proofs.CheckLemmas.{too_long}
use Rattle.flow_check.proofs.checks.begins_complete.Goals as goal

pub returns-in_default-3 : goal.returns-in_default-3
returns-in_default-3 c = let l = c.in_default.len_at_least in too_long ((BeginReq, Completed) ∷ []) c.args.calls.now (omega arith)
