use Rattle.std.proofs.Common.{[], ◌∷◌, arith}
use Rattle.tlm_types.specs.declared.words.Phase.TheVariants.{BeginResp, EndResp}
use Rattle.tlm_types.specs.declared.words.TlmSync.TheVariants.{Accepted, Completed}
use Rattle.flow_check.proofs.CheckLemmas.{too_long}
use Rattle.flow_check.proofs.checks.begins_called.Goals as goal

pub returns-in_default-7 : goal.returns-in_default-7
returns-in_default-7 c = let l = c.in_default.len_at_least in too_long ((BeginResp, Accepted) ∷ (EndResp, Completed) ∷ []) c.args.calls.now (omega arith)
