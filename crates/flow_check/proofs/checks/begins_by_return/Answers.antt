use Rattle.std.proofs.Common.{[], ◌∷◌, arith}
use Rattle.tlm_types.specs.declared.words.Phase.TheVariants.{BeginReq, BeginResp, EndResp}
use Rattle.tlm_types.specs.declared.words.TlmSync.TheVariants.{Updated, Completed}
use Rattle.flow_check.proofs.CheckLemmas.{too_long}
use Rattle.flow_check.proofs.checks.begins_by_return.Goals as goal

pub returns-in_default-9 : goal.returns-in_default-9
returns-in_default-9 c = let l = c.in_default.len_at_least in too_long ((BeginReq, Updated BeginResp) ∷ (EndResp, Completed) ∷ []) c.args.calls.now (omega arith)
