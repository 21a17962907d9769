use Rattle.std.proofs.Common.{[], ◌∷◌, arith}
use Rattle.tlm_types.specs.declared.words.Phase.TheVariants.{BeginResp, EndResp}
use Rattle.tlm_types.specs.declared.words.TlmSync.TheVariants.{Updated}
use Rattle.flow_check.proofs.CheckLemmas.{too_long}
use Rattle.flow_check.proofs.checks.begins_updated.Goals as goal

pub returns-in_default-4 : goal.returns-in_default-4
returns-in_default-4 c = let l = c.in_default.len_at_least in too_long ((BeginResp, Updated EndResp) ∷ []) c.args.calls.now (omega arith)
