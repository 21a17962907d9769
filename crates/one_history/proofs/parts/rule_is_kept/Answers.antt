use Rattle.one_history.proofs.Statements.{is_kept}
use Rattle.one_history.proofs.parts.rule_is_kept.Goals as goal

pub returns : goal.returns
returns g c key s h = is_kept g.W.Law.backs key s h.log h.counted h.gated
