use Rattle.flow_model.proofs.CallLemmas.{follows}
use Rattle.flow_model.proofs.ExclusionLemmas.{exclusive}
use Rattle.flow_model.proofs.RuleLemmas.{keeps_rules}
use Rattle.flow_model.specs.Events.{entries}
use Rattle.hop_object.specs.Hops.{board_of, reached_of, rules_of}
use Rattle.hop_object.proofs.laws.logs_keep_the_protocol.Goals as goal

pub returns : goal.returns
returns g c = record {
  phases = λ hop f once. follows (rules_of hop) (entries hop.log.events) (board_of hop) (reached_of hop f) once;
  exclusive = λ hop f once. exclusive (rules_of hop) (entries hop.log.events) (board_of hop) (reached_of hop f) once;
  rules = λ hop f once. keeps_rules (rules_of hop) (entries hop.log.events) (board_of hop) (reached_of hop f) once;
}
