-- Each beginning of a history with the points of grants has them.
use Rattle.tlm_model.proofs.EachLemmas.{AtEach-front}
use Rattle.good_history.specs.GrantLaws.{HasGrantBeginnings}

pub grant_beginnings : HasGrantBeginnings
grant_beginnings p h m k = record {
  gates = AtEach-front _ h m k.gates;
  wholes = AtEach-front _ h m k.wholes;
  asked = AtEach-front _ h m k.asked;
  answered = AtEach-front _ h m k.answered;
  uses = AtEach-front _ h m k.uses;
  ways = AtEach-front _ h m k.ways;
  closings = AtEach-front _ h m k.closings;
  returns = AtEach-front _ h m k.returns;
}
