use Rattle.std.proofs.Common.{sym, nat_eq}
use Rattle.traffic_script.proofs.WordLemmas.{before_first-Some, before_first-None}
use Rattle.traffic_script.proofs.words.without_comment.Goals as goal

pub returns-in-Some : goal.returns-in-Some
returns-in-Some c = before_first-Some (λ b. nat_eq b 35) c.args.line.now c.in-Some.place (sym c.in-Some.ensures)

pub returns-in-None : goal.returns-in-None
returns-in-None c = before_first-None (λ b. nat_eq b 35) c.args.line.now (sym c.in-None.ensures)
