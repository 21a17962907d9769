use Rattle.std.proofs.Common.{◌+◌, ◌<◌, length, sym, arith}
use Rattle.std.proofs.lemmas.Bool.Decides.{nat_tests}
use Rattle.traffic_script.proofs.Parts.{rest_is}
use Rattle.traffic_script.proofs.LineLemmas.{lines-first, lines-last}
use Rattle.traffic_script.proofs.lines.first_line.Goals as goal

pub returns-in-Some-clause-lines : goal.returns-in-Some-clause-lines
returns-in-Some-clause-lines c =
    rw (rest_is c.args.text.now (c.in-Some.place + 1), c.without_return.ensures) (lines-first c.args.text.now c.in-Some.place (sym c.in-Some.ensures))

pub returns-in-None-clause-lines : goal.returns-in-None-clause-lines
returns-in-None-clause-lines c =
    let test = c.if-is_empty.ensures in
    let some : 0 < length c.args.text.now = grind (arith, nat_tests) in
    lines-last c.args.text.now some (sym c.in-None.ensures)
