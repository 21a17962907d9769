use Rattle.std.proofs.Common.{◌+◌, ◌<◌, length, sym, ◌∙◌, arith}
use Rattle.std.proofs.lemmas.Bool.Decides.{nat_tests}
use Rattle.traffic_script.proofs.Parts.{rest_is}
use Rattle.traffic_script.proofs.WordLemmas.{words_of-first, words_of-last}
use Rattle.traffic_script.proofs.words.first_word.Goals as goal

pub returns-in-Some-clause-words : goal.returns-in-Some-clause-words
returns-in-Some-clause-words c =
    let text = c.without_blanks-text.result.now in
    let test = c.if-is_empty.ensures in
    let some : 0 < length text = grind (arith, nat_tests) in
    rw (rest_is text (c.in-Some.end + 1)) (sym c.without_blanks-text.ensures.same ∙ words_of-first text c.in-Some.end some (c.without_blanks-text.ensures.first some) (sym c.in-Some.ensures))

pub returns-in-None-clause-words : goal.returns-in-None-clause-words
returns-in-None-clause-words c =
    let text = c.without_blanks-text.result.now in
    let test = c.if-is_empty.ensures in
    let some : 0 < length text = grind (arith, nat_tests) in
    sym c.without_blanks-text.ensures.same ∙ words_of-last text some (sym c.in-None.ensures)
