use Rattle.std.proofs.Common.{◌≡◌, ◌≤◌, length}
use Rattle.traffic_script.specs.Words.{words_of}
use Rattle.traffic_script.proofs.words.without_blanks.Given as goal

abbrev pub invariant-loop-rest : goal.invariant-loop-rest
invariant-loop-rest l = record {
  same : words_of l.rest ≡ words_of l.text;
  shorter : length l.rest ≤ length l.text;
}

abbrev pub decreases-loop-rest : goal.decreases-loop-rest
decreases-loop-rest l = length l.rest
