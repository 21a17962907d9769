use Rattle.std.proofs.Common.{◌≡◌, length}
use Rattle.traffic_script.specs.Words.{words_of}
use Rattle.traffic_script.specs.Options.{no_options, with_options}
use Rattle.traffic_script.proofs.options.read_options.Given as goal

abbrev pub invariant-loop-word : goal.invariant-loop-word
invariant-loop-word l = with_options l.options (words_of l.rest) ≡ with_options no_options (words_of l.words)

abbrev pub decreases-loop-word : goal.decreases-loop-word
decreases-loop-word l = length l.rest
