use Rattle.std.proofs.Common.{◌≡◌, length, is_some, false, ◌++◌}
use Rattle.std.specs.Option.{option_map_or}
use Rattle.command_words.specs.Words.{gen_of, joined, run_of}
use Rattle.command_words.specs.Commands.{texts}
use Rattle.command_words.specs.Shape.{fits, fits_gen, kinds_of, seen_kinds}
use Rattle.command_words.proofs.shape.seen_in.Given as goal

abbrev pub invariant-loop-word : goal.invariant-loop-word
invariant-loop-word l = record {
  for_run : option_map_or (λ kinds. fits (seen_kinds l.seen ++ kinds)) (kinds_of (joined (texts l.rest))) false
      ≡ is_some (run_of (texts l.words));
  for_gen : option_map_or (λ kinds. fits_gen (seen_kinds l.seen ++ kinds)) (kinds_of (joined (texts l.rest))) false
      ≡ is_some (gen_of (texts l.words));
}

abbrev pub decreases-loop-word : goal.decreases-loop-word
decreases-loop-word l = length l.rest
