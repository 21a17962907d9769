use Rattle.command_words.specs.Words.{joined}
use Rattle.command_words.specs.Commands.{texts}
use Rattle.command_words.proofs.ShapeFits.{fits_just_gens, fits_just_runs}
use Rattle.command_words.proofs.shape.seen_in.Goals as goal

pub loop-word-init : goal.loop-word-init
loop-word-init c =
    let nothing = c.default-seen.ensures in
    let words = joined (texts c.args.words.now) in
    record {
      for_run = rw (nothing.0, nothing.1.1.0, nothing.1.1.1) (fits_just_runs words);
      for_gen = rw (nothing.0, nothing.1.1.0, nothing.1.1.1) (fits_just_gens words);
    }
