use Rattle.std.proofs.Common.{rules, ◌≡◌, refl, codes, ◌∙◌, ap, option_map}
use Rattle.clap.specs.Words.{found_of, rows_of}
use Rattle.clap.proofs.WalkLemmas.{first_value-rows}
use Rattle.command_words.specs.Commands.{line_of, texts}
use Rattle.command_words.proofs.RunWords.{run_in_rows, run_is_read}
use Rattle.command_words.proofs.read.read_run.Goals as goal

pub returns-clause-read : goal.returns-clause-read
returns-clause-read c =
    let found = found_of c.in_ok-matches.matches in
    let by_rows : option_map line_of c.run_command.result ≡ run_in_rows (rows_of found) =
    c.run_command.ensures.command
    ∙ rw (first_value-rows found (codes "file"), first_value-rows found (codes "workers"), first_value-rows found (codes "trace")) refl in
    let words = texts c.args.words.now in
    by_rows ∙ ap run_in_rows c.in_ok-matches.ensures ∙ run_is_read words (search rules)
