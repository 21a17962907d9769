use Rattle.std.proofs.Common.{rules, ◌≡◌, refl, codes, ◌∙◌, ap, option_map}
use Rattle.clap.specs.Words.{found_of, rows_of}
use Rattle.clap.proofs.WalkLemmas.{first_value-rows}
use Rattle.command_words.specs.Commands.{line_of, texts}
use Rattle.command_words.proofs.RunWords.{gen_in_rows, gen_is_read, gen_is_run}
use Rattle.command_words.proofs.read.read_gen.Goals as goal

pub run_matches-requires : goal.run_matches-requires
run_matches-requires c = gen_is_run (texts c.args.words.now) (search rules)

pub returns-clause-read : goal.returns-clause-read
returns-clause-read c =
    let found = found_of c.in_ok-matches.matches in
    let by_rows : option_map line_of c.gen_command.result ≡ gen_in_rows (rows_of found) =
    c.gen_command.ensures.command
    ∙ rw (first_value-rows found (codes "file"), first_value-rows found (codes "workers")) refl in
    let words = texts c.args.words.now in
    by_rows ∙ ap gen_in_rows c.in_ok-matches.ensures ∙ gen_is_read words (search rules)
