use Rattle.std.proofs.Common.{◌≡◌, true, false, ◌∙◌, ap}
use Rattle.clap.specs.Words.{App, app_of, takes}
use Rattle.clap.specs.declared.error.kind.ErrorKind.TheVariants.{OutOfMemory}
use Rattle.command_words.specs.Commands.{texts}
use Rattle.command_words.proofs.RunWords.{run_is_taken}
use Rattle.command_words.proofs.read.run_matches.Goals as goal

pub prove-unreachable-requires : goal.prove-unreachable-requires
prove-unreachable-requires c =
    let words = texts c.args.words.now in
    let taken : takes (app_of c.in_ok-run_parser.field-0) words ≡ true =
    ap (λ (a : App). takes a words) c.in_ok-run_parser.ensures ∙ run_is_taken words c.requires in
    let kind : c.kind.result ≡ OutOfMemory = c.kind.ensures ∙ c.in-Err.ensures.passes taken in
    let no : false ≡ true = rw kind at c.if-prove.ensures in
    absurd (cc)
