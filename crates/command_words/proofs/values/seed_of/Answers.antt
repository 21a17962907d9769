use Rattle.std.proofs.Common.{◌≡◌, false, true, sym, ◌∙◌, ap, rules}
use Rattle.std.proofs.lemmas.Slice.Eq.{bytes_eq-Decides}
use Rattle.std.specs.Fmt.{decimal}
use Rattle.command_words.proofs.Seeds.{no_seed, printed_is_seed, seed_is_parsed, seed_is_printed}
use Rattle.command_words.proofs.values.seed_of.Goals as goal

pub returns-in_default : goal.returns-in_default
returns-in_default c = no_seed c.args.word.now (λ n e.
    let is = seed_is_parsed c.args.word.now n c.parse.result e c.parse.ensures.value.0 in
    c.in_default.not-Ok n is)

pub returns-then-eq : goal.returns-then-eq
returns-then-eq c =
    let same = (bytes_eq-Decides c.format.result.now c.args.word.now).0 (sym c.eq.ensures ∙ c.if-eq.true) in
    printed_is_seed c.args.word.now c.in-Ok.seed (search rules) (sym same ∙ c.format.ensures.text)

pub returns-else-eq : goal.returns-else-eq
returns-else-eq c = no_seed c.args.word.now (λ n e.
    let is = sym c.in-Ok.is ∙ seed_is_parsed c.args.word.now n c.parse.result e c.parse.ensures.value.0 in
    let seed : c.in-Ok.seed ≡ n = cc in
    let printed = (seed_is_printed c.args.word.now n e).is in
    let same = (bytes_eq-Decides c.format.result.now c.args.word.now).1 (c.format.ensures.text ∙ ap decimal seed ∙ sym printed) in
    let wrong : false ≡ true = sym c.if-eq.false ∙ c.eq.ensures ∙ same in cc)
