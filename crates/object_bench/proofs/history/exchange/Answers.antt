use Rattle.std.proofs.Common.{rules}
use Rattle.view_lists.specs.Lists.{Has}
use Rattle.one_history.specs.declared.entry.Sign.TheVariants.{Plain}
use Rattle.one_history.specs.Moves.{number_of, entry}
use Rattle.object_bench.proofs.history.exchange.Goals as goal

pub returns-clause-see : goal.returns-clause-see
returns-clause-see g c =
    let told : Has c.join-first.result.1.1.knows.known (entry c.join-first.result.1.2 (number_of c.args.two.0.knows) Plain 7) = search rules in
    let tells : Has c.join-first.result.0.1.knows.known (entry c.join-first.result.0.2 (number_of c.args.one.0.knows) Plain 7) = search rules in
    (c.meet-seat.ensures.known (entry c.join-first.result.1.2 (number_of c.args.two.0.knows) Plain 7) told, c.meet-other.ensures.known (entry c.join-first.result.0.2 (number_of c.args.one.0.knows) Plain 7) tells)
