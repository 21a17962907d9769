use Rattle.router_node.proofs.Staged.{ends_above}
use Rattle.std.proofs.Common.{Option, sym, subst}
use Rattle.std.specs.Prelude.{IfSome}
use Rattle.router_node.specs.Stages.{WasReleased}
use Rattle.router_moves.specs.declared.items.Rest.{Rest}
use Rattle.router_moves.proofs.Grown.{finds_more}
use Rattle.router_node.proofs.stage.finish_away.Goals as goal

pub finish_below-requires-clause-ended : goal.finish_below-requires-clause-ended
finish_below-requires-clause-ended g c =
    let known = c.args.note.knows.known in
    ends_above g.N.Naming.frame g.N.Naming.tokens known known (λ x has. has) c.args.away c.in-Some.rest c.requires.away c.in-Some.is c.requires.ended

pub returns-in_default-clause-note : goal.returns-in_default-clause-note
returns-in_default-clause-note g c = c.requires.note

pub returns-in_default-clause-knew : goal.returns-in_default-clause-knew
returns-in_default-clause-knew g c = λ x has. has

pub returns-in_default-clause-below : goal.returns-in_default-clause-below
returns-in_default-clause-below g c = c.requires.below

pub returns-in_default-clause-ended : goal.returns-in_default-clause-ended
returns-in_default-clause-ended g c = record { above = c.requires.ended; below = subst (λ (o : Option Rest). IfSome o (λ (r : Rest). WasReleased g.N.Naming.frame c.args.note.knows.known r.txn)) (sym c.in_default.is) tt }

pub finish_below-requires-clause-note : goal.finish_below-requires-clause-note
finish_below-requires-clause-note g c = c.requires.note

pub returns-clause-note : goal.returns-clause-note
returns-clause-note g c = c.finish_below.ensures.note

pub returns-clause-knew : goal.returns-clause-knew
returns-clause-knew g c = c.finish_below.ensures.knew

pub returns-clause-below : goal.returns-clause-below
returns-clause-below g c = c.finish_below.ensures.below

pub returns-clause-ended : goal.returns-clause-ended
returns-clause-ended g c =
    let known = c.args.note.knows.known in
    let more = c.finish_below.result.knows.known in
    record {
      above = finds_more g.N.Naming.frame.world known more c.finish_below.ensures.knew c.requires.ended;
      below = subst (λ (o : Option Rest). IfSome o (λ (r : Rest). WasReleased g.N.Naming.frame more r.txn)) (sym c.in-Some.is) c.finish_below.ensures.released;
    }
