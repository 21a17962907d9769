use Rattle.router_node.proofs.Staged.{settled}
use Rattle.router_node.proofs.stage.settle.Goals as goal

pub returns-clause-settled : goal.returns-clause-settled
returns-clause-settled g c = settled g.N.Naming.frame g.N.Naming.tokens c.args.note.knows.known c.end_above.result.1.knows.known c.end_above.ensures.knew c.args.held c.args.at c.end_above.result.0 c.requires.gone c.end_above.ensures.ended

pub returns-then-is_none-clause-note : goal.returns-then-is_none-clause-note
returns-then-is_none-clause-note g c = c.requires.note

pub returns-then-is_none-clause-knew : goal.returns-then-is_none-clause-knew
returns-then-is_none-clause-knew g c = λ x has. has

pub returns-then-is_none-clause-below : goal.returns-then-is_none-clause-below
returns-then-is_none-clause-below g c = c.requires.below

pub end_above-requires-clause-note : goal.end_above-requires-clause-note
end_above-requires-clause-note g c = c.requires.note

pub end_above-requires-clause-gone : goal.end_above-requires-clause-gone
end_above-requires-clause-gone g c = c.requires.gone

pub returns-clause-note : goal.returns-clause-note
returns-clause-note g c = c.end_above.ensures.note

pub returns-clause-knew : goal.returns-clause-knew
returns-clause-knew g c = c.end_above.ensures.knew

pub returns-clause-below : goal.returns-clause-below
returns-clause-below g c = c.end_above.ensures.below
