use Rattle.router_node.proofs.Pumps.{at_once, once_more}
use Rattle.node_hops.proofs.Looks.{within_on}
use Rattle.router_node.proofs.node.RouterNode.go_on.Goals as goal

pub returns-then-moved-clause-gone : goal.returns-then-moved-clause-gone
returns-then-moved-clause-gone g c =
    at_once g.N.Naming.frame g.N.Naming.tokens c.args.self.now c.go_through-moved.new.self c.args.note c.go_through-moved.result.1 c.go_through-moved.result.0 c.if-moved.true c.go_through-moved.ensures.gone

pub returns-clause-gone : goal.returns-clause-gone
returns-clause-gone g c =
    once_more g.N.Naming.frame g.N.Naming.tokens c.args.self.now c.go_through.new.self c.args.note c.go_through.result.1 c.go_through-moved.new.self c.go_through-moved.result.1 c.go_through-moved.result.0 c.go_through.result.0 c.if-moved.false c.go_through-moved.ensures.gone
    c.go_through.ensures.gone

pub go_through-moved-requires-clause-router : goal.go_through-moved-requires-clause-router
go_through-moved-requires-clause-router g c = c.requires.router

pub go_through-moved-requires-clause-note : goal.go_through-moved-requires-clause-note
go_through-moved-requires-clause-note g c = c.requires.note

pub go_through-moved-requires-clause-below : goal.go_through-moved-requires-clause-below
go_through-moved-requires-clause-below g c = c.requires.below

pub returns-then-moved-clause-router : goal.returns-then-moved-clause-router
returns-then-moved-clause-router g c = c.go_through-moved.ensures.router

pub returns-then-moved-clause-note : goal.returns-then-moved-clause-note
returns-then-moved-clause-note g c = c.go_through-moved.ensures.note

pub returns-then-moved-clause-knew : goal.returns-then-moved-clause-knew
returns-then-moved-clause-knew g c = c.go_through-moved.ensures.knew

pub returns-then-moved-clause-below : goal.returns-then-moved-clause-below
returns-then-moved-clause-below g c = c.go_through-moved.ensures.below

pub go_through-requires-clause-router : goal.go_through-requires-clause-router
go_through-requires-clause-router g c = c.go_through-moved.ensures.router

pub go_through-requires-clause-note : goal.go_through-requires-clause-note
go_through-requires-clause-note g c = c.go_through-moved.ensures.note

pub go_through-requires-clause-below : goal.go_through-requires-clause-below
go_through-requires-clause-below g c = c.go_through-moved.ensures.below

pub returns-clause-router : goal.returns-clause-router
returns-clause-router g c = c.go_through.ensures.router

pub returns-clause-note : goal.returns-clause-note
returns-clause-note g c = c.go_through.ensures.note

pub returns-clause-below : goal.returns-clause-below
returns-clause-below g c = c.go_through.ensures.below

pub returns-clause-knew : goal.returns-clause-knew
returns-clause-knew g c = within_on c.args.note.knows.known c.go_through-moved.result.1.knows.known c.go_through.result.1.knows.known c.go_through-moved.ensures.knew c.go_through.ensures.knew
