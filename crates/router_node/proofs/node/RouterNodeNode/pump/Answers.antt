use Rattle.std.proofs.Common.{sym, subst}
use Rattle.router_node.specs.Node.{HasPumped}
use Rattle.node_hops.specs.declared.node.Pumped.{Pumped}
use Rattle.router_node.proofs.Pumps.{has_pumped}
use Rattle.router_node.proofs.node.RouterNodeNode.pump.Goals as goal

pub returns-clause-pumped : goal.returns-clause-pumped
returns-clause-pumped g c =
    let frame = g.N.Naming.frame in
    let tokens = g.N.Naming.tokens in
    let new = c.go_on-moved.new.self in
    let is = c.go_on-moved.result.1 in
    subst (λ (a : Pumped). HasPumped frame tokens c.args.self.now new c.args.note is a) (sym c.pumped_by.ensures) (has_pumped frame tokens c.args.self.now new c.args.note is c.go_on-moved.result.0 c.go_on-moved.ensures.gone)

pub go_on-moved-requires-clause-router : goal.go_on-moved-requires-clause-router
go_on-moved-requires-clause-router g c = c.requires.node

pub go_on-moved-requires-clause-note : goal.go_on-moved-requires-clause-note
go_on-moved-requires-clause-note g c = c.requires.note

pub go_on-moved-requires-clause-below : goal.go_on-moved-requires-clause-below
go_on-moved-requires-clause-below g c = c.requires.below

pub returns-clause-node : goal.returns-clause-node
returns-clause-node g c = c.go_on-moved.ensures.router

pub returns-clause-note : goal.returns-clause-note
returns-clause-note g c = c.go_on-moved.ensures.note

pub returns-clause-knew : goal.returns-clause-knew
returns-clause-knew g c = c.go_on-moved.ensures.knew

pub returns-clause-below : goal.returns-clause-below
returns-clause-below g c = c.go_on-moved.ensures.below
