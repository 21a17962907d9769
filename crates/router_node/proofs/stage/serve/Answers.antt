use Rattle.std.proofs.Common.{◌+◌}
use Rattle.router_node.proofs.ByReturn.{by_memory}
use Rattle.router_moves.proofs.Hops.{on_plan}
use Rattle.router_node.proofs.stage.serve.Goals as goal

pub memory_behind-requires : goal.memory_behind-requires
memory_behind-requires g c =
    let b = c.requires.begun in
    let h = b.held in
    on_plan g.N.Naming.frame.world c.args.held.txn b.pass (b.hop + 1) c.args.held.below h.passes h.next h.below

pub unreachable-requires : goal.unreachable-requires
unreachable-requires g c =
    let r = c.in_default.ensures.router in
    by_memory g.N.Naming.frame g.N.Naming.tokens c.args.note.knows.known c.in_default.ensures.shape c.args.held c.args.begun c.requires.begun r.0 r.1

pub serve_below-back-requires-clause-note : goal.serve_below-back-requires-clause-note
serve_below-back-requires-clause-note g c = c.requires.note

pub serve_below-back-requires-clause-begun : goal.serve_below-back-requires-clause-begun
serve_below-back-requires-clause-begun g c = c.requires.begun

pub returns-clause-note : goal.returns-clause-note
returns-clause-note g c = c.serve_below-back.ensures.note

pub returns-clause-knew : goal.returns-clause-knew
returns-clause-knew g c = c.serve_below-back.ensures.knew

pub returns-clause-below : goal.returns-clause-below
returns-clause-below g c = c.serve_below-back.ensures.below

pub turn_up-response-requires-clause-settled : goal.turn_up-response-requires-clause-settled
turn_up-response-requires-clause-settled g c = c.requires.settled.owed

pub turn_up-response-requires-clause-back : goal.turn_up-response-requires-clause-back
turn_up-response-requires-clause-back g c = c.serve_below-back.ensures.served.back

pub returns-clause-adds : goal.returns-clause-adds
returns-clause-adds g c = record { memory = c.in-Some.memory; there = c.in-Some.ensures.there; added = c.serve_below-back.ensures.adds }
