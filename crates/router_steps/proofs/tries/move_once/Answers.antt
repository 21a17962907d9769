use Rattle.std.proofs.Common.{false, length, arith}
use Rattle.router_node.specs.Node.{GoesThrough}
use Rattle.router_steps.specs.Stepped.{FetchesNone, MovesNone}
use Rattle.router_steps.proofs.Trying.{goes_by, tried_as, was_nothing}
use Rattle.router_steps.proofs.Adds.{try_after}
use Rattle.router_steps.proofs.tries.move_once.Goals as goal

pub returns-clause-tried : goal.returns-clause-tried
returns-clause-tried g c =
    let frame = g.N.Naming.frame in
    let tokens = g.N.Naming.tokens in
    let old = c.args.node.now in
    let was = c.args.note in
    let mid = c.try_held-tried.new.node in
    let between = c.try_held-tried.result.1 in
    let new = c.try_fetches.new.node in
    let is = c.try_fetches.result.1 in
    let none : MovesNone frame tokens old mid was between =
    was_nothing frame tokens between.knows.known (length mid.held.items) mid.room (MovesNone frame tokens old mid was between) c.try_held-tried.result.0 (c.has_moved.ensures.none c.if-has_moved.false) c.try_held-tried.ensures.tried in
    tried_as frame tokens is.knows.known (length new.held.items) new.room new.room (FetchesNone frame tokens mid new between is) (GoesThrough frame tokens false old new was is false) c.try_fetches.result.0 (omega arith)
    (λ f. goes_by frame tokens old mid new was between is none f) c.try_fetches.ensures.tried

pub returns-then-has_moved-clause-adds : goal.returns-then-has_moved-clause-adds
returns-then-has_moved-clause-adds g c = c.try_held-tried.ensures.adds

pub returns-clause-adds : goal.returns-clause-adds
returns-clause-adds g c = try_after g.N.Naming.frame.world c.args.note.knows.known c.try_held-tried.result.1.knows.known c.try_fetches.result.1.knows.known c.try_fetches.result.0 c.try_held-tried.ensures.knew c.try_fetches.ensures.adds
