use Rattle.std.proofs.Common.{false, length, arith}
use Rattle.router_node.specs.Node.{HasSwept}
use Rattle.router_steps.specs.Stepped.{MovesNone}
use Rattle.router_node.specs.declared.stage.Step.TheVariants.{End, Send, Pass}
use Rattle.router_steps.proofs.Trying.{tried_as, was_nothing}
use Rattle.router_steps.proofs.Adds.{try_after}
use Rattle.node_hops.proofs.Looks.{within_on}
use Rattle.router_steps.proofs.tries.try_held.Goals as goal

pub returns-clause-tried : goal.returns-clause-tried
returns-clause-tried g c =
    let frame = g.N.Naming.frame in
    let tokens = g.N.Naming.tokens in
    let old = c.args.node.now in
    let was = c.args.note in
    let ended = c.try_step-tried.new.node in
    let after_end = c.try_step-tried.result.1 in
    let sent = c.try_step-tried-2.new.node in
    let after_send = c.try_step-tried-2.result.1 in
    let new = c.try_step.new.node in
    let is = c.try_step.result.1 in
    let ends : HasSwept frame tokens false End old ended was.knows after_end.knows false =
    was_nothing frame tokens after_end.knows.known (length ended.held.items) ended.room (HasSwept frame tokens false End old ended was.knows after_end.knows false) c.try_step-tried.result.0 (c.has_moved.ensures.none c.if-has_moved.false) c.try_step-tried.ensures.tried in
    let sends : HasSwept frame tokens false Send ended sent after_end.knows after_send.knows false =
    was_nothing frame tokens after_send.knows.known (length sent.held.items) sent.room (HasSwept frame tokens false Send ended sent after_end.knows after_send.knows false) c.try_step-tried-2.result.0 (c.has_moved-2.ensures.none c.if-has_moved-2.false) c.try_step-tried-2.ensures.tried in
    tried_as frame tokens is.knows.known (length new.held.items) new.room new.room (HasSwept frame tokens false Pass sent new after_send.knows is.knows false) (MovesNone frame tokens old new was is) c.try_step.result.0 (omega arith)
    (λ s. record { ended = ended; after_end = after_end; end_all = ends; sent = sent; after_send = after_send; send_all = sends; pass_all = s }) c.try_step.ensures.tried

pub returns-then-has_moved-clause-adds : goal.returns-then-has_moved-clause-adds
returns-then-has_moved-clause-adds g c = c.try_step-tried.ensures.adds

pub returns-then-has_moved-2-clause-adds : goal.returns-then-has_moved-2-clause-adds
returns-then-has_moved-2-clause-adds g c = try_after g.N.Naming.frame.world c.args.note.knows.known c.try_step-tried.result.1.knows.known c.try_step-tried-2.result.1.knows.known c.try_step-tried-2.result.0 c.try_step-tried.ensures.knew c.try_step-tried-2.ensures.adds

pub returns-clause-adds : goal.returns-clause-adds
returns-clause-adds g c =
    let known = c.args.note.knows.known in
    let mid = c.try_step-tried-2.result.1.knows.known in
    try_after g.N.Naming.frame.world known mid c.try_step.result.1.knows.known c.try_step.result.0 (within_on known c.try_step-tried.result.1.knows.known mid c.try_step-tried.ensures.knew c.try_step-tried-2.ensures.knew) c.try_step.ensures.adds
