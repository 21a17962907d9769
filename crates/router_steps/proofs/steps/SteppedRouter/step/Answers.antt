use Rattle.std.proofs.Common.{false, length, refl, sym, subst, ◌∙◌}
use Rattle.router_node.specs.Node.{GoesThrough}
use Rattle.router_steps.proofs.Trying.{none_moved, was_nothing}
use Rattle.tlm_model.specs.declared.platform.Target.TheVariants.{Router}
use Rattle.node_hops.specs.Steps.{IsByNode}
use Rattle.node_hops.proofs.News.{new_after, new_by}
use Rattle.router_steps.specs.Stepped.{TryAdds}
use Rattle.router_node.specs.Stages.{IsByRouter}
use Rattle.router_steps.proofs.steps.SteppedRouter.step.Goals as goal

pub returns-in-Nothing-clause-waits : goal.returns-in-Nothing-clause-waits
returns-in-Nothing-clause-waits g c = λ q.
    let frame = g.N.Naming.frame in
    let tokens = g.N.Naming.tokens in
    let old = c.loop.self.node in
    let was = c.loop.note in
    let new = c.move_once-tried.new.node in
    let is = c.move_once-tried.result.1 in
    let none : GoesThrough frame tokens false old new was is false =
    was_nothing frame tokens is.knows.known (length new.held.items) new.room (GoesThrough frame tokens false old new was is false) c.move_once-tried.result.0 c.in-Nothing.is c.move_once-tried.ensures.tried in
    record { start = old; before = was.knows; knew = c.loop.invariant.knew; nothing = none_moved frame tokens old new was is none }

pub returns-in-Some-clause-adds : goal.returns-in-Some-clause-adds
returns-in-Some-clause-adds g c = λ q.
    let p = g.N.Naming.frame.world in
    let n = c.args.self.now.node.router in
    new_by (IsByRouter p) (IsByNode p (Router n)) c.args.note.knows.known c.make_due-due.result.1.knows.known (λ e i. i n) c.make_due-due.ensures.adds

pub returns-in-Made-clause-adds : goal.returns-in-Made-clause-adds
returns-in-Made-clause-adds g c = λ q.
    let p = g.N.Naming.frame.world in
    let n = c.args.self.now.node.router in
    let known = c.args.note.knows.known in
    let mid = c.loop.note.knows.known in
    let back = c.move_once-tried.result.1.knows.known in
    let made = subst (TryAdds p mid back) c.in-Made.is c.move_once-tried.ensures.adds in
    new_by (IsByRouter p) (IsByNode p (Router n)) known back (λ e i. i n) (new_after (IsByRouter p) known mid back c.loop.invariant.knew made)

pub returns-in-Nothing-clause-idle : goal.returns-in-Nothing-clause-idle
returns-in-Nothing-clause-idle g c = λ q. c.loop.invariant.due

pub returns-in-Some-clause-first : goal.returns-in-Some-clause-first
returns-in-Some-clause-first g c = λ q. refl

pub returns-in-Made-clause-first : goal.returns-in-Made-clause-first
returns-in-Made-clause-first g c = λ q. refl

pub returns-in-Nothing-clause-first : goal.returns-in-Nothing-clause-first
returns-in-Nothing-clause-first g c = λ q. absurd (q (sym c.take.ensures.value ∙ c.in_default.is))
