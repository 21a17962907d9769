use Rattle.std.proofs.Common.{sym, subst}
use Rattle.node_hops.specs.Steps.{HasNew}
use Rattle.stepped_actors.specs.declared.actor.SteppedActor.{SteppedActor}
use Rattle.stepped_actors.specs.declared.actor.SteppedActor.TheVariants.{Router, Memory}
use Rattle.stepped_actors.specs.Actors.{IsMadeBy}
use Rattle.stepped_actors.specs.Made.{IsStepOf}
use Rattle.stepped_actors.proofs.actor.SteppedActor.step.Goals as goal

pub returns-in-Router-clause-adds : goal.returns-in-Router-clause-adds
returns-in-Router-clause-adds g c =
    λ made. subst (λ (a : SteppedActor). HasNew (IsMadeBy g.N.Naming.frame.world a) c.args.note.knows.known c.step-in-Router.result.1.knows.known) (sym c.in-Router.is) (c.step-in-Router.ensures.adds made)

pub returns-in-Memory-clause-adds : goal.returns-in-Memory-clause-adds
returns-in-Memory-clause-adds g c =
    λ made. subst (λ (a : SteppedActor). HasNew (IsMadeBy g.N.Naming.frame.world a) c.args.note.knows.known c.step-in-Memory.result.1.knows.known) (sym c.in-Memory.is) (c.step-in-Memory.ensures.adds made)

pub returns-in-Router-clause-made : goal.returns-in-Router-clause-made
returns-in-Router-clause-made g c =
    λ made. subst (λ (a : SteppedActor). HasNew (IsStepOf g.N.Naming.frame.world a (Router c.step-in-Router.new.self)) c.args.note.knows.known c.step-in-Router.result.1.knows.known) (sym c.in-Router.is) (c.step-in-Router.ensures.adds made)

pub returns-in-Memory-clause-made : goal.returns-in-Memory-clause-made
returns-in-Memory-clause-made g c =
    λ made. subst (λ (a : SteppedActor). HasNew (IsStepOf g.N.Naming.frame.world a (Memory c.step-in-Memory.new.self)) c.args.note.knows.known c.step-in-Memory.result.1.knows.known) (sym c.in-Memory.is) (c.step-in-Memory.ensures.adds made)
