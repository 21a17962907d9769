use Rattle.std.proofs.Common.{ℕ, suc, Option, Some, ap, subst, ◌∙◌}
use Rattle.tlm_model.specs.declared.platform.Target.TheVariants.{Memory}
use Rattle.node_hops.specs.Steps.{HasNew, IsByNode}
use Rattle.node_hops.specs.declared.node.OneStep.{OneStep}
use Rattle.node_hops.proofs.Looks.{within_on}
use Rattle.node_hops.proofs.News.{new_after}
use Rattle.target_node.specs.Node.{HasTried}
use Rattle.target_node.proofs.Adds.{takes_more}
use Rattle.target_node.proofs.node.TargetNode.step.Goals as goal

pub returns-in-Some-tried-clause-adds : goal.returns-in-Some-tried-clause-adds
returns-in-Some-tried-clause-adds g c =
    let frame = g.N.Naming.frame in
    let p = frame.world in
    let i = c.loop.invariant in
    let was = c.loop.note.knows in
    let is = c.try_step-tried.result.1.knows in
    λ q.
    let made = subst (λ (o : Option OneStep). HasTried frame g.N.Naming.tokens c.loop.self c.try_step-tried.new.self was is o) (c.in-Some-tried.is ∙ ap (λ (s : OneStep). Some s) q) c.try_step-tried.ensures.tried in
    new_after (IsByNode p (Memory c.args.self.now.memory)) c.args.note.knows.known was.known is.known i.knew (subst (λ (m : ℕ). HasNew (IsByNode p (Memory m)) was.known is.known) i.same made.1)

pub returns-in-Some-tried-clause-made : goal.returns-in-Some-tried-clause-made
returns-in-Some-tried-clause-made g c =
    let i = c.loop.invariant in
    λ q. record {
      taken = i.taken.0;
      last = c.loop.self;
      then = c.loop.note.knows;
      takes = i.taken.1;
      makes =
          (subst (λ (o : Option OneStep). HasTried g.N.Naming.frame g.N.Naming.tokens c.loop.self c.try_step-tried.new.self c.loop.note.knows c.try_step-tried.result.1.knows o) (c.in-Some-tried.is ∙ ap (λ (s : OneStep). Some s) q) c.try_step-tried.ensures.tried).0;
    }

pub returns-in-Some-tried-clause-waits : goal.returns-in-Some-tried-clause-waits
returns-in-Some-tried-clause-waits g c =
    let i = c.loop.invariant in
    λ q. record {
      taken = i.taken.0;
      last = c.loop.self;
      then = c.loop.note.knows;
      takes = i.taken.1;
      nothing = subst (λ (o : Option OneStep). HasTried g.N.Naming.frame g.N.Naming.tokens c.loop.self c.try_step-tried.new.self c.loop.note.knows c.try_step-tried.result.1.knows o) (c.in-Some-tried.is ∙ ap (λ (s : OneStep). Some s) q) c.try_step-tried.ensures.tried;
    }

pub loop-preserved : goal.loop-preserved
loop-preserved g c =
    let frame = g.N.Naming.frame in
    let i = c.loop.invariant in
    let e = c.try_step-tried.ensures in
    let one = subst (λ (o : Option OneStep). HasTried frame g.N.Naming.tokens c.loop.self c.try_step-tried.new.self c.loop.note.knows c.try_step-tried.result.1.knows o) c.in_default.is e.tried in
    record {
      can = tt;
      finite = tt;
      target = e.target;
      note = e.note;
      below = e.below;
      knew = within_on c.args.note.knows.known c.loop.note.knows.known c.try_step-tried.result.1.knows.known i.knew e.knew;
      same = e.same ∙ i.same;
      taken = (suc i.taken.0, takes_more frame g.N.Naming.tokens i.taken.0 c.args.self.now c.loop.self c.try_step-tried.new.self c.args.note.knows c.loop.note.knows c.try_step-tried.result.1.knows i.taken.1 one);
    }
