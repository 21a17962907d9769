use Rattle.std.proofs.Common.{◌≡◌, Bool, false, sym, subst, ◌∙◌}
use Rattle.router_node.specs.Node.{HasTakenBack, HasTakenIn}
use Rattle.node_hops.proofs.News.{new_after}
use Rattle.router_node.specs.Node.{stage_of}
use Rattle.router_steps.specs.Stepped.{TryAdds}
use Rattle.router_node.specs.Stages.{IsByRouter, is_down}
use Rattle.router_steps.proofs.Adds.{come_adds}
use Rattle.router_steps.proofs.tries.try_fetches.Goals as goal

pub returns-then-not-takes-clause-tried : goal.returns-then-not-takes-clause-tried
returns-then-not-takes-clause-tried g c =
    let frame = g.N.Naming.frame in
    let tokens = g.N.Naming.tokens in
    let mid = c.take_back-joins.new.self in
    let between = c.take_back-joins.result.1 in
    record {
      joined = mid;
      after_back = between;
      take_back = subst (λ (b : Bool). HasTakenBack frame tokens false c.args.node.now mid c.args.note.knows between.knows b) c.if-joins.false c.take_back-joins.ensures.taken;
      knew_back = c.take_back-joins.ensures.knew;
      take_in = subst (λ (b : Bool). HasTakenIn frame tokens false mid c.take_in-takes.new.self between c.take_in-takes.result.1 b) c.if-not-takes.true c.take_in-takes.ensures.taken;
      knew_in = c.take_in-takes.ensures.knew;
    }

pub returns-then-joins-clause-adds : goal.returns-then-joins-clause-adds
returns-then-joins-clause-adds g c = tt

pub returns-then-not-takes-clause-adds : goal.returns-then-not-takes-clause-adds
returns-then-not-takes-clause-adds g c = tt

pub returns-clause-adds : goal.returns-clause-adds
returns-clause-adds g c =
    let frame = g.N.Naming.frame in
    let known = c.args.note.knows.known in
    let mid = c.take_back-joins.new.self in
    let between = c.take_back-joins.result.1 in
    let back = c.take_in-takes.result.1 in
    let t = subst (λ (b : Bool). HasTakenIn frame g.N.Naming.tokens false mid c.take_in-takes.new.self between back b) c.if-not-takes.false c.take_in-takes.ensures.taken in
    let same : c.goes_down-down.result ≡ is_down (stage_of t.turned) = c.goes_down-down.ensures mid.held.items (stage_of t.turned) (c.deref.ensures.value ∙ t.line) in
    subst (TryAdds frame.world known back.knows.known) (sym c.come_in.ensures)
    (come_adds frame.world known back.knows.known c.goes_down-down.result
    (λ q. new_after (IsByRouter frame.world) known between.knows.known back.knows.known c.take_back-joins.ensures.knew (c.take_in-takes.ensures.adds mid.held.items (stage_of t.turned) c.if-not-takes.false t.line (sym same ∙ q))))
