use Rattle.std.proofs.Common.{◌≡◌, Bool, false, refl, sym, subst, ◌∙◌}
use Rattle.tlm_model.specs.Plan.{Plan}
use Rattle.initiator_run.specs.Moves.{HasReached, HasToInvalidate, IsUnderWay}
use Rattle.decoupled_run.specs.Stepped.{HasSettled}
use Rattle.decoupled_run.proofs.StepLemmas.{middle_going, middle_roomy, middle_round, middle_way, on_going, step_ends, step_makes, step_settled, step_waits}
use Rattle.decoupled_run.proofs.steps.SteppedInitiator.step.Goals as goal

pub settle-made-requires : goal.settle-made-requires
settle-made-requires g c = c.requires.stepped

pub returns-then-made : goal.returns-then-made
returns-then-made g c =
    let n = g.N.Naming in
    let r = step_settled n.table n.tokens n.frame c.args.self.now c.args.note c.args.rounds.now c.requires.round c.requires.close c.requires.going c.settle-made.new.self c.settle-made.result.1
    (subst (λ (b : Bool). HasSettled n.table n.tokens n.frame c.args.self.now c.settle-made.new.self c.args.note c.settle-made.result.1 b) c.if-made.true c.settle-made.ensures) in
    record { stepped = r.stepped; number = r.number; adds = r.adds; made = r.made; keeps = r.keeps; rounds = r.rounds; round = r.in_round; none = r.none; waits = r.waits; finished = r.finished; going = r.going }

pub advance-requires : goal.advance-requires
advance-requires g c =
    let n = g.N.Naming in
    let settled : HasSettled n.table n.tokens n.frame c.args.self.now c.settle-made.new.self c.args.note c.settle-made.result.1 false =
    subst (λ (b : Bool). HasSettled n.table n.tokens n.frame c.args.self.now c.settle-made.new.self c.args.note c.settle-made.result.1 b) c.if-made.false c.settle-made.ensures in
    let there : c.plan.result.now ≡ n.frame.world = c.plan.ensures.plan ∙ c.plan.ensures.world in
    record {
      way = subst (λ (p : Plan). IsUnderWay p c.settle-made.new.self.run) (sym there) (middle_way n.table n.tokens n.frame c.args.self.now c.args.note c.args.rounds.now c.requires.round c.requires.close c.requires.going c.settle-made.new.self c.settle-made.result.1 settled);
      going = middle_going n.table n.tokens n.frame c.args.self.now c.args.note c.args.rounds.now c.requires.round c.requires.close c.requires.going c.settle-made.new.self c.settle-made.result.1 settled;
      round = middle_round n.table n.tokens n.frame c.args.self.now c.args.note c.args.rounds.now c.requires.round c.requires.close c.requires.going c.settle-made.new.self c.settle-made.result.1 settled;
      close = c.requires.close;
      roomy = middle_roomy n.table n.tokens n.frame c.args.self.now c.args.note c.args.rounds.now c.requires.round c.requires.close c.requires.going c.settle-made.new.self c.settle-made.result.1 settled c.in-Some.payload c.in-Some.is;
    }

pub returns-in-Waits : goal.returns-in-Waits
returns-in-Waits g c =
    let n = g.N.Naming in
    let settled : HasSettled n.table n.tokens n.frame c.args.self.now c.settle-made.new.self c.args.note c.settle-made.result.1 false =
    subst (λ (b : Bool). HasSettled n.table n.tokens n.frame c.args.self.now c.settle-made.new.self c.args.note c.settle-made.result.1 b) c.if-made.false c.settle-made.ensures in
    let there : c.plan.result.now ≡ n.frame.world = c.plan.ensures.plan ∙ c.plan.ensures.world in
    let r = step_waits n.table n.tokens n.frame c.args.self.now c.args.note c.args.rounds.now c.requires.round c.requires.close c.requires.going c.settle-made.new.self c.settle-made.result.1 settled c.plan.result.now there c.advance.new.self c.advance.new.payload (c.advance.ensures.roomy ∙ middle_roomy n.table n.tokens n.frame c.args.self.now c.args.note c.args.rounds.now c.requires.round c.requires.close c.requires.going c.settle-made.new.self c.settle-made.result.1 settled c.in-Some.payload c.in-Some.is) c.advance.new.rounds c.advance.ensures.keeps c.advance.ensures.moved c.advance.ensures.rounds c.in-Waits.ensures.cases.1 c.in-Waits.ensures.cases.0 in
    record { stepped = r.stepped; number = r.number; adds = r.adds; made = r.made; keeps = r.keeps; rounds = r.rounds; round = r.in_round; none = r.none; waits = r.waits; finished = r.finished; going = r.going }

pub returns-in-Ended : goal.returns-in-Ended
returns-in-Ended g c =
    let n = g.N.Naming in
    let settled : HasSettled n.table n.tokens n.frame c.args.self.now c.settle-made.new.self c.args.note c.settle-made.result.1 false =
    subst (λ (b : Bool). HasSettled n.table n.tokens n.frame c.args.self.now c.settle-made.new.self c.args.note c.settle-made.result.1 b) c.if-made.false c.settle-made.ensures in
    let there : c.plan.result.now ≡ n.frame.world = c.plan.ensures.plan ∙ c.plan.ensures.world in
    let r = step_ends n.table n.tokens n.frame c.args.self.now c.args.note c.args.rounds.now c.requires.round c.requires.close c.requires.going c.settle-made.new.self c.settle-made.result.1 settled c.plan.result.now there c.advance.new.self c.advance.new.payload (c.advance.ensures.roomy ∙ middle_roomy n.table n.tokens n.frame c.args.self.now c.args.note c.args.rounds.now c.requires.round c.requires.close c.requires.going c.settle-made.new.self c.settle-made.result.1 settled c.in-Some.payload c.in-Some.is) c.advance.new.rounds c.advance.ensures.keeps c.advance.ensures.moved c.advance.ensures.rounds c.in-Ended.ensures.cases.0 c.in-Ended.ensures.cases.1 in
    record { stepped = r.stepped; number = r.number; adds = r.adds; made = r.made; keeps = r.keeps; rounds = r.rounds; round = r.in_round; none = r.none; waits = r.waits; finished = r.finished; going = r.going }

pub returns-in-Reached : goal.returns-in-Reached
returns-in-Reached g c =
    let n = g.N.Naming in
    let settled : HasSettled n.table n.tokens n.frame c.args.self.now c.settle-made.new.self c.args.note c.settle-made.result.1 false =
    subst (λ (b : Bool). HasSettled n.table n.tokens n.frame c.args.self.now c.settle-made.new.self c.args.note c.settle-made.result.1 b) c.if-made.false c.settle-made.ensures in
    let there : c.plan.result.now ≡ n.frame.world = c.plan.ensures.plan ∙ c.plan.ensures.world in
    let r = step_makes n.table n.tokens n.frame c.args.self.now c.args.note c.args.rounds.now c.requires.round c.requires.close c.requires.going c.settle-made.new.self c.settle-made.result.1 settled c.plan.result.now there c.advance.new.self c.advance.new.payload (c.advance.ensures.roomy ∙ middle_roomy n.table n.tokens n.frame c.args.self.now c.args.note c.args.rounds.now c.requires.round c.requires.close c.requires.going c.settle-made.new.self c.settle-made.result.1 settled c.in-Some.payload c.in-Some.is) c.advance.new.rounds c.advance.ensures.keeps c.advance.ensures.moved c.advance.ensures.rounds c.in-Reached.ensures.cases.1 c.in-Reached.ensures.cases.2 c.access.new.self c.access.result c.access.ensures in
    record { stepped = r.stepped; number = r.number; adds = r.adds; made = r.made; keeps = r.keeps; rounds = r.rounds; round = r.in_round; none = r.none; waits = r.waits; finished = r.finished; going = r.going }

pub returns-in-Invalidates : goal.returns-in-Invalidates
returns-in-Invalidates g c =
    let n = g.N.Naming in
    let settled : HasSettled n.table n.tokens n.frame c.args.self.now c.settle-made.new.self c.args.note c.settle-made.result.1 false =
    subst (λ (b : Bool). HasSettled n.table n.tokens n.frame c.args.self.now c.settle-made.new.self c.args.note c.settle-made.result.1 b) c.if-made.false c.settle-made.ensures in
    let there : c.plan.result.now ≡ n.frame.world = c.plan.ensures.plan ∙ c.plan.ensures.world in
    let r = step_makes n.table n.tokens n.frame c.args.self.now c.args.note c.args.rounds.now c.requires.round c.requires.close c.requires.going c.settle-made.new.self c.settle-made.result.1 settled c.plan.result.now there c.advance.new.self c.advance.new.payload (c.advance.ensures.roomy ∙ middle_roomy n.table n.tokens n.frame c.args.self.now c.args.note c.args.rounds.now c.requires.round c.requires.close c.requires.going c.settle-made.new.self c.settle-made.result.1 settled c.in-Some.payload c.in-Some.is) c.advance.new.rounds c.advance.ensures.keeps c.advance.ensures.moved c.advance.ensures.rounds c.in-Invalidates.ensures.cases.1 c.in-Invalidates.ensures.cases.2 c.tell.new.self c.tell.result c.tell.ensures in
    record { stepped = r.stepped; number = r.number; adds = r.adds; made = r.made; keeps = r.keeps; rounds = r.rounds; round = r.in_round; none = r.none; waits = r.waits; finished = r.finished; going = r.going }

pub access-requires : goal.access-requires
access-requires g c =
    let n = g.N.Naming in
    let settled : HasSettled n.table n.tokens n.frame c.args.self.now c.settle-made.new.self c.args.note c.settle-made.result.1 false =
    subst (λ (b : Bool). HasSettled n.table n.tokens n.frame c.args.self.now c.settle-made.new.self c.args.note c.settle-made.result.1 b) c.if-made.false c.settle-made.ensures in
    let there : c.plan.result.now ≡ n.frame.world = c.plan.ensures.plan ∙ c.plan.ensures.world in
    record {
      stepped = on_going n.table n.tokens n.frame c.args.self.now c.args.note c.args.rounds.now c.requires.round c.requires.close c.requires.going c.settle-made.new.self c.settle-made.result.1 settled c.plan.result.now there c.advance.new.self c.advance.new.payload (c.advance.ensures.roomy ∙ middle_roomy n.table n.tokens n.frame c.args.self.now c.args.note c.args.rounds.now c.requires.round c.requires.close c.requires.going c.settle-made.new.self c.settle-made.result.1 settled c.in-Some.payload c.in-Some.is) c.advance.new.rounds c.advance.ensures.keeps c.advance.ensures.moved c.advance.ensures.rounds c.in-Reached.ensures.cases.1;
      owes = settled.settled refl;
      through = c.in-Reached.ensures.cases.2;
      reached = subst (λ (p : Plan). HasReached p c.advance.new.self c.in-Reached.next.transfer c.in-Reached.next.route) there c.in-Reached.ensures.cases.0;
    }

pub tell-requires : goal.tell-requires
tell-requires g c =
    let n = g.N.Naming in
    let settled : HasSettled n.table n.tokens n.frame c.args.self.now c.settle-made.new.self c.args.note c.settle-made.result.1 false =
    subst (λ (b : Bool). HasSettled n.table n.tokens n.frame c.args.self.now c.settle-made.new.self c.args.note c.settle-made.result.1 b) c.if-made.false c.settle-made.ensures in
    let there : c.plan.result.now ≡ n.frame.world = c.plan.ensures.plan ∙ c.plan.ensures.world in
    record {
      stepped = on_going n.table n.tokens n.frame c.args.self.now c.args.note c.args.rounds.now c.requires.round c.requires.close c.requires.going c.settle-made.new.self c.settle-made.result.1 settled c.plan.result.now there c.advance.new.self c.advance.new.payload (c.advance.ensures.roomy ∙ middle_roomy n.table n.tokens n.frame c.args.self.now c.args.note c.args.rounds.now c.requires.round c.requires.close c.requires.going c.settle-made.new.self c.settle-made.result.1 settled c.in-Some.payload c.in-Some.is) c.advance.new.rounds c.advance.ensures.keeps c.advance.ensures.moved c.advance.ensures.rounds c.in-Invalidates.ensures.cases.1;
      owes = settled.settled refl;
      through = c.in-Invalidates.ensures.cases.2;
      reached = subst (λ (p : Plan). HasToInvalidate p c.advance.new.self c.in-Invalidates.next) there c.in-Invalidates.ensures.cases.0;
    }
