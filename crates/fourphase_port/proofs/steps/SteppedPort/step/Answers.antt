use Rattle.std.proofs.Common.{sym, ◌∙◌}
use Rattle.fourphase_port.proofs.Stepping.{step_adds, step_begins, step_ends, step_finished, step_goes_on, step_waits}
use Rattle.fourphase_port.proofs.steps.SteppedPort.step.Goals as goal

pub loop-init : goal.loop-init
loop-init g c = record { can = tt; finite = tt; stepping = step_begins g.N.Naming.table g.N.Naming.tokens g.N.Naming.frame c.args.self.now c.args.note c.requires.port }

pub go_on-next-requires : goal.go_on-next-requires
go_on-next-requires g c = record { port = c.loop.invariant.stepping.port }

pub loop-preserved : goal.loop-preserved
loop-preserved g c = record {
  can = tt;
  finite = tt;
  stepping = step_goes_on g.N.Naming.table g.N.Naming.tokens g.N.Naming.frame c.args.self.now c.args.note c.loop.self c.loop.note c.loop.fetched c.loop.invariant.stepping c.go_on-next.new.self c.go_on-next.result.1 c.go_on-next.ensures.knew c.go_on-next.result.0 c.go_on-next.ensures.moved
      c.is_none-fetched.result c.is_none-fetched.ensures c.go_on-next.ensures.port c.go_on-next.ensures.number (sym c.comes_to.ensures ∙ c.in_default.is);
}

pub returns-in-Some-comes_to-clause-waits : goal.returns-in-Some-comes_to-clause-waits
returns-in-Some-comes_to-clause-waits g c = step_waits g.N.Naming.table g.N.Naming.tokens g.N.Naming.frame c.args.self.now c.args.note c.loop.self c.loop.note c.loop.fetched c.loop.invariant.stepping c.go_on-next.new.self c.go_on-next.result.1 c.go_on-next.ensures.knew c.go_on-next.result.0 c.go_on-next.ensures.moved c.in-Some-comes_to.step (sym c.comes_to.ensures ∙ c.in-Some-comes_to.is)

pub returns-in-Some-comes_to-clause-ended : goal.returns-in-Some-comes_to-clause-ended
returns-in-Some-comes_to-clause-ended g c = step_ends g.N.Naming.table g.N.Naming.tokens g.N.Naming.frame c.args.self.now c.args.note c.loop.self c.loop.note c.loop.fetched c.loop.invariant.stepping c.go_on-next.new.self c.go_on-next.result.1 c.go_on-next.ensures.knew c.go_on-next.result.0 c.go_on-next.ensures.moved c.in-Some-comes_to.step (sym c.comes_to.ensures ∙ c.in-Some-comes_to.is)

pub returns-in-Some-comes_to-clause-finished : goal.returns-in-Some-comes_to-clause-finished
returns-in-Some-comes_to-clause-finished g c = step_finished g.N.Naming.table g.N.Naming.tokens g.N.Naming.frame c.args.self.now c.args.note c.loop.self c.loop.note c.loop.fetched c.loop.invariant.stepping c.go_on-next.new.self c.go_on-next.result.1 c.go_on-next.ensures.knew c.go_on-next.result.0 c.go_on-next.ensures.moved c.in-Some-comes_to.step (sym c.comes_to.ensures ∙ c.in-Some-comes_to.is)

pub returns-in-Some-comes_to-clause-adds : goal.returns-in-Some-comes_to-clause-adds
returns-in-Some-comes_to-clause-adds g c = step_adds g.N.Naming.table g.N.Naming.tokens g.N.Naming.frame c.args.self.now c.args.note c.loop.self c.loop.note c.loop.fetched c.loop.invariant.stepping c.go_on-next.new.self c.go_on-next.result.1 c.go_on-next.ensures.knew c.go_on-next.result.0 c.go_on-next.ensures.moved c.go_on-next.ensures.adds c.in-Some-comes_to.step (sym c.comes_to.ensures ∙ c.in-Some-comes_to.is)
