use Rattle.std.proofs.Common.{refl, sym, ap, subst}
use Rattle.script_engine.specs.declared.part.Part.{Part}
use Rattle.fourphase_port.specs.Pumps.{DoesNext}
use Rattle.port_moves.specs.State.{with_note}
use Rattle.port_moves.proofs.Scripts.{has_settled}
use Rattle.port_model.specs.Way.{Port}
use Rattle.fourphase_port.proofs.Adding.{adds_from}
use Rattle.fourphase_port.proofs.onwards.do_next.Goals as goal

pub do_alone-requires-clause-settled : goal.do_alone-requires-clause-settled
do_alone-requires-clause-settled g c = has_settled g.N.Naming.table g.N.Naming.tokens g.N.Naming.frame c.args.state.now c.args.note c.requires.port c.requires.free.0 c.requires.free.1 c.settle-in-Asks.new.self c.settle-in-Asks.ensures.settled

pub returns-in-Pauses-clause-does : goal.returns-in-Pauses-clause-does
returns-in-Pauses-clause-does g c = subst (λ (part : Part). DoesNext g.N.Naming.frame part (with_note c.args.state.now c.args.note) (with_note c.pass.new.self c.args.note) c.ends.result) (sym c.in-Pauses.is)
    (record { mid = c.settle.new.self; settles = c.settle.ensures.settled; passes = c.pass.ensures.passed; note = refl; done = c.ends.ensures })

pub returns-in-Asks-clause-does : goal.returns-in-Asks-clause-does
returns-in-Asks-clause-does g c = subst (λ (part : Part). DoesNext g.N.Naming.frame part (with_note c.args.state.now c.args.note) (with_note c.do_alone.new.state c.do_alone.result.1) c.do_alone.result.0) (sym c.in-Asks.is)
    (record { mid = c.settle-in-Asks.new.self; settles = c.settle-in-Asks.ensures.settled; does = c.do_alone.ensures.does })

pub invalidate-requires-clause-settled : goal.invalidate-requires-clause-settled
invalidate-requires-clause-settled g c = has_settled g.N.Naming.table g.N.Naming.tokens g.N.Naming.frame c.args.state.now c.args.note c.requires.port c.requires.free.0 c.requires.free.1 c.settle-in-Invalidates.new.self c.settle-in-Invalidates.ensures.settled

pub returns-in-Invalidates-clause-does : goal.returns-in-Invalidates-clause-does
returns-in-Invalidates-clause-does g c = subst (λ (part : Part). DoesNext g.N.Naming.frame part (with_note c.args.state.now c.args.note) (with_note c.invalidate.new.state c.invalidate.result.1) c.invalidate.result.0) (sym c.in-Invalidates.is)
    (record { mid = c.settle-in-Invalidates.new.self; settles = c.settle-in-Invalidates.ensures.settled; invalidates = c.invalidate.ensures.invalidated; done = c.invalidate.ensures.moved })

pub finish-requires-clause-port : goal.finish-requires-clause-port
finish-requires-clause-port g c = c.requires.port

pub finish-requires-clause-free : goal.finish-requires-clause-free
finish-requires-clause-free g c = c.requires.free

pub finish-requires-clause-none : goal.finish-requires-clause-none
finish-requires-clause-none g c = c.requires.alone

pub settle-requires-clause-hand : goal.settle-requires-clause-hand
settle-requires-clause-hand g c = c.requires.free

pub settle-requires-clause-free : goal.settle-requires-clause-free
settle-requires-clause-free g c = c.requires.alone

pub settle-requires-in-Asks-clause-hand : goal.settle-requires-in-Asks-clause-hand
settle-requires-in-Asks-clause-hand g c = c.requires.free

pub settle-requires-in-Asks-clause-free : goal.settle-requires-in-Asks-clause-free
settle-requires-in-Asks-clause-free g c = c.requires.alone

pub settle-requires-in-Invalidates-clause-hand : goal.settle-requires-in-Invalidates-clause-hand
settle-requires-in-Invalidates-clause-hand g c = c.requires.free

pub settle-requires-in-Invalidates-clause-free : goal.settle-requires-in-Invalidates-clause-free
settle-requires-in-Invalidates-clause-free g c = c.requires.alone

pub returns-in-Ends-clause-port : goal.returns-in-Ends-clause-port
returns-in-Ends-clause-port g c = c.finish.ensures.port

pub do_alone-requires-clause-port : goal.do_alone-requires-clause-port
do_alone-requires-clause-port g c = c.settle-in-Asks.ensures.port g.N.Naming.table g.N.Naming.tokens g.N.Naming.frame c.args.note c.requires.port

pub invalidate-requires-clause-port : goal.invalidate-requires-clause-port
invalidate-requires-clause-port g c = c.settle-in-Invalidates.ensures.port g.N.Naming.table g.N.Naming.tokens g.N.Naming.frame c.args.note c.requires.port

pub returns-in-Pauses-clause-port : goal.returns-in-Pauses-clause-port
returns-in-Pauses-clause-port g c = c.pass.ensures.port g.N.Naming.table g.N.Naming.tokens g.N.Naming.frame c.args.note (c.settle.ensures.port g.N.Naming.table g.N.Naming.tokens g.N.Naming.frame c.args.note c.requires.port)

pub returns-in-Asks-clause-port : goal.returns-in-Asks-clause-port
returns-in-Asks-clause-port g c = c.do_alone.ensures.port

pub returns-in-Invalidates-clause-port : goal.returns-in-Invalidates-clause-port
returns-in-Invalidates-clause-port g c = c.invalidate.ensures.port

pub returns-in-Asks-clause-adds : goal.returns-in-Asks-clause-adds
returns-in-Asks-clause-adds g c = adds_from g.N.Naming.frame c.args.state.now c.settle-in-Asks.new.self c.args.note (with_note c.do_alone.new.state c.do_alone.result.1) c.do_alone.result.0 (ap (λ (q : Port). q.engine.initiator) c.settle-in-Asks.ensures.settled.port) c.do_alone.ensures.adds

pub returns-in-Invalidates-clause-adds : goal.returns-in-Invalidates-clause-adds
returns-in-Invalidates-clause-adds g c = adds_from g.N.Naming.frame c.args.state.now c.settle-in-Invalidates.new.self c.args.note (with_note c.invalidate.new.state c.invalidate.result.1) c.invalidate.result.0 (ap (λ (q : Port). q.engine.initiator) c.settle-in-Invalidates.ensures.settled.port) c.invalidate.ensures.adds
