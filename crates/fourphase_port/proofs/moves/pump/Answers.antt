use Rattle.port_moves.specs.State.{with_note}
use Rattle.fourphase_port.proofs.Pumping.{begins, goes_further, is_pumped, keeps_number, nearer, pump_finished}
use Rattle.fourphase_port.proofs.moves.pump.Goals as goal

pub loop-pumped-init : goal.loop-pumped-init
loop-pumped-init g c = begins g.N.Naming.table g.N.Naming.tokens g.N.Naming.frame (with_note c.args.state.now c.args.note) c.requires.port

pub loop-pumped-smaller : goal.loop-pumped-smaller
loop-pumped-smaller g c = nearer g.N.Naming.frame c.loop-pumped.fetched (with_note c.loop-pumped.state c.loop-pumped.note) (with_note c.advance-next.new.state c.advance-next.result.1) c.advance-next.result.0 c.advance-next.ensures.moved c.in_default.is

pub loop-pumped-preserved : goal.loop-pumped-preserved
loop-pumped-preserved g c = goes_further g.N.Naming.table g.N.Naming.tokens g.N.Naming.frame (with_note c.args.state.now c.args.note) (with_note c.loop-pumped.state c.loop-pumped.note) (with_note c.advance-next.new.state c.advance-next.result.1) c.loop-pumped.fetched c.loop-pumped.invariant c.advance-next.result.0 c.advance-next.ensures.moved
    c.advance-next.ensures.port c.in_default.is

pub returns-in-Some-clause-pumped : goal.returns-in-Some-clause-pumped
returns-in-Some-clause-pumped g c = is_pumped g.N.Naming.table g.N.Naming.tokens g.N.Naming.frame (with_note c.args.state.now c.args.note) (with_note c.loop-pumped.state c.loop-pumped.note) (with_note c.advance-next.new.state c.advance-next.result.1) c.loop-pumped.fetched c.loop-pumped.invariant c.advance-next.result.0 c.advance-next.ensures.moved
    c.in-Some.pumped c.in-Some.is

pub returns-in-Some-clause-finished : goal.returns-in-Some-clause-finished
returns-in-Some-clause-finished g c = pump_finished g.N.Naming.table g.N.Naming.tokens g.N.Naming.frame (with_note c.args.state.now c.args.note) (with_note c.loop-pumped.state c.loop-pumped.note) (with_note c.advance-next.new.state c.advance-next.result.1) c.loop-pumped.fetched c.loop-pumped.invariant c.advance-next.result.0 c.advance-next.ensures.moved
    c.in-Some.pumped c.in-Some.is

pub returns-in-Some-clause-number : goal.returns-in-Some-clause-number
returns-in-Some-clause-number g c = keeps_number g.N.Naming.table g.N.Naming.tokens g.N.Naming.frame (with_note c.args.state.now c.args.note) (with_note c.loop-pumped.state c.loop-pumped.note) (with_note c.advance-next.new.state c.advance-next.result.1) c.loop-pumped.fetched c.loop-pumped.invariant c.advance-next.result.0 c.advance-next.ensures.moved

pub returns-in-Some-clause-port : goal.returns-in-Some-clause-port
returns-in-Some-clause-port g c = c.advance-next.ensures.port

pub advance-next-requires : goal.advance-next-requires
advance-next-requires g c = record { port = c.loop-pumped.invariant.is_port }
