use Rattle.port_moves.specs.State.{with_note}
use Rattle.fourphase_port.specs.Pumps.{moves_left}
use Rattle.fourphase_port.proofs.Pumping.{HasPumped}
use Rattle.fourphase_port.proofs.moves.pump.Given as goal

abbrev pub invariant-loop-pumped : goal.invariant-loop-pumped
invariant-loop-pumped g l = HasPumped g.N.Naming.table g.N.Naming.tokens g.N.Naming.frame (with_note l.fn.state l.fn.note) (with_note l.state l.note) l.fetched

abbrev pub decreases-loop-pumped : goal.decreases-loop-pumped
decreases-loop-pumped g l = moves_left l.state.hand l.fetched
