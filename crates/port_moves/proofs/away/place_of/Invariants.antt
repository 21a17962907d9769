use Rattle.std.proofs.Common.{drop}
use Rattle.flow_model.specs.Events.{Among}
use Rattle.port_moves.proofs.away.place_of.Given as goal

abbrev pub invariant-loop-i : goal.invariant-loop-i
invariant-loop-i l = Among l.numbers l.number → Among (drop l.i l.numbers) l.number
