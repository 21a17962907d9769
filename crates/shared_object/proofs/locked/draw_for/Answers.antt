use Rattle.std.proofs.Common.{sym, subst}
use Rattle.one_history.specs.Moves.{IsAtGate}
use Rattle.shared_object.proofs.Seats.{may_draw}
use Rattle.shared_object.proofs.locked.draw_for.Goals as goal

pub draw-requires-clause-gates : goal.draw-requires-clause-gates
draw-requires-clause-gates g c mine =
    let r = c.requires in
    let s = c.sign-sign.ensures in
    let v = c.args.seat.now.knows in
    may_draw c.args.history.now.frame v (g.O.Object.built c.args.object.now).gates c.sign-sign.result r.gates (s.gates (r.fits mine)) (subst (IsAtGate v) (sym s.sign) (r.at mine))
