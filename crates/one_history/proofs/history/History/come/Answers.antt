use Rattle.std.proofs.Common.{sym, ap, ◌∙◌, subst, arith, ◌<◌}
use Rattle.one_history.specs.declared.view.Frame.{Frame}
use Rattle.one_history.specs.Gates.{total_gates}
use Rattle.one_history.specs.Rule.{plain}
use Rattle.one_history.proofs.Wholes.{enters}
use Rattle.one_history.proofs.history.History.come.Goals as goal

pub fetch_add-requires : goal.fetch_add-requires
fetch_add-requires g c =
    let r = c.requires in
    let v = c.self.view_is in
    let gate = subst (λ (f : Frame g.row.G.Denot). c.args.gate < total_gates f) (sym (ap (λ h. h.frame) v)) r.gate in
    let wide = c.self.invariant.0 in (
      r.seat ∙ sym (ap (λ h. h.table) v),
      (omega arith),
      enters g.W.Law.backs (plain c.self.inside.table.shared.key) _ _ c.args.gate c.args.seat.now.me gate r.outside r.notes,
    )
