use Rattle.std.proofs.Common.{sym, ap, ◌∙◌, subst, arith, ◌<◌}
use Rattle.one_history.specs.declared.view.Frame.{Frame}
use Rattle.one_history.specs.Gates.{total_gates}
use Rattle.one_history.specs.Rule.{plain}
use Rattle.one_history.specs.Moves.{SawInvalidated}
use Rattle.one_history.specs.Held.{Held}
use Rattle.one_history.proofs.Wholes.{marks}
use Rattle.one_history.proofs.history.History.mark.Goals as goal

pub fetch_or-requires : goal.fetch_or-requires
fetch_or-requires g c =
    let r = c.requires in
    let v = c.self.view_is in
    let s = c.note.view_is in
    let gate = subst (λ (f : Frame g.row.G.Denot). c.args.gate < total_gates f) (sym (ap (λ h. h.frame) v)) r.gate in
    let wide = c.self.invariant.0 in
    let n = r.notes in
    let q = ap (λ h. h.knows.notes) s in (
      ap (λ h. h.table) s ∙ r.note ∙ sym (ap (λ h. h.table) v),
      (omega arith),
      marks g.W.Law.backs (plain c.self.inside.table.shared.key) _ _ c.args.gate c.note.inside.seat.me gate (subst (λ (h : Held g.row.E.Denot g.row.G.Denot). SawInvalidated h.knows c.args.gate) (sym s) r.saw) (omega arith),
    )
