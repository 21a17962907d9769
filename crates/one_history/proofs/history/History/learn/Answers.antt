use Rattle.std.proofs.Common.{sym, ap, ◌∙◌, arith}
use Rattle.one_history.specs.Rule.{plain}
use Rattle.one_history.proofs.Wholes.{learns}
use Rattle.one_history.proofs.history.History.learn.Goals as goal

pub load-requires : goal.load-requires
load-requires g c =
    let r = c.requires in
    let v = c.self.view_is in
    let s = c.note.view_is in
    let n = r.notes in
    let q = ap (λ h. h.knows.notes) s in (
      ap (λ h. h.table) s ∙ r.note ∙ sym (ap (λ h. h.table) v),
      (let wide = c.self.invariant.0 in omega arith),
      learns g.W.Law.backs (plain c.self.inside.table.shared.key) _ _ c.note.inside.seat.me (omega arith),
    )
