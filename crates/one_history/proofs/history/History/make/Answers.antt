use Rattle.std.proofs.Common.{sym, ap, ◌∙◌, arith}
use Rattle.one_history.specs.Rule.{plain}
use Rattle.one_history.proofs.Wholes.{makes}
use Rattle.one_history.proofs.history.History.make.Goals as goal

pub split_seat-seat-requires : goal.split_seat-seat-requires
split_seat-seat-requires g c =
    let v = c.self.view_is in
    let s = c.note.view_is in
    (ap (λ h. h.table) s ∙ c.requires.note ∙ sym (ap (λ h. h.table) v), (let wide = c.self.invariant.0 in omega arith), makes g.W.Law.backs (plain c.self.inside.table.shared.key) _ c.requires.counts.0 c.note.inside.seat.me.0 (ap (λ h. h.knows.counts) s ∙ c.requires.counts.1) (let n = c.requires.notes in let q = ap (λ h. h.knows.notes) s in omega arith))
