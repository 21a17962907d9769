use Rattle.std.proofs.Common.{length, sym, ap, ◌∙◌, arith}
use Rattle.one_history.specs.Rule.{plain}
use Rattle.one_history.proofs.Wholes.{parts}
use Rattle.one_history.proofs.history.History.split.Goals as goal

pub split_seat-other-requires : goal.split_seat-other-requires
split_seat-other-requires g c =
    let v = c.self.view_is in
    let s = c.note.view_is in
    (ap (λ h. h.table) s ∙ c.requires.note ∙ sym (ap (λ h. h.table) v), (let wide = c.self.invariant.0 in omega arith), parts g.W.Law.backs (plain c.self.inside.table.shared.key) _ c.note.inside.seat.me.0 (let out = ap length (ap (λ h. h.knows.stays) s ∙ c.requires.outside) in let n = c.requires.notes in let q = ap (λ h. h.knows.notes) s in omega arith))
