use Rattle.std.proofs.Common.{sym, ap, ◌∙◌, arith}
use Rattle.one_history.specs.Rule.{plain}
use Rattle.one_history.proofs.Wholes.{joins}
use Rattle.one_history.proofs.history.History.take_in.Goals as goal

pub join_seat-requires : goal.join_seat-requires
join_seat-requires g c =
    let v = c.self.view_is in
    let s = c.seat.view_is in
    let n = c.into_seat-other.ensures.seat in
    let one = c.seat.invariant.1 in (
      ap (λ h. h.table) s ∙ c.requires.seat ∙ sym (ap (λ h. h.table) v),
      n.0 ∙ c.requires.note ∙ sym (ap (λ h. h.table) v),
      ap (λ m. m.1) n.1,
      (let wide = c.self.invariant.0 in omega arith),
      joins g.W.Law.backs (plain c.self.inside.table.shared.key) _ _ c.seat.inside.seat.me.0 _ (omega arith),
    )
