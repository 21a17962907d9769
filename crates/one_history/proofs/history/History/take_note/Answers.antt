use Rattle.std.proofs.Common.{sym, ap, ◌∙◌, arith}
use Rattle.one_history.specs.Rule.{plain}
use Rattle.one_history.proofs.Wholes.{joins}
use Rattle.one_history.proofs.history.History.take_note.Goals as goal

pub join_seat-requires : goal.join_seat-requires
join_seat-requires g c =
    let v = sym (ap (λ h. h.table) c.self.view_is) in
    let n = c.into_seat-other.ensures.seat in
    let some = c.requires.master.1 in (
      c.requires.master.0 ∙ v,
      n.0 ∙ c.requires.note ∙ v,
      ap (λ m. m.1) n.1,
      (let wide = c.self.invariant.0 in omega arith),
      joins g.W.Law.backs (plain c.self.inside.table.shared.key) _ _ c.args.master.now.me.0 _ (omega arith),
    )
