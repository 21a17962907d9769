use Rattle.std.proofs.Common.{sym, ap, ◌∙◌, arith}
use Rattle.one_history.specs.Rule.{plain}
use Rattle.one_history.proofs.Wholes.{recalls}
use Rattle.one_history.proofs.history.History.recall.Goals as goal

pub load-requires : goal.load-requires
load-requires g c =
    let v = c.self.view_is in (
      ap (λ s. s.table) c.seat.view_is ∙ c.requires ∙ sym (ap (λ h. h.table) v),
      (let wide = c.self.invariant.0 in omega arith),
      recalls g.W.Law.backs (plain c.self.inside.table.shared.key) g.W.Law.grows _ _ c.seat.inside.seat.me c.seat.invariant.1,
    )
