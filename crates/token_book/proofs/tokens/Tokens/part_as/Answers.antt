use Rattle.std.proofs.Common.{◌≡◌, ◌≤◌, sym, ap, ◌∙◌, subst, arith}
use Rattle.atomic_table.specs.Table.{Splits}
use Rattle.token_book.specs.declared.view.View.{View}
use Rattle.token_book.specs.Rule.{IsCounted, less_by, name_in, owner_in, part_of}
use Rattle.token_book.proofs.Keeps.{parts}
use Rattle.token_book.proofs.tokens.Tokens.part_as.Goals as goal

pub split_seat-seat-requires : goal.split_seat-seat-requires
split_seat-seat-requires g c =
    let t = c.held.inside in
    let x = g.A.Amounts.amount in
    let whole : t.amount ≡ c.args.held.now.amount = ap (λ x. x.amount) c.held.view_is in
    let enough : x ≤ t.amount = omega (arith, c.requires.enough, c.requires.picked) in (
      ap (λ x. x.table) c.held.view_is ∙ c.requires.held ∙ sym c.self.view_is,
      omega (arith, c.self.invariant),
      subst (λ (v : View). Splits IsCounted t.seat.id v (less_by x v) (part_of x v)) (sym (ap (λ x. x.0) c.held.invariant)) (parts t.seat.id (owner_in t.seat.me.0) (name_in t.seat.me.0) t.amount x enough),
    )
