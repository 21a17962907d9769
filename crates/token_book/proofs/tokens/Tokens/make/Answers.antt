use Rattle.std.proofs.Common.{[], sym, ap, ◌∙◌, subst, arith}
use Rattle.atomic_table.specs.Table.{Splits}
use Rattle.token_book.specs.declared.view.View.{View}
use Rattle.token_book.specs.Rule.{IsCounted, one_more, next_book}
use Rattle.token_book.proofs.Keeps.{makes}
use Rattle.token_book.proofs.tokens.Tokens.make.Goals as goal

pub split_seat-seat-requires : goal.split_seat-seat-requires
split_seat-seat-requires c =
    let id = c.args.first.now.id in (
      c.requires.table ∙ sym c.self.view_is,
      omega (arith, c.self.invariant),
      subst (λ (v : View). Splits IsCounted id v (one_more v) (next_book v)) (sym (ap (λ x. x.0) c.requires.first)) (makes id c.args.owner []),
    )
