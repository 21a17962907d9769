use Rattle.std.proofs.Common.{◌≡◌, ℕ, ◌+◌, ◌<◌, ◌^◌, List, sym, ap, ◌∙◌, subst, arith}
use Rattle.atomic_table.specs.Table.{Splits}
use Rattle.token_book.specs.declared.view.View.{View}
use Rattle.token_book.specs.Account.{out_of}
use Rattle.token_book.specs.Rule.{IsCounted, out_in, made_in, more_out, new_token}
use Rattle.token_book.proofs.Keeps.{issues}
use Rattle.token_book.proofs.tokens.Tokens.issue_as.Goals as goal

pub split_seat-seat-requires : goal.split_seat-seat-requires
split_seat-seat-requires g c =
    let b = c.book.inside in
    let name = g.N.Names.name in
    let amount = g.A.Amounts.amount in
    let out : out_in b.seat.me.0 ≡ c.args.book.now.out = ap (λ x. x.out) c.book.view_is in
    let picked = c.requires.picked in
    let fits : out_of name (out_in b.seat.me.0) + amount < 2 ^ 64 = omega (arith, c.requires.fits, ap (λ (l : List (ℕ × ℕ)). out_of c.args.name l) out, ap (λ (k : ℕ). out_of k (out_in b.seat.me.0)) picked.0, picked.1) in (
      ap (λ x. x.table) c.book.view_is ∙ c.requires.book ∙ sym c.self.view_is,
      omega (arith, c.self.invariant),
      subst (λ (v : View). Splits IsCounted b.seat.id v (more_out name amount v) (new_token name amount v)) (sym (ap (λ x. x.0) c.book.invariant)) (issues b.seat.id b.owner (out_in b.seat.me.0) (made_in b.seat.me.0) name amount fits),
    )
