use Rattle.std.proofs.Common.{◌≡◌, ℕ, [], sym, ap, ◌∙◌, subst, arith}
use mathlib.Core.Option.{none}
use Rattle.atomic_table.specs.Table.{Joins, Allows, Me, step}
use Rattle.token_book.specs.declared.view.View.{View}
use Rattle.token_book.specs.declared.view.View.TheVariants.{Spent}
use Rattle.token_book.specs.Rule.{IsCounted, a_book, a_token, out_in, made_in, taking_in, Settled}
use Rattle.token_book.proofs.Keeps.{takes_in, settles}
use Rattle.token_book.proofs.tokens.Tokens.retire_amount.Goals as goal

pub join_seat-requires : goal.join_seat-requires
join_seat-requires c =
    let b = c.book.inside in
    let t = c.args.held in
    let s = c.into_seat-seat.result in
    let owner : t.owner ≡ b.owner = c.requires.held.1 ∙ sym (ap (λ x. x.owner) c.book.view_is) in
    let theirs : s.me.0 ≡ a_token b.owner t.name t.amount = ap (λ x. x.0) c.into_seat-seat.ensures.1 ∙ ap (λ (o : ℕ). a_token o t.name t.amount) owner in
    let mine : b.seat.me.0 ≡ a_book b.owner (out_in b.seat.me.0) (made_in b.seat.me.0) = ap (λ x. x.0) c.book.invariant in (
      ap (λ x. x.table) c.book.view_is ∙ c.requires.book ∙ sym c.self.view_is,
      c.into_seat-seat.ensures.0 ∙ c.requires.held.0 ∙ sym c.self.view_is,
      ap (λ x. x.1) c.into_seat-seat.ensures.1,
      omega (arith, c.self.invariant),
      subst (λ (v : View). Joins IsCounted b.seat.id v s.id s.me.0 (taking_in v s.me.0) Spent) (sym mine)
          (subst (λ (w : View). Joins IsCounted b.seat.id (a_book b.owner (out_in b.seat.me.0) (made_in b.seat.me.0)) s.id w (taking_in (a_book b.owner (out_in b.seat.me.0) (made_in b.seat.me.0)) w) Spent) (sym theirs)
          (takes_in b.seat.id s.id b.owner (out_in b.seat.me.0) (made_in b.seat.me.0) t.name t.amount)),
    )

pub load-requires : goal.load-requires
load-requires c =
    let b = c.book.inside in
    let t = c.args.held in
    let s = c.into_seat-seat.result in
    let seat = c.join_seat.new.seat in
    let slots = c.self.inside.table.shared.table_id.slots in
    let owner : t.owner ≡ b.owner = c.requires.held.1 ∙ sym (ap (λ x. x.owner) c.book.view_is) in
    let theirs : s.me.0 ≡ a_token b.owner t.name t.amount = ap (λ x. x.0) c.into_seat-seat.ensures.1 ∙ ap (λ (o : ℕ). a_token o t.name t.amount) owner in
    let taken = taking_in (a_book b.owner (out_in b.seat.me.0) (made_in b.seat.me.0)) (a_token b.owner t.name t.amount) in
    let me : seat.me ≡ (taken, []) =
    c.join_seat.ensures.2
    ∙ ap (λ (m : Me ℕ View). (taking_in m.0 s.me.0, m.1)) c.book.invariant
    ∙ ap (λ (w : View). (taking_in (a_book b.owner (out_in b.seat.me.0) (made_in b.seat.me.0)) w, [])) theirs in (
      c.join_seat.ensures.0 ∙ ap (λ x. x.table) c.book.view_is ∙ c.requires.book ∙ sym c.self.view_is,
      omega (arith, c.self.invariant),
      subst (λ (m : Me ℕ View). Allows IsCounted slots seat.id m 0 (λ n. n) (Settled (step slots 0 0 0 none) m)) (sym me) (settles slots seat.id b.owner (out_in b.seat.me.0) (made_in b.seat.me.0) t.name t.amount),
    )
