use Rattle.std.proofs.Common.{◌≡◌, ℕ, ◌+◌, [], sym, ap, ◌∙◌, subst, arith}
use mathlib.Core.Option.{none}
use Rattle.atomic_table.specs.Table.{Joins, Allows, Me, step}
use Rattle.token_book.specs.declared.view.View.{View}
use Rattle.token_book.specs.declared.view.View.TheVariants.{Spent}
use Rattle.token_book.specs.Rule.{IsCounted, a_token, merged, amount_in, name_in, owner_in, Weighed}
use Rattle.token_book.proofs.Keeps.{merges, weighs}
use Rattle.token_book.proofs.tokens.Tokens.merge_amount.Goals as goal

pub join_seat-requires : goal.join_seat-requires
join_seat-requires c =
    let t = c.held.inside in
    let owned = owner_in t.seat.me.0 in
    let named = name_in t.seat.me.0 in
    let u = c.args.other in
    let s = c.into_seat-seat.result in
    let owner : u.owner ≡ owned = c.requires.alike.0 ∙ sym (ap (λ x. x.owner) c.held.view_is) in
    let name : u.name ≡ named = c.requires.alike.1 ∙ sym (ap (λ x. x.name) c.held.view_is) in
    let theirs : s.me.0 ≡ a_token owned named u.amount = ap (λ x. x.0) c.into_seat-seat.ensures.1 ∙ ap (λ (o : ℕ). a_token o u.name u.amount) owner ∙ ap (λ (n : ℕ). a_token owned n u.amount) name in
    let mine : t.seat.me.0 ≡ a_token owned named t.amount = ap (λ x. x.0) c.held.invariant in (
      ap (λ x. x.table) c.held.view_is ∙ c.requires.same.0 ∙ sym c.self.view_is,
      c.into_seat-seat.ensures.0 ∙ c.requires.same.1 ∙ sym c.self.view_is,
      ap (λ x. x.1) c.into_seat-seat.ensures.1,
      omega (arith, c.self.invariant),
      subst (λ (v : View). Joins IsCounted t.seat.id v s.id s.me.0 (merged v s.me.0) Spent) (sym mine)
          (subst (λ (w : View). Joins IsCounted t.seat.id (a_token owned named t.amount) s.id w (merged (a_token owned named t.amount) w) Spent) (sym theirs)
          (merges t.seat.id s.id owned named t.amount u.amount)),
    )

pub load-requires : goal.load-requires
load-requires c =
    let t = c.held.inside in
    let owned = owner_in t.seat.me.0 in
    let named = name_in t.seat.me.0 in
    let u = c.into_seat-seat.result in
    let seat = c.join_seat.new.seat in
    let slots = c.self.inside.table.shared.table_id.slots in
    let sum = t.amount + amount_in u.me.0 in
    let me : seat.me ≡ (a_token owned named sum, []) = c.join_seat.ensures.2 ∙ ap (λ (m : Me ℕ View). (merged m.0 u.me.0, m.1)) c.held.invariant in (
      c.join_seat.ensures.0 ∙ ap (λ x. x.table) c.held.view_is ∙ c.requires.same.0 ∙ sym c.self.view_is,
      omega (arith, c.self.invariant),
      subst (λ (m : Me ℕ View). Allows IsCounted slots seat.id m 0 (λ n. n) (Weighed (step slots 0 0 0 none) m)) (sym me) (weighs slots seat.id owned named sum),
    )
