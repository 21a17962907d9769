-- What a call leaves of the bench of the tests.
use Rattle.std.proofs.Common.{◌≡◌, ℕ, ◌+◌, ◌-◌, ◌<◌, ◌≤◌, true, List, [], ◌∷◌, length, map, Option, Some, None, sym, ap, ◌∙◌, subst, arith, length-append}
use Rattle.std.specs.List.{All}
use Rattle.std.proofs.lemmas.List.Elements.{All-push, All-weaker}
use Rattle.atomic_table.specs.Seated.{TableId}
use Rattle.token_book.specs.Account.{Slip}
use Rattle.shared_object.specs.Written.{Built, MayWrite, Written}
use Rattle.flow_model.specs.Events.{Event}
use Rattle.numbered_log.specs.Logged.{LoggedView, written_by}
use Rattle.numbered_log.proofs.Ordered.{each_has}
use Rattle.view_lists.proofs.Members.{has_map}
use Rattle.hop_object.specs.declared.call.HopTraits.{HopTraits}
use Rattle.hop_object.specs.declared.call.HopCall.{HopCall}
use Rattle.hop_object.specs.View.{HopView}
use Rattle.hop_object.specs.Laws.{IsHeld}
use Rattle.hop_object.specs.Objects.{is_admitted}
use Rattle.hop_object.proofs.Meanings.{decide, entry_by, Leaves}

-- an entry may be written at a position that is past all entries
pub may_write : (es : List Event) (room n p q : ℕ) → p ≡ q → q + n ≤ 1000 → 0 < n → All (λ (e : Event). e.position < q) es → length es + n ≤ room → MayWrite (map written_by es) (room - length es) 0 p 0
may_write es room n p q same low some_left past fits = record {
  below = omega arith;
  past = λ x h. let m = has_map written_by es x h in let below_q = each_has (λ (e : Event). e.position < q) es past m.0 m.1 in subst (λ (y : Written). y.position < p) m.2 (omega arith);
  room = omega arith;
  fit = omega arith;
}

-- what is read of a second book
abbrev pub table_or : TableId → Option (TableId × ℕ) → TableId
table_or d None = d
table_or d (Some b) = b.0

abbrev pub owner_or : ℕ → Option (TableId × ℕ) → ℕ
owner_or d None = d
owner_or d (Some b) = b.1

module _ {T : Type 0} where
  -- the book is of the same table and owner
  pub same_table : (v w : HopView T) (p : ℕ) (call : HopCall T) → Leaves v p call w → w.book.table ≡ v.book.table
  same_table v w p call l = ap (λ (b : Built HopTraits). table_or v.book.table b.book) l.built

  pub same_owner : (v w : HopView T) (p : ℕ) (call : HopCall T) → Leaves v p call w → w.book.owner ≡ v.book.owner
  same_owner v w p call l = ap (λ (b : Built HopTraits). owner_or v.book.owner b.book) l.built

  -- the next position is past all entries
  pub past_next : (v w : HopView T) (p q : ℕ) (call : HopCall T) → Leaves v p call w → (is_admitted v call ≡ true → p ≡ q) → All (λ (e : Event). e.position < q) v.log.events → All (λ (e : Event). e.position < q + 1) w.log.events
  past_next v w p q call l at past =
      let P : Event → Type 0 = λ e. e.position < q + 1 in
      let old : All P v.log.events = All-weaker (λ (e : Event). e.position < q) P (λ e h. omega arith) v.log.events past in
      let e = entry_by v p call in
      decide (is_admitted v call)
      (λ is. let same : p ≡ q = at is in subst (λ (x : LoggedView). All P x.events) (sym (l.taken is)) (All-push P v.log.events e old (omega arith)))
      (λ not_. subst (λ (x : LoggedView). All P x.events) (sym (l.other not_)) old)

  -- one entry less has room, at most
  pub room_next : (v w : HopView T) (p n : ℕ) (call : HopCall T) → Leaves v p call w → 0 < n → length v.log.events + n ≤ v.log.room → length w.log.events + (n - 1) ≤ w.log.room
  room_next v w p n call l some_left room =
      let e = entry_by v p call in
      decide (is_admitted v call)
      (λ is. subst (λ (x : LoggedView). length x.events + (n - 1) ≤ x.room) (sym (l.taken is)) (let more = length-append v.log.events (e ∷ []) in omega arith))
      (λ not_. subst (λ (x : LoggedView). length x.events + (n - 1) ≤ x.room) (sym (l.other not_)) (omega arith))

  -- a leg of the book before is one of the book after
  pub held_next : (v w : HopView T) (p : ℕ) (call : HopCall T) → Leaves v p call w → (leg : Slip) → IsHeld v.book leg → IsHeld w.book leg
  held_next v w p call l leg h = record { table = h.table ∙ sym (same_table v w p call l); owner = h.owner ∙ sym (same_owner v w p call l) }
