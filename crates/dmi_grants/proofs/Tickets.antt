-- Tickets that are taken out of a wallet, and put back.
use Rattle.std.proofs.Common.{◌≡◌, ◌⊎◌, ℕ, ◌+◌, ◌<◌, ◌≤◌, length, Option, Some, None, refl, sym, ◌∙◌, subst, inl, inr, ⊎_elim, arith}
use Rattle.std.specs.FinMap as map
use Rattle.std.specs.Prelude.{IsSome}
use Rattle.view_lists.specs.Lists.{Has}
use Rattle.atomic_table.specs.Seated.{TableId}
use Rattle.token_book.specs.Account.{Slip}
use Rattle.token_book.specs.Pocket.{Pocket}
use Rattle.token_book.specs.Purse.{Purse, HasPlace, HasRoom, left_in, left_of, pulled, put_in}
use Rattle.token_book.proofs.Rooms.{held-pulled, place-pulled, place-put_in, room_within}
use Rattle.dmi_grants.specs.Made.{HasSpent, IsRoomyFor}

pub roomy_pulled : (table : TableId) (w v : Purse) (m bytes : ℕ) → v ≡ pulled table w m bytes → IsRoomyFor m w → IsRoomyFor m v
roomy_pulled table w v m bytes is room = record {
  objects = room.objects;
  few = subst (λ (u : Purse). length room.objects ≤ u.places) (sym is) room.few;
  all = λ q has. ⊎_elim
      (λ (same : q ≡ m). subst (λ (k : ℕ). Has room.objects k) (sym same) room.has)
      (λ (held : HasPlace w q). room.all q held)
      (place-pulled table w m bytes q (subst (λ (u : Purse). HasPlace u q) is has));
  has = room.has;
}

-- a ticket that is taken out takes no place
pub roomy_less : (table : TableId) (w v : Purse) (k m bytes : ℕ) → v ≡ pulled table w m bytes → 0 < left_of w m → IsRoomyFor k w → IsRoomyFor k v
roomy_less table w v k m bytes is left room = record {
  objects = room.objects;
  few = subst (λ (u : Purse). length room.objects ≤ u.places) (sym is) room.few;
  all = λ q has. room.all q (held-pulled table w v m bytes is left q has);
  has = room.has;
}

pub roomy_put : (w v : Purse) (m : ℕ) (t : Slip) → v ≡ put_in w t → t.owner ≡ m → IsRoomyFor m w → IsRoomyFor m v
roomy_put w v m t is own room = record {
  objects = room.objects;
  few = subst (λ (u : Purse). length room.objects ≤ u.places) (sym is) room.few;
  all = λ q has. ⊎_elim
      (λ (same : q ≡ t.owner). subst (λ (k : ℕ). Has room.objects k) (sym (same ∙ own)) room.has)
      (λ (held : HasPlace w q). room.all q held)
      (place-put_in w t q (subst (λ (u : Purse). HasPlace u q) is has));
  has = room.has;
}

-- and of the others none that hadn't
pub place_put : (w v : Purse) (m : ℕ) (t : Slip) → v ≡ put_in w t → t.owner ≡ m → (q : ℕ) → HasPlace v q → (q ≡ m) ⊎ HasPlace w q
place_put w v m t is own q has = ⊎_elim
    (λ (same : q ≡ t.owner). inl (same ∙ own))
    (λ (held : HasPlace w q). inr held)
    (place-put_in w t q (subst (λ (u : Purse). HasPlace u q) is has))

pub has_room : (w : Purse) (m o : ℕ) → o ≡ m → IsRoomyFor m w → HasRoom w o
has_room w m o is room = room_within w room.objects room.few room.all o (subst (λ (k : ℕ). Has room.objects k) (sym is) room.has)

-- who has a ticket has a place
place_of : (o : Option Pocket) → 0 < left_in o → IsSome o
place_of None some = absurd (omega arith)
place_of (Some pocket) some = refl

-- no other object has a place than before, where one with a ticket may have lost or got some
pub roomy_kept : (w v : Purse) (m k : ℕ) → v.places ≡ w.places → 0 < left_of w m → ((o : ℕ) → HasPlace v o → (o ≡ m) ⊎ HasPlace w o) → IsRoomyFor k w → IsRoomyFor k v
roomy_kept w v m k places left held room = record {
  objects = room.objects;
  few = subst (λ (n : ℕ). length room.objects ≤ n) (sym places) room.few;
  all = λ q has. ⊎_elim
      (λ (same : q ≡ m). room.all q (subst (HasPlace w) (sym same) (place_of (map.get w.held m) left)))
      (λ (was : HasPlace w q). room.all q was)
      (held q has);
  has = room.has;
}

-- what is spent one after the other is spent together
pub spent_both : (m a b : ℕ) (x y z : Purse) → HasSpent m a x y → HasSpent m b y z → HasSpent m (a + b) x z
spent_both m a b x y z first second = record {
  places = second.places ∙ first.places;
  here = (let f = first.here in let s = second.here in omega arith);
  others = λ o other. second.others o other ∙ first.others o other;
  bytes = λ o. second.bytes o ∙ first.bytes o;
}

pub spent_none : (m : ℕ) (x : Purse) → HasSpent m 0 x x
spent_none m x = record { places = refl; here = omega arith; others = λ o other. refl; bytes = λ o. refl }
