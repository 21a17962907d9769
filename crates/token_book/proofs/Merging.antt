-- A wallet takes in, object by object, all that another one holds.
use Rattle.std.proofs.Common.{◌≡◌, ◌≢◌, ℕ, ◌+◌, ◌<◌, ◌≤◌, ◌==◌, cond, Some, refl, sym, ap, ◌∙◌, subst, ⊎_elim, arith}
use Rattle.std.proofs.lemmas.Bool.{cases_eq, cond-true, cond-false, eq-eqb, ne_eqb}
use Rattle.std.specs.FinMap as map
use Rattle.std.specs.FinMap.{get-empty}
use Rattle.std.specs.Ordering.{nat_cmp}
use Rattle.atomic_table.specs.Seated.{TableId}
use Rattle.view_lists.specs.Lists.{Has}
use Rattle.token_book.specs.Pocket.{Pocket, no_pocket, with_pocket_in}
use Rattle.token_book.specs.Purse.{HasPlace, HasRoom, HasRoomForAll, IsOf, Purse, bytes_left_in, empty_purse, bytes_of, left_in, left_of, with_more}
use Rattle.token_book.proofs.Purses.{IsOf-with_pocket, bytes_of-with_pocket, left_of-with_pocket}
use Rattle.token_book.proofs.Pulls.{IsOf-with_more, bytes_of-with_more, left_of-with_more}
use Rattle.token_book.proofs.Rooms.{place-with_more, room_within}

-- what is put where nothing was stays what it is
pub only_more : (t : TableId) (p : Pocket) → p.table ≡ t → with_pocket_in (no_pocket t) p ≡ p
only_more t p is =
    let l : 0 + p.left ≡ p.left = omega arith in
    let b : 0 + p.bytes ≡ p.bytes = omega arith in
    ap (λ (x : TableId). let q : Pocket = record { table = x; left = 0 + p.left; bytes = 0 + p.bytes } in q) (sym is)
    ∙ (ap (λ (n : ℕ). let q : Pocket = record { table = p.table; left = n; bytes = 0 + p.bytes } in q) l
    ∙ ap (λ (n : ℕ). let q : Pocket = record { table = p.table; left = p.left; bytes = n } in q) b)

-- the wallet w has taken in what v held of one object
module _ (t : TableId) (w v : Purse) (e : ℕ × Pocket) (at : map.get v.held e.0 ≡ Some e.1) where
  abbrev pub less : Purse
  less = record { places = v.places; held = map.remove v.held e.0 }

  abbrev pub more : Purse
  more = with_more t w e.0 e.1

  moved : (f : Purse → ℕ → ℕ) (n q : ℕ) → f v e.0 ≡ n → f more q ≡ cond (q == e.0) (f w q + n) (f w q) → f less q ≡ cond (q == e.0) 0 (f v q) → f more q + f less q ≡ f w q + f v q
  moved f n q was grew fell =
      ⊎_elim
      (λ (is : q ≡ e.0).
      let a = grew ∙ cond-true (q == e.0) (f w q + n) (f w q) (eq-eqb q e.0 is) in
      let b = fell ∙ cond-true (q == e.0) 0 (f v q) (eq-eqb q e.0 is) in
      let c : f v q ≡ n = ap (f v) is ∙ was in
      omega arith)
      (λ (no : q ≢ e.0).
      let a = grew ∙ cond-false (q == e.0) (f w q + n) (f w q) (ne_eqb q e.0 no) in
      let b = fell ∙ cond-false (q == e.0) 0 (f v q) (ne_eqb q e.0 no) in
      omega arith)
      (cases_eq q e.0)

  left_less : (q : ℕ) → left_of less q ≡ cond (q == e.0) 0 (left_of v q)
  left_less q = left_of-with_pocket v e.0 (no_pocket t) q

  bytes_less : (q : ℕ) → bytes_of less q ≡ cond (q == e.0) 0 (bytes_of v q)
  bytes_less q = bytes_of-with_pocket v e.0 (no_pocket t) q

  pub left_moved : (q : ℕ) → left_of more q + left_of less q ≡ left_of w q + left_of v q
  left_moved q = moved left_of e.1.left q (ap left_in at) (left_of-with_more t w e.0 e.1 q) (left_less q)

  pub bytes_moved : (q : ℕ) → bytes_of more q + bytes_of less q ≡ bytes_of w q + bytes_of v q
  bytes_moved q = moved bytes_of e.1.bytes q (ap bytes_left_in at) (bytes_of-with_more t w e.0 e.1 q) (bytes_less q)

  pub of_less : IsOf t v → IsOf t less
  of_less all = IsOf-with_pocket t v e.0 (no_pocket t) all refl

  pub of_more : IsOf t w → IsOf t more
  of_more all = IsOf-with_more t w e.0 e.1 all

  fewer : (f : Purse → ℕ → ℕ) (q : ℕ) → f less q ≡ cond (q == e.0) 0 (f v q) → f less q ≤ f v q
  fewer f q fell =
      ⊎_elim
      (λ (is : q ≡ e.0). let b = fell ∙ cond-true (q == e.0) 0 (f v q) (eq-eqb q e.0 is) in omega arith)
      (λ (no : q ≢ e.0). let b = fell ∙ cond-false (q == e.0) 0 (f v q) (ne_eqb q e.0 no) in omega arith)
      (cases_eq q e.0)

  module _ (full : 0 < e.1.left + e.1.bytes) (room : HasRoomForAll w v) where
    its : Has room.objects e.0
    its = room.others e.0 (let a = ap left_in at in let b = ap bytes_left_in at in omega arith)

    pub has_room : HasRoom w e.0
    has_room = room_within w room.objects room.few room.own e.0 its

    pub room_moved : HasRoomForAll more less
    room_moved = record {
      objects = room.objects;
      few = room.few;
      own = λ q has. ⊎_elim (λ (is : q ≡ e.0). ap_has is) (λ (old : HasPlace w q). room.own q old) (place-with_more t w e.0 e.1 q has);
      others = λ q some. room.others q (let a = fewer left_of q (left_less q) in let b = fewer bytes_of q (bytes_less q) in omega arith);
    }
      where
        ap_has : {q : ℕ} → q ≡ e.0 → Has room.objects q
        ap_has is = subst (λ (k : ℕ). Has room.objects k) (sym is) its

-- an empty wallet holds nothing of any object
pub left_none : (w : Purse) (q : ℕ) → w ≡ empty_purse w.places → left_of w q ≡ 0
left_none w q is = ap (λ (v : Purse). left_of v q) is ∙ ap left_in (get-empty nat_cmp q)

pub bytes_none : (w : Purse) (q : ℕ) → w ≡ empty_purse w.places → bytes_of w q ≡ 0
bytes_none w q is = ap (λ (v : Purse). bytes_of v q) is ∙ ap bytes_left_in (get-empty nat_cmp q)
