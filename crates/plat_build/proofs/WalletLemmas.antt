-- The tickets of objects, in the wallets and out of the books.
use Rattle.std.proofs.Common.{◌≡◌, ◌≢◌, ℕ, ◌+◌, ◌<◌, ◌≤◌, ◌==◌, Bool, true, false, cond, List, length, set, get_or, sum_by, Option, Some, None, refl, sym, ap, subst, ⊎_elim, ◌∙◌, zero-add, arith, length-set}
use Rattle.std.specs.Prelude.{slice_get}
use Rattle.std.specs.List.{range_with_len}
use Rattle.std.specs.FinMap as fin
use Rattle.std.proofs.lemmas.Bool.{cases_eq, cond-true, cond-false, eq-eqb, ne_eqb}
use Rattle.std.proofs.lemmas.List.FromFn.{get_or-range_with_len, length-range_with_len, sum_by-map-range_with_len_more}
use Rattle.atomic_table.specs.Seated.{TableId}
use Rattle.view_lists.specs.Lists.{Has}
use Rattle.view_lists.proofs.Places.{at_short, each_put}
use Rattle.token_book.specs.Account.{Slip}
use Rattle.token_book.specs.Pocket.{Pocket}
use Rattle.token_book.specs.Purse.{Purse, empty_purse, left_in, bytes_left_in, left_of, bytes_of, HasPlace, HasRoom, IsOf, put_in}
use Rattle.token_book.proofs.Pulls.{left_of-put_in, bytes_of-put_in, IsOf-put_in}
use Rattle.token_book.proofs.Rooms.{room_within, place-empty, place-put_in}
use Rattle.tlm_types.specs.declared.words.ObjectNo.{ObjectNo}
use Rattle.tlm_model.specs.Plan.{Plan}
use Rattle.route_plan.specs.Counted.{share_at}
use Rattle.cargo_model.specs.Known.{objects_of}
use Rattle.plat_net.specs.Objects.{HasObject, bytes_at}
use Rattle.plat_build.specs.Tickets.{AreStocked, AreStockedTo, GotRights, IsStocked}
use Rattle.plat_net.proofs.Lookups.{at_index, at_read}
use Rattle.plat_net.proofs.ObjectLemmas.{sum_by-map}

in_range : (n k : ℕ) → k < n → Has (range_with_len 0 n) k
in_range n k below = (k, at_read (range_with_len 0 n) k k (omega (arith, length-range_with_len 0 n)) (sym (get_or-range_with_len 0 n k k below ∙ zero-add k)))

-- a wallet has room for an object where only objects up to it have a place
pub room_below : (w : Purse) (o : ℕ) → ((q : ℕ) → HasPlace w q → q < o + 1) → o < w.places → HasRoom w o
room_below w o few roomy = room_within w (range_with_len 0 (o + 1)) (omega (arith, length-range_with_len 0 (o + 1))) (λ q has. in_range (o + 1) q (few q has)) o (in_range (o + 1) o (omega arith))

-- the right to so many entries of an object, and to so many bytes
abbrev pub right : TableId → ℕ → ℕ → ℕ → Slip
right tokens o name amount = record { table = tokens; owner = o; name = name; amount = amount }

-- who has a place after a right was put in
pub few_put : (w : Purse) (t : Slip) (o : ℕ) → t.owner ≡ o → ((q : ℕ) → HasPlace w q → q < o + 1) → (q : ℕ) → HasPlace (put_in w t) q → q < o + 1
few_put w t o mine few q has = ⊎_elim (λ (same : q ≡ t.owner). omega arith) (λ (old : HasPlace w q). few q old) (place-put_in w t q has)

none_left : (w : Purse) (q : ℕ) → (HasPlace w q → ⊥) → (left_of w q ≡ 0) × (bytes_of w q ≡ 0)
none_left w q missing = one (fin.get w.held q) refl
  where
    one : (x : Option Pocket) → fin.get w.held q ≡ x → (left_in x ≡ 0) × (bytes_left_in x ≡ 0)
    one None is = (refl, refl)
    one (Some p) is = absurd (missing (ap (λ (x : Option Pocket). Rattle.std.specs.Prelude.is_some x) is))

tickets_put : (b : Bool) (a x y t : ℕ) → (b ≡ true → a ≡ 0) → x ≡ cond b (a + t) a → y ≡ cond b (x + 0) x → y ≡ cond b t a
tickets_put true a x y t none first second = let z = none refl in omega arith
tickets_put false a x y t none first second = second ∙ first

bytes_put : (b : Bool) (a x y t : ℕ) → (b ≡ true → a ≡ 0) → x ≡ cond b (a + 0) a → y ≡ cond b (x + t) x → y ≡ cond b t a
bytes_put true a x y t none first second = let z = none refl in omega arith
bytes_put false a x y t none first second = second ∙ first

same_number : (q o : ℕ) → (q == o) ≡ true → q ≡ o
same_number q o is = ⊎_elim (λ (same : q ≡ o). same) (λ (other : q ≢ o). let no : true ≡ false = sym is ∙ ne_eqb q o other in cc (no)) (cases_eq q o)

-- what a wallet has after both rights were put in
pub got_rights : (tokens : TableId) (w : Purse) (o tickets bytes : ℕ) → IsOf tokens w → ((q : ℕ) → HasPlace w q → q < o) → GotRights tokens o tickets bytes w (put_in (put_in w (right tokens o 0 tickets)) (right tokens o 1 bytes))
got_rights tokens w o tickets bytes all few =
    let t = right tokens o 0 tickets in
    let u = right tokens o 1 bytes in
    let v = put_in w t in
    let none : (q : ℕ) → (q == o) ≡ true → (left_of w q ≡ 0) × (bytes_of w q ≡ 0) = λ q is. none_left w q (λ has. let same = same_number q o is in let less = few q has in omega arith) in
    record {
      of = IsOf-put_in tokens v u refl (IsOf-put_in tokens w t refl all);
      places = refl;
      left = λ q. tickets_put (q == o) (left_of w q) (left_of v q) (left_of (put_in v u) q) tickets (λ is. (none q is).0) (left_of-put_in w t q) (left_of-put_in v u q);
      bytes_too = λ q. bytes_put (q == o) (bytes_of w q) (bytes_of v q) (bytes_of (put_in v u) q) bytes (λ is. (none q is).1) (bytes_of-put_in w t q) (bytes_of-put_in v u q);
      few = few_put v u o refl (few_put w t o refl (λ q has. let less = few q has in omega arith));
    }

-- there is one object of a number
one_at : (p : Plan) (k n : ℕ) (o q : ObjectNo) → k ≡ n → HasObject p.platform n q → HasObject p.platform k o → q ≡ o
one_at p k n o q same there here = some_same q o (sym there ∙ (ap (λ (j : ℕ). slice_get (objects_of p.platform) j) (sym same) ∙ here))
  where
    some_same : (x y : ObjectNo) → Some x ≡ Some y → x ≡ y
    some_same x y e = cc

-- a wallet that got the tickets of one object more
pub stocked_more : (tokens : TableId) (p : Plan) (n i : ℕ) (q : ObjectNo) (w v : Purse) → HasObject p.platform n q → IsStocked tokens p n i w → GotRights tokens n (share_at p i q) (bytes_at p i q) w v → IsStocked tokens p (n + 1) i v
stocked_more tokens p n i q w v there h got = record {
  of = got.of;
  places = got.places ∙ h.places;
  left = λ k o less here. ⊎_elim
      (λ (same : k ≡ n). got.left k ∙ cond-true (k == n) (share_at p i q) (left_of w k) (eq-eqb k n same) ∙ ap (share_at p i) (one_at p k n o q same there here))
      (λ (other : k ≢ n). got.left k ∙ cond-false (k == n) (share_at p i q) (left_of w k) (ne_eqb k n other) ∙ h.left k o (omega arith) here)
      (cases_eq k n);
  bytes = λ k o less here. ⊎_elim
      (λ (same : k ≡ n). got.bytes_too k ∙ cond-true (k == n) (bytes_at p i q) (bytes_of w k) (eq-eqb k n same) ∙ ap (bytes_at p i) (one_at p k n o q same there here))
      (λ (other : k ≢ n). got.bytes_too k ∙ cond-false (k == n) (bytes_at p i q) (bytes_of w k) (ne_eqb k n other) ∙ h.bytes k o (omega arith) here)
      (cases_eq k n);
  few = got.few;
}

-- an empty wallet has the tickets of no object
pub stocked_none : (tokens : TableId) (p : Plan) (i : ℕ) (w : Purse) → w ≡ empty_purse (length (objects_of p.platform)) → IsOf tokens w → IsStocked tokens p 0 i w
stocked_none tokens p i w is all = record {
  of = all;
  places = ap (λ (v : Purse). v.places) is;
  left = λ k o less here. absurd (omega arith);
  bytes = λ k o less here. absurd (omega arith);
  few = λ o has. absurd (place-empty (length (objects_of p.platform)) o (subst (λ (v : Purse). HasPlace v o) is has));
}

pub stocked_next : (tokens : TableId) (p : Plan) (n k : ℕ) (wallets : List Purse) (v : Purse) → AreStockedTo tokens p n k wallets → IsStocked tokens p (n + 1) k v → AreStockedTo tokens p n (k + 1) (set wallets k v)
stocked_next tokens p n k wallets v h new =
    let P : ℕ → Purse → Type 0 = λ j u. (j < k + 1 → IsStocked tokens p (n + 1) j u) × (k + 1 ≤ j → IsStocked tokens p n j u) in
    let all = each_put P wallets k v
    (λ j u ne at. ((λ less. h.before j u (omega arith) at), (λ more. h.after j u (omega arith) at)))
    ((λ less. new), (λ more. absurd (omega arith))) in
    record {
      count = length-set wallets k v ∙ h.count;
      before = λ i w less at. (all i w at).0 less;
      after = λ i w more at. (all i w at).1 more;
    }

pub stocked_end : (tokens : TableId) (p : Plan) (n k : ℕ) (wallets : List Purse) → k ≡ length p.platform.initiators → AreStockedTo tokens p n k wallets → AreStocked tokens p (n + 1) wallets
stocked_end tokens p n k wallets all h = record {
  count = h.count;
  each = λ i w at. h.before i w (let short = at_short wallets i w at in let c = h.count in omega arith) at;
}

-- what is counted for one initiator more
pub sum_range_more : (f : ℕ → ℕ) (n : ℕ) → sum_by f (range_with_len 0 (n + 1)) ≡ sum_by f (range_with_len 0 n) + f n
sum_range_more f n =
    let g : ℕ → ℕ = λ x. x in
    sym (sum_by-map g f (range_with_len 0 (n + 1))) ∙ sum_by-map-range_with_len_more g f 0 n n (zero-add n) ∙ ap (λ (k : ℕ). k + f n) (sum_by-map g f (range_with_len 0 n))

-- the wallet at the place of the next initiator
pub stocked_at : (tokens : TableId) (p : Plan) (n k : ℕ) (wallets : List Purse) (d : Purse) → AreStockedTo tokens p n k wallets → k < length wallets → IsStocked tokens p n k (get_or wallets k d)
stocked_at tokens p n k wallets d h below = h.after k (get_or wallets k d) (omega arith) (at_index wallets k d below)

pub got_same : (tokens : TableId) (o q e f b d : ℕ) (w v : Purse) → o ≡ q → e ≡ f → b ≡ d → GotRights tokens o e b w v → GotRights tokens q f d w v
got_same tokens o q e f b d w v oq ef bd h = subst (λ (x : ℕ). GotRights tokens x f d w v) oq (subst (λ (x : ℕ). GotRights tokens o x d w v) ef (subst (λ (x : ℕ). GotRights tokens o e x w v) bd h))
