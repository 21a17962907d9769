-- What objects are made with, at the beginning and after one more.
use Rattle.std.proofs.Common.{◌≡◌, ℕ, zero, suc, ◌+◌, ◌*◌, ◌<◌, ◌≤◌, List, [], ◌∷◌, length, take, drop, sum_by, Some, refl, sym, ap, subst, ◌∙◌, arith}
use Rattle.std.specs.Prelude.{slice_get, slice_index_or}
use Rattle.std.specs.List.{remove, range_with_len}
use Rattle.std.proofs.lemmas.List.Sums.{sum_by-cons}
use Rattle.std.proofs.lemmas.List.{length-drop, length-take}
use Rattle.atomic_table.specs.Seated.{TableId}
use Rattle.one_history.specs.declared.view.Frame.{Frame}
use Rattle.one_history.specs.Held.{Held}
use Rattle.token_book.specs.Account.{Account, fresh as fresh_book, out_of}
use Rattle.token_book.specs.Purse.{Purse}
use Rattle.tlm_types.specs.declared.entry.Content.{Content}
use Rattle.tlm_types.specs.declared.words.ObjectNo.{ObjectNo}
use Rattle.tlm_model.specs.Plan.{Plan}
use Rattle.shared_object.specs.Standing.{IsBook}
use Rattle.route_plan.specs.Planned.{planned_at}
use Rattle.plat_build.specs.Kept.{AreFreshFrom, AreFreshBooksFrom}
use Rattle.plat_net.specs.Objects.{HasObject, frame_of}
use Rattle.plat_build.specs.Supplies.{AreSupplies, IsSupply, logged_by_all}
use Rattle.plat_build.specs.Tickets.{AreStocked}
use Rattle.plat_build.specs.Unused.{added_by_all}
use Rattle.plat_build.specs.declared.supplies.Supply.{Supply}
use Rattle.plat_build.proofs.KeptLemmas.{books_rest, fewer_rest, seats_rest}
use Rattle.plat_net.proofs.ObjectLemmas.{count_planned, planned_at_object}
use Rattle.plat_net.proofs.Lookups.{short_at}
use Rattle.cargo_model.specs.Known.{objects_of}

take_at : {A : Type 0} (xs : List A) (n k : ℕ) (x : A) → slice_get (take n xs) k ≡ Some x → slice_get xs k ≡ Some x
take_at [] zero k x at = at
take_at [] (suc n) k x at = at
take_at (y ∷ xs) zero k x at = cc
take_at (y ∷ xs) (suc n) zero x at = at
take_at (y ∷ xs) (suc n) (suc k) x at = take_at xs n k x at

drop_at : {A : Type 0} (xs : List A) (n k : ℕ) (x : A) → slice_get (drop n xs) k ≡ Some x → slice_get xs (n + k) ≡ Some x
drop_at xs zero k x at = ap (slice_get xs) (none_more k) ∙ at
  where
    none_more : (k : ℕ) → 0 + k ≡ k
    none_more k = omega arith
drop_at [] (suc n) k x at = cc
drop_at (y ∷ xs) (suc n) k x at = ap (slice_get (y ∷ xs)) (one_on n k) ∙ drop_at xs n k x at
  where
    one_on : (n k : ℕ) → suc n + k ≡ suc (n + k)
    one_on n k = omega arith

pub supplies_begin : (table tokens : TableId) (frame : Frame Plan) (seats : List (Held Content Plan)) (books front back : List Account) (wallets : List Purse) (n : ℕ) → AreFreshFrom table frame 0 seats → AreFreshBooksFrom tokens 0 books
    → length seats ≡ length frame.planned → length books ≡ 2 * length frame.planned → length frame.planned ≤ 336 → AreStocked tokens frame.world 0 wallets → n ≡ length seats → front ≡ take n books → back ≡ drop n books → AreSupplies table tokens frame 0 seats front back wallets
supplies_begin table tokens frame seats books front back wallets n fresh fresh_books count twice few stocked split is_front is_back = record {
  few = few;
  seats_fresh = fresh;
  books_fresh = λ k b at. fresh_books k b (take_at books n k b (subst (λ (l : List Account). slice_get l k ≡ Some b) is_front at));
  seconds_fresh = λ k b at.
      fresh_books (n + k) b (drop_at books n k b (subst (λ (l : List Account). slice_get l k ≡ Some b) is_back at)) ∙ ap (fresh_book tokens) (omega (arith, split, count));
  seat_count = omega (arith, count);
  book_count = omega (arith, ap length is_front, length-take n books, split, count, twice);
  second_count = omega (arith, ap length is_back, length-drop n books, split, count, twice);
  stocked = stocked;
}

pub supplies_more : (table tokens : TableId) (frame : Frame Plan) (n : ℕ) (seats left : List (Held Content Plan)) (books books_left seconds seconds_left : List Account) (wallets new : List Purse) → AreSupplies table tokens frame n seats books seconds wallets → n < length frame.planned
    → left ≡ remove seats 0 → books_left ≡ remove books 0 → seconds_left ≡ remove seconds 0 → AreStocked tokens frame.world (n + 1) new → AreSupplies table tokens frame (n + 1) left books_left seconds_left new
supplies_more table tokens frame n seats left books books_left seconds seconds_left wallets new h more is is_books is_seconds stocked =
    let some_seats : 0 < length seats = omega (arith, h.seat_count) in
    let some_books : 0 < length books = omega (arith, some_seats, h.book_count) in
    let some_seconds : 0 < length seconds = omega (arith, some_seats, h.second_count) in
    let fewer = fewer_rest seats left is some_seats in
    let fewer_books = fewer_rest books books_left is_books some_books in
    let fewer_seconds = fewer_rest seconds seconds_left is_seconds some_seconds in
    record {
      few = h.few;
      seats_fresh = seats_rest table frame n seats left h.seats_fresh is some_seats;
      books_fresh = books_rest tokens n books books_left h.books_fresh is_books some_books;
      seconds_fresh = subst (λ (k : ℕ). AreFreshBooksFrom tokens k seconds_left) (one_on (length frame.planned) n) (books_rest tokens (length frame.planned + n) seconds seconds_left h.seconds_fresh is_seconds some_seconds);
      seat_count = omega (arith, h.seat_count, fewer);
      book_count = omega (arith, h.book_count, fewer, fewer_books);
      second_count = omega (arith, h.second_count, fewer, fewer_seconds);
      stocked = stocked;
    }
  where
    one_on : (a b : ℕ) → a + b + 1 ≡ a + (b + 1)
    one_on a b = omega arith

-- the object of a number has its place among all that are planned
pub more_planned : (p : Plan) (f : Frame Plan) (k : ℕ) (o : ObjectNo) → f ≡ frame_of p → HasObject p.platform k o → k < length f.planned
more_planned p f k o frame there = omega (arith, short_at (objects_of p.platform) k o there, count_planned p, ap (λ (x : Frame Plan). length x.planned) frame)

pub object_again : (p : Plan) (f : Frame Plan) (k : ℕ) (o : ObjectNo) → f ≡ frame_of p → HasObject p.platform k o → HasObject f.world.platform k o
object_again p f k o frame there = subst (λ (x : Frame Plan). HasObject x.world.platform k o) (sym frame) there

-- the room for what is planned
pub room_is : (p : Plan) (f : Frame Plan) (k owner room : ℕ) (o : ObjectNo) → f ≡ frame_of p → owner ≡ k → HasObject p.platform k o → room ≡ planned_at p o → room ≡ slice_index_or f.planned owner 0
room_is p f k owner room o frame mine there planned =
    planned
    ∙ (sym (planned_at_object p k o there)
    ∙ (ap (λ (x : Frame Plan). slice_index_or x.planned k 0) (sym frame)
    ∙ ap (λ (j : ℕ). slice_index_or f.planned j 0) (sym mine)))

-- a ticket is out for each entry that is planned
pub book_is : (table tokens : TableId) (p : Plan) (f : Frame Plan) (n : ℕ) (o : ObjectNo) (s : Supply) (room bytes : ℕ) → f ≡ frame_of p → IsSupply table tokens f n o s → room ≡ added_by_all p o → logged_by_all p o ≤ bytes → IsBook tokens s.book.owner room bytes s.book
book_is table tokens p f n o s room bytes frame supply enough logged =
    let world : f.world ≡ p = ap (λ (x : Frame Plan). x.world) frame in
    record {
      of = supply.book_of;
      owner = refl;
      out = supply.entries ∙ (ap (λ (q : Plan). added_by_all q o) world ∙ sym enough);
      fit = omega (arith, supply.bytes, ap (λ (q : Plan). logged_by_all q o) world, logged);
    }

-- no other than a memory logs any bytes
pub nothing_logged : (ns : List ℕ) → sum_by (λ (n : ℕ). 0) ns ≤ 0
nothing_logged [] = omega arith
nothing_logged (n ∷ ns) = omega (arith, nothing_logged ns, sum_by-cons (λ (k : ℕ). 0) n ns)
