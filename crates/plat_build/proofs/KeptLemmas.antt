-- What is handed out when a net is built.
use Rattle.std.proofs.Common.{◌≡◌, ℕ, suc, ◌+◌, ◌<◌, List, [], ◌∷◌, ◌++◌, length, map, set, replicate, get_or, Bool, true, Option, Some, None, refl, sym, ap, subst, ◌∙◌, arith}
use Rattle.std.specs.Prelude.{slice_get, is_some}
use Rattle.std.specs.List.{remove}
use Rattle.std.proofs.lemmas.List.{replicate_more}
use Rattle.std.proofs.lemmas.Option.{none-some, same_Some, slice_get_read}
use mathlib.Core.Option.{some}
use lib.ListN.{get_elem?}
use Rattle.atomic_table.specs.Seated.{TableId}
use Rattle.view_lists.proofs.Places.{each_end, each_put}
use Rattle.one_history.specs.declared.view.Frame.{Frame}
use Rattle.one_history.specs.Held.{Held}
use Rattle.one_history.specs.Moves.{fresh}
use Rattle.one_history.specs.Seats.{AreFresh}
use Rattle.token_book.specs.Account.{Account, fresh as fresh_book, AreFresh as AreFreshBooks}
use Rattle.tlm_types.specs.declared.entry.Content.{Content}
use Rattle.tlm_model.specs.Plan.{Plan}
use Rattle.plat_build.specs.Kept.{AreFreshFrom, AreFreshBooksFrom}
use Rattle.plat_net.proofs.Lookups.{at_read, map-push}

module _ {A : Type 0} where
  -- the rest of a list has what comes after its first item
  pub at_rest : (xs ys : List A) (k : ℕ) (x : A) → ys ≡ remove xs 0 → 0 < length xs → get_elem? ys k ≡ some x → get_elem? xs (suc k) ≡ some x
  at_rest [] ys k x is some_items at = absurd (omega arith)
  at_rest (y ∷ xs) ys k x is some_items at = subst (λ (l : List A). get_elem? l k ≡ some x) is at

  pub read_rest : (xs ys : List A) (k : ℕ) (x : A) → ys ≡ remove xs 0 → 0 < length xs → slice_get ys k ≡ Some x → slice_get xs (suc k) ≡ Some x
  read_rest [] ys k x is some_items at = absurd (omega arith)
  read_rest (y ∷ xs) ys k x is some_items at = subst (λ (l : List A). slice_get l k ≡ Some x) is at

  pub fewer_rest : (xs ys : List A) → ys ≡ remove xs 0 → 0 < length xs → length ys + 1 ≡ length xs
  fewer_rest [] ys is some_items = absurd (omega arith)
  fewer_rest (y ∷ xs) ys is some_items = let l : length ys ≡ length xs = ap length is in omega arith

  -- the item that comes next
  pub next_is : (all done rest left : List A) (x : A) → all ≡ done ++ left → left ≡ x ∷ rest → get_elem? all (length done) ≡ some x
  next_is all done rest left x whole is = subst (λ (l : List A). get_elem? l (length done) ≡ some x) (sym (whole ∙ ap (λ (l : List A). done ++ l) is)) (here done)
    where
      here : (front : List A) → get_elem? (front ++ x ∷ rest) (length front) ≡ some x
      here [] = refl
      here (y ∷ ys) = here ys

  pub whole_next : (all done rest left : List A) (x : A) → all ≡ done ++ left → left ≡ x ∷ rest → all ≡ (done ++ x ∷ []) ++ rest
  whole_next all done rest left x whole is = whole ∙ ap (λ (l : List A). done ++ l) is ∙ joined done
    where
      joined : (front : List A) → front ++ x ∷ rest ≡ (front ++ x ∷ []) ++ rest
      joined [] = refl
      joined (y ∷ ys) = ap (λ (l : List A). y ∷ l) (joined ys)

from_zero : (k : ℕ) → k ≡ 0 + k
from_zero k = omega arith

from_next : (n k : ℕ) → n + suc k ≡ n + 1 + k
from_next n k = omega arith

at_zero : (n : ℕ) → n + 0 ≡ n
at_zero n = omega arith

-- the seats of all objects
pub seats_from : (table : TableId) (frame : Frame Plan) (seats : List (Held Content Plan)) → AreFresh table frame seats → AreFreshFrom table frame 0 seats
seats_from table frame seats h k s at = let q = h k s at in (q.0, q.1 ∙ ap (fresh frame) (from_zero k))

-- the first of some seats, and the rest
pub seat_first : (table : TableId) (frame : Frame Plan) (n : ℕ) (seats : List (Held Content Plan)) (s : Held Content Plan) → AreFreshFrom table frame n seats → 0 < length seats → s ≡ get_or seats 0 s → (s.table ≡ table) × (s.knows ≡ fresh frame n)
seat_first table frame n seats s h some_seats is = let q = h 0 s (at_read seats 0 s some_seats is) in (q.0, q.1 ∙ ap (fresh frame) (at_zero n))

pub seats_rest : (table : TableId) (frame : Frame Plan) (n : ℕ) (seats rest : List (Held Content Plan)) → AreFreshFrom table frame n seats → rest ≡ remove seats 0 → 0 < length seats → AreFreshFrom table frame (n + 1) rest
seats_rest table frame n seats rest h is some_seats k s at = let q = h (suc k) s (at_rest seats rest k s is some_seats at) in (q.0, q.1 ∙ ap (fresh frame) (from_next n k))

-- the same of books
pub books_from : (tokens : TableId) (books : List Account) → AreFreshBooks tokens books → AreFreshBooksFrom tokens 0 books
books_from tokens books h k b at = h k b at ∙ ap (fresh_book tokens) (from_zero k)

pub book_first : (tokens : TableId) (n : ℕ) (books : List Account) (b : Account) → AreFreshBooksFrom tokens n books → 0 < length books → b ≡ get_or books 0 b → b ≡ fresh_book tokens n
book_first tokens n books b h some_books is = h 0 b (slice_get_read books (length books) 0 b refl some_books is) ∙ ap (fresh_book tokens) (at_zero n)

pub books_rest : (tokens : TableId) (n : ℕ) (books rest : List Account) → AreFreshBooksFrom tokens n books → rest ≡ remove books 0 → 0 < length books → AreFreshBooksFrom tokens (n + 1) rest
books_rest tokens n books rest h is some_books k b at = h (suc k) b (read_rest books rest k b is some_books at) ∙ ap (fresh_book tokens) (from_next n k)

module _ {A : Type 0} where
  -- what waits, after one was taken
  pub taken_kept : (P : ℕ → A → Type 0) (xs : List (Option A)) (k : ℕ) → ((j : ℕ) (x : A) → get_elem? xs j ≡ some (Some x) → P j x) → (j : ℕ) (x : A) → get_elem? (set xs k None) j ≡ some (Some x) → P j x
  taken_kept P xs k h j x at =
      let Q : ℕ → Option A → Type 0 = λ i u. (y : A) → u ≡ Some y → P i y in
      each_put Q xs k None (λ i u apart here y is. h i y (here ∙ ap some is)) (λ y is. absurd (none-some y is)) j (Some x) at x refl

  -- and with one more
  pub added_kept : (P : ℕ → A → Type 0) (xs ys : List (Option A)) (v : A) → ((j : ℕ) (x : A) → get_elem? xs j ≡ some (Some x) → P j x) → ys ≡ xs ++ Some v ∷ [] → P (length xs) v → (j : ℕ) (x : A) → get_elem? ys j ≡ some (Some x) → P j x
  added_kept P xs ys v h pushed new j x at =
      let Q : ℕ → Option A → Type 0 = λ i u. (y : A) → u ≡ Some y → P i y in
      each_end Q xs (Some v) (λ i u here y is. h i y (here ∙ ap some is)) (λ y is. subst (P (length xs)) (same_Some v y is) new) j (Some x) (subst (λ (l : List (Option A)). get_elem? l j ≡ some (Some x)) pushed at) x refl

  -- one more waits
  pub all_wait_more : (xs ys : List (Option A)) (v : A) (n : ℕ) → map (λ x. is_some x) xs ≡ replicate n true → ys ≡ xs ++ Some v ∷ [] → map (λ x. is_some x) ys ≡ replicate (n + 1) true
  all_wait_more xs ys v n all pushed =
      ap (map (λ x. is_some x)) pushed
      ∙ (map-push (λ x. is_some x) xs (Some v)
      ∙ (ap (λ (l : List Bool). l ++ true ∷ []) all
      ∙ replicate_more n true))
