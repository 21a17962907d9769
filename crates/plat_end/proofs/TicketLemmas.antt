-- The tickets of wallets that go back.
use Rattle.std.proofs.Common.{◌≡◌, ℕ, zero, suc, ◌+◌, ◌<◌, ◌≤◌, List, [], ◌∷◌, length, get_or, set, Option, Some, None, refl, ap, sym, subst, ◌∙◌, arith, ⊎_elim}
use Rattle.std.specs.Prelude.{All, slice_get, slice_index_or, sum_by}
use Rattle.std.proofs.lemmas.Bool.{cases_lt}
use Rattle.std.proofs.lemmas.List.{length-map}
use Rattle.std.proofs.lemmas.List.Sums.{sum_by-cons, sum_by-set}
use Rattle.std.proofs.lemmas.Option.{get_or_from_slice_get}
use mathlib.Core.Option.{some}
use lib.ListN.{get_elem?}
use Rattle.atomic_table.specs.Seated.{TableId}
use Rattle.one_history.specs.declared.view.Frame.{Frame}
use Rattle.one_history.specs.Held.{Held}
use Rattle.one_history.specs.Moves.{own_of}
use Rattle.shared_object.specs.Standing.{IsBook, IsSeat}
use Rattle.shared_object.specs.Written.{Written, placed}
use Rattle.token_book.specs.Account.{Account, out_of}
use Rattle.token_book.specs.Purse.{Purse, left_of}
use Rattle.tlm_types.specs.declared.entry.Content.{Content}
use Rattle.tlm_types.specs.declared.words.ObjectNo.{ObjectNo}
use Rattle.entry_log.specs.Log.{LogView}
use Rattle.tlm_model.specs.declared.platform.Platform.{Platform}
use Rattle.tlm_model.specs.History.{is_object}
use Rattle.tlm_model.specs.Plan.{Plan, initiators_of}
use Rattle.joined_traffic.specs.Accesses.{sum_below}
use Rattle.cargo_model.specs.Known.{object_number, objects_of}
use Rattle.cargo_model.proofs.Origins.{is_that}
use Rattle.cargo_net.proofs.Lists.{at_position}
use Rattle.cargo_net.proofs.ObjectsOnce.{stands_once}
use Rattle.net_end.specs.Closed.{AreHandedBack}
use Rattle.net_end.proofs.Reading.{there}
use Rattle.plat_net.proofs.Lookups.{short_at}
use Rattle.plat_end.specs.Apart.{left_by, left_with}
use Rattle.plat_build.specs.Kept.{HasNoOthers}
use Rattle.plat_end.specs.Taking.{IsPaid, IsTaken, tickets_at}

module _ {A : Type 0} (f : A → ℕ) where
  -- where each has nothing, all have nothing
  pub none_in_all : (l : List A) → ((k : ℕ) (x : A) → get_elem? l k ≡ some x → f x ≡ 0) → sum_by f l ≡ 0
  none_in_all [] none = refl
  none_in_all (x ∷ l) none = omega (arith, sum_by-cons f x l, none 0 x refl, none_in_all l (λ k y at. none (suc k) y at))

  -- where one item is changed and has as much as before, all have
  pub same_in_all : (l : List A) (k : ℕ) (y d : A) → k < length l → f y ≡ f (get_or l k d) → sum_by f (set l k y) ≡ sum_by f l
  same_in_all l k y d below same = omega (arith, sum_by-set f l k y d below)

-- No more tickets of an object than are out are in the wallets, and one is out for each entry for which there is room.
pub paid_by : (table tokens : TableId) (frame : Frame Plan) (n room bytes : ℕ) (written : List Written) (seat : Held Content Plan) (book : Account) (wallets : List Purse) → IsSeat table frame n written seat → length written + room ≡ slice_index_or frame.planned n 0
    → IsBook tokens n room bytes book → tickets_at book.owner wallets ≤ out_of 0 book.out → IsPaid frame n wallets seat
paid_by table tokens frame n room bytes written seat book wallets is planned is_book few =
    let long : length (own_of seat.knows) ≡ length written = ap length is.own ∙ length-map written (placed n) in
    let here : tickets_at book.owner wallets ≡ tickets_at n wallets = ap (λ (k : ℕ). tickets_at k wallets) is_book.owner in
    omega (arith, long, planned, is_book.out, few, here)

-- a sum, with its first number apart
sum_front : (f : ℕ → ℕ) (n : ℕ) → sum_below f (suc n) ≡ f 0 + sum_below (λ i. f (suc i)) n
sum_front f zero = omega arith
sum_front f (suc n) =
    let last : sum_below f (suc (suc n)) ≡ sum_below f (suc n) + f (suc n) = refl in
    let rest : sum_below (λ i. f (suc i)) (suc n) ≡ sum_below (λ i. f (suc i)) n + f (suc n) = refl in
    omega (arith, last, rest, sum_front f n)

sum_none : (f : ℕ → ℕ) → ((k : ℕ) → f k ≡ 0) → (n : ℕ) → sum_below f n ≡ 0
sum_none f none zero = refl
sum_none f none (suc n) = omega (arith, sum_none f none n, none n)

-- the first initiators have no more left than all wallets have together
few_by : (p : Platform) (o : ObjectNo) (wallets : List Purse) (n : ℕ) → sum_below (λ i. left_by p wallets i o) n ≤ tickets_at (object_number p o) wallets
few_by p o [] n = omega (arith, sum_none (λ i. left_by p [] i o) (λ k. refl) n)
few_by p o (w ∷ wallets) zero = omega arith
few_by p o (w ∷ wallets) (suc n) =
    let f : ℕ → ℕ = λ i. left_by p (w ∷ wallets) i o in
    omega (arith, sum_front f n, few_by p o wallets n, sum_by-cons (λ (v : Purse). left_of v (object_number p o)) w wallets)

-- an object that isn't there has a number past those of all objects
number_past : (p : Platform) (o : ObjectNo) → ((k : ℕ) → slice_get (objects_of p) k ≡ Some o → ⊥) → length (objects_of p) ≤ object_number p o
number_past p o none = ⊎_elim
    (λ (below : object_number p o < length (objects_of p)).
    let found = there (objects_of p) (object_number p o) below in
    let same : found.0 ≡ o = is_that o found.0 (at_position (is_object o) (objects_of p) found.0 found.1) in
    absurd (none (object_number p o) (found.1 ∙ ap (λ (x : ObjectNo). Some x) same)))
    (λ (past : length (objects_of p) ≤ object_number p o). past)
    (cases_lt (object_number p o) (length (objects_of p)))

-- the initiators have nothing of an object that isn't there
none_by : (p : Platform) (wallets : List Purse) → All (HasNoOthers p) wallets → (o : ObjectNo) → ((k : ℕ) → slice_get (objects_of p) k ≡ Some o → ⊥) → (i : ℕ) → left_by p wallets i o ≡ 0
none_by p wallets no_others o none i = by (slice_get wallets i) refl
  where
    by : (w : Option Purse) → slice_get wallets i ≡ w → left_with p o w ≡ 0
    by None is = refl
    by (Some w) is =
        let own : HasNoOthers p w = subst (HasNoOthers p) (get_or_from_slice_get wallets i w w is) (no_others i w (short_at wallets i w is)) in
        own (object_number p o) (number_past p o none)

-- what the initiators have left was handed back
pub all_handed_back : (table : TableId) (frame : Frame Plan) (start now : List Purse) (logs : List LogView) (seats : List (Held Content Plan)) → IsTaken table frame start now logs seats → All (HasNoOthers frame.world.platform) start
    → AreHandedBack frame seats (left_by frame.world.platform start)
all_handed_back table frame start now logs seats taken no_others = record {
  each = λ k o seat at sits.
      let p = frame.world.platform in
      let number : k ≡ object_number p o = stands_once p k o at in
      let same : tickets_at (object_number p o) start ≡ tickets_at k start = ap (λ (n : ℕ). tickets_at n start) (sym number) in
      let few = few_by p o start (length (initiators_of frame.world)) in
      let paid = taken.paid k seat sits in
      omega (arith, few, same, paid);
  others = λ o none i. none_by frame.world.platform start no_others o none i;
}
