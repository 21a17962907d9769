-- The accesses that visit an object, and the entries that initiators spend there.
use Rattle.std.proofs.Common.{◌≡◌, ◌≢◌, ℕ, zero, suc, ◌+◌, ◌<◌, ◌≤◌, List, [], ◌∷◌, ◌++◌, length, Option, Some, Bool, true, false, refl, ap, sym, subst, ◌⊎◌, inl, inr, arith}
use Rattle.std.specs.Prelude.{All, AllPairs, slice_get, sum_by}
use Rattle.std.proofs.lemmas.List.Sums.{sum_by-append, sum_by-cons}
use Rattle.std.proofs.lemmas.List.Kept.{AllPairs-cons}
use Rattle.std.proofs.lemmas.List.Elements.{All-cons}
use Rattle.tlm_types.specs.declared.words.ObjectNo.{ObjectNo}
use Rattle.tlm_types.specs.declared.words.TxnId.{TxnId}
use Rattle.tlm_types.specs.declared.entry.Entry.{Entry}
use Rattle.tlm_model.specs.History.{entries_at}
use Rattle.tlm_model.specs.Plan.{Plan, initiators_of}
use Rattle.flow_model.specs.Events.{Among, Event, entries}
use Rattle.flow_model.specs.Platform.{passage_of}
use Rattle.flow_model.proofs.Forms.{AllDiffer}
use Rattle.route_plan.specs.Counted.{share_at, share_by}
use Rattle.route_plan.specs.Planned.{planned_at}
use Rattle.joined_traffic.specs.Accesses.{accesses_at, accesses_below, all_accesses, chosen, numbers_by, sum_below, txn_of, visits}
use Rattle.joined_traffic.specs.Driven.{HasPaid, spent_at}
use Rattle.joined_traffic.specs.Ended.{HasSpent}

-- sums over the first numbers
sum_below_add : (f g : ℕ → ℕ) (n : ℕ) → sum_below (λ k. f k + g k) n ≡ sum_below f n + sum_below g n
sum_below_add f g zero = refl
sum_below_add f g (suc n) = let r : sum_below (λ k. f k + g k) n ≡ sum_below f n + sum_below g n = sum_below_add f g n in omega arith

sum_below_same : (f g : ℕ → ℕ) (n : ℕ) → ((k : ℕ) → k < n → f k ≡ g k) → sum_below f n ≡ sum_below g n
sum_below_same f g zero same = refl
sum_below_same f g (suc n) same =
    let r : sum_below f n ≡ sum_below g n = sum_below_same f g n (λ k l. same k (omega arith)) in
    let s : f n ≡ g n = same n (omega arith) in
    omega arith

sum_below_less : (f g : ℕ → ℕ) (n : ℕ) → ((k : ℕ) → k < n → f k ≤ g k) → sum_below f n ≤ sum_below g n
sum_below_less f g zero less = omega arith
sum_below_less f g (suc n) less =
    let r : sum_below f n ≤ sum_below g n = sum_below_less f g n (λ k l. less k (omega arith)) in
    let s : f n ≤ g n = less n (omega arith) in
    omega arith

sum_below_shift : (f : ℕ → ℕ) (n : ℕ) → sum_below f (suc n) ≡ f 0 + sum_below (λ k. f (suc k)) n
sum_below_shift f zero = let q : 0 + f 0 ≡ f 0 + 0 = omega arith in q
sum_below_shift f (suc n) = let r : sum_below f (suc n) ≡ f 0 + sum_below (λ k. f (suc k)) n = sum_below_shift f n in omega arith

sum_by_number : {X : Type 0} (f : Option X → ℕ) (xs : List X) → sum_below (λ k. f (slice_get xs k)) (length xs) ≡ sum_by (λ x. f (Some x)) xs
sum_by_number f [] = refl
sum_by_number f (x ∷ xs) =
    let r : sum_below (λ k. f (slice_get xs k)) (length xs) ≡ sum_by (λ y. f (Some y)) xs = sum_by_number f xs in
    let s : sum_below (λ k. f (slice_get (x ∷ xs) k)) (suc (length xs)) ≡ f (Some x) + sum_below (λ k. f (slice_get xs k)) (length xs) = sum_below_shift (λ k. f (slice_get (x ∷ xs) k)) (length xs) in
    let t : sum_by (λ y. f (Some y)) (x ∷ xs) ≡ f (Some x) + sum_by (λ y. f (Some y)) xs = sum_by-cons (λ y. f (Some y)) x xs in
    omega arith

-- the shares of an object add up
shares : (p : Plan) (o : ObjectNo) → sum_below (λ k. share_at p k o) (length (initiators_of p)) ≡ planned_at p o
unfolding planned_at
shares p o = sum_by_number (share_by p o) (initiators_of p)

-- an object has no more entries than were spent there
pub few_entries : (p : Plan) (h : List Event) (calls : TxnId → ℕ → ℕ) (mine : ℕ → List Entry) (left : ℕ → ObjectNo → ℕ) (o : ObjectNo)
    → ((k : ℕ) → k < length (initiators_of p) → HasPaid p h calls k (mine k) (left k)) → HasSpent p h left o
    → length (entries_at o (entries h)) ≤ sum_below (λ k. spent_at p calls (mine k) k o) (length (initiators_of p))
few_entries p h calls mine left o paid spent =
    let n : ℕ = length (initiators_of p) in
    let a : sum_below (λ k. share_at p k o) (length (initiators_of p)) ≤ sum_below (λ k. spent_at p calls (mine k) k o + left k o) (length (initiators_of p)) = sum_below_less (λ k. share_at p k o) (λ k. spent_at p calls (mine k) k o + left k o) (length (initiators_of p)) (λ k less. (paid k less).paid o) in
    let b = sum_below_add (λ k. spent_at p calls (mine k) k o) (λ k. left k o) (length (initiators_of p)) in
    let c = shares p o in
    omega arith

-- one of the accesses that visit an object
pub record Visits (p : Plan) (o : ObjectNo) (x : TxnId) : Type 0 where
  pub visits : visits o x (passage_of p x) ≡ true

in_chosen : (b : Bool) (x y : TxnId) (rest : List TxnId) → Among (chosen b x ++ rest) y → ((b ≡ true) × (x ≡ y)) ⊎ Among rest y
in_chosen true x y rest (inl q) = inl (refl, q)
in_chosen true x y rest (inr m) = inr m
in_chosen false x y rest m = inr m

among_later : (xs ys : List TxnId) (x : TxnId) → Among ys x → Among (xs ++ ys) x
among_later [] ys x m = m
among_later (y ∷ xs) ys x m = inr (among_later xs ys x m)

among_cases : (xs ys : List TxnId) (x : TxnId) → Among (xs ++ ys) x → Among xs x ⊎ Among ys x
among_cases [] ys x m = inr m
among_cases (y ∷ xs) ys x (inl q) = inl (inl q)
among_cases (y ∷ xs) ys x (inr m) = elim (among_cases xs ys x m) [ inl a ↦ inl (inr a) | inr b ↦ inr b ]

module _ (p : Plan) (o : ObjectNo) where
  record IsBelow (k n : ℕ) (x : TxnId) : Type 0 where
    initiator : x.initiator ≡ k
    seq : x.seq < n
    here : visits o x (passage_of p x) ≡ true

  is_below : (k n : ℕ) (x : TxnId) → Among (accesses_below p o k n) x → IsBelow k n x
  is_below k zero x m = absurd m
  is_below k (suc s) x m = elim (in_chosen (visits o (txn_of k s) (passage_of p (txn_of k s))) (txn_of k s) x (accesses_below p o k s) m) [
    | inl here ↦ record {
      initiator = sym (ap (λ (y : TxnId). y.initiator) here.1);
      seq = (let q : s ≡ x.seq = ap (λ (y : TxnId). y.seq) here.1 in omega arith);
      here = subst (λ (y : TxnId). visits o y (passage_of p y) ≡ true) here.1 here.0;
    }
    | inr later ↦ (let r = is_below k s x later in record { initiator = r.initiator; seq = (let l : x.seq < s = r.seq in omega arith); here = r.here })
  ]

  differ_below : (k n : ℕ) → AllDiffer (accesses_below p o k n)
  differ_below k zero = tt
  differ_below k (suc s) = go (visits o (txn_of k s) (passage_of p (txn_of k s))) (differ_below k s)
    where
      go : (b : Bool) → AllDiffer (accesses_below p o k s) → AllDiffer (chosen b (txn_of k s) ++ accesses_below p o k s)
      go true d = (λ m. (let l : s < s = (is_below k s (txn_of k s) m).seq in omega arith), d)
      go false d = d

  pub record IsIn (n : ℕ) (x : TxnId) : Type 0 where
    pub initiator : x.initiator < n
    pub here : visits o x (passage_of p x) ≡ true

  pub is_in : (n : ℕ) (x : TxnId) → Among (all_accesses p o n) x → IsIn n x
  is_in zero x m = absurd m
  is_in (suc k) x m = elim (among_cases (accesses_at p o k) (all_accesses p o k) x m) [
    | inl a ↦ (let r = is_below k (numbers_by (slice_get (initiators_of p) k)) x a in record { initiator = (let q : x.initiator ≡ k = r.initiator in omega arith); here = r.here })
    | inr b ↦ (let r = is_in k x b in record { initiator = (let l : x.initiator < k = r.initiator in omega arith); here = r.here })
  ]

  differ_append : (xs ys : List TxnId) → AllDiffer xs → AllDiffer ys → ((x : TxnId) → Among xs x → Among ys x → ⊥) → AllDiffer (xs ++ ys)
  differ_append [] ys d e apart = e
  differ_append (x ∷ xs) ys d e apart = (
    λ m. elim (among_cases xs ys x m) [ inl a ↦ d.0 a | inr b ↦ apart x (inl refl) b ],
    differ_append xs ys d.1 e (λ y a b. apart y (inr a) b),
  )

  pub all_differ : (n : ℕ) → AllDiffer (all_accesses p o n)
  all_differ zero = tt
  all_differ (suc k) = differ_append (accesses_at p o k) (all_accesses p o k) (differ_below k (numbers_by (slice_get (initiators_of p) k))) (all_differ k)
      (λ x a b. (let q : x.initiator ≡ k = (is_below k (numbers_by (slice_get (initiators_of p) k)) x a).initiator in let l : x.initiator < k = (is_in k x b).initiator in omega arith))

  pub sum_all : (f : TxnId → ℕ) (n : ℕ) → sum_by f (all_accesses p o n) ≡ sum_below (λ k. sum_by f (accesses_at p o k)) n
  sum_all f zero = refl
  sum_all f (suc k) =
      let r : sum_by f (all_accesses p o k) ≡ sum_below (λ j. sum_by f (accesses_at p o j)) k = sum_all f k in
      let s : sum_by f (accesses_at p o k ++ all_accesses p o k) ≡ sum_by f (accesses_at p o k) + sum_by f (all_accesses p o k) = sum_by-append f (accesses_at p o k) (all_accesses p o k) in
      omega arith

-- the same as a fact of each two
each : (xs : List TxnId) (P : TxnId → Type 0) → ((x : TxnId) → Among xs x → P x) → All P xs
each [] P f = λ k d less. absurd (omega arith)
each (x ∷ xs) P f = All-cons P x xs (f x (inl refl)) (each xs P (λ y m. f y (inr m)))

pub pairs_differ : (xs : List TxnId) → AllDiffer xs → AllPairs (λ x y. x ≢ y) xs
pairs_differ [] d = λ i j e less below. absurd (omega arith)
pairs_differ (x ∷ xs) d = AllPairs-cons (λ y z. y ≢ z) x xs (each xs (λ y. x ≢ y) (λ y m q. d.0 (subst (Among xs) (sym q) m))) (pairs_differ xs d.1)
