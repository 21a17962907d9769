-- At the end, where each access has its freed Release.
use Rattle.std.proofs.Common.{◌≡◌, ℕ, zero, suc, ◌+◌, ◌-◌, ◌<◌, ◌≤◌, List, [], ◌∷◌, ◌++◌, length, map, drop, Some, true, false, Bool, cond, nat_eq, refl, ap, sym, ◌∙◌, arith, subst, ◌⊎◌, inl, inr, append_assoc, length-drop}
use Rattle.std.specs.List.Sorted.{IsPermutation}
use Rattle.std.proofs.lemmas.Bool.{eq-eqb, eqb-true}
use Rattle.std.proofs.lemmas.List.{drop_more}
use Rattle.std.proofs.lemmas.List.Sorted.{IsPermutation-cons, IsPermutation-map, IsPermutation-middle, IsPermutation-trans, length_permutation}
use Rattle.tlm_types.specs.declared.words.ObjectNo.TheVariants.{Pool}
use Rattle.tlm_types.specs.declared.words.TxnId.{TxnId}
use Rattle.tlm_types.specs.declared.entry.Entry.{Entry}
use Rattle.tlm_types.specs.declared.entry.What.{What}
use Rattle.tlm_types.specs.declared.entry.What.TheVariants.{Access as Accessed, Granted, Invalidated, Closed, Call, Take, Acquire, Release}
use Rattle.tlm_model.specs.Each.{EachFrom}
use Rattle.tlm_model.specs.History.{entries_at}
use Rattle.flow_model.specs.Calls.{is_of}
use Rattle.flow_model.specs.World.{World, Passage, hop_at, hop_count}
use Rattle.flow_model.specs.Events.{Event, Among, Finds, IsAcquire, IsRelease, IsReleased, IsTake, at, entries, number_in, numbered, numbered_from}
use Rattle.flow_model.specs.Events.{acquires as entry_acquires}
use Rattle.flow_model.specs.Numbers.{released_hop}
use Rattle.flow_model.specs.Points.{IsFreed}
use Rattle.flow_model.specs.Counts.{release_time_by, release_times, take_by, takes}
use Rattle.flow_model.specs.Ends.{end_time, end_times}
use Rattle.flow_model.specs.Issue.{issue_time}
use Rattle.flow_model.specs.Platform.{world_of}
use Rattle.flow_model.specs.Traffic.{slots_of}
use Rattle.flow_model.specs.Law.{Premises}
use Rattle.flow_model.specs.Ending.{IsDone}
use Rattle.flow_model.proofs.CallLists.{entries-at}
use Rattle.flow_model.proofs.EndTimes.{end_is}
use Rattle.flow_model.proofs.Forms.{Given, acquire_by, acquires, is_txn}
use Rattle.flow_model.proofs.Freed.{acquire_few}
use Rattle.flow_model.proofs.Lives.{AcquireOf, ReleaseOf, number_counted, released_once}
use Rattle.flow_model.proofs.Numbers.{Distinct}
use Rattle.flow_model.proofs.OtherLaws.{ending_law}
use Rattle.flow_model.proofs.Reading.{backed_acquire, backed_release}
use Rattle.flow_model.proofs.Sayings.{is_txn_self, same_txn}
use Rattle.flow_model.proofs.Splits.{among_at, among_right, among_split, among_whole, from_at}
use Rattle.flow_model.proofs.TheLaw.{acquires_same, given}
use Rattle.flow_model.specs.Plans.{EndedLaw}
use Rattle.flow_model.proofs.PoolCounts.{taken_once}

some_same : {X : Type 0} (a b : X) → Some a ≡ Some b → a ≡ b
some_same a b q = cc

-- lists of different numbers with the same elements
record SplitAt (xs : List ℕ) (y : ℕ) : Type 0 where
  left : List ℕ
  right : List ℕ
  is : xs ≡ left ++ y ∷ right

split_at : (xs : List ℕ) (y : ℕ) → Among xs y → SplitAt xs y
split_at [] y m = absurd m
split_at (x ∷ xs) y (inl q) = record { left = []; right = xs; is = ap (λ (n : ℕ). n ∷ xs) q }
split_at (x ∷ xs) y (inr m) = let s = split_at xs y m in record { left = x ∷ s.left; right = s.right; is = ap (λ (l : List ℕ). x ∷ l) s.is }

among_middle : (a b : List ℕ) (y n : ℕ) → Among (a ++ y ∷ b) n → (y ≡ n) ⊎ Among (a ++ b) n
among_middle [] b y n (inl q) = inl q
among_middle [] b y n (inr m) = inr m
among_middle (x ∷ a) b y n (inl q) = inr (inl q)
among_middle (x ∷ a) b y n (inr m) = elim (among_middle a b y n m) [ inl q ↦ inl q | inr i ↦ inr (inr i) ]

among_around : (a b : List ℕ) (y n : ℕ) → Among (a ++ b) n → Among (a ++ y ∷ b) n
among_around [] b y n m = inr m
among_around (x ∷ a) b y n (inl q) = inl q
among_around (x ∷ a) b y n (inr m) = inr (among_around a b y n m)

among_here : (a b : List ℕ) (y : ℕ) → Among (a ++ y ∷ b) y
among_here [] b y = inl refl
among_here (x ∷ a) b y = inr (among_here a b y)

distinct_around : (a b : List ℕ) (y : ℕ) → Distinct (a ++ y ∷ b) → Distinct (a ++ b) × ¬ Among (a ++ b) y
distinct_around [] b y d = (d.1, d.0)
distinct_around (x ∷ a) b y d =
    let r = distinct_around a b y d.1 in
    ((λ m. d.0 (among_around a b y x m), r.0), λ m. elim m [ inl q ↦ d.0 (subst (λ (n : ℕ). Among (a ++ y ∷ b) n) (sym q) (among_here a b y)) | inr i ↦ r.1 i ])

same_numbers : (ys xs : List ℕ) → Distinct xs → Distinct ys → ((n : ℕ) → Among xs n → Among ys n) → ((n : ℕ) → Among ys n → Among xs n) → IsPermutation xs ys
same_numbers [] [] d e f g = record { moves = []; below = tt; is = refl }
same_numbers [] (x ∷ xs) d e f g = absurd (f x (inl refl))
same_numbers (y ∷ ys) xs d e f g =
    let s = split_at xs y (g y (inl refl)) in
    let d' = distinct_around s.left s.right y (subst Distinct s.is d) in
    let into : (n : ℕ) → Among (s.left ++ s.right) n → Among ys n = λ n m. elim (f n (subst (λ (l : List ℕ). Among l n) (sym s.is) (among_around s.left s.right y n m))) [ inl q ↦ absurd (d'.1 (subst (λ (k : ℕ). Among (s.left ++ s.right) k) (sym q) m)) | inr i ↦ i ] in
    let back : (n : ℕ) → Among ys n → Among (s.left ++ s.right) n = λ n m. elim (among_middle s.left s.right y n (subst (λ (l : List ℕ). Among l n) s.is (g n (inr m)))) [ inl q ↦ absurd (e.0 (subst (λ (k : ℕ). Among ys k) (sym q) m)) | inr i ↦ i ] in
    let rest : IsPermutation (s.left ++ s.right) ys = same_numbers ys (s.left ++ s.right) d'.0 e.1 into back in
    subst (λ (l : List ℕ). IsPermutation l (y ∷ ys)) (sym s.is)
    (IsPermutation-trans (s.left ++ y ∷ s.right) (y ∷ (s.left ++ s.right)) (y ∷ ys) (IsPermutation-middle s.left y s.right) (IsPermutation-cons y (s.left ++ s.right) ys rest))

-- the numbers from k on, n of them
up : ℕ → ℕ → List ℕ
up k zero = []
up k (suc n) = k ∷ up (suc k) n

up_bounds : (k n m : ℕ) → Among (up k n) m → (k ≤ m) × (m < k + n)
unfolding up
up_bounds k zero m i = absurd i
up_bounds k (suc n) m (inl q) = (omega arith, omega arith)
up_bounds k (suc n) m (inr i) = let b = up_bounds (suc k) n m i in let l : suc k ≤ m = b.0 in let u : m < suc k + n = b.1 in (omega arith, omega arith)

up_has : (k n m : ℕ) → k ≤ m → m < k + n → Among (up k n) m
unfolding up
up_has k zero m a b = absurd (omega arith)
up_has k (suc n) m a b = go (λ c. up_has (suc k) n m c (omega arith)) (nat_eq k m) refl
  where
    go : (suc k ≤ m → Among (up (suc k) n) m) → (c : Bool) → nat_eq k m ≡ c → (k ≡ m) ⊎ Among (up (suc k) n) m
    go f true q = inl (eqb-true k m q)
    go f false q = let d : ¬ (k ≡ m) = λ r. cc (q, eq-eqb k m r) in inr (f (omega arith))

up_distinct : (k n : ℕ) → Distinct (up k n)
unfolding up
up_distinct k zero = tt
up_distinct k (suc n) = ((λ m. let b : suc k ≤ k = (up_bounds (suc k) n k m).0 in absurd (omega arith)), up_distinct (suc k) n)

-- Takes
takes_some : (x : TxnId) (l : List Event) (e : Event) → Among l e → IsTake x e → 1 ≤ takes x (entries l)
takes_some x [] e m t = absurd m
takes_some x (f ∷ l) e (inl q) t =
    let own : is_txn x f.txn ≡ true = subst (λ (y : TxnId). is_txn x y ≡ true) (sym (ap (λ (d : Event). d.txn) q ∙ t.txn)) (is_txn_self x) in
    let one : take_by (is_txn x f.txn) f.what ≡ 1 = ap (λ (b : Bool). take_by b f.what) own ∙ ap (take_by true) (ap (λ (d : Event). d.what) q ∙ t.what) in
    omega arith
takes_some x (f ∷ l) e (inr m) t = let r : 1 ≤ takes x (entries l) = takes_some x l e m t in omega arith

takes-push : (x : TxnId) (l : List Entry) (e : Entry) → takes x (l ++ e ∷ []) ≡ takes x l + take_by (is_of x e) e.what
takes-push x [] e = omega arith
takes-push x (f ∷ l) e = let r : takes x (l ++ e ∷ []) ≡ takes x l + take_by (is_of x e) e.what = takes-push x l e in omega arith

takes_few : (x : TxnId) (before rest : List Entry) → takes x before ≤ 1 → EachFrom (λ before e. take_by true e.what ≡ 1 → takes e.txn before ≡ 0) before rest → takes x before + takes x rest ≤ 1
takes_few x before [] l f = omega arith
takes_few x before (e ∷ rest) l f =
    let push : takes x (before ++ e ∷ []) ≡ takes x before + take_by (is_of x e) e.what = takes-push x before e in
    let low : takes x before + take_by (is_of x e) e.what ≤ 1 = go (is_txn x e.txn) refl (take_by true e.what) refl in
    let r : takes x (before ++ e ∷ []) + takes x rest ≤ 1 = takes_few x (before ++ e ∷ []) rest (omega arith) f.1 in
    omega arith
  where
    take_small : (v : What) → (take_by true v ≡ 0) ⊎ (take_by true v ≡ 1)
    take_small (Take k) = inr refl
    take_small (Accessed way access status got) = inl refl
    take_small (Granted g f l k) = inl refl
    take_small (Invalidated f l) = inl refl
    take_small (Closed g) = inl refl
    take_small (Call p a) = inl refl
    take_small (Acquire k) = inl refl
    take_small (Release k f) = inl refl

    go : (b : Bool) → is_txn x e.txn ≡ b → (n : ℕ) → take_by true e.what ≡ n → takes x before + take_by (is_txn x e.txn) e.what ≤ 1
    go false q n r = let z : take_by (is_txn x e.txn) e.what ≡ 0 = ap (λ (c : Bool). take_by c e.what) q in omega arith
    go true q n r = elim (take_small e.what) [
      | inl z ↦ (let s : take_by (is_txn x e.txn) e.what ≡ 0 = ap (λ (c : Bool). take_by c e.what) q ∙ z in omega arith)
      | inr z ↦ (
          let s : take_by (is_txn x e.txn) e.what ≡ 1 = ap (λ (c : Bool). take_by c e.what) q ∙ z in
          let t : takes e.txn before ≡ 0 = f.0 z in
          let u : takes x before ≡ 0 = ap (λ (y : TxnId). takes y before) (sym (same_txn x e.txn q)) ∙ t in
          omega arith)
    ]

-- Acquires
acquires-append : (x : TxnId) (a b : List Event) → acquires x (a ++ b) ≡ acquires x a + acquires x b
acquires-append x [] b = omega arith
acquires-append x (e ∷ a) b = let r : acquires x (a ++ b) ≡ acquires x a + acquires x b = acquires-append x a b in omega arith

record Nth (x : TxnId) (l : List Event) (m : ℕ) : Type 0 where
  before : List Event
  event : Event
  behind : List Event
  is : l ≡ before ++ event ∷ behind
  number : acquires x before ≡ m
  acquire : AcquireOf x event.number event

data Acquires (x : TxnId) (e : Event) : Type 0 where
  one : acquire_by (is_txn x e.txn) e.what ≡ 1 → AcquireOf x e.number e → Acquires x e
  none : acquire_by (is_txn x e.txn) e.what ≡ 0 → Acquires x e

acquires_or : (x : TxnId) (e : Event) → Acquires x e
acquires_or x e = go (is_txn x e.txn) refl e.what refl
  where
    by : (b : Bool) → is_txn x e.txn ≡ b → (v : What) → e.what ≡ v → acquire_by (is_txn x e.txn) e.what ≡ acquire_by b v
    by b q v r = ap (λ (c : Bool). acquire_by c e.what) q ∙ ap (acquire_by b) r

    go : (b : Bool) → is_txn x e.txn ≡ b → (v : What) → e.what ≡ v → Acquires x e
    go true q (Acquire k) r = one (by true q (Acquire k) r) (record { txn = same_txn x e.txn q; number = refl; slot = k; what = r })
    go true q (Accessed way access status got) r = none (by true q _ r)
    go true q (Granted g f l k) r = none (by true q _ r)
    go true q (Invalidated f l) r = none (by true q _ r)
    go true q (Closed g) r = none (by true q _ r)
    go true q (Call p a) r = none (by true q _ r)
    go true q (Take k) r = none (by true q _ r)
    go true q (Release k f) r = none (by true q _ r)
    go false q v r = none (by false q v r)

nth : (x : TxnId) (l : List Event) (m : ℕ) → m < acquires x l → Nth x l m
nth x [] m b = absurd (omega arith)
nth x (e ∷ l) m b = go (λ n c. nth x l n c) (acquires_or x e) m b
  where
    onward : (m : ℕ) → (n : ℕ) → Nth x l n → acquire_by (is_txn x e.txn) e.what + n ≡ m → Nth x (e ∷ l) m
    onward m n r q = let t : acquires x r.before ≡ n = r.number in record { before = e ∷ r.before; event = r.event; behind = r.behind; is = ap (λ (k : List Event). e ∷ k) r.is; number = omega arith; acquire = r.acquire }

    go : ((n : ℕ) → n < acquires x l → Nth x l n) → Acquires x e → (m : ℕ) → m < acquire_by (is_txn x e.txn) e.what + acquires x l → Nth x (e ∷ l) m
    go f (one q c) zero b = record { before = []; event = e; behind = l; is = refl; number = refl; acquire = c }
    go f (one q c) (suc m) b = onward (suc m) m (f m (omega arith)) (omega arith)
    go f (none q) m b = onward m m (f m (omega arith)) (omega arith)

-- Releases
release_by : Bool → What → Event → List Event
release_by true (Release k freed) e = e ∷ []
release_by own what e = []

releases : TxnId → List Event → List Event
releases x [] = []
releases x (e ∷ l) = release_by (is_txn x e.txn) e.what e ++ releases x l

numbers_of : List Event → List ℕ
numbers_of l = map (λ (e : Event). e.number) l

data Releases (x : TxnId) (e : Event) : Type 0 where
  yes_one : release_by (is_txn x e.txn) e.what e ≡ e ∷ [] → release_time_by (is_txn x e.txn) e.what e.time ≡ e.time ∷ [] → ReleaseOf x e.number e → Releases x e
  not_one : release_by (is_txn x e.txn) e.what e ≡ [] → release_time_by (is_txn x e.txn) e.what e.time ≡ [] → ((n : ℕ) → ¬ ReleaseOf x n e) → Releases x e

releases_or : (x : TxnId) (e : Event) → Releases x e
unfolding release_by
releases_or x e = go (is_txn x e.txn) refl e.what refl
  where
    by : (b : Bool) → is_txn x e.txn ≡ b → (v : What) → e.what ≡ v → release_by (is_txn x e.txn) e.what e ≡ release_by b v e
    by b q v r = ap (λ (c : Bool). release_by c e.what e) q ∙ ap (λ (u : What). release_by b u e) r

    at_time : (b : Bool) → is_txn x e.txn ≡ b → (v : What) → e.what ≡ v → release_time_by (is_txn x e.txn) e.what e.time ≡ release_time_by b v e.time
    at_time b q v r = ap (λ (c : Bool). release_time_by c e.what e.time) q ∙ ap (λ (u : What). release_time_by b u e.time) r

    go : (b : Bool) → is_txn x e.txn ≡ b → (v : What) → e.what ≡ v → Releases x e
    go true q (Release k f) r = yes_one (by true q _ r) (at_time true q _ r) (record { txn = same_txn x e.txn q; number = refl; slot = k; freed = f; what = r })
    go true q (Accessed way access status got) r = not_one (by true q _ r) (at_time true q _ r) (λ n c. differ c.slot c.freed (sym r ∙ c.what))
      where
        differ : (s : ℕ) (f : Bool) → Accessed way access status got ≡ Release s f → ⊥
        differ s f z = cc
    go true q (Granted g a b k) r = not_one (by true q _ r) (at_time true q _ r) (λ n c. differ c.slot c.freed (sym r ∙ c.what))
      where
        differ : (s : ℕ) (f : Bool) → Granted g a b k ≡ Release s f → ⊥
        differ s f z = cc
    go true q (Invalidated a b) r = not_one (by true q _ r) (at_time true q _ r) (λ n c. differ c.slot c.freed (sym r ∙ c.what))
      where
        differ : (s : ℕ) (f : Bool) → Invalidated a b ≡ Release s f → ⊥
        differ s f z = cc
    go true q (Closed g) r = not_one (by true q _ r) (at_time true q _ r) (λ n c. differ c.slot c.freed (sym r ∙ c.what))
      where
        differ : (s : ℕ) (f : Bool) → Closed g ≡ Release s f → ⊥
        differ s f z = cc
    go true q (Call p a) r = not_one (by true q _ r) (at_time true q _ r) (λ n c. differ c.slot c.freed (sym r ∙ c.what))
      where
        differ : (s : ℕ) (f : Bool) → Call p a ≡ Release s f → ⊥
        differ s f z = cc
    go true q (Take k) r = not_one (by true q _ r) (at_time true q _ r) (λ n c. differ c.slot c.freed (sym r ∙ c.what))
      where
        differ : (s : ℕ) (f : Bool) → Take k ≡ Release s f → ⊥
        differ s f z = cc
    go true q (Acquire k) r = not_one (by true q _ r) (at_time true q _ r) (λ n c. differ c.slot c.freed (sym r ∙ c.what))
      where
        differ : (s : ℕ) (f : Bool) → Acquire k ≡ Release s f → ⊥
        differ s f z = cc
    go false q v r = not_one (by false q v r) (at_time false q v r) (λ n c. clash (sym (subst (λ (y : TxnId). is_txn x y ≡ true) (sym c.txn) (is_txn_self x)) ∙ q))
      where
        clash : ◌≡◌ {A = Bool} true false → ⊥
        clash z = cc

-- what stands among the numbers of the Releases
numbers_have : (x : TxnId) (l : List Event) (e : Event) (n : ℕ) → Among l e → ReleaseOf x n e → Among (numbers_of (releases x l)) n
unfolding releases numbers_of
numbers_have x [] e n m c = absurd m
numbers_have x (f ∷ l) e n m c = go (λ i. numbers_have x l e n i c) (releases_or x f) m
  where
    go : (Among l e → Among (numbers_of (releases x l)) n) → Releases x f → Among (f ∷ l) e → Among (numbers_of (release_by (is_txn x f.txn) f.what f ++ releases x l)) n
    go more (yes_one q t r) (inl s) = subst (λ (k : List Event). Among (numbers_of (k ++ releases x l)) n) (sym q) (inl (ap (λ (d : Event). d.number) s ∙ c.number))
    go more (yes_one q t r) (inr i) = subst (λ (k : List Event). Among (numbers_of (k ++ releases x l)) n) (sym q) (inr (more i))
    go more (not_one q t r) (inl s) = absurd (r n (subst (λ (d : Event). ReleaseOf x n d) (sym s) c))
    go more (not_one q t r) (inr i) = subst (λ (k : List Event). Among (numbers_of (k ++ releases x l)) n) (sym q) (more i)

record Released (x : TxnId) (l : List Event) (n : ℕ) : Type 0 where
  event : Event
  known : Among l event
  is : ReleaseOf x n event

numbers_are : (x : TxnId) (l : List Event) (n : ℕ) → Among (numbers_of (releases x l)) n → Released x l n
unfolding releases numbers_of
numbers_are x [] n m = absurd m
numbers_are x (f ∷ l) n m = go (λ i. numbers_are x l n i) (releases_or x f) m
  where
    later_one : Released x l n → Released x (f ∷ l) n
    later_one r = record { event = r.event; known = inr r.known; is = r.is }

    go : (Among (numbers_of (releases x l)) n → Released x l n) → Releases x f → Among (numbers_of (release_by (is_txn x f.txn) f.what f ++ releases x l)) n → Released x (f ∷ l) n
    go more (not_one q t r) m = later_one (more (subst (λ (k : List Event). Among (numbers_of (k ++ releases x l)) n) q m))
    go more (yes_one q t r) m = here (subst (λ (k : List Event). Among (numbers_of (k ++ releases x l)) n) q m)
      where
        here : (f.number ≡ n) ⊎ Among (numbers_of (releases x l)) n → Released x (f ∷ l) n
        here (inl s) = record { event = f; known = inl refl; is = subst (λ (k : ℕ). ReleaseOf x k f) s r }
        here (inr i) = later_one (more i)

-- the times, by a function of the numbers
times_are : (x : TxnId) (f : ℕ → ℕ) (l : List Event) → ((e : Event) → Among l e → (n : ℕ) → ReleaseOf x n e → e.time ≡ f n) → release_times x (entries l) ≡ map f (numbers_of (releases x l))
unfolding releases numbers_of
times_are x f [] g = refl
times_are x f (e ∷ l) g = go (times_are x f l (λ d m. g d (inr m))) (releases_or x e)
  where
    go : release_times x (entries l) ≡ map f (numbers_of (releases x l)) → Releases x e → release_time_by (is_txn x e.txn) e.what e.time ++ release_times x (entries l) ≡ map f (numbers_of (release_by (is_txn x e.txn) e.what e ++ releases x l))
    go r (not_one q t n) = ap (λ (k : List ℕ). k ++ release_times x (entries l)) t ∙ (r ∙ ap (λ (k : List Event). map f (numbers_of (k ++ releases x l))) (sym q))
    go r (yes_one q t c) =
        ap (λ (k : List ℕ). k ++ release_times x (entries l)) t
        ∙ ((λ i. g e (inl refl) e.number c i ∷ r i)
        ∙ ap (λ (k : List Event). map f (numbers_of (k ++ releases x l))) (sym q))

-- the numbered history has the freed Release
marked_among : (b : List Entry) (l : List Event) (e : Event) → Among l e → (f : Event) × Among (numbered_from b (entries l)) f × (f.entry ≡ e.entry)
marked_among b [] e m = absurd m
marked_among b (d ∷ l) e (inl q) = (record { entry = d.entry; number = number_in b d.txn d.what }, inl refl, ap (λ (c : Event). c.entry) q)
marked_among b (d ∷ l) e (inr m) = let r = marked_among (b ++ d.entry ∷ []) l e m in (r.0, inr r.1, r.2)

hop_is : (k : ℕ) → ¬ (k ≡ 15) → released_hop k ≡ k
hop_is k d = go (nat_eq k 15) refl
  where
    go : (b : Bool) → nat_eq k 15 ≡ b → cond b 0 k ≡ k
    go true q = absurd (d (eqb-true k 15 q))
    go false q = refl

module _ (w : World) (slots : ℕ → ℕ) (issued : List Entry → TxnId → ℕ) (h : List Event) (pr : Premises w slots issued h) (x : TxnId) (pass : Passage) (is : w.passage x ≡ Some pass) (freed : Finds (Among h) (IsFreed x)) where
  g : Given w slots issued h
  g = given w slots issued h pr

  done : IsDone w h x pass
  done = ending_law w slots issued h pr x pass is freed

  log : List Event
  log = at (Pool x.initiator) h

  -- the freed Release is that of a hop
  some_hop : 0 < hop_count pass
  some_hop =
      let s = among_split h freed.event freed.known in
      let b = backed_release w (Among s.before) x freed.is.number true freed.event (g.backed s.before freed.event s.after s.is) freed.is.release in
      let same : b.passage ≡ pass = some_same b.passage pass (sym b.is ∙ is) in
      let low : released_hop freed.is.number < hop_count pass = subst (λ (q : Passage). released_hop freed.is.number < hop_count q) same b.release.below in
      omega arith

  small : hop_count pass ≤ 15
  small =
      let some : 0 < hop_count pass = some_hop in
      let last : hop_count pass - 1 < 15 = acquire_few w slots issued h g x (hop_count pass - 1) (done.acquired (hop_count pass - 1) (omega arith)) in
      omega arith

  -- the Take
  taken : takes x (entries_at (Pool x.initiator) (entries h)) ≡ 1
  taken =
      let a = done.acquired 0 some_hop in
      let s = among_split h a.event a.known in
      let b = backed_acquire w (Among s.before) x 0 a.event (g.backed s.before a.event s.after s.is) a.is in
      let t = b.acquire.time in
      let low : 1 ≤ takes x (entries (at (Pool x.initiator) h)) = takes_some x (at (Pool x.initiator) h) t.event (among_at (Pool x.initiator) h t.event (among_whole h s.before s.after a.event t.event s.is t.known) t.is.object) t.is in
      let high : takes x [] + takes x (entries (at (Pool x.initiator) h)) ≤ 1 = takes_few x [] (entries (at (Pool x.initiator) h)) (omega arith) (taken_once (at (Pool x.initiator) h) (pr.one_take x.initiator)) in
      let same : takes x (entries_at (Pool x.initiator) (entries h)) ≡ takes x (entries (at (Pool x.initiator) h)) = ap (takes x) (entries-at (Pool x.initiator) h) in
      omega arith

  -- an Acquire of x in the log has a number below the number of hops
  below : (e : Event) → Among (at (Pool x.initiator) h) e → (n : ℕ) → AcquireOf x n e → n < hop_count pass
  below e m n c =
      let p = from_at (Pool x.initiator) h e m in
      let s = among_split h e p.among in
      let i : IsAcquire x n e = record { object = p.mine; txn = c.txn; number = c.number; slot = c.slot; what = c.what } in
      let b = backed_acquire w (Among s.before) x n e (g.backed s.before e s.after s.is) i in
      let same : b.passage ≡ pass = some_same b.passage pass (sym b.is ∙ is) in
      subst (λ (q : Passage). n < hop_count q) same b.acquire.below

  counted : (l a : List Event) (e : Event) → at (Pool x.initiator) h ≡ l ++ e ∷ a → (n : ℕ) → AcquireOf x n e → n ≡ acquires x l
  counted l a e q n c = number_counted (slots x.initiator) (at (Pool x.initiator) h) (g.pools x.initiator) (g.one_take x.initiator) l a e q x n c

  acquired : entry_acquires x (entries_at (Pool x.initiator) (entries h)) ≡ hop_count pass
  acquired =
      let last = done.acquired (hop_count pass - 1) (let s : 0 < hop_count pass = some_hop in omega arith) in
      let s = among_split (at (Pool x.initiator) h) last.event (among_at (Pool x.initiator) h last.event last.known last.is.object) in
      let c : AcquireOf x (hop_count pass - 1) last.event = record { txn = last.is.txn; number = last.is.number; slot = last.is.slot; what = last.is.what } in
      let n : hop_count pass - 1 ≡ acquires x s.before = counted s.before s.after last.event s.is (hop_count pass - 1) c in
      let one : acquire_by (is_txn x last.event.txn) last.event.what ≡ 1 =
      ap (λ (b : Bool). acquire_by b last.event.what) (subst (λ (y : TxnId). is_txn x y ≡ true) (sym last.is.txn) (is_txn_self x)) ∙ ap (acquire_by true) last.is.what in
      let sum : acquires x (at (Pool x.initiator) h) ≡ acquires x s.before + (acquire_by (is_txn x last.event.txn) last.event.what + acquires x s.after) = ap (acquires x) s.is ∙ acquires-append x s.before (last.event ∷ s.after) in
      let few : ¬ (hop_count pass < acquires x (at (Pool x.initiator) h)) = too_many in
      let some : 0 < hop_count pass = some_hop in
      let same : entry_acquires x (entries_at (Pool x.initiator) (entries h)) ≡ acquires x (at (Pool x.initiator) h) = ap (entry_acquires x) (entries-at (Pool x.initiator) h) ∙ acquires_same x (at (Pool x.initiator) h) in
      omega arith
    where
      too_many : ¬ (hop_count pass < acquires x (at (Pool x.initiator) h))
      too_many l =
          let n = nth x (at (Pool x.initiator) h) (hop_count pass) l in
          let here : Among (at (Pool x.initiator) h) n.event = subst (λ (k : List Event). Among k n.event) (sym n.is) (among_right n.before (n.event ∷ n.behind) n.event (inl refl)) in
          let b : n.event.number < hop_count pass = below n.event here n.event.number n.acquire in
          let c : n.event.number ≡ acquires x n.before = counted n.before n.behind n.event n.is n.event.number n.acquire in
          let d : acquires x n.before ≡ hop_count pass = n.number in
          omega arith

  -- the Releases
  on_hop : (e : Event) → Among (at (Pool x.initiator) h) e → (n : ℕ) → ReleaseOf x n e → released_hop n < hop_count pass
  on_hop e m n c =
      let p = from_at (Pool x.initiator) h e m in
      let s = among_split h e p.among in
      let i : IsRelease x n c.freed e = record { object = p.mine; txn = c.txn; number = c.number; slot = c.slot; what = c.what } in
      let b = backed_release w (Among s.before) x n c.freed e (g.backed s.before e s.after s.is) i in
      let same : b.passage ≡ pass = some_same b.passage pass (sym b.is ∙ is) in
      subst (λ (q : Passage). released_hop n < hop_count q) same b.release.below

  end_at : ℕ → ℕ
  end_at n = end_time w x (entries h) (drop (released_hop n) pass.hops)

  timed : (e : Event) → Among (at (Pool x.initiator) h) e → (n : ℕ) → ReleaseOf x n e → e.time ≡ end_at n
  unfolding end_at
  timed e m n c =
      let p = from_at (Pool x.initiator) h e m in
      let i : IsReleased x n e = record { freed = c.freed; release = record { object = p.mine; txn = c.txn; number = c.number; slot = c.slot; what = c.what } } in
      end_is w slots issued h g x pass (released_hop n) (on_hop e m n c) e.time (done.release_times n e p.among i)

  distinct_from : (b l : List Event) → at (Pool x.initiator) h ≡ b ++ l → Distinct (numbers_of (releases x l))
  unfolding releases numbers_of
  distinct_from b [] q = tt
  distinct_from b (e ∷ l) q = go (distinct_from (b ++ e ∷ []) l (q ∙ sym (append_assoc b (e ∷ []) l))) (releases_or x e)
    where
      alone : ReleaseOf x e.number e → ¬ Among (numbers_of (releases x l)) e.number
      alone c m =
          let r = numbers_are x l e.number m in
          let s = among_split l r.event r.known in
          let whole : at (Pool x.initiator) h ≡ (b ++ e ∷ s.before) ++ r.event ∷ s.after = q ∙ (ap (λ (k : List Event). b ++ e ∷ k) s.is ∙ sym (append_assoc b (e ∷ s.before) (r.event ∷ s.after))) in
          released_once (slots x.initiator) (at (Pool x.initiator) h) (g.pools x.initiator) (g.one_take x.initiator) (b ++ e ∷ s.before) s.after r.event whole x e.number r.is
          (record { event = e; known = among_right b (e ∷ s.before) e (inl refl); is = c })

      go : Distinct (numbers_of (releases x l)) → Releases x e → Distinct (numbers_of (release_by (is_txn x e.txn) e.what e ++ releases x l))
      go d (not_one r t n) = subst (λ (k : List Event). Distinct (numbers_of (k ++ releases x l))) (sym r) d
      go d (yes_one r t c) = subst (λ (k : List Event). Distinct (numbers_of (k ++ releases x l))) (sym r) (alone c, d)

  all_numbers : IsPermutation (numbers_of (releases x (at (Pool x.initiator) h))) (15 ∷ up 0 (hop_count pass))
  all_numbers = same_numbers (15 ∷ up 0 (hop_count pass)) (numbers_of (releases x (at (Pool x.initiator) h))) (distinct_from [] (at (Pool x.initiator) h) refl) (past, up_distinct 0 (hop_count pass)) into back
    where
      past : ¬ Among (up 0 (hop_count pass)) 15
      past m = let b : 15 < 0 + hop_count pass = (up_bounds 0 (hop_count pass) 15 m).1 in let s : hop_count pass ≤ 15 = small in omega arith

      into : (n : ℕ) → Among (numbers_of (releases x (at (Pool x.initiator) h))) n → Among (15 ∷ up 0 (hop_count pass)) n
      into n m = go (nat_eq n 15) refl
        where
          go : (b : Bool) → nat_eq n 15 ≡ b → Among (15 ∷ up 0 (hop_count pass)) n
          go true q = inl (sym (eqb-true n 15 q))
          go false q =
              let r = numbers_are x (at (Pool x.initiator) h) n m in
              let d : ¬ (n ≡ 15) = λ z. cc (q, eq-eqb n 15 z) in
              let b : released_hop n < hop_count pass = on_hop r.event r.known n r.is in
              let s : released_hop n ≡ n = hop_is n d in
              inr (up_has 0 (hop_count pass) n (omega arith) (omega arith))

      find : (n : ℕ) → (n < hop_count pass) ⊎ (n ≡ 15) → Among (numbers_of (releases x (at (Pool x.initiator) h))) n
      find n c =
          let f = done.released n c in
          numbers_have x (at (Pool x.initiator) h) f.event n (among_at (Pool x.initiator) h f.event f.known f.is.release.object)
          (record { txn = f.is.release.txn; number = f.is.release.number; slot = f.is.release.slot; freed = f.is.freed; what = f.is.release.what })

      back : (n : ℕ) → Among (15 ∷ up 0 (hop_count pass)) n → Among (numbers_of (releases x (at (Pool x.initiator) h))) n
      back n (inl q) = find n (inr (sym q))
      back n (inr m) = find n (inl (let b : n < 0 + hop_count pass = (up_bounds 0 (hop_count pass) n m).1 in omega arith))

  ends_from : (n k : ℕ) → k + n ≡ hop_count pass → map end_at (up k n) ≡ end_times w x (entries h) (drop k pass.hops)
  unfolding up end_at
  ends_from zero k q =
      let l : length (drop k pass.hops) ≡ length pass.hops - k = length-drop k pass.hops in
      ap (end_times w x (entries h)) (sym (nothing (drop k pass.hops) (omega arith)))
    where
      nothing : (xs : List ℕ) → length xs ≡ 0 → xs ≡ []
      nothing [] q = refl
      nothing (y ∷ xs) q = absurd (omega arith)
  ends_from (suc n) k q =
      let s : hop_count pass ≤ 15 = small in
      let d : ¬ (k ≡ 15) = λ z. (omega arith) in
      let here : drop k pass.hops ≡ hop_at pass k ∷ drop (k + 1) pass.hops = drop_more pass.hops k 0 (omega arith) in
      let step : suc k ≡ k + 1 = omega arith in
      let rest = ends_from n (suc k) (omega arith) ∙ ap (λ (m : ℕ). end_times w x (entries h) (drop m pass.hops)) step in
      (λ i. end_time w x (entries h) (drop (hop_is k d i) pass.hops) ∷ rest i)
      ∙ (ap (λ (l : List ℕ). end_time w x (entries h) l ∷ end_times w x (entries h) (drop (k + 1) pass.hops)) here
      ∙ sym (ap (end_times w x (entries h)) here))

  own_end : end_at 15 ≡ end_time w x (entries h) pass.hops
  unfolding end_at
  own_end = refl

  permuted : IsPermutation (release_times x (entries_at (Pool x.initiator) (entries h))) (end_time w x (entries h) pass.hops ∷ end_times w x (entries h) pass.hops)
  permuted =
      let a : release_times x (entries_at (Pool x.initiator) (entries h)) ≡ map end_at (numbers_of (releases x (at (Pool x.initiator) h))) =
      ap (release_times x) (entries-at (Pool x.initiator) h) ∙ times_are x end_at (at (Pool x.initiator) h) timed in
      let b : map end_at (15 ∷ up 0 (hop_count pass)) ≡ end_time w x (entries h) pass.hops ∷ end_times w x (entries h) pass.hops = ends_all in
      subst (λ (l : List ℕ). IsPermutation l (end_time w x (entries h) pass.hops ∷ end_times w x (entries h) pass.hops)) (sym a)
      (subst (λ (l : List ℕ). IsPermutation (map end_at (numbers_of (releases x (at (Pool x.initiator) h)))) l) b
      (IsPermutation-map end_at (numbers_of (releases x (at (Pool x.initiator) h))) (15 ∷ up 0 (hop_count pass)) all_numbers))
    where
      first : end_at 15 ≡ end_time w x (entries h) pass.hops
      first = own_end

      ends_all : map end_at (15 ∷ up 0 (hop_count pass)) ≡ end_time w x (entries h) pass.hops ∷ end_times w x (entries h) pass.hops
      ends_all = λ i. first i ∷ ends_from (hop_count pass) 0 (omega arith) i

  long : length (release_times x (entries_at (Pool x.initiator) (entries h))) ≡ hop_count pass + 1
  long =
      let q : length (end_time w x (entries h) pass.hops ∷ end_times w x (entries h) pass.hops) ≡ length (release_times x (entries_at (Pool x.initiator) (entries h))) = length_permutation (release_times x (entries_at (Pool x.initiator) (entries h))) (end_time w x (entries h) pass.hops ∷ end_times w x (entries h) pass.hops) permuted in
      let n : length (end_times w x (entries h) pass.hops) ≡ length pass.hops = as_many pass.hops in
      omega arith
    where
      as_many : (hops : List ℕ) → length (end_times w x (entries h) hops) ≡ length hops
      as_many [] = refl
      as_many (o ∷ hops) = ap suc (as_many hops)

  still_freed : Finds (Among (numbered (entries h))) (IsFreed x)
  still_freed =
      let m = marked_among [] h freed.event freed.known in
      let r = freed.is.release in
      record {
        event = m.0;
        known = m.1;
        is = record {
          number = m.0.number;
          release = record {
            object = ap (λ (d : Entry). d.object) m.2 ∙ r.object;
            txn = ap (λ (d : Entry). d.txn) m.2 ∙ r.txn;
            number = refl;
            slot = r.slot;
            what = ap (λ (d : Entry). d.what) m.2 ∙ r.what;
          };
        };
      }

pub ended_law : EndedLaw
ended_law p h pr freed =
    let w = world_of p in
    let s = slots_of p in
    let t = issue_time p in
    record {
      sequences = record { whole = λ x pass is k l. (done w s t h pr x pass is (freed x pass is)).whole k l };
      payloads = record {
        taken = λ x pass is. taken w s t h pr x pass is (freed x pass is);
        acquired = λ x pass is. acquired w s t h pr x pass is (freed x pass is);
        freed = λ x pass is. still_freed w s t h pr x pass is (freed x pass is);
        released = λ x pass is. long w s t h pr x pass is (freed x pass is);
      };
      releases = record { times = λ x pass is. permuted w s t h pr x pass is (freed x pass is) };
    }
