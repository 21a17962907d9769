-- The numbers of objects in the history.
use Rattle.std.proofs.Common.{◌≡◌, ℕ, zero, suc, ◌+◌, ◌<◌, Bool, true, false, cond, not, List, [], ◌∷◌, ◌++◌, length, map, filter, Some, refl, sym, ap, subst, ◌∙◌, zero-add, arith, append_assoc, length-append}
use Rattle.std.specs.Prelude.{slice_get}
use Rattle.std.specs.List.{position_or_len, range_with_len}
use Rattle.std.proofs.lemmas.Bool.{eq-eqb, ne_eqb}
use Rattle.std.proofs.lemmas.List.{length-map}
use Rattle.std.proofs.lemmas.List.FromFn.{length-range_with_len}
use Rattle.tlm_types.specs.declared.words.ObjectNo.{ObjectNo}
use Rattle.tlm_types.specs.declared.words.ObjectNo.TheVariants.{Memory, Hop, Pool}
use Rattle.tlm_model.specs.History.{is_object}
use Rattle.tlm_model.specs.declared.platform.Platform.{Platform}
use Rattle.shared_object.specs.Standing.{Numbers}
use Rattle.route_plan.specs.Valid.{hop_count}
use Rattle.cargo_model.specs.Known.{is_used, object_number, objects_of}
use Rattle.plat_net.specs.Objects.{HasObject, pools_of, pools_start}

abbrev pub number_and_own : ℕ → ℕ → Numbers
number_and_own number own = record { number = number; own = own }

-- an object that isn't in the first part of a list
position_past : (test : ObjectNo → Bool) (xs ys : List ObjectNo) → ((k : ℕ) (o : ObjectNo) → slice_get xs k ≡ Some o → test o ≡ false) → position_or_len test (xs ++ ys) ≡ length xs + position_or_len test ys
position_past test [] ys none = sym (zero-add (position_or_len test ys))
position_past test (x ∷ xs) ys none =
    let rest = position_past test xs ys (λ k o at. none (suc k) o at) in
    let here : test x ≡ false = none 0 x refl in
    ap (λ (b : Bool). cond (not b) (1 + position_or_len test (xs ++ ys)) 0) here ∙ omega (arith, rest)

-- one of a range of objects
position_in : (f : ℕ → ObjectNo) (test : ObjectNo → Bool) (ys : List ObjectNo) (n a j : ℕ) → j < n → test (f (a + j)) ≡ true → ((i : ℕ) → i < j → test (f (a + i)) ≡ false) → position_or_len test (map f (range_with_len a n) ++ ys) ≡ j
position_in f test ys zero a j below here others = absurd (omega arith)
position_in f test ys (suc n) a zero below here others =
    let at : test (f a) ≡ true = ap (λ (k : ℕ). test (f k)) (no_more a) ∙ here in
    ap (λ (b : Bool). cond (not b) (1 + position_or_len test (map f (range_with_len (a + 1) n) ++ ys)) 0) at
  where
    no_more : (a : ℕ) → a ≡ a + 0
    no_more a = omega arith
position_in f test ys (suc n) a (suc j) below here others =
    let first : test (f a) ≡ false = ap (λ (k : ℕ). test (f k)) (no_more a) ∙ others 0 (omega arith) in
    let rest = position_in f test ys n (a + 1) j (omega arith) (ap (λ (k : ℕ). test (f k)) (one_on a j) ∙ here) (λ i less. ap (λ (k : ℕ). test (f k)) (one_on a i) ∙ others (suc i) (omega arith)) in
    ap (λ (b : Bool). cond (not b) (1 + position_or_len test (map f (range_with_len (a + 1) n) ++ ys)) 0) first ∙ omega (arith, rest)
  where
    no_more : (a : ℕ) → a ≡ a + 0
    no_more a = omega arith

    one_on : (a j : ℕ) → a + 1 + j ≡ a + suc j
    one_on a j = omega arith

-- what stands in a range of objects
in_range_is : (f : ℕ → ObjectNo) (test : ObjectNo → Bool) → ((i : ℕ) → test (f i) ≡ false) → (n a k : ℕ) (o : ObjectNo) → slice_get (map f (range_with_len a n)) k ≡ Some o → test o ≡ false
in_range_is f test none zero a k o at = cc
in_range_is f test none (suc n) a zero o at = subst (λ (q : ObjectNo). test q ≡ false) (same (f a) o at) (none a)
  where
    same : (x y : ObjectNo) → Some x ≡ Some y → x ≡ y
    same x y q = cc
in_range_is f test none (suc n) a (suc k) o at = in_range_is f test none n (a + 1) k o at

-- what a list has behind its first part
behind : (xs ys : List ObjectNo) (k : ℕ) (o : ObjectNo) → slice_get ys k ≡ Some o → slice_get (xs ++ ys) (length xs + k) ≡ Some o
behind [] ys k o at = ap (slice_get ys) (zero-add k) ∙ at
behind (x ∷ xs) ys k o at = ap (slice_get (x ∷ (xs ++ ys))) (one_on (length xs) k) ∙ behind xs ys k o at
  where
    one_on : (a b : ℕ) → suc a + b ≡ suc (a + b)
    one_on a b = omega arith

within : (xs ys : List ObjectNo) (k : ℕ) (o : ObjectNo) → slice_get xs k ≡ Some o → slice_get (xs ++ ys) k ≡ Some o
within [] ys k o at = cc
within (x ∷ xs) ys zero o at = at
within (x ∷ xs) ys (suc k) o at = within xs ys k o at

range_at : (f : ℕ → ObjectNo) (n a j : ℕ) → j < n → slice_get (map f (range_with_len a n)) j ≡ Some (f (a + j))
range_at f zero a j below = absurd (omega arith)
range_at f (suc n) a zero below = ap (λ (k : ℕ). Some (f k)) (no_more a)
  where
    no_more : (a : ℕ) → a ≡ a + 0
    no_more a = omega arith
range_at f (suc n) a (suc j) below = range_at f n (a + 1) j (omega arith) ∙ ap (λ (k : ℕ). Some (f k)) (one_on a j)
  where
    one_on : (a j : ℕ) → a + 1 + j ≡ a + suc j
    one_on a j = omega arith

-- the used ones of a range: one stands behind those before it, and there is no other such one before
used_at : (p : Platform) (n a j : ℕ) → j < n → is_used p (Pool (a + j)) ≡ true → slice_get (filter (is_used p) (map Pool (range_with_len a n))) (length (filter (is_used p) (map Pool (range_with_len a j)))) ≡ Some (Pool (a + j))
used_at p zero a j below used = absurd (omega arith)
used_at p (suc n) a zero below used =
    let at : is_used p (Pool a) ≡ true = ap (λ (k : ℕ). is_used p (Pool k)) (no_more a) ∙ used in
    ap (λ (b : Bool). slice_get (cond b (Pool a ∷ filter (is_used p) (map Pool (range_with_len (a + 1) n))) (filter (is_used p) (map Pool (range_with_len (a + 1) n)))) 0) at ∙ ap (λ (k : ℕ). Some (Pool k)) (no_more a)
  where
    no_more : (a : ℕ) → a ≡ a + 0
    no_more a = omega arith
used_at p (suc n) a (suc j) below used =
    by (is_used p (Pool a)) (used_at p n (a + 1) j (omega arith) (ap (λ (k : ℕ). is_used p (Pool k)) (one_on a j) ∙ used) ∙ ap (λ (k : ℕ). Some (Pool k)) (one_on a j))
  where
    one_on : (a j : ℕ) → a + 1 + j ≡ a + suc j
    one_on a j = omega arith

    by : (b : Bool) → slice_get (filter (is_used p) (map Pool (range_with_len (a + 1) n))) (length (filter (is_used p) (map Pool (range_with_len (a + 1) j)))) ≡ Some (Pool (a + suc j))
        → slice_get (cond b (Pool a ∷ filter (is_used p) (map Pool (range_with_len (a + 1) n))) (filter (is_used p) (map Pool (range_with_len (a + 1) n)))) (length (cond b (Pool a ∷ filter (is_used p) (map Pool (range_with_len (a + 1) j))) (filter (is_used p) (map Pool (range_with_len (a + 1) j))))) ≡ Some (Pool (a + suc j))
    by true rest = rest
    by false rest = rest

used_position : (p : Platform) (n a j : ℕ) → j < n → is_used p (Pool (a + j)) ≡ true → position_or_len (is_object (Pool (a + j))) (filter (is_used p) (map Pool (range_with_len a n))) ≡ length (filter (is_used p) (map Pool (range_with_len a j)))
used_position p zero a j below used = absurd (omega arith)
used_position p (suc n) a zero below used =
    let at : is_used p (Pool a) ≡ true = ap (λ (k : ℕ). is_used p (Pool k)) (no_more a) ∙ used in
    let same : is_object (Pool (a + 0)) (Pool a) ≡ true = eq-eqb a (a + 0) (no_more a) in
    ap (λ (b : Bool). position_or_len (is_object (Pool (a + 0))) (cond b (Pool a ∷ filter (is_used p) (map Pool (range_with_len (a + 1) n))) (filter (is_used p) (map Pool (range_with_len (a + 1) n))))) at
    ∙ ap (λ (b : Bool). cond (not b) (1 + position_or_len (is_object (Pool (a + 0))) (filter (is_used p) (map Pool (range_with_len (a + 1) n)))) 0) same
  where
    no_more : (a : ℕ) → a ≡ a + 0
    no_more a = omega arith
used_position p (suc n) a (suc j) below used =
    by (is_used p (Pool a)) (subst (λ (k : ℕ). position_or_len (is_object (Pool k)) (filter (is_used p) (map Pool (range_with_len (a + 1) n))) ≡ length (filter (is_used p) (map Pool (range_with_len (a + 1) j)))) (one_on a j) (used_position p n (a + 1) j (omega arith) (ap (λ (k : ℕ). is_used p (Pool k)) (one_on a j) ∙ used)))
  where
    one_on : (a j : ℕ) → a + 1 + j ≡ a + suc j
    one_on a j = omega arith

    other : is_object (Pool (a + suc j)) (Pool a) ≡ false
    other = ne_eqb a (a + suc j) (λ (e : a ≡ a + suc j). omega arith)

    by : (b : Bool) → position_or_len (is_object (Pool (a + suc j))) (filter (is_used p) (map Pool (range_with_len (a + 1) n))) ≡ length (filter (is_used p) (map Pool (range_with_len (a + 1) j)))
        → position_or_len (is_object (Pool (a + suc j))) (cond b (Pool a ∷ filter (is_used p) (map Pool (range_with_len (a + 1) n))) (filter (is_used p) (map Pool (range_with_len (a + 1) n))))
        ≡ length (cond b (Pool a ∷ filter (is_used p) (map Pool (range_with_len (a + 1) j))) (filter (is_used p) (map Pool (range_with_len (a + 1) j))))
    by true rest =
        ap (λ (b : Bool). cond (not b) (1 + position_or_len (is_object (Pool (a + suc j))) (filter (is_used p) (map Pool (range_with_len (a + 1) n)))) 0) other ∙ omega (arith, rest)
    by false rest = rest

-- the place of a used one tells how many stand before it
pub record Rank (p : Platform) (n a k i : ℕ) : Type 0 where
  pub past : ℕ
  pub is : i ≡ a + past
  pub below : past < n
  pub used : is_used p (Pool i) ≡ true
  pub before : length (filter (is_used p) (map Pool (range_with_len a past))) ≡ k

used_rank : (p : Platform) (n a k i : ℕ) → slice_get (filter (is_used p) (map Pool (range_with_len a n))) k ≡ Some (Pool i) → Rank p n a k i
used_rank p zero a k i at = cc
used_rank p (suc n) a k i at = by (λ j there. used_rank p n (a + 1) j i there) (is_used p (Pool a)) refl k at
  where
    one_on : (a j : ℕ) → a + 1 + j ≡ a + suc j
    one_on a j = omega arith

    no_more : (a : ℕ) → a ≡ a + 0
    no_more a = omega arith

    same : (x y : ℕ) → Some (Pool x) ≡ Some (Pool y) → x ≡ y
    same x y q = cc

    longer : (b : Bool) → is_used p (Pool a) ≡ b → (j : ℕ) → length (filter (is_used p) (map Pool (range_with_len a (suc j)))) ≡ length (cond b (Pool a ∷ filter (is_used p) (map Pool (range_with_len (a + 1) j))) (filter (is_used p) (map Pool (range_with_len (a + 1) j))))
    longer b is j = ap (λ (c : Bool). length (cond c (Pool a ∷ filter (is_used p) (map Pool (range_with_len (a + 1) j))) (filter (is_used p) (map Pool (range_with_len (a + 1) j))))) is

    by : ((j : ℕ) → slice_get (filter (is_used p) (map Pool (range_with_len (a + 1) n))) j ≡ Some (Pool i) → Rank p n (a + 1) j i) → (b : Bool) → is_used p (Pool a) ≡ b → (k : ℕ) → slice_get (cond b (Pool a ∷ filter (is_used p) (map Pool (range_with_len (a + 1) n))) (filter (is_used p) (map Pool (range_with_len (a + 1) n)))) k ≡ Some (Pool i) → Rank p (suc n) a k i
    by more true is zero at = let e : a ≡ i = same a i at in record { past = 0; is = omega arith; below = omega arith; used = ap (λ (x : ℕ). is_used p (Pool x)) (sym e) ∙ is; before = refl }
    by more true is (suc k) at =
        let r = more k at in
        let e : length (filter (is_used p) (map Pool (range_with_len (a + 1) r.past))) ≡ k = r.before in
        record { past = suc r.past; is = r.is ∙ one_on a r.past; below = (let b = r.below in omega arith); used = r.used; before = longer true is r.past ∙ ap suc e }
    by more false is k at =
        let r = more k at in
        record { past = suc r.past; is = r.is ∙ one_on a r.past; below = (let b = r.below in omega arith); used = r.used; before = longer false is r.past ∙ r.before }

-- the numbers of an object, one by one
pub numbers_are : (a b c d : ℕ) → a ≡ b → c ≡ d → number_and_own a c ≡ number_and_own b d
numbers_are a b c d first second = ap (λ (k : ℕ). number_and_own k c) first ∙ ap (number_and_own b) second

module _ (p : Platform) where
  abbrev ms : List ObjectNo
  ms = map Memory (range_with_len 0 (length p.memories))

  abbrev hs : List ObjectNo
  hs = map Hop (range_with_len 0 (hop_count p))

  abbrev ps : List ObjectNo
  ps = pools_of p (length p.initiators)

  ms_long : length (map Memory (range_with_len 0 (length p.memories))) ≡ length p.memories
  ms_long = length-map (range_with_len 0 (length p.memories)) Memory ∙ length-range_with_len 0 (length p.memories)

  hs_long : length (map Hop (range_with_len 0 (hop_count p))) ≡ hop_count p
  hs_long = length-map (range_with_len 0 (hop_count p)) Hop ∙ length-range_with_len 0 (hop_count p)

  -- the memories come first
  pub memory_there : (m : ℕ) → m < length p.memories → HasObject p m (Memory m)
  unfolding objects_of
  memory_there m below = within (ms ++ hs) ps m (Memory m) (within ms hs m (Memory m) (range_at Memory (length p.memories) 0 m below ∙ ap (λ (k : ℕ). Some (Memory k)) (zero-add m)))

  -- then the hops
  pub hop_there : (h : ℕ) → h < hop_count p → HasObject p (length p.memories + h) (Hop h)
  unfolding objects_of
  hop_there h below =
      ap (slice_get ((ms ++ hs) ++ ps)) (ap (λ (k : ℕ). k + h) (sym ms_long))
      ∙ within (ms ++ hs) ps (length ms + h) (Hop h) (behind ms hs h (Hop h) (range_at Hop (hop_count p) 0 h below ∙ ap (λ (k : ℕ). Some (Hop k)) (zero-add h)))

  -- then the pools
  pub pool_there : (i : ℕ) → i < length p.initiators → is_used p (Pool i) ≡ true → HasObject p (pools_start p + length (pools_of p i)) (Pool i)
  unfolding objects_of
  pool_there i below used =
      let long : length (ms ++ hs) ≡ pools_start p = length-append ms hs ∙ (ap (λ (k : ℕ). k + length hs) ms_long ∙ ap (λ (k : ℕ). length p.memories + k) hs_long) in
      ap (slice_get ((ms ++ hs) ++ ps)) (ap (λ (k : ℕ). k + length (pools_of p i)) (sym long))
      ∙ behind (ms ++ hs) ps (length (pools_of p i)) (Pool i) (subst (λ (k : ℕ). slice_get ps (length (pools_of p i)) ≡ Some (Pool k)) (zero-add i) (used_at p (length p.initiators) 0 i below (ap (λ (k : ℕ). is_used p (Pool k)) (zero-add i) ∙ used)))

  -- the place of a pool among the pools
  pub pool_rank : (i : ℕ) → i < length p.initiators → is_used p (Pool i) ≡ true → slice_get (pools_of p (length p.initiators)) (length (pools_of p i)) ≡ Some (Pool i)
  pool_rank i below used = subst (λ (k : ℕ). slice_get ps (length (pools_of p i)) ≡ Some (Pool k)) (zero-add i) (used_at p (length p.initiators) 0 i below (ap (λ (k : ℕ). is_used p (Pool k)) (zero-add i) ∙ used))

  -- and these are their numbers
  pub memory_number : (m : ℕ) → m < length p.memories → object_number p (Memory m) ≡ m
  unfolding objects_of
  memory_number m below =
      let test : ObjectNo → Bool = is_object (Memory m) in
      ap (position_or_len test) (append_assoc ms hs ps) ∙ position_in Memory test (hs ++ ps) (length p.memories) 0 m below (eq-eqb (0 + m) m (zero-add m)) (λ i less. ne_eqb (0 + i) m (λ (e : 0 + i ≡ m). omega arith))

  pub hop_number : (h : ℕ) → h < hop_count p → object_number p (Hop h) ≡ length p.memories + h
  unfolding objects_of
  hop_number h below =
      let test : ObjectNo → Bool = is_object (Hop h) in
      let whole = append_assoc ms hs ps in
      let here = position_in Hop test ps (hop_count p) 0 h below (eq-eqb (0 + h) h (zero-add h)) (λ i less. ne_eqb (0 + i) h (λ (e : 0 + i ≡ h). omega arith)) in
      ap (position_or_len test) whole ∙ (position_past test ms (hs ++ ps) (λ k o at. in_range_is Memory test (λ i. refl) (length p.memories) 0 k o at) ∙ omega (arith, ms_long, here))

  pub pool_number : (i : ℕ) → i < length p.initiators → is_used p (Pool i) ≡ true → object_number p (Pool i) ≡ pools_start p + length (pools_of p i)
  unfolding objects_of
  pool_number i below used =
      let test : ObjectNo → Bool = is_object (Pool i) in
      let whole = append_assoc ms hs ps in
      let here : position_or_len test ps ≡ length (pools_of p i) = subst (λ (k : ℕ). position_or_len (is_object (Pool k)) ps ≡ length (pools_of p i)) (zero-add i) (used_position p (length p.initiators) 0 i below (ap (λ (k : ℕ). is_used p (Pool k)) (zero-add i) ∙ used)) in
      let first = position_past test ms (hs ++ ps) (λ k o at. in_range_is Memory test (λ i. refl) (length p.memories) 0 k o at) in
      let second = position_past test hs ps (λ k o at. in_range_is Hop test (λ i. refl) (hop_count p) 0 k o at) in
      ap (position_or_len test) whole ∙ omega (arith, first, second, ms_long, hs_long, here)

  -- the pool at a place
  pub pool_at_place : (k i : ℕ) → slice_get (pools_of p (length p.initiators)) k ≡ Some (Pool i) → (object_number p (Pool i) ≡ pools_start p + k) × HasObject p (pools_start p + k) (Pool i)
  pool_at_place k i at =
      let r = used_rank p (length p.initiators) 0 k i at in
      let past : r.past ≡ i = (let e = r.is in omega arith) in
      let below : i < length p.initiators = (let b = r.below in omega arith) in
      let rank : length (pools_of p i) ≡ k = ap (λ (j : ℕ). length (pools_of p j)) (sym past) ∙ r.before in (
        pool_number i below r.used ∙ ap (λ (j : ℕ). pools_start p + j) rank,
        subst (λ (j : ℕ). HasObject p (pools_start p + j) (Pool i)) rank (pool_there i below r.used),
      )
