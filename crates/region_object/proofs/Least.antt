-- The least open gate, by the gates that a memory keeps.
use Rattle.std.proofs.Common.{◌≡◌, ℕ, zero, suc, ◌+◌, ◌-◌, ◌<◌, ◌≤◌, ◌&&◌, Bool, true, false, cond, List, [], ◌∷◌, length, drop, Option, Some, None, refl, sym, ap, ◌∙◌, arith}
use Rattle.std.specs.Prelude.{slice_index_or, nat_le, position, option_map, if◌then◌else◌}
use Rattle.std.specs.List.{position_from}
use Rattle.std.proofs.lemmas.Iterator.Adapters.{position_from-zero}
use Rattle.std.proofs.lemmas.Bool.{cond-false}
use Rattle.std.proofs.lemmas.Bool.Decides.{nat_tests}
use Rattle.tlm_types.specs.declared.words.MemoryTraits.{MemoryTraits}
use Rattle.tlm_types.specs.declared.entry.Entry.{Entry}
use Rattle.region_object.specs.declared.gates.Gate.{Gate}
use Rattle.region_object.specs.declared.gates.Gate.TheVariants.{Fresh}
use Rattle.region_object.specs.Gates.{GatesView, HoldsGates, is_given_before, open_from}
use Rattle.region_object.specs.Grants.{is_open, least_from, least_open}

-- none has it
least_none : (test : ℕ → Bool) (g n : ℕ) → ((k : ℕ) → k < n → test (g + k) ≡ false) → None ≡ least_from test g n
least_none test g zero none_has = refl
least_none test g (suc n) none_has =
    let here : test g ≡ false = ap test (omega arith) ∙ none_has 0 (omega arith) in
    least_none test (g + 1) n (λ k l. ap test (omega arith) ∙ none_has (k + 1) (omega arith))
    ∙ sym (cond-false (test g) (Some g) (least_from test (g + 1) n) here)

-- the first of these gates is the least
by_first : (test : ℕ → Bool) (g0 i n : ℕ) (rest : Option ℕ) (b : Bool) → option_map (λ (k : ℕ). g0 + k) rest ≡ least_from test (g0 + i + 1) n → option_map (λ (k : ℕ). g0 + k) (cond b (Some i) rest) ≡ (if b then Some (g0 + i) else least_from test (g0 + i + 1) n)
by_first test g0 i n rest true same = refl
by_first test g0 i n rest false same = same

least_at : (test : ℕ → Bool) (p : Gate → Bool) (g0 i : ℕ) (l : List Gate) → ((k : ℕ) (x : Gate) → k < length l → test (g0 + i + k) ≡ p (slice_index_or l k x)) → option_map (λ (k : ℕ). g0 + k) (position_from p i l) ≡ least_from test (g0 + i) (length l)
least_at test p g0 i [] same = refl
least_at test p g0 i (x ∷ xs) same =
    let here : p x ≡ test (g0 + i) = sym (ap test (omega arith) ∙ same 0 x (omega arith)) in
    let next : g0 + (i + 1) ≡ g0 + i + 1 = omega arith in
    let rest : option_map (λ (k : ℕ). g0 + k) (position_from p (i + 1) xs) ≡ least_from test (g0 + i + 1) (length xs) = least_at test p g0 (i + 1) xs (λ k y l. ap test (omega arith) ∙ same (suc k) y (omega arith)) ∙ ap (λ (n : ℕ). least_from test n (length xs)) next in
    by_first test g0 i (length xs) (position_from p (i + 1) xs) (p x) rest
    ∙ ap (λ (b : Bool). if b then Some (g0 + i) else least_from test (g0 + i + 1) (length xs)) here

-- the first of these gates from `start` on is the least, where none before has it
least_skip : (test : ℕ → Bool) (p : Gate → Bool) (first start n : ℕ) (l : List Gate) → n ≡ first + start → ((k : ℕ) (x : Gate) → k < length l → start ≤ k → test (first + k) ≡ p (slice_index_or l k x)) → ((k : ℕ) → k < start → test (first + k) ≡ false) → option_map (λ (k : ℕ). n + k) (position p (drop start l)) ≡ least_from test first (length l)
least_skip test p first zero n l is same none_has =
    ap (λ (m : ℕ). option_map (λ (k : ℕ). m + k) (position p l)) is
    ∙ ap (λ (o : Option ℕ). option_map (λ (k : ℕ). first + 0 + k) o) (position_from-zero p l)
    ∙ least_at test p (first + 0) 0 l (λ k x l'. ap test (omega arith) ∙ same k x l' (omega arith))
    ∙ ap (λ (m : ℕ). least_from test m (length l)) (omega arith)
least_skip test p first (suc s) n [] is same none_has = refl
least_skip test p first (suc s) n (x ∷ xs) is same none_has =
    let here : test first ≡ false = ap test (omega arith) ∙ none_has 0 (omega arith) in
    least_skip test p (first + 1) s n xs (omega arith) (λ k y l m. ap test (omega arith) ∙ same (suc k) y (omega arith) (omega arith)) (λ k l. ap test (omega arith) ∙ none_has (suc k) (omega arith))
    ∙ sym (cond-false (test first) (Some first) (least_from test (first + 1) (length xs)) here)

at_most : (a b : ℕ) → a ≤ b → nat_le a b ≡ true
at_most a b h = grind (arith, nat_tests)

more_than : (a b : ℕ) → b < a → nat_le a b ≡ false
more_than a b h = grind (arith, nat_tests)

and_trues : (a b c d : Bool) → a ≡ true → c ≡ true → d ≡ true → (a && (b && (c && d))) ≡ b
and_trues true true c d x y z = ap (λ (e : Bool). e && d) y ∙ z
and_trues true false c d x y z = refl
and_trues false b c d x y z = absurd (cc (x))

and_last : (a b c d : Bool) → d ≡ false → (a && (b && (c && d))) ≡ false
and_last true true true d z = z
and_last true true false d z = refl
and_last true false c d z = refl
and_last false b c d z = refl

module _ (m : MemoryTraits) (v : GatesView) (log : List Entry) (h : HoldsGates m v log) (from low high before : ℕ) where
  abbrev test : ℕ → Bool
  test g = nat_le from g && is_open log low high before g

  known_at : (k : ℕ) (x : Gate) → k < length v.gates → test (v.first + k) ≡ (nat_le from (v.first + k) && (is_given_before before (slice_index_or v.gates k x) && (nat_le 0 high && nat_le low (m.size - 1))))
  known_at k x below = ap (λ (b : Bool). nat_le from (v.first + k) && b) ((h.each k x below).open_ low high before)

  -- the range lies in the memory, or begins there
  pub open_is : low ≤ m.size - 1 → open_from v from before ≡ least_open log (v.first, m.gates) from low high before
  open_is inside =
      least_skip test (is_given_before before) v.first (from - v.first) (v.first + (from - v.first)) v.gates refl
      (λ k x below late. known_at k x below ∙ and_trues (nat_le from (v.first + k)) (is_given_before before (slice_index_or v.gates k x)) (nat_le 0 high) (nat_le low (m.size - 1)) (at_most from (v.first + k) (omega arith)) (at_most 0 high (omega arith)) (at_most low (m.size - 1) inside))
      (λ k early. ap (λ (b : Bool). b && is_open log low high before (v.first + k)) (more_than from (v.first + k) (omega arith)))
      ∙ ap (λ (n : ℕ). least_from test v.first n) h.long

  -- it begins past its end
  pub none_is : m.size - 1 < low → None ≡ least_open log (v.first, m.gates) from low high before
  none_is outside = least_none test v.first m.gates (λ k below.
      let x : Gate = Fresh in
      known_at k x (let l = h.long in omega arith)
      ∙ and_last (nat_le from (v.first + k)) (is_given_before before (slice_index_or v.gates k x)) (nat_le 0 high) (nat_le low (m.size - 1)) (more_than low (m.size - 1) outside))
