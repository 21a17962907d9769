-- A slot and its life in the log, after each entry.
use Rattle.std.proofs.Common.{◌≡◌, ◌⊎◌, ℕ, ◌+◌, ◌<◌, ◌≤◌, ◌==◌, cond, [], ◌∷◌, ◌++◌, length, Option, Some, None, refl, sym, ap, ◌∙◌, subst, inl, inr, ⊎_elim, arith, zero-add}
use Rattle.std.proofs.lemmas.Bool.{cases_lt}
use Rattle.std.proofs.lemmas.Bool.Decides.{nat_tests}
use Rattle.std.proofs.lemmas.List.{length_push}
use Rattle.tlm_types.specs.declared.words.TxnId.{TxnId}
use Rattle.flow_model.specs.Events.{Among}
use Rattle.flow_model.specs.Pools.{Life, Slots, AcquireStep, ReleaseStep}
use Rattle.payload_pool.specs.Slots.{SlotView, tally, taken_slot, acquired_more, given_back}
use Rattle.payload_pool.specs.Lives.{IsOfLife, IsOfLog, numbers_of}
use Rattle.payload_pool.proofs.Tallies.{tally_push, tally_cons, tally_without, length_without, among_tally}

-- a free slot has no life, and a live one has one
pub free_life : (s : SlotView) (position : ℕ) (o : Option Life) → length s.out ≡ 0 → IsOfLog s position o → o ≡ None
free_life s position None e is = refl
free_life s position (Some l) e is = let h = is.0.live in absurd (omega arith)

pub record HasLife (s : SlotView) (position : ℕ) (o : Option Life) : Type 0 where
  pub life : Life
  pub is : o ≡ Some life
  pub of : IsOfLife s life
  pub at : s.position ≡ position

pub live_life : (s : SlotView) (position : ℕ) (o : Option Life) → 0 < length s.out → IsOfLog s position o → HasLife s position o
live_life s position None some is = let e : length s.out ≡ 0 = ap length is in absurd (omega arith)
live_life s position (Some l) some is = record { life = l; is = refl; of = is.0; at = is.1 }

-- at the Take
first_numbers : (n : ℕ) → cond {A = ℕ} (15 == n) 1 0 + 0 ≡ numbers_of 0 n
first_numbers n = grind (arith, nat_tests)

pub first_life : (x : TxnId) (position : ℕ) → IsOfLife (taken_slot x position) (record { txn = x; acquired = 0; released = [] })
first_life x position = record {
  txn = refl;
  acquired = refl;
  few = omega arith;
  numbers = λ n. ap (λ (k : ℕ). k + 0) (zero-add (cond {A = ℕ} (15 == n) 1 0)) ∙ first_numbers n;
  total = refl;
  live = omega arith;
}

-- after an Acquire
next_numbers : (acquired n x y z : ℕ) → x + y ≡ numbers_of acquired n → z ≡ x + cond {A = ℕ} (acquired == n) 1 0 → z + y ≡ numbers_of (acquired + 1) n
next_numbers acquired n x y z e f = grind (arith, nat_tests)

pub more_life : (s : SlotView) (l : Life) → IsOfLife s l → s.acquired < 15 → IsOfLife (acquired_more s) (record { txn = l.txn; acquired = l.acquired + 1; released = l.released })
more_life s l is few =
    let one = length_push s.out s.acquired in
    let sum = is.total in
    record {
      txn = is.txn;
      acquired = ap (λ (n : ℕ). n + 1) is.acquired;
      few = omega arith;
      numbers = λ n. next_numbers s.acquired n (tally n s.out) (tally n l.released) (tally n (s.out ++ s.acquired ∷ [])) (is.numbers n) (tally_push n s.out s.acquired);
      total = omega arith;
      live = omega arith;
    }

-- after a reference was given back that wasn't the last
pub less_life : (s : SlotView) (l : Life) (n : ℕ) (kept : Option ℕ) → IsOfLife s l → 1 ≤ tally n s.out → 1 < length s.out
    → IsOfLife (given_back n kept s) (record { txn = l.txn; acquired = l.acquired; released = n ∷ l.released })
less_life s l n kept is some many =
    let one = length_without n s.out some in
    let sum = is.total in
    record {
      txn = is.txn;
      acquired = is.acquired;
      few = is.few;
      numbers = λ m.
          let a = tally_without m n s.out some in
          let b = tally_cons m n l.released in
          let c = is.numbers m in
          omega arith;
      total = omega arith;
      live = omega arith;
    }

-- a number that is out was acquired and not released
which : (acquired n x y : ℕ) → 1 ≤ x → x + y ≡ numbers_of acquired n → (n < acquired) ⊎ (n ≡ 15)
which acquired n x y some e =
    ⊎_elim
    (λ (below : n < acquired). inl below)
    (λ (above : acquired ≤ n). inr (grind (arith, nat_tests)))
    (cases_lt n acquired)

once : (acquired n x y : ℕ) → acquired ≤ 15 → 1 ≤ x → x + y ≡ numbers_of acquired n → y ≡ 0
once acquired n x y few some e = grind (arith, nat_tests)

-- the number stands once among those that are out
pub single : (s : SlotView) (l : Life) (n : ℕ) → IsOfLife s l → 1 ≤ tally n s.out → tally n s.out ≡ 1
single s l n is some = single_at s.acquired n (tally n s.out) (tally n l.released) is.few some (is.numbers n)
  where
    single_at : (acquired n x y : ℕ) → acquired ≤ 15 → 1 ≤ x → x + y ≡ numbers_of acquired n → x ≡ 1
    single_at acquired n x y few some e = grind (arith, nat_tests)

pub number_life : (s : SlotView) (l : Life) (n : ℕ) → IsOfLife s l → 1 ≤ tally n s.out → (n < l.acquired) ⊎ (n ≡ 15)
number_life s l n is some =
    ⊎_elim
    (λ (below : n < s.acquired). inl (subst (λ (a : ℕ). n < a) is.acquired below))
    (λ (own : n ≡ 15). inr own)
    (which s.acquired n (tally n s.out) (tally n l.released) some (is.numbers n))

pub not_released : (s : SlotView) (l : Life) (n : ℕ) → IsOfLife s l → 1 ≤ tally n s.out → Among l.released n → ⊥
not_released s l n is some a =
    let r = among_tally n l.released a in
    let z = once s.acquired n (tally n s.out) (tally n l.released) is.few some (is.numbers n) in
    absurd (omega arith)

last_at : (a b c d : ℕ) → a + b ≡ d + 1 → c ≡ d → (a == 1) ≡ (b == c)
last_at a b c d e f = grind (arith, nat_tests)

pub acquire_step : (slots : Slots) (k : ℕ) (s : SlotView) (position n : ℕ) → HasLife s position (slots k) → s.acquired < 15 → n ≡ s.acquired → AcquireStep slots k s.txn n
acquire_step slots k s position n h few e = record {
  live = record { life = h.life; is = h.is; txn = sym h.of.txn };
  number = e ∙ h.of.acquired;
  few = omega arith;
}

pub release_step : (slots : Slots) (k : ℕ) (s : SlotView) (position n : ℕ) → HasLife s position (slots k) → 1 ≤ tally n s.out → ReleaseStep slots k s.txn n (length s.out == 1)
release_step slots k s position n h some =
    let l = h.life in
    record {
      live = record { life = l; is = h.is; txn = sym h.of.txn };
      number = number_life s l n h.of some;
      new = not_released s l n h.of some;
      is_freed = last_at (length s.out) (length l.released) l.acquired s.acquired h.of.total (sym h.of.acquired);
    }
