-- How many references of a slot have a name, after each change of the slot.
use Rattle.std.proofs.Common.{◌≡◌, ℕ, suc, ◌+◌, ◌-◌, ◌*◌, ◌<◌, ◌≤◌, ◌==◌, Bool, true, false, cond, List, [], ◌∷◌, ◌++◌, length, Option, refl, sym, ap, ◌∙◌, subst, ⊎_elim, arith, zero-add}
use Rattle.std.specs.Prelude.{nat_lt, ◌/◌, ◌%◌, min}
use Rattle.std.specs.List.{All, sum_by, list_any}
use Rattle.std.proofs.lemmas.Bool.{ltb-true, cases_lt}
use Rattle.std.proofs.lemmas.Bool.Decides.{nat_tests}
use Rattle.std.proofs.lemmas.List.Sums.{sum_by-le}
use Rattle.std.proofs.lemmas.List.Elements.{All-weaker}
use Rattle.tlm_types.specs.declared.words.TxnId.{TxnId}
use Rattle.payload_pool.specs.Slots.{SlotView, tally, names_out, parts_out, all_out, has_name, name_of, reference_number, acquired_of, taken_slot, acquired_more, given_back, without}
use Rattle.payload_pool.proofs.Found.{any_count}
use Rattle.payload_pool.proofs.Tallies.{tally_push, tally_few, tally_without}

-- what a token of this name counts for a name
abbrev pub counts : ℕ → ℕ → ℕ
counts name m = cond {A = ℕ} (name == m) 1 0

free_at : (position acquired m x y : ℕ) → x ≡ 0 → y ≡ 0 → cond {A = ℕ} (m / 32 == position) (cond {A = ℕ} (nat_lt (m % 32) 15) x (cond {A = ℕ} (m % 32 == 16 + acquired) y 0)) 0 ≡ 0
free_at position acquired m x y e f = grind (arith, nat_tests)

-- a free slot has none
pub names_free : (s : SlotView) (m : ℕ) → length s.out ≡ 0 → names_out m s ≡ 0
names_free s m e =
    let a = tally_few (m % 32) s.out in
    let b = tally_few 15 s.out in
    free_at s.position s.acquired m (tally (m % 32) s.out) (tally 15 s.out) (omega arith) (omega arith)

few_at : (position acquired m x y n : ℕ) → x ≤ n → y ≤ n → cond {A = ℕ} (m / 32 == position) (cond {A = ℕ} (nat_lt (m % 32) 15) x (cond {A = ℕ} (m % 32 == 16 + acquired) y 0)) 0 ≤ n
few_at position acquired m x y n e f = grind (arith, nat_tests)

few_names : (s : SlotView) (m : ℕ) → length s.out ≤ 16 → names_out m s ≤ 16
few_names s m few =
    let a = tally_few (m % 32) s.out in
    let b = tally_few 15 s.out in
    few_at s.position s.acquired m (tally (m % 32) s.out) (tally 15 s.out) 16 (omega arith) (omega arith)

-- no name is out often
pub few_out : (slots : List SlotView) (m : ℕ) → length slots ≤ 16 → All (λ (s : SlotView). length s.out ≤ 16) slots → all_out m slots ≤ 256
few_out slots m short few =
    let h = sum_by-le (names_out m) 16 slots (All-weaker (λ (s : SlotView). length s.out ≤ 16) (λ (s : SlotView). names_out m s ≤ 16) (λ s l. few_names s m l) slots few) in
    omega arith

-- a slot at its Take has its baton
begun_at : (position m x : ℕ) → x ≡ cond {A = ℕ} (15 == m % 32) 1 0 → cond {A = ℕ} (m / 32 == position) (cond {A = ℕ} (nat_lt (m % 32) 15) x (cond {A = ℕ} (m % 32 == 16) 1 0)) 0 ≡ counts (32 * position + 16) m
begun_at position m x e = grind (arith, nat_tests)

pub names_begun : (x : TxnId) (position m : ℕ) → names_out m (taken_slot x position) ≡ counts (name_of position 16) m
names_begun x position m = begun_at position m (tally (m % 32) (15 ∷ [])) (zero-add (cond {A = ℕ} (15 == m % 32) 1 0))

-- an Acquire renames the baton and adds a hold
more_at : (position acquired name m x y z w : ℕ) → name / 32 ≡ position → name % 32 ≡ 16 + acquired → acquired < 15 → z ≡ 1
    → y ≡ x + cond {A = ℕ} (acquired == m % 32) 1 0 → w ≡ z + cond {A = ℕ} (acquired == 15) 1 0
    → cond {A = ℕ} (m / 32 == position) (cond {A = ℕ} (nat_lt (m % 32) 15) y (cond {A = ℕ} (m % 32 == 16 + (acquired + 1)) w 0)) 0 + counts name m
    ≡ cond {A = ℕ} (m / 32 == position) (cond {A = ℕ} (nat_lt (m % 32) 15) x (cond {A = ℕ} (m % 32 == 16 + acquired) z 0)) 0 + counts (name + 1) m + counts (name - 16) m
more_at position acquired name m x y z w p q few one e f = grind (arith, nat_tests)

pub names_more : (s : SlotView) (name m : ℕ) → name / 32 ≡ s.position → name % 32 ≡ 16 + s.acquired → s.acquired < 15 → tally 15 s.out ≡ 1
    → names_out m (acquired_more s) + counts name m ≡ names_out m s + counts (name + 1) m + counts (name - 16) m
names_more s name m p q few one =
    more_at s.position s.acquired name m (tally (m % 32) s.out) (tally (m % 32) (s.out ++ s.acquired ∷ [])) (tally 15 s.out) (tally 15 (s.out ++ s.acquired ∷ [])) p q few one
    (tally_push (m % 32) s.out s.acquired) (tally_push 15 s.out s.acquired)

-- a name that a slot has
pub record IsNamed (s : SlotView) (name : ℕ) : Type 0 where
  pub position : name / 32 ≡ s.position
  pub some : 1 ≤ tally (reference_number name) s.out
  pub own : 15 ≤ name % 32 → name % 32 ≡ 16 + s.acquired

named_at : (position acquired name x y : ℕ) → 0 < cond {A = ℕ} (name / 32 == position) (cond {A = ℕ} (nat_lt (name % 32) 15) x (cond {A = ℕ} (name % 32 == 16 + acquired) y 0)) 0
    → (name / 32 ≡ position) × ((name % 32 < 15 → 1 ≤ x) × (15 ≤ name % 32 → (1 ≤ y) × (name % 32 ≡ 16 + acquired)))
named_at position acquired name x y some =
    (grind (arith, nat_tests), (λ low. grind (arith, nat_tests), λ high. (grind (arith, nat_tests), grind (arith, nat_tests))))

pub is_named : (s : SlotView) (name : ℕ) → has_name name s ≡ true → IsNamed s name
is_named s name h =
    let some = ltb-true 0 (names_out name s) h in
    let q = named_at s.position s.acquired name (tally (name % 32) s.out) (tally 15 s.out) some in
    record {
      position = q.0;
      some =
          ⊎_elim
          (λ (low : name % 32 < 15). let e : reference_number name ≡ name % 32 = omega arith in subst (λ (k : ℕ). 1 ≤ tally k s.out) (sym e) (q.1.0 low))
          (λ (high : 15 ≤ name % 32). let e : reference_number name ≡ 15 = omega arith in subst (λ (k : ℕ). 1 ≤ tally k s.out) (sym e) (q.1.1 high).0)
          (cases_lt (name % 32) 15);
      own = λ high. (q.1.1 high).1;
    }

-- a reference that was given back
less_at : (position acquired name m n x y v w : ℕ) → name / 32 ≡ position → (15 ≤ name % 32 → name % 32 ≡ 16 + acquired) → n ≡ min (name % 32) 15
    → v + cond {A = ℕ} (n == m % 32) 1 0 ≡ x → w + cond {A = ℕ} (n == 15) 1 0 ≡ y
    → cond {A = ℕ} (m / 32 == position) (cond {A = ℕ} (nat_lt (m % 32) 15) v (cond {A = ℕ} (m % 32 == 16 + acquired) w 0)) 0 + counts name m
    ≡ cond {A = ℕ} (m / 32 == position) (cond {A = ℕ} (nat_lt (m % 32) 15) x (cond {A = ℕ} (m % 32 == 16 + acquired) y 0)) 0
less_at position acquired name m n x y v w p own e f g = grind (arith, nat_tests)

pub names_less : (s : SlotView) (kept : Option ℕ) (name m : ℕ) → IsNamed s name → names_out m (given_back (reference_number name) kept s) + counts name m ≡ names_out m s
names_less s kept name m is =
    let n = reference_number name in
    less_at s.position s.acquired name m n (tally (m % 32) s.out) (tally 15 s.out) (tally (m % 32) (without n s.out)) (tally 15 (without n s.out)) is.position is.own refl
    (tally_without (m % 32) n s.out is.some) (tally_without 15 n s.out is.some)

-- what a slot is asked to know whether it has a name
holds_at : (position acquired name x y : ℕ) → name / 32 ≡ position → name % 32 < 15 → x ≡ cond {A = ℕ} (name / 32 == position) (cond {A = ℕ} (nat_lt (name % 32) 15) x (cond {A = ℕ} (name % 32 == 16 + acquired) y 0)) 0
holds_at position acquired name x y p low = grind (arith, nat_tests)

pub has_hold : (s : SlotView) (name : ℕ) → name / 32 ≡ s.position → name % 32 < 15 → list_any (λ (m : ℕ). m == name % 32) s.out ≡ has_name name s
has_hold s name p low =
    any_count (λ (m : ℕ). m == name % 32) s.out ∙ ap (nat_lt 0) (holds_at s.position s.acquired name (tally (name % 32) s.out) (tally 15 s.out) p low)

owns_at : (position acquired name x y : ℕ) → name / 32 ≡ position → name % 32 ≡ 16 + acquired → y ≡ cond {A = ℕ} (name / 32 == position) (cond {A = ℕ} (nat_lt (name % 32) 15) x (cond {A = ℕ} (name % 32 == 16 + acquired) y 0)) 0
owns_at position acquired name x y p own = grind (arith, nat_tests)

pub has_own : (s : SlotView) (name : ℕ) → name / 32 ≡ s.position → name % 32 ≡ 16 + s.acquired → list_any (λ (m : ℕ). m == 15) s.out ≡ has_name name s
has_own s name p own =
    any_count (λ (m : ℕ). m == 15) s.out ∙ ap (nat_lt 0) (owns_at s.position s.acquired name (tally (name % 32) s.out) (tally 15 s.out) p own)
