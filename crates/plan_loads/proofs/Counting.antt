-- Counts of entries, one entry after another.
use Rattle.std.proofs.Common.{◌≡◌, ℕ, ◌+◌, ◌≤◌, Bool, true, false, List, [], ◌∷◌, ◌++◌, take, cond, ap, sym, ◌∙◌, arith}
use Rattle.std.specs.Int.{from_bool}
use Rattle.std.proofs.lemmas.List.Sums.{sum_by_push}
use Rattle.tlm_types.specs.declared.entry.Entry.{Entry}
use Rattle.tlm_types.specs.Entries.{is_access}
use Rattle.plan_loads.specs.Totals.{accesses_in, is_take, takes_in}

pub accesses-more : (h : List Entry) (i : ℕ) (e : Entry) → take (i + 1) h ≡ take i h ++ e ∷ [] → accesses_in (take i h) + cond (is_access e.what) 1 0 ≡ accesses_in (take (i + 1) h)
accesses-more h i e more = sym (ap accesses_in more ∙ sum_by_push (λ (x : Entry). cond (is_access x.what) 1 0) (take i h) e)

pub takes-more : (h : List Entry) (i : ℕ) (e : Entry) → take (i + 1) h ≡ take i h ++ e ∷ [] → takes_in (take i h) + cond (is_take e.what) 1 0 ≡ takes_in (take (i + 1) h)
takes-more h i e more = sym (ap takes_in more ∙ sum_by_push (λ (x : Entry). cond (is_take x.what) 1 0) (take i h) e)

-- a flag as a number
pub one-if : (b c : Bool) → b ≡ c → from_bool b ≡ cond c 1 0
one-if true c e = ap (λ (x : Bool). cond x 1 0) e
one-if false c e = ap (λ (x : Bool). cond x 1 0) e

pub one-at-most : (b : Bool) → cond b 1 0 ≤ 1
one-at-most true = omega arith
one-at-most false = omega arith
