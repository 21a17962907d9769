-- The tests of sequences find what the definitions say.
use Rattle.std.proofs.Common.{◌≡◌, ℕ, zero, suc, ◌<◌, List, [], ◌∷◌, ◌++◌, length, arith, Some, true, false, Bool, ◌&&◌, refl, ap, sym, subst, ◌⊎◌, inl, inr}
use Rattle.std.specs.Prelude.{slice_get, ◌||◌}
use Rattle.std.specs.List.{list_any}
use Rattle.tlm_types.specs.declared.words.Phase.{Phase}
use Rattle.tlm_types.specs.declared.words.Phase.TheVariants.{BeginReq, EndReq, BeginResp, EndResp}
use Rattle.tlm_types.specs.declared.words.TlmSync.{TlmSync}
use Rattle.tlm_types.specs.declared.words.TlmSync.TheVariants.{Accepted, Updated, Completed}
use Rattle.base_phases.specs.Sequences.{Call, sequences}
use Rattle.flow_model.specs.Table.{IsBegunIn, sequences_of}
use Rattle.flow_model.specs.Ends.{is_same_phase}
use Rattle.flow_check.specs.Checks.{RowsAreFound, WholesAreFound, begins_one, is_prefix, is_same_answer, is_same_call, is_sequence}

and_left : (a b : Bool) → (a && b) ≡ true → a ≡ true
and_left true b q = refl
and_left false b q = q

and_right : (a b : Bool) → (a && b) ≡ true → b ≡ true
and_right true b q = q
and_right false b q = cc

both : (a b : Bool) → a ≡ true → b ≡ true → (a && b) ≡ true
both true b p q = q
both false b p q = cc

or_cases : (a b : Bool) → (a || b) ≡ true → (a ≡ true) ⊎ (b ≡ true)
or_cases true b q = inl refl
or_cases false b q = inr q

or_left : (a b : Bool) → a ≡ true → (a || b) ≡ true
or_left true b q = refl
or_left false b q = cc

or_right : (a b : Bool) → b ≡ true → (a || b) ≡ true
or_right true b q = refl
or_right false b q = q

phase_same : (p q : Phase) → is_same_phase p q ≡ true → p ≡ q
phase_same BeginReq BeginReq s = refl
phase_same EndReq EndReq s = refl
phase_same BeginResp BeginResp s = refl
phase_same EndResp EndResp s = refl
phase_same BeginReq EndReq s = cc
phase_same BeginReq BeginResp s = cc
phase_same BeginReq EndResp s = cc
phase_same EndReq BeginReq s = cc
phase_same EndReq BeginResp s = cc
phase_same EndReq EndResp s = cc
phase_same BeginResp BeginReq s = cc
phase_same BeginResp EndReq s = cc
phase_same BeginResp EndResp s = cc
phase_same EndResp BeginReq s = cc
phase_same EndResp EndReq s = cc
phase_same EndResp BeginResp s = cc

phase_self : (p : Phase) → is_same_phase p p ≡ true
phase_self BeginReq = refl
phase_self EndReq = refl
phase_self BeginResp = refl
phase_self EndResp = refl

answer_same : (a b : TlmSync) → is_same_answer a b ≡ true → a ≡ b
answer_same Accepted Accepted s = refl
answer_same Completed Completed s = refl
answer_same (Updated p) (Updated q) s = ap Updated (phase_same p q s)
answer_same Accepted (Updated q) s = cc
answer_same Accepted Completed s = cc
answer_same (Updated p) Accepted s = cc
answer_same (Updated p) Completed s = cc
answer_same Completed Accepted s = cc
answer_same Completed (Updated q) s = cc

answer_self : (a : TlmSync) → is_same_answer a a ≡ true
answer_self Accepted = refl
answer_self (Updated p) = phase_self p
answer_self Completed = refl

call_same : (c d : Call) → is_same_call c d ≡ true → c ≡ d
call_same c d s =
    let p : c.0 ≡ d.0 = phase_same c.0 d.0 (and_left (is_same_phase c.0 d.0) (is_same_answer c.1 d.1) s) in
    let a : c.1 ≡ d.1 = answer_same c.1 d.1 (and_right (is_same_phase c.0 d.0) (is_same_answer c.1 d.1) s) in
    λ i. (p i, a i)

call_self : (c : Call) → is_same_call c c ≡ true
call_self c = both (is_same_phase c.0 c.0) (is_same_answer c.1 c.1) (phase_self c.0) (answer_self c.1)

prefix_rest : (s cs : List Call) → is_prefix s cs ≡ true → (rest : List Call) × (s ≡ cs ++ rest)
prefix_rest s [] q = (s, refl)
prefix_rest [] (c ∷ cs) q = cc
prefix_rest (d ∷ s) (c ∷ cs) q =
    let same = call_same d c (and_left (is_same_call d c) (is_prefix s cs) q) in
    let r = prefix_rest s cs (and_right (is_same_call d c) (is_prefix s cs) q) in
    (r.0, λ i. same i ∷ r.1 i)

prefix_self : (cs rest : List Call) → is_prefix (cs ++ rest) cs ≡ true
prefix_self [] rest = refl
prefix_self (c ∷ cs) rest = both (is_same_call c c) (is_prefix (cs ++ rest) cs) (call_self c) (prefix_self cs rest)

sequence_is : (s cs : List Call) → is_sequence s cs ≡ true → s ≡ cs
sequence_is [] [] q = refl
sequence_is [] (c ∷ cs) q = cc
sequence_is (d ∷ s) [] q = cc
sequence_is (d ∷ s) (c ∷ cs) q =
    let same = call_same d c (and_left (is_same_call d c) (is_sequence s cs) q) in
    let r = sequence_is s cs (and_right (is_same_call d c) (is_sequence s cs) q) in
    λ i. same i ∷ r i

sequence_self : (cs : List Call) → is_sequence cs cs ≡ true
sequence_self [] = refl
sequence_self (c ∷ cs) = both (is_same_call c c) (is_sequence cs cs) (call_self c) (sequence_self cs)

some_same : (a b : List Call) → Some a ≡ Some b → a ≡ b
some_same a b q = cc

found_one : (ss : List (List Call)) (cs : List Call) → begins_one ss cs ≡ true → IsBegunIn ss cs
found_one [] cs q = cc
found_one (s ∷ []) cs q = let r = prefix_rest s cs q in (zero, r.0, ap Some r.1)
found_one (s ∷ t ∷ ss) cs q = elim (or_cases (is_prefix s cs) (begins_one (t ∷ ss) cs) q) [
  | inl a ↦ (let r = prefix_rest s cs a in (zero, r.0, ap Some r.1))
  | inr b ↦ (let r = found_one (t ∷ ss) cs b in (suc r.0, r.1, r.2))
]

finds_one : (ss : List (List Call)) (cs : List Call) (k : ℕ) (rest : List Call) → slice_get ss k ≡ Some (cs ++ rest) → begins_one ss cs ≡ true
finds_one [] cs k rest q = cc
finds_one (s ∷ []) cs zero rest q = subst (λ (d : List Call). is_prefix d cs ≡ true) (sym (some_same s (cs ++ rest) q)) (prefix_self cs rest)
finds_one (s ∷ []) cs (suc k) rest q = cc
finds_one (s ∷ t ∷ ss) cs zero rest q = or_left (is_prefix s cs) (begins_one (t ∷ ss) cs) (subst (λ (d : List Call). is_prefix d cs ≡ true) (sym (some_same s (cs ++ rest) q)) (prefix_self cs rest))
finds_one (s ∷ t ∷ ss) cs (suc k) rest q = or_right (is_prefix s cs) (begins_one (t ∷ ss) cs) (finds_one (t ∷ ss) cs k rest q)

pub rows_found : RowsAreFound
rows_found row resp cs = (found_one (sequences_of row resp) cs, λ b. finds_one (sequences_of row resp) cs b.0 b.1 b.2)

whole_from : (ss : List (List Call)) (cs : List Call) → list_any (λ s. is_sequence s cs) ss ≡ true → (k : ℕ) × (slice_get ss k ≡ Some cs)
whole_from [] cs q = cc
whole_from (s ∷ ss) cs q = elim (or_cases (is_sequence s cs) (list_any (λ s. is_sequence s cs) ss) q) [
  | inl a ↦ (zero, ap Some (sequence_is s cs a))
  | inr b ↦ (let r = whole_from ss cs b in (suc r.0, r.1))
]

whole_to : (ss : List (List Call)) (cs : List Call) (k : ℕ) → slice_get ss k ≡ Some cs → list_any (λ s. is_sequence s cs) ss ≡ true
whole_to [] cs k q = cc
whole_to (s ∷ ss) cs zero q = or_left (is_sequence s cs) (list_any (λ s. is_sequence s cs) ss) (subst (λ (d : List Call). is_sequence d cs ≡ true) (sym (some_same s cs q)) (sequence_self cs))
whole_to (s ∷ ss) cs (suc k) q = or_right (is_sequence s cs) (list_any (λ s. is_sequence s cs) ss) (whole_to ss cs k q)

pub wholes_found : WholesAreFound
wholes_found cs = (whole_from sequences cs, λ w. whole_to sequences cs w.0 w.1)

-- more calls than the sequence has are no prefix of it
pub too_long : (s cs : List Call) → length s < length cs → false ≡ is_prefix s cs
too_long [] [] l = absurd (omega arith)
too_long [] (c ∷ cs) l = refl
too_long (d ∷ s) [] l = absurd (omega arith)
too_long (d ∷ s) (c ∷ cs) l = go (is_same_call d c) (too_long s cs (omega arith))
  where
    go : (b : Bool) → false ≡ is_prefix s cs → false ≡ (b && is_prefix s cs)
    go true q = q
    go false q = refl
