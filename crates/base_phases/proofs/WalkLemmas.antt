-- The walks of a lane, and the eleven sequences.
use Rattle.std.proofs.Common.{◌≡◌, ℕ, zero, suc, ◌+◌, ◌≤◌, Bool, true, false, cond, List, [], ◌∷◌, ◌++◌, Option, Some, None, refl, sym, ap, ◌∙◌, subst, arith}
use Rattle.std.specs.Prelude.{count_by, slice_get}
use Rattle.std.specs.List.{fold}
use Rattle.std.proofs.lemmas.List.{append-nil}
use Rattle.std.proofs.lemmas.List.Sums.{sum_by-append, sum_by-cons, fold-append}
use Rattle.tlm_types.specs.declared.words.Phase.TheVariants.{BeginReq, EndReq, BeginResp, EndResp}
use Rattle.tlm_types.specs.declared.words.TlmSync.{TlmSync}
use Rattle.tlm_types.specs.declared.words.TlmSync.TheVariants.{Accepted, Updated, Completed}
use Rattle.base_phases.specs.declared.phases.LaneState.{LaneState}
use Rattle.base_phases.specs.declared.phases.LaneState.TheVariants.{Free, Requested, Waiting, Responding}
use Rattle.base_phases.specs.Sequences.{Call, sequences, IsBegun, IsSequence}
use Rattle.base_phases.specs.Walks.{after_call, state_after, is_begin, IsRound}

-- after a call that isn't allowed there is no state
pub stuck : (calls : List Call) (s : LaneState) → fold after_call None calls ≡ Some s → ⊥
stuck [] s e = cc
stuck (c ∷ cs) s e = stuck cs s e

pub begins-cons : (c : Call) (cs : List Call) → count_by is_begin (c ∷ cs) ≡ cond {A = ℕ} (is_begin c) 1 0 + count_by is_begin cs
begins-cons c cs = sum_by-cons (λ x. cond {A = ℕ} (is_begin x) 1 0) c cs

-- calls on both sides of a place begin as often as all of them
pub begins-append : (cs ds : List Call) → count_by is_begin (cs ++ ds) ≡ count_by is_begin cs + count_by is_begin ds
begins-append cs ds = sum_by-append (λ c. cond {A = ℕ} (is_begin c) 1 0) cs ds

-- where no call begins, none does after the first
pub rest_none : (c : Call) (cs : List Call) → count_by is_begin (c ∷ cs) ≡ 0 → count_by is_begin cs ≡ 0
rest_none c cs z = let e = begins-cons c cs in omega arith

begun_twice : (a : TlmSync) (cs : List Call) → count_by is_begin ((BeginReq, a) ∷ cs) ≡ 0 → ⊥
begun_twice a cs z = let e = begins-cons (BeginReq, a) cs in omega arith

-- on a free lane nothing but a BEGIN_REQ is allowed
pub free : (calls : List Call) (s : LaneState) → fold after_call (Some Free) calls ≡ Some s → count_by is_begin calls ≡ 0 → [] ≡ calls
free [] s e z = refl
free ((BeginReq, a) ∷ cs) s e z = absurd (begun_twice a cs z)
free ((EndReq, a) ∷ cs) s e z = absurd (stuck cs s e)
free ((BeginResp, a) ∷ cs) s e z = absurd (stuck cs s e)
free ((EndResp, a) ∷ cs) s e z = absurd (stuck cs s e)

-- what is left of a sequence, by the state of the lane
responding : (P : List Call → Type 0) → P [] → P ((EndResp, Completed) ∷ []) → (calls : List Call) (s : LaneState) → fold after_call (Some Responding) calls ≡ Some s → count_by is_begin calls ≡ 0 → P calls
responding P p0 p1 [] s e z = p0
responding P p0 p1 ((EndResp, Completed) ∷ cs) s e z = subst (λ (t : List Call). P ((EndResp, Completed) ∷ t)) (free cs s e (rest_none (EndResp, Completed) cs z)) p1
responding P p0 p1 (c ∷ cs) s e z = absurd (stuck cs s e)

waiting : (P : List Call → Type 0) → P [] → P ((BeginResp, Accepted) ∷ []) → P ((BeginResp, Accepted) ∷ (EndResp, Completed) ∷ []) → P ((BeginResp, Updated EndResp) ∷ []) → P ((BeginResp, Completed) ∷ []) → (calls : List Call) (s : LaneState) → fold after_call (Some Waiting) calls ≡ Some s → count_by is_begin calls ≡ 0 → P calls
waiting P p0 p1 p2 p3 p4 [] s e z = p0
waiting P p0 p1 p2 p3 p4 ((BeginResp, Accepted) ∷ cs) s e z = responding (λ t. P ((BeginResp, Accepted) ∷ t)) p1 p2 cs s e (rest_none (BeginResp, Accepted) cs z)
waiting P p0 p1 p2 p3 p4 ((BeginResp, Updated EndResp) ∷ cs) s e z = subst (λ (t : List Call). P ((BeginResp, Updated EndResp) ∷ t)) (free cs s e (rest_none (BeginResp, Updated EndResp) cs z)) p3
waiting P p0 p1 p2 p3 p4 ((BeginResp, Completed) ∷ cs) s e z = subst (λ (t : List Call). P ((BeginResp, Completed) ∷ t)) (free cs s e (rest_none (BeginResp, Completed) cs z)) p4
waiting P p0 p1 p2 p3 p4 (c ∷ cs) s e z = absurd (stuck cs s e)

requested : (cs : List Call) (s : LaneState) → fold after_call (Some Requested) cs ≡ Some s → count_by is_begin cs ≡ 0 → IsBegun ((BeginReq, Accepted) ∷ cs)
requested [] s e z = (5, (EndReq, Accepted) ∷ (BeginResp, Accepted) ∷ (EndResp, Completed) ∷ [], refl)
requested ((EndReq, Accepted) ∷ cs) s e z =
    waiting (λ t. IsBegun ((BeginReq, Accepted) ∷ (EndReq, Accepted) ∷ t))
    (5, (BeginResp, Accepted) ∷ (EndResp, Completed) ∷ [], refl)
    (5, (EndResp, Completed) ∷ [], refl)
    (5, [], refl)
    (6, [], refl)
    (7, [], refl)
    cs
    s
    e
    (rest_none (EndReq, Accepted) cs z)
requested ((BeginResp, Accepted) ∷ cs) s e z = responding (λ t. IsBegun ((BeginReq, Accepted) ∷ (BeginResp, Accepted) ∷ t)) (8, (EndResp, Completed) ∷ [], refl) (8, [], refl) cs s e (rest_none (BeginResp, Accepted) cs z)
requested ((BeginResp, Updated EndResp) ∷ cs) s e z = subst (λ (t : List Call). IsBegun ((BeginReq, Accepted) ∷ (BeginResp, Updated EndResp) ∷ t)) (free cs s e (rest_none (BeginResp, Updated EndResp) cs z)) (9, [], refl)
requested ((BeginResp, Completed) ∷ cs) s e z = subst (λ (t : List Call). IsBegun ((BeginReq, Accepted) ∷ (BeginResp, Completed) ∷ t)) (free cs s e (rest_none (BeginResp, Completed) cs z)) (10, [], refl)
requested (c ∷ cs) s e z = absurd (stuck cs s e)

-- none after the first begins again
pub one_gone : (a : TlmSync) (cs : List Call) → count_by is_begin ((BeginReq, a) ∷ cs) ≤ 1 → count_by is_begin cs ≡ 0
one_gone a cs z = let e = begins-cons (BeginReq, a) cs in omega arith

-- a walk with one BEGIN_REQ at most is a prefix of a sequence
pub begun : (calls : List Call) (s : LaneState) → state_after calls ≡ Some s → count_by is_begin calls ≤ 1 → IsBegun calls
begun [] s e z = (0, (BeginReq, Completed) ∷ [], refl)
begun ((BeginReq, Accepted) ∷ cs) s e z = requested cs s e (one_gone Accepted cs z)
begun ((BeginReq, Completed) ∷ cs) s e z = subst (λ (t : List Call). IsBegun ((BeginReq, Completed) ∷ t)) (free cs s e (one_gone Completed cs z)) (0, [], refl)
begun ((BeginReq, Updated BeginResp) ∷ cs) s e z = responding (λ t. IsBegun ((BeginReq, Updated BeginResp) ∷ t)) (1, (EndResp, Completed) ∷ [], refl) (1, [], refl) cs s e (one_gone (Updated BeginResp) cs z)
begun ((BeginReq, Updated EndReq) ∷ cs) s e z =
    waiting (λ t. IsBegun ((BeginReq, Updated EndReq) ∷ t))
    (2, (BeginResp, Accepted) ∷ (EndResp, Completed) ∷ [], refl)
    (2, (EndResp, Completed) ∷ [], refl)
    (2, [], refl)
    (3, [], refl)
    (4, [], refl)
    cs
    s
    e
    (one_gone (Updated EndReq) cs z)
begun (c ∷ cs) s e z = absurd (stuck cs s e)

-- P holds of each element
abbrev Each : {X : Type 0} → (X → Type 0) → List X → Type 0
Each P [] = Unit {0}
Each P (x ∷ xs) = P x × Each P xs

each_at : {X : Type 0} (P : X → Type 0) (xs : List X) → Each P xs → (k : ℕ) (y : X) → slice_get xs k ≡ Some y → P y
each_at P [] h k y e = cc
each_at P (x ∷ xs) h zero y e = let same : x ≡ y = cc in subst P same h.0
each_at P (x ∷ xs) h (suc k) y e = each_at P xs h.1 k y e

-- a sequence ends on a free lane
pub whole_free : (calls : List Call) → IsSequence calls → state_after calls ≡ Some Free
whole_free calls w = each_at (λ (s : List Call). state_after s ≡ Some Free) sequences (refl, (refl, (refl, (refl, (refl, (refl, (refl, (refl, (refl, (refl, (refl, tt))))))))))) w.0 calls w.1

-- a sequence has one BEGIN_REQ
pub whole_once : (calls : List Call) → IsSequence calls → count_by is_begin calls ≡ 1
whole_once calls w = each_at (λ (s : List Call). count_by is_begin s ≡ 1) sequences (refl, (refl, (refl, (refl, (refl, (refl, (refl, (refl, (refl, (refl, (refl, tt))))))))))) w.0 calls w.1

-- a walk begins with BEGIN_REQ
starts : (calls : List Call) (s : LaneState) → state_after calls ≡ Some s → ¬ (calls ≡ []) → 1 ≤ count_by is_begin calls
starts [] s e some_call = absurd (some_call refl)
starts ((BeginReq, a) ∷ cs) s e some_call = let n = begins-cons (BeginReq, a) cs in omega arith
starts ((EndReq, a) ∷ cs) s e some_call = absurd (stuck cs s e)
starts ((BeginResp, a) ∷ cs) s e some_call = absurd (stuck cs s e)
starts ((EndResp, a) ∷ cs) s e some_call = absurd (stuck cs s e)

-- a walk with one BEGIN_REQ that leaves the lane free is a whole sequence
pub whole : (calls : List Call) → state_after calls ≡ Some Free → count_by is_begin calls ≤ 1 → ¬ (calls ≡ []) → IsSequence calls
whole calls e z some_call =
    let b = begun calls Free e z in
    let w : IsSequence (calls ++ b.1) = (b.0, b.2) in
    let back : fold after_call (Some Free) b.1 ≡ Some Free = ap (λ (q : Option LaneState). fold after_call q b.1) (sym e) ∙ sym (fold-append after_call (Some Free) calls b.1) ∙ whole_free (calls ++ b.1) w in
    let both = begins-append calls b.1 in
    let one = whole_once (calls ++ b.1) w in
    let first = starts calls Free e some_call in
    let none : count_by is_begin b.1 ≡ 0 = omega arith in
    (b.0, b.2 ∙ ap (λ (rest : List Call). Some (calls ++ rest)) (sym (free b.1 Free back none)) ∙ ap Some (append-nil calls))

free_at : (q : Option LaneState) (a : TlmSync) (behind : List Call) (s : LaneState) → fold after_call q ((BeginReq, a) ∷ behind) ≡ Some s → q ≡ Some Free
free_at None a behind s e = absurd (stuck behind s e)
free_at (Some Free) a behind s e = refl
free_at (Some Requested) a behind s e = absurd (stuck behind s e)
free_at (Some Waiting) a behind s e = absurd (stuck behind s e)
free_at (Some Responding) a behind s e = absurd (stuck behind s e)

-- BEGIN_REQ is allowed on a free lane alone
pub begins_free : (before : List Call) (a : TlmSync) (behind : List Call) (s : LaneState) → state_after (before ++ (BeginReq, a) ∷ behind) ≡ Some s → state_after before ≡ Some Free
begins_free before a behind s e = free_at (state_after before) a behind s (sym (fold-append after_call (Some Free) before ((BeginReq, a) ∷ behind)) ∙ e)

-- calls among which no BEGIN_REQ can be found have none
none_found : (cs : List Call) → ((bs : List Call) (a : TlmSync) (es : List Call) → cs ≡ bs ++ (BeginReq, a) ∷ es → ⊥) → count_by is_begin cs ≡ 0
none_found [] h = refl
none_found ((BeginReq, a) ∷ cs) h = absurd (h [] a cs refl)
none_found ((EndReq, b) ∷ cs) h = let n = begins-cons (EndReq, b) cs in let rest = none_found cs (λ bs a es e. h ((EndReq, b) ∷ bs) a es (ap (λ (l : List Call). (EndReq, b) ∷ l) e)) in omega arith
none_found ((BeginResp, b) ∷ cs) h = let n = begins-cons (BeginResp, b) cs in let rest = none_found cs (λ bs a es e. h ((BeginResp, b) ∷ bs) a es (ap (λ (l : List Call). (BeginResp, b) ∷ l) e)) in omega arith
none_found ((EndResp, b) ∷ cs) h = let n = begins-cons (EndResp, b) cs in let rest = none_found cs (λ bs a es e. h ((EndResp, b) ∷ bs) a es (ap (λ (l : List Call). (EndResp, b) ∷ l) e)) in omega arith

at_most_one : (b : Bool) → cond {A = ℕ} b 1 0 ≤ 1
at_most_one true = omega arith
at_most_one false = omega arith

-- a walk from Free to Free that is not Free in between is a sequence
pub round_whole : (calls : List Call) → IsRound calls → IsSequence calls
round_whole [] r = absurd (r.some refl)
round_whole (c ∷ cs) r =
    let later : count_by is_begin cs ≡ 0 = none_found cs (λ bs a es e. r.busy c bs (BeginReq, a) es (ap (λ (l : List Call). c ∷ l) e) (begins_free (c ∷ bs) a es Free (ap (λ (l : List Call). state_after (c ∷ l)) (sym e) ∙ r.ended))) in
    let n = begins-cons c cs in
    let m = at_most_one (is_begin c) in
    whole (c ∷ cs) r.ended (omega arith) r.some

not_empty : (calls : List Call) → IsSequence calls → ¬ (calls ≡ [])
not_empty calls w e = let n = whole_once calls w in let z : count_by is_begin calls ≡ 0 = ap (count_by is_begin) e in absurd (omega arith)

-- a sequence is not Free in between, since a free lane would need a second BEGIN_REQ
stays_busy : (calls : List Call) → IsSequence calls → (first : Call) (before : List Call) (next : Call) (behind : List Call) → calls ≡ (first ∷ before) ++ (next ∷ behind) → ¬ (state_after (first ∷ before) ≡ Some Free)
stays_busy calls w first before next behind e still =
    let end : fold after_call (Some Free) (next ∷ behind) ≡ Some Free = ap (λ (q : Option LaneState). fold after_call q (next ∷ behind)) (sym still) ∙ sym (fold-append after_call (Some Free) (first ∷ before) (next ∷ behind)) ∙ ap state_after (sym e) ∙ whole_free calls w in
    let a = starts (first ∷ before) Free still (λ q. cc) in
    let b = starts (next ∷ behind) Free end (λ q. cc) in
    let n = whole_once calls w in
    let both = ap (count_by is_begin) e ∙ begins-append (first ∷ before) (next ∷ behind) in
    absurd (omega arith)

pub whole_round : (calls : List Call) → IsSequence calls → IsRound calls
whole_round calls w = record { some = not_empty calls w; ended = whole_free calls w; busy = stays_busy calls w }
