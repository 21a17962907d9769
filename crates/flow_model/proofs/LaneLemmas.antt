-- The lanes that pass a test: how many there are, and the state of the first.
use Rattle.std.proofs.Common.{◌≡◌, ℕ, ◌+◌, ◌≤◌, ◌||◌, Bool, true, false, cond, List, [], ◌∷◌, ◌++◌, refl, sym, ap, ◌∙◌, arith}
use Rattle.std.specs.List.{count_by, list_any}
use Rattle.std.proofs.lemmas.Bool.{or_parts}
use Rattle.std.proofs.lemmas.List.{append-nil}
use Rattle.std.proofs.lemmas.List.Sums.{sum_by-append, sum_by-cons}
use Rattle.base_phases.specs.declared.phases.LaneState.{LaneState}
use Rattle.base_phases.specs.declared.phases.LaneState.TheVariants.{Free, Requested, Waiting, Responding}
use Rattle.flow_model.specs.Board.{Open, any_in, lane_after}
use Rattle.flow_model.specs.Lives.{LaneTest}

abbrev pub has : LaneTest → Open → Bool
has k o = k o.txn o.position

-- the state of the first lane that passes the test
abbrev pub state_in : LaneTest → List Open → LaneState
state_in k [] = Free
state_in k (o ∷ os) = cond (has k o) o.state (state_in k os)

-- how many lanes pass the test
abbrev pub held : LaneTest → List Open → ℕ
held k os = count_by (has k) os

pub held-cons : (k : LaneTest) (o : Open) (os : List Open) → held k (o ∷ os) ≡ cond {A = ℕ} (has k o) 1 0 + held k os
held-cons k o os = sum_by-cons (λ q. cond {A = ℕ} (has k q) 1 0) o os

pub held-append : (k : LaneTest) (ps bs : List Open) → held k (ps ++ bs) ≡ held k ps + held k bs
held-append k ps bs = sum_by-append (λ q. cond {A = ℕ} (has k q) 1 0) ps bs

skip_one : (k : LaneTest) (a : Open) (ps : List Open) (u v : LaneState) (b : Bool) → has k a ≡ b → (held k ps ≡ 0 → u ≡ v) → held k (a ∷ ps) ≡ 0 → cond b a.state u ≡ v
skip_one k a ps u v true e rest z = let h = held-cons k a ps in let q : cond {A = ℕ} (has k a) 1 0 ≡ 1 = ap (λ (c : Bool). cond {A = ℕ} c 1 0) e in absurd (omega arith)
skip_one k a ps u v false e rest z = let h = held-cons k a ps in rest (omega arith)

-- where none of the first lanes passes, the others tell
pub skip : (k : LaneTest) (ps bs : List Open) → held k ps ≡ 0 → state_in k (ps ++ bs) ≡ state_in k bs
skip k [] bs z = refl
skip k (a ∷ ps) bs z = skip_one k a ps (state_in k (ps ++ bs)) (state_in k bs) (has k a) refl (skip k ps bs) z

-- a lane that doesn't pass doesn't matter
pub other : (k : LaneTest) (ps : List Open) (o : Open) (bs : List Open) → has k o ≡ false → state_in k (ps ++ o ∷ bs) ≡ state_in k (ps ++ bs)
other k [] o bs e = ap (λ (c : Bool). cond c o.state (state_in k bs)) e
other k (a ∷ ps) o bs e = ap (λ (s : LaneState). cond (has k a) a.state s) (other k ps o bs e)

pub none_held : (k : LaneTest) (os : List Open) → held k os ≡ 0 → state_in k os ≡ Free
none_held k os z = ap (state_in k) (sym (append-nil os)) ∙ skip k os [] z

-- the only lane that passes tells, and there is no other
pub in_place : (k : LaneTest) (ps : List Open) (o : Open) (bs : List Open) → has k o ≡ true → held k (ps ++ o ∷ bs) ≤ 1 → (held k ps ≡ 0) × (held k bs ≡ 0) × (state_in k (ps ++ o ∷ bs) ≡ o.state)
in_place k ps o bs is few =
    let all = held-append k ps (o ∷ bs) in
    let h = held-cons k o bs in
    let q : cond {A = ℕ} (has k o) 1 0 ≡ 1 = ap (λ (d : Bool). cond {A = ℕ} d 1 0) is in
    let first : held k ps ≡ 0 = omega arith in
    let last : held k bs ≡ 0 = omega arith in
    (first, last, skip k ps (o ∷ bs) first ∙ ap (λ (d : Bool). cond d o.state (state_in k bs)) is)

-- the lanes after a call on one
pub after_own : (k : LaneTest) (o : Open) (s : LaneState) (t : ℕ) (bs : List Open) → has k o ≡ true → held k bs ≡ 0 → state_in k (lane_after o s t ++ bs) ≡ s
after_own k o Free t bs is z = none_held k bs z
after_own k o Requested t bs is z = ap (λ (c : Bool). cond c Requested (state_in k bs)) is
after_own k o Waiting t bs is z = ap (λ (c : Bool). cond c Waiting (state_in k bs)) is
after_own k o Responding t bs is z = ap (λ (c : Bool). cond c Responding (state_in k bs)) is

after_other : (k : LaneTest) (o : Open) (s : LaneState) (t : ℕ) (bs : List Open) → has k o ≡ false → state_in k (lane_after o s t ++ bs) ≡ state_in k bs
after_other k o Free t bs is = refl
after_other k o Requested t bs is = ap (λ (c : Bool). cond c Requested (state_in k bs)) is
after_other k o Waiting t bs is = ap (λ (c : Bool). cond c Waiting (state_in k bs)) is
after_other k o Responding t bs is = ap (λ (c : Bool). cond c Responding (state_in k bs)) is

pub other_after : (k : LaneTest) (ps : List Open) (o : Open) (s : LaneState) (t : ℕ) (bs : List Open) → has k o ≡ false → state_in k (ps ++ (lane_after o s t ++ bs)) ≡ state_in k (ps ++ bs)
other_after k [] o s t bs is = after_other k o s t bs is
other_after k (a ∷ ps) o s t bs is = ap (λ (q : LaneState). cond (has k a) a.state q) (other_after k ps o s t bs is)

pub held_after : (k : LaneTest) (o : Open) (s : LaneState) (t : ℕ) → held k (lane_after o s t) ≤ cond {A = ℕ} (has k o) 1 0
held_after k o Free t = omega arith
held_after k o Requested t = omega arith
held_after k o Waiting t = omega arith
held_after k o Responding t = omega arith

pub last_other : (k : LaneTest) (ps : List Open) (o : Open) (s : LaneState) (t : ℕ) → has k o ≡ false → state_in k (ps ++ lane_after o s t) ≡ state_in k ps
last_other k ps o s t isnt = ap (λ (os : List Open). state_in k (ps ++ os)) (sym (append-nil (lane_after o s t))) ∙ other_after k ps o s t [] isnt ∙ ap (state_in k) (append-nil ps)

pub last_own : (k : LaneTest) (ps : List Open) (o : Open) (s : LaneState) (t : ℕ) → has k o ≡ true → held k ps ≡ 0 → state_in k (ps ++ lane_after o s t) ≡ s
last_own k ps o s t it_is z = skip k ps (lane_after o s t) z ∙ ap (state_in k) (sym (append-nil (lane_after o s t))) ∙ after_own k o s t [] it_is refl

-- a board without a lane that passes
pub none_any : (k : LaneTest) (os : List Open) → list_any (λ (o : Open). k o.txn o.position) os ≡ false → state_in k os ≡ Free
none_any k [] e = refl
none_any k (o ∷ os) e =
    let parts = or_parts (has k o) (list_any (λ (q : Open). k q.txn q.position) os) e in
    ap (λ (c : Bool). cond c o.state (state_in k os)) parts.0 ∙ none_any k os parts.1

pub yes_or : (a b : Bool) → b ≡ true → (a || b) ≡ true
yes_or true b e = refl
yes_or false b e = e

-- the state of the first lane that passes is the state of a lane
pub in_any : (p : LaneState → Bool) → p Free ≡ false → (k : LaneTest) (os : List Open) → p (state_in k os) ≡ true → any_in p os ≡ true
in_any p none k [] e = cc
in_any p none k (o ∷ os) e = in_one (has k o) e (in_any p none k os)
  where
    in_one : (b : Bool) → p (cond b o.state (state_in k os)) ≡ true → (p (state_in k os) ≡ true → any_in p os ≡ true) → (p o.state || any_in p os) ≡ true
    in_one true e rest = ap (λ (c : Bool). c || any_in p os) e
    in_one false e rest = yes_or (p o.state) (any_in p os) (rest e)

-- P holds of each lane
abbrev pub Each : (Open → Type 0) → List Open → Type 0
Each P [] = Unit {0}
Each P (o ∷ os) = P o × Each P os

pub each_append : (P : Open → Type 0) (ps bs : List Open) → Each P ps → Each P bs → Each P (ps ++ bs)
each_append P [] bs h k = k
each_append P (o ∷ ps) bs h k = (h.0, each_append P ps bs h.1 k)

pub each_front : (P : Open → Type 0) (ps bs : List Open) → Each P (ps ++ bs) → Each P ps
each_front P [] bs h = tt
each_front P (o ∷ ps) bs h = (h.0, each_front P ps bs h.1)

pub each_back : (P : Open → Type 0) (ps bs : List Open) → Each P (ps ++ bs) → Each P bs
each_back P [] bs h = h
each_back P (o ∷ ps) bs h = each_back P ps bs h.1
