-- The calls on the lanes that pass a test are a walk, where at most one of them begins.
use Rattle.std.proofs.Common.{◌≡◌, ℕ, ◌+◌, ◌≤◌, Bool, true, false, cond, List, [], ◌∷◌, ◌++◌, Option, Some, refl, sym, ap, ◌∙◌, subst, arith}
use Rattle.std.specs.List.{count_by, fold}
use Rattle.tlm_types.specs.declared.words.Phase.{Phase}
use Rattle.tlm_types.specs.declared.words.Phase.TheVariants.{BeginReq, EndReq, BeginResp, EndResp}
use Rattle.tlm_types.specs.declared.words.TlmSync.{TlmSync}
use Rattle.tlm_types.specs.declared.words.TxnId.{TxnId}
use Rattle.tlm_types.specs.declared.entry.What.{What}
use Rattle.tlm_types.specs.declared.entry.What.TheVariants.{Call as Called}
use Rattle.tlm_types.specs.declared.entry.Entry.{Entry}
use Rattle.base_phases.specs.declared.phases.LaneState.{LaneState}
use Rattle.base_phases.specs.Phases.{next_state}
use Rattle.base_phases.specs.Sequences.{Call}
use Rattle.base_phases.specs.Walks.{after_call, is_begin}
use Rattle.base_phases.proofs.WalkLemmas.{begins-append, begins-cons}
use Rattle.flow_model.specs.Board.{Open, Board, Rules, Begins, Moves, Steps, StepsBy, Reaches, fresh_lane, lane_after}
use Rattle.flow_model.specs.Calls.{calls_in}
use Rattle.flow_model.specs.Lives.{LaneTest, calls_on, position_of}
use Rattle.flow_model.proofs.LaneLemmas.{has, state_in, held, held-cons, held-append, in_place, skip, other, none_held, after_own, other_after, held_after, last_other, last_own}

one_more : (k : LaneTest) (ps : List Open) (o : Open) (bs : List Open) → has k o ≡ true → held k ps ≡ 0 → held k bs ≡ 0 → {n : ℕ} → n ≡ held k (ps ++ o ∷ bs) → n ≡ 1
one_more k ps o bs is first last all =
    let parts = held-append k ps (o ∷ bs) in
    let h = held-cons k o bs in
    let q : cond {A = ℕ} (has k o) 1 0 ≡ 1 = ap (λ (d : Bool). cond {A = ℕ} d 1 0) is in
    omega arith

-- a later call makes no lane more
held_moves : (k : LaneTest) (r : Rules) (b : Board) (e : Entry) (c : Board) (phase : Phase) (answer : TlmSync) → Moves r b e phase answer c → held k c.lanes ≤ held k b.lanes
held_moves k r b e c phase answer m =
    let new = ap (λ (d : Board). held k d.lanes) m.after ∙ held-append k m.before (lane_after m.lane m.state e.time ++ m.behind) in
    let new2 = held-append k (lane_after m.lane m.state e.time) m.behind in
    let old = ap (held k) m.here ∙ held-append k m.before (m.lane ∷ m.behind) in
    let h = held-cons k m.lane m.behind in
    let q = held_after k m.lane m.state e.time in
    omega arith

module _ (k : LaneTest) (r : Rules) (b : Board) (e : Entry) (c : Board) (rest : List Call) (final : LaneState) where
  -- the rest is a walk from the state after the step
  abbrev GoesOn : Type 0
  GoesOn = held k c.lanes + count_by is_begin rest ≤ 1 → fold after_call (Some (state_in k c.lanes)) rest ≡ Some final

  moves : (phase : Phase) (answer : TlmSync) (m : Moves r b e phase answer c) → is_begin (phase, answer) ≡ false → (own : Bool) → k e.txn m.lane.position ≡ own → held k b.lanes + count_by is_begin (cond own ((phase, answer) ∷ []) [] ++ rest) ≤ 1 → GoesOn → fold after_call (Some (state_in k b.lanes)) (cond own ((phase, answer) ∷ []) [] ++ rest) ≡ Some final
  moves phase answer m later false isnt few go_on =
      let same : has k m.lane ≡ false = ap (λ (x : TxnId). k x m.lane.position) m.txn ∙ isnt in
      let kept : state_in k c.lanes ≡ state_in k b.lanes = ap (λ (d : Board). state_in k d.lanes) m.after ∙ other_after k m.before m.lane m.state e.time m.behind same ∙ sym (other k m.before m.lane m.behind same) ∙ sym (ap (state_in k) m.here) in
      let fewer = held_moves k r b e c phase answer m in
      ap (λ (s : LaneState). fold after_call (Some s) rest) (sym kept) ∙ go_on (omega arith)
  moves phase answer m later true it_is few go_on =
      let same : has k m.lane ≡ true = ap (λ (x : TxnId). k x m.lane.position) m.txn ∙ it_is in
      let all : held k b.lanes ≡ held k (m.before ++ m.lane ∷ m.behind) = ap (held k) m.here in
      let n = begins-cons (phase, answer) rest in
      let z : cond {A = ℕ} (is_begin (phase, answer)) 1 0 ≡ 0 = ap (λ (d : Bool). cond {A = ℕ} d 1 0) later in
      let fewer = held_moves k r b e c phase answer m in
      let alone = in_place k m.before m.lane m.behind same (omega arith) in
      let was : state_in k b.lanes ≡ m.lane.state = ap (state_in k) m.here ∙ alone.2 in
      let now : state_in k c.lanes ≡ m.state = ap (λ (d : Board). state_in k d.lanes) m.after ∙ skip k m.before (lane_after m.lane m.state e.time ++ m.behind) alone.0 ∙ after_own k m.lane m.state e.time m.behind same alone.1 in
      let gone : held k b.lanes ≡ 1 = one_more k m.before m.lane m.behind same alone.0 alone.1 all in
      ap (λ (s : LaneState). fold after_call (next_state s phase answer) rest) was ∙ ap (λ (q : Option LaneState). fold after_call q rest) (m.allowed ∙ ap Some (sym now)) ∙ go_on (omega arith)

  begins : (answer : TlmSync) (m : Begins r b e answer c) → (own : Bool) → k e.txn e.position ≡ own → held k b.lanes + count_by is_begin (cond own ((BeginReq, answer) ∷ []) [] ++ rest) ≤ 1 → GoesOn → fold after_call (Some (state_in k b.lanes)) (cond own ((BeginReq, answer) ∷ []) [] ++ rest) ≡ Some final
  begins answer m false isnt few go_on =
      let kept : state_in k c.lanes ≡ state_in k b.lanes = ap (λ (d : Board). state_in k d.lanes) m.after ∙ last_other k b.lanes (fresh_lane e) m.state e.time isnt in
      let new = ap (λ (d : Board). held k d.lanes) m.after ∙ held-append k b.lanes (lane_after (fresh_lane e) m.state e.time) in
      let q = held_after k (fresh_lane e) m.state e.time in
      let z : cond {A = ℕ} (has k (fresh_lane e)) 1 0 ≡ 0 = ap (λ (d : Bool). cond {A = ℕ} d 1 0) isnt in
      ap (λ (s : LaneState). fold after_call (Some s) rest) (sym kept) ∙ go_on (omega arith)
  begins answer m true it_is few go_on =
      let n = begins-cons (BeginReq, answer) rest in
      let new = ap (λ (d : Board). held k d.lanes) m.after ∙ held-append k b.lanes (lane_after (fresh_lane e) m.state e.time) in
      let q = held_after k (fresh_lane e) m.state e.time in
      let z : cond {A = ℕ} (has k (fresh_lane e)) 1 0 ≡ 1 = ap (λ (d : Bool). cond {A = ℕ} d 1 0) it_is in
      let none : held k b.lanes ≡ 0 = omega arith in
      let now : state_in k c.lanes ≡ m.state = ap (λ (d : Board). state_in k d.lanes) m.after ∙ last_own k b.lanes (fresh_lane e) m.state e.time it_is none in
      ap (λ (s : LaneState). fold after_call (next_state s BeginReq answer) rest) (none_held k b.lanes none) ∙ ap (λ (q : Option LaneState). fold after_call q rest) (m.allowed ∙ ap Some (sym now)) ∙ go_on (omega arith)

  step : (w : What) (m : StepsBy r b e w c) → held k b.lanes + count_by is_begin (cond (k e.txn (position_of r b e w c m)) (calls_in w) [] ++ rest) ≤ 1 → GoesOn → fold after_call (Some (state_in k b.lanes)) (cond (k e.txn (position_of r b e w c m)) (calls_in w) [] ++ rest) ≡ Some final
  step (Called BeginReq answer) m few go_on = begins answer m (k e.txn e.position) refl few go_on
  step (Called EndReq answer) m few go_on = moves EndReq answer m refl (k e.txn m.lane.position) refl few go_on
  step (Called BeginResp answer) m few go_on = moves BeginResp answer m refl (k e.txn m.lane.position) refl few go_on
  step (Called EndResp answer) m few go_on = moves EndResp answer m refl (k e.txn m.lane.position) refl few go_on
  step w m few go_on = absurd m

-- the calls on the lanes that pass, from board to board
pub walk : (k : LaneTest) (r : Rules) (es : List Entry) (b d : Board) (h : Reaches r b es d) → held k b.lanes + count_by is_begin (calls_on k r b es d h) ≤ 1 → fold after_call (Some (state_in k b.lanes)) (calls_on k r b es d h) ≡ Some (state_in k d.lanes)
walk k r [] b d h few = ap (λ (x : Board). Some (state_in k x.lanes)) h
walk k r (e ∷ es) b d h few = step k r b e h.0 (calls_on k r h.0 es d h.2) (state_in k d.lanes) e.what h.1 few (walk k r es h.0 d h.2)

-- the lanes that pass are no more than the BEGIN_REQs on them
module _ (k : LaneTest) (r : Rules) (b : Board) (e : Entry) (c : Board) where
  held_begins : (answer : TlmSync) → Begins r b e answer c → (own : Bool) → k e.txn e.position ≡ own → held k c.lanes ≤ held k b.lanes + count_by is_begin (cond own ((BeginReq, answer) ∷ []) [])
  held_begins answer m true is =
      let new = ap (λ (d : Board). held k d.lanes) m.after ∙ held-append k b.lanes (lane_after (fresh_lane e) m.state e.time) in
      let q = held_after k (fresh_lane e) m.state e.time in
      let z : cond {A = ℕ} (has k (fresh_lane e)) 1 0 ≡ 1 = ap (λ (d : Bool). cond {A = ℕ} d 1 0) is in
      let n = begins-cons (BeginReq, answer) [] in
      omega arith
  held_begins answer m false is =
      let new = ap (λ (d : Board). held k d.lanes) m.after ∙ held-append k b.lanes (lane_after (fresh_lane e) m.state e.time) in
      let q = held_after k (fresh_lane e) m.state e.time in
      let z : cond {A = ℕ} (has k (fresh_lane e)) 1 0 ≡ 0 = ap (λ (d : Bool). cond {A = ℕ} d 1 0) is in
      omega arith

  held_step : (w : What) (m : StepsBy r b e w c) → held k c.lanes ≤ held k b.lanes + count_by is_begin (cond (k e.txn (position_of r b e w c m)) (calls_in w) [])
  held_step (Called BeginReq answer) m = held_begins answer m (k e.txn e.position) refl
  held_step (Called EndReq answer) m = let q = held_moves k r b e c EndReq answer m in omega arith
  held_step (Called BeginResp answer) m = let q = held_moves k r b e c BeginResp answer m in omega arith
  held_step (Called EndResp answer) m = let q = held_moves k r b e c EndResp answer m in omega arith
  held_step w m = absurd m

pub held_walk : (k : LaneTest) (r : Rules) (es : List Entry) (b d : Board) (h : Reaches r b es d) → held k d.lanes ≤ held k b.lanes + count_by is_begin (calls_on k r b es d h)
held_walk k r [] b d h = let e = ap (λ (x : Board). held k x.lanes) h in omega arith
held_walk k r (e ∷ es) b d h =
    let one = held_step k r b e h.0 e.what h.1 in
    let rest = held_walk k r es h.0 d h.2 in
    let both = begins-append (cond (k e.txn (position_of r b e e.what h.0 h.1)) (calls_in e.what) []) (calls_on k r h.0 es d h.2) in
    omega arith

-- one entry more
pub reaches_push : (r : Rules) (log : List Entry) (a b : Board) (e : Entry) (c : Board) → Reaches r a log b → Steps r b e c → Reaches r a (log ++ e ∷ []) c
reaches_push r [] a b e c h m = (c, subst (λ (x : Board). Steps r x e c) (sym h) m, refl)
reaches_push r (x ∷ log) a b e c h m = (h.0, h.1, reaches_push r log h.0 b e c h.2 m)
