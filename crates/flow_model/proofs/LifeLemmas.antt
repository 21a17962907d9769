-- The calls of one lane.
use Rattle.std.proofs.Common.{◌≡◌, ℕ, ◌+◌, ◌≤◌, ◌==◌, ◌&&◌, Bool, true, false, cond, List, [], ◌∷◌, ◌++◌, Some, refl, sym, subst, ap, ◌∙◌, arith, append_assoc}
use Rattle.std.proofs.lemmas.List.{append-nil}
use Rattle.std.specs.List.{count_by}
use Rattle.std.proofs.lemmas.List.Sums.{sum_by-cons}
use Rattle.tlm_types.specs.declared.words.Phase.{Phase}
use Rattle.tlm_types.specs.declared.words.Phase.TheVariants.{BeginReq, EndReq, BeginResp, EndResp}
use Rattle.tlm_types.specs.declared.words.TlmSync.{TlmSync}
use Rattle.tlm_types.specs.declared.entry.What.{What}
use Rattle.tlm_types.specs.declared.entry.What.TheVariants.{Call as Called}
use Rattle.tlm_types.specs.declared.entry.Entry.{Entry}
use Rattle.base_phases.specs.declared.phases.LaneState.{LaneState}
use Rattle.base_phases.specs.declared.phases.LaneState.TheVariants.{Free, Requested, Waiting, Responding}
use Rattle.base_phases.specs.Sequences.{Call, IsBegun, IsSequence}
use Rattle.base_phases.specs.Walks.{is_begin, state_after}
use Rattle.base_phases.proofs.WalkLemmas.{begins-cons, begun, whole}
use Rattle.flow_model.specs.Board.{Board, Moves, Open, Rules, StepsBy, Reaches, fresh_lane, lane_after, start}
use Rattle.flow_model.specs.Calls.{begins_request, calls_in}
use Rattle.flow_model.specs.Lives.{HasBegun, HasOneBeginAt, at_position, calls_on, has_lane, life_of, position_of}
use Rattle.flow_model.proofs.LaneLemmas.{Each, each_append, each_back, each_front, none_any, state_in}
use Rattle.flow_model.proofs.StepLemmas.{walk}

-- a BEGIN_REQ counts where its lane does, and another call doesn't
begin_counts : (answer : TlmSync) (rest : List Call) (own : Bool) → count_by is_begin (cond own ((BeginReq, answer) ∷ []) [] ++ rest) ≡ cond {A = ℕ} own 1 0 + count_by is_begin rest
begin_counts answer rest true = begins-cons (BeginReq, answer) rest
begin_counts answer rest false = omega arith

later_counts : (phase : Phase) (answer : TlmSync) (rest : List Call) → is_begin (phase, answer) ≡ false → (own : Bool) → count_by is_begin (cond own ((phase, answer) ∷ []) [] ++ rest) ≡ count_by is_begin rest
later_counts phase answer rest later true = let n = begins-cons (phase, answer) rest in let z : cond {A = ℕ} (is_begin (phase, answer)) 1 0 ≡ 0 = ap (λ (d : Bool). cond {A = ℕ} d 1 0) later in omega arith
later_counts phase answer rest later false = refl

no_more : (n m : ℕ) → n ≡ m → n ≡ 0 + m
no_more n m e = omega arith

counts_one : (p : ℕ) (r : Rules) (b : Board) (e : Entry) (c : Board) (rest : List Call) (w : What) (m : StepsBy r b e w c) → count_by is_begin (cond (position_of r b e w c m == p) (calls_in w) [] ++ rest) ≡ cond {A = ℕ} (begins_request w && (e.position == p)) 1 0 + count_by is_begin rest
counts_one p r b e c rest (Called BeginReq answer) m = begin_counts answer rest (e.position == p)
counts_one p r b e c rest (Called EndReq answer) m = no_more (count_by is_begin (cond (m.lane.position == p) ((EndReq, answer) ∷ []) [] ++ rest)) (count_by is_begin rest) (later_counts EndReq answer rest refl (m.lane.position == p))
counts_one p r b e c rest (Called BeginResp answer) m = no_more (count_by is_begin (cond (m.lane.position == p) ((BeginResp, answer) ∷ []) [] ++ rest)) (count_by is_begin rest) (later_counts BeginResp answer rest refl (m.lane.position == p))
counts_one p r b e c rest (Called EndResp answer) m = no_more (count_by is_begin (cond (m.lane.position == p) ((EndResp, answer) ∷ []) [] ++ rest)) (count_by is_begin rest) (later_counts EndResp answer rest refl (m.lane.position == p))
counts_one p r b e c rest w m = absurd m

-- a lane begins as often as a BEGIN_REQ stands at its position
life_begins : (p : ℕ) (r : Rules) (es : List Entry) (b d : Board) (h : Reaches r b es d) → count_by is_begin (calls_on (at_position p) r b es d h) ≡ count_by (λ (e : Entry). begins_request e.what && (e.position == p)) es
life_begins p r [] b d h = refl
life_begins p r (e ∷ es) b d h =
    let one = counts_one p r b e h.0 (calls_on (at_position p) r h.0 es d h.2) e.what h.1 in
    let rest = life_begins p r es h.0 d h.2 in
    let n = sum_by-cons (λ (x : Entry). cond {A = ℕ} (begins_request x.what && (x.position == p)) 1 0) e es in
    omega arith

life_state : (r : Rules) (log : List Entry) (d : Board) (steps : Reaches r start log d) (p : ℕ) → HasOneBeginAt p log → state_after (life_of p r log d steps) ≡ Some (state_in (at_position p) d.lanes)
life_state r log d steps p once = let n = life_begins p r log start d steps in walk (at_position p) r log start d steps (omega arith)

life_once : (r : Rules) (log : List Entry) (d : Board) (steps : Reaches r start log d) (p : ℕ) → HasOneBeginAt p log → count_by is_begin (life_of p r log d steps) ≤ 1
life_once r log d steps p once = let n = life_begins p r log start d steps in omega arith

pub life_begun : (r : Rules) (log : List Entry) (d : Board) (steps : Reaches r start log d) (p : ℕ) → HasOneBeginAt p log → IsBegun (life_of p r log d steps)
life_begun r log d steps p once = begun (life_of p r log d steps) (state_in (at_position p) d.lanes) (life_state r log d steps p once) (life_once r log d steps p once)

pub life_whole : (r : Rules) (log : List Entry) (d : Board) (steps : Reaches r start log d) (p : ℕ) → HasOneBeginAt p log → has_lane (at_position p) d ≡ false → ¬ (life_of p r log d steps ≡ []) → IsSequence (life_of p r log d steps)
life_whole r log d steps p once none some_call = whole (life_of p r log d steps) (life_state r log d steps p once ∙ ap Some (none_any (at_position p) d.lanes none)) (life_once r log d steps p once) some_call

begun_more : (log : List Entry) (e : Entry) (o : Open) → HasBegun log o → HasBegun (log ++ e ∷ []) o
begun_more log e o b = record { before = b.before; entry = b.entry; behind = b.behind ++ e ∷ []; here = ap (λ (l : List Entry). l ++ e ∷ []) b.here ∙ append_assoc b.before (b.entry ∷ b.behind) (e ∷ []); begins = b.begins; position = b.position; txn = b.txn }

all_more : (log : List Entry) (e : Entry) (os : List Open) → Each (HasBegun log) os → Each (HasBegun (log ++ e ∷ [])) os
all_more log e [] h = tt
all_more log e (o ∷ os) h = (begun_more log e o h.0, all_more log e os h.1)

-- a call changes neither the position nor the transaction of its lane
after_begun : (log : List Entry) (o : Open) (s : LaneState) (t : ℕ) → HasBegun log o → Each (HasBegun log) (lane_after o s t)
after_begun log o Free t b = tt
after_begun log o Requested t b = (record { before = b.before; entry = b.entry; behind = b.behind; here = b.here; begins = b.begins; position = b.position; txn = b.txn }, tt)
after_begun log o Waiting t b = (record { before = b.before; entry = b.entry; behind = b.behind; here = b.here; begins = b.begins; position = b.position; txn = b.txn }, tt)
after_begun log o Responding t b = (record { before = b.before; entry = b.entry; behind = b.behind; here = b.here; begins = b.begins; position = b.position; txn = b.txn }, tt)

module _ (r : Rules) (log : List Entry) (b : Board) (e : Entry) (c : Board) where
  begun_moves : (phase : Phase) (answer : TlmSync) → Moves r b e phase answer c → Each (HasBegun log) b.lanes → Each (HasBegun (log ++ e ∷ [])) c.lanes
  begun_moves phase answer m h =
      let P : Open → Type 0 = HasBegun (log ++ e ∷ []) in
      let old : Each P (m.before ++ m.lane ∷ m.behind) = subst (λ (os : List Open). Each P os) m.here (all_more log e b.lanes h) in
      let back = each_back P m.before (m.lane ∷ m.behind) old in
      let new = each_append P m.before (lane_after m.lane m.state e.time ++ m.behind) (each_front P m.before (m.lane ∷ m.behind) old) (each_append P (lane_after m.lane m.state e.time) m.behind (after_begun (log ++ e ∷ []) m.lane m.state e.time back.0) back.1) in
      subst (λ (d : Board). Each P d.lanes) (sym m.after) new

  begun_step : (w : What) → e.what ≡ w → StepsBy r b e w c → Each (HasBegun log) b.lanes → Each (HasBegun (log ++ e ∷ [])) c.lanes
  begun_step (Called BeginReq answer) is m h =
      let P : Open → Type 0 = HasBegun (log ++ e ∷ []) in
      let fresh : P (fresh_lane e) = record { before = log; entry = e; behind = []; here = refl; begins = ap begins_request is; position = refl; txn = refl } in
      subst (λ (d : Board). Each P d.lanes) (sym m.after) (each_append P b.lanes (lane_after (fresh_lane e) m.state e.time) (all_more log e b.lanes h) (after_begun (log ++ e ∷ []) (fresh_lane e) m.state e.time fresh))
  begun_step (Called EndReq answer) is m h = begun_moves EndReq answer m h
  begun_step (Called BeginResp answer) is m h = begun_moves BeginResp answer m h
  begun_step (Called EndResp answer) is m h = begun_moves EndResp answer m h
  begun_step w is m h = absurd m

begun_walk : (r : Rules) (es log : List Entry) (b d : Board) → Reaches r b es d → Each (HasBegun log) b.lanes → Each (HasBegun (log ++ es)) d.lanes
begun_walk r [] log b d h all =
    let here : Each (HasBegun log) d.lanes = subst (λ (x : Board). Each (HasBegun log) x.lanes) h all in
    subst (λ (l : List Entry). Each (HasBegun l) d.lanes) (sym (append-nil log)) here
begun_walk r (e ∷ es) log b d h all = subst (λ (l : List Entry). Each (HasBegun l) d.lanes) (append_assoc log (e ∷ []) es) (begun_walk r es (log ++ e ∷ []) h.0 d h.2 (begun_step r log b e h.0 e.what refl h.1 all))

pub lanes_begun : (r : Rules) (log : List Entry) (d : Board) → Reaches r start log d → (before : List Open) (lane : Open) (behind : List Open) → d.lanes ≡ before ++ lane ∷ behind → HasBegun log lane
lanes_begun r log d h before lane behind here = (each_back (HasBegun log) before (lane ∷ behind) (subst (λ (os : List Open). Each (HasBegun log) os) here (begun_walk r log [] start d h tt))).0
