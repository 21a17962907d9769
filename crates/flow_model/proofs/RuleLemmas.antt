-- What the board keeps is what the log says: answers and times.
use Rattle.std.proofs.Common.{◌≡◌, ℕ, ◌+◌, ◌≤◌, ◌==◌, ◌||◌, Bool, true, false, cond, List, [], ◌∷◌, ◌++◌, refl, sym, ap, ◌∙◌, subst, arith, append_assoc}
use Rattle.std.specs.List.{count_by, fold, list_any}
use Rattle.std.proofs.lemmas.Bool.{and_from, eq-eqb}
use Rattle.std.proofs.lemmas.List.{append-nil}
use Rattle.std.proofs.lemmas.List.Sums.{fold_push}
use Rattle.tlm_types.specs.declared.words.Phase.{Phase}
use Rattle.tlm_types.specs.declared.words.Phase.TheVariants.{BeginReq, EndReq, BeginResp, EndResp}
use Rattle.tlm_types.specs.declared.words.TlmSync.{TlmSync}
use Rattle.tlm_types.specs.declared.words.TlmSync.TheVariants.{Accepted, Updated, Completed}
use Rattle.tlm_types.specs.declared.words.TxnId.{TxnId}
use Rattle.tlm_types.specs.declared.entry.What.{What}
use Rattle.tlm_types.specs.declared.entry.What.TheVariants.{Call as Called}
use Rattle.tlm_types.specs.declared.entry.Entry.{Entry}
use Rattle.tlm_model.specs.Requests.{is_txn}
use Rattle.base_phases.specs.declared.phases.LaneState.{LaneState}
use Rattle.base_phases.specs.declared.phases.LaneState.TheVariants.{Free, Requested, Waiting, Responding}
use Rattle.base_phases.specs.Sequences.{Call}
use Rattle.base_phases.specs.Walks.{is_begin}
use Rattle.base_phases.proofs.WalkLemmas.{begins-append}
use Rattle.flow_model.specs.Answers.{is_requested, is_responding, request_answer}
use Rattle.flow_model.specs.Board.{Open, Board, Rules, Moves, Steps, StepsBy, Reaches, any_in, ends_request, fresh_lane, lane_after, request_end_after, start}
use Rattle.flow_model.specs.ByRules.{IsCallBy, KeepsRules, any_response, last_time, request_end_by, request_end_from, response_end_by}
use Rattle.flow_model.specs.Calls.{calls_in, calls_of, has_open_request, has_open_response, is_of, response_by}
use Rattle.flow_model.specs.Lives.{of_txn}
use Rattle.flow_model.specs.Protocol.{BeginsOnce}
use Rattle.flow_model.proofs.CallLemmas.{agrees, at_each, calls-append, few_lanes, once_before}
use Rattle.flow_model.proofs.FlagLemmas.{open_request, open_response}
use Rattle.flow_model.proofs.LaneLemmas.{Each, each_append, each_back, each_front, has, held, held-cons, in_any, in_place, state_in, yes_or}
use Rattle.flow_model.proofs.RoomLemmas.{same_txn}
use Rattle.flow_model.proofs.StepLemmas.{reaches_push}

-- the test of a transaction passes it
pub same_self : (x : TxnId) → is_txn x.initiator x.seq x ≡ true
same_self x = and_from (x.initiator == x.initiator) (x.seq == x.seq) (eq-eqb x.initiator x.initiator refl) (eq-eqb x.seq x.seq refl)

-- the time of the last call that ended a response
response_step : (r : Rules) (b : Board) (e : Entry) (c : Board) (w : What) → StepsBy r b e w c → response_end_by b.response_end e.time w ≡ c.response_end
response_step r b e c (Called BeginReq answer) m = sym (ap (λ (d : Board). d.response_end) m.after)
response_step r b e c (Called EndReq answer) m = sym (ap (λ (d : Board). d.response_end) m.after)
response_step r b e c (Called BeginResp answer) m = sym (ap (λ (d : Board). d.response_end) m.after)
response_step r b e c (Called EndResp answer) m = sym (ap (λ (d : Board). d.response_end) m.after)
response_step r b e c w m = absurd m

response_walk : (r : Rules) (es : List Entry) (b d : Board) → Reaches r b es d → fold (λ old (e : Entry). response_end_by old e.time e.what) b.response_end es ≡ d.response_end
response_walk r [] b d h = ap (λ (x : Board). x.response_end) h
response_walk r (e ∷ es) b d h = ap (λ (t : ℕ). fold (λ old (f : Entry). response_end_by old f.time f.what) t es) (response_step r b e h.0 e.what h.1) ∙ response_walk r es h.0 d h.2

-- whether a request is open doesn't matter at a BEGIN_REQ
same_end : (is_open : Bool) (answer : TlmSync) → ends_request is_open BeginReq answer ≡ ends_request false BeginReq answer
same_end is_open Accepted = refl
same_end is_open (Updated phase) = refl
same_end is_open Completed = refl

-- a lane's last time is that of its transaction
abbrev IsLast : List Entry → Open → Type 0
IsLast log o = o.last ≡ last_time o.txn log

last_own : (x : TxnId) (log : List Entry) (e : Entry) → is_of x e ≡ true → last_time x (log ++ e ∷ []) ≡ e.time
last_own x log e is = fold_push (λ old (f : Entry). cond (is_of x f) f.time old) 0 log e ∙ ap (λ (d : Bool). cond d e.time (last_time x log)) is

last_other : (x : TxnId) (log : List Entry) (e : Entry) → is_of x e ≡ false → last_time x (log ++ e ∷ []) ≡ last_time x log
last_other x log e isnt = fold_push (λ old (f : Entry). cond (is_of x f) f.time old) 0 log e ∙ ap (λ (d : Bool). cond d e.time (last_time x log)) isnt

-- an entry of another transaction
others_kept : (log : List Entry) (e : Entry) (os : List Open) → held (of_txn e.txn) os ≡ 0 → Each (IsLast log) os → Each (IsLast (log ++ e ∷ [])) os
others_kept log e [] z h = tt
others_kept log e (o ∷ os) z h = (by_case (is_of o.txn e) refl, others_kept log e os (rest (held-cons (of_txn e.txn) o os)) h.1)
  where
    rest : held (of_txn e.txn) (o ∷ os) ≡ cond {A = ℕ} (has (of_txn e.txn) o) 1 0 + held (of_txn e.txn) os → held (of_txn e.txn) os ≡ 0
    rest n = omega arith

    by_case : (b : Bool) → is_of o.txn e ≡ b → IsLast (log ++ e ∷ []) o
    by_case false isnt = h.0 ∙ sym (last_other o.txn log e isnt)
    by_case true is =
        let own : has (of_txn e.txn) o ≡ true = ap (λ (x : TxnId). is_txn e.txn.initiator e.txn.seq x) (same_txn o.txn e.txn is) ∙ same_self e.txn in
        let n = held-cons (of_txn e.txn) o os in
        let q : cond {A = ℕ} (has (of_txn e.txn) o) 1 0 ≡ 1 = ap (λ (d : Bool). cond {A = ℕ} d 1 0) own in
        absurd (omega arith)

own_last : (log : List Entry) (e : Entry) (o : Open) (s : LaneState) → o.txn ≡ e.txn → Each (IsLast (log ++ e ∷ [])) (lane_after o s e.time)
own_last log e o s t = by_state s (sym (last_own o.txn log e (ap (λ (x : TxnId). is_txn x.initiator x.seq e.txn) t ∙ same_self e.txn)))
  where
    by_state : (s : LaneState) → e.time ≡ last_time o.txn (log ++ e ∷ []) → Each (IsLast (log ++ e ∷ [])) (lane_after o s e.time)
    by_state Free q = tt
    by_state Requested q = (q, tt)
    by_state Waiting q = (q, tt)
    by_state Responding q = (q, tt)

module _ (r : Rules) (before : List Entry) (b : Board) (there : Reaches r start before b) (e : Entry) (c : Board) (once : BeginsOnce (before ++ e ∷ [])) where
  earlier : BeginsOnce before
  earlier = once_before before (e ∷ []) once

  -- the lane of a later call is the only one of its transaction
  alone : (phase : Phase) (answer : TlmSync) (m : Moves r b e phase answer c) → (held (of_txn e.txn) m.before ≡ 0) × (held (of_txn e.txn) m.behind ≡ 0) × (state_in (of_txn e.txn) (m.before ++ m.lane ∷ m.behind) ≡ m.lane.state)
  alone phase answer m =
      let own : has (of_txn e.txn) m.lane ≡ true = ap (λ (x : TxnId). is_txn e.txn.initiator e.txn.seq x) m.txn ∙ same_self e.txn in
      let n = ap (held (of_txn e.txn)) m.here in
      let few = few_lanes r before b there e.txn in
      let o = earlier.once e.txn in
      in_place (of_txn e.txn) m.before m.lane m.behind own (omega arith)

  open_lane : (phase : Phase) (answer : TlmSync) (m : Moves r b e phase answer c) → has_open_request e.txn before ≡ is_requested m.lane.state
  open_lane phase answer m = open_request (calls_of e.txn before) (state_in (of_txn e.txn) b.lanes) (agrees r before b there earlier e.txn) ∙ ap is_requested (ap (state_in (of_txn e.txn)) m.here ∙ (alone phase answer m).2)

  request_moves : (phase : Phase) (answer : TlmSync) (m : Moves r b e phase answer c) → request_end_after b.request_end (has_open_request e.txn before) phase answer e.time ≡ c.request_end
  request_moves phase answer m = ap (λ (is_open : Bool). request_end_after b.request_end is_open phase answer e.time) (open_lane phase answer m) ∙ sym (ap (λ (d : Board). d.request_end) m.after)

  request_step : (w : What) → StepsBy r b e w c → request_end_by b.request_end (has_open_request e.txn before) e.time w ≡ c.request_end
  request_step (Called BeginReq answer) m = ap (λ (ends : Bool). cond ends e.time b.request_end) (same_end (has_open_request e.txn before) answer) ∙ sym (ap (λ (d : Board). d.request_end) m.after)
  request_step (Called EndReq answer) m = request_moves EndReq answer m
  request_step (Called BeginResp answer) m = request_moves BeginResp answer m
  request_step (Called EndResp answer) m = request_moves EndResp answer m
  request_step w m = absurd m

  -- a transaction that begins had no lane
  none_before : (answer : TlmSync) → e.what ≡ Called BeginReq answer → held (of_txn e.txn) b.lanes ≡ 0
  none_before answer is =
      let few = few_lanes r before b there e.txn in
      let all = ap (count_by is_begin) (calls-append e.txn before (e ∷ [])) ∙ begins-append (calls_of e.txn before) (calls_of e.txn (e ∷ [])) in
      let now : calls_of e.txn (e ∷ []) ≡ (BeginReq, answer) ∷ [] = ap (λ (d : Bool). cond d (calls_in e.what) [] ++ []) (same_self e.txn) ∙ ap (λ (w : What). calls_in w ++ []) is in
      let one : count_by is_begin (calls_of e.txn (e ∷ [])) ≡ 1 = ap (count_by is_begin) now in
      let o = once.once e.txn in
      omega arith

  lasts_moves : (phase : Phase) (answer : TlmSync) → Moves r b e phase answer c → Each (IsLast before) b.lanes → Each (IsLast (before ++ e ∷ [])) c.lanes
  lasts_moves phase answer m h =
      let only = alone phase answer m in
      let old = subst (λ (os : List Open). Each (IsLast before) os) m.here h in
      let front = others_kept before e m.before only.0 (each_front (IsLast before) m.before (m.lane ∷ m.behind) old) in
      let back = others_kept before e m.behind only.1 (each_back (IsLast before) m.before (m.lane ∷ m.behind) old).1 in
      let new = each_append (IsLast (before ++ e ∷ [])) m.before (lane_after m.lane m.state e.time ++ m.behind) front (each_append (IsLast (before ++ e ∷ [])) (lane_after m.lane m.state e.time) m.behind (own_last before e m.lane m.state m.txn) back) in
      subst (λ (d : Board). Each (IsLast (before ++ e ∷ [])) d.lanes) (sym m.after) new

  lasts_step : (w : What) → e.what ≡ w → StepsBy r b e w c → Each (IsLast before) b.lanes → Each (IsLast (before ++ e ∷ [])) c.lanes
  lasts_step (Called BeginReq answer) is m h =
      let old = others_kept before e b.lanes (none_before answer is) h in
      let new = each_append (IsLast (before ++ e ∷ [])) b.lanes (lane_after (fresh_lane e) m.state e.time) old (own_last before e (fresh_lane e) m.state refl) in
      subst (λ (d : Board). Each (IsLast (before ++ e ∷ [])) d.lanes) (sym m.after) new
  lasts_step (Called EndReq answer) is m h = lasts_moves EndReq answer m h
  lasts_step (Called BeginResp answer) is m h = lasts_moves BeginResp answer m h
  lasts_step (Called EndResp answer) is m h = lasts_moves EndResp answer m h
  lasts_step w is m h = absurd m

-- what stands before an entry, and what stands up to it
up_to : (before es : List Entry) (e : Entry) → BeginsOnce (before ++ e ∷ es) → BeginsOnce ((before ++ e ∷ []) ++ es)
up_to before es e once = subst (λ (l : List Entry). BeginsOnce l) (sym (append_assoc before (e ∷ []) es)) once

request_walk : (r : Rules) (es before : List Entry) (b d : Board) → Reaches r start before b → Reaches r b es d → BeginsOnce (before ++ es) → request_end_from before b.request_end es ≡ d.request_end
request_walk r [] before b d there h once = ap (λ (x : Board). x.request_end) h
request_walk r (e ∷ es) before b d there h once =
    let all = up_to before es e once in
    ap (λ (t : ℕ). request_end_from (before ++ e ∷ []) t es) (request_step r before b there e h.0 (once_before (before ++ e ∷ []) es all) e.what h.1) ∙ request_walk r es (before ++ e ∷ []) h.0 d (reaches_push r before start b e h.0 there h.1) h.2 all

lasts_walk : (r : Rules) (es before : List Entry) (b d : Board) → Reaches r start before b → Reaches r b es d → BeginsOnce (before ++ es) → Each (IsLast before) b.lanes → Each (IsLast (before ++ es)) d.lanes
lasts_walk r [] before b d there h once lasts =
    let here : Each (IsLast before) d.lanes = subst (λ (x : Board). Each (IsLast before) x.lanes) h lasts in
    subst (λ (l : List Entry). Each (IsLast l) d.lanes) (sym (append-nil before)) here
lasts_walk r (e ∷ es) before b d there h once lasts =
    let all = up_to before es e once in
    let on = lasts_walk r es (before ++ e ∷ []) h.0 d (reaches_push r before start b e h.0 there h.1) h.2 all (lasts_step r before b there e h.0 (once_before (before ++ e ∷ []) es all) e.what refl h.1 lasts) in
    subst (λ (l : List Entry). Each (IsLast l) d.lanes) (append_assoc before (e ∷ []) es) on

-- a lane whose state passes
record Found (p : LaneState → Bool) (os : List Open) : Type 0 where
  before : List Open
  lane : Open
  behind : List Open
  here : os ≡ before ++ lane ∷ behind
  passes : p lane.state ≡ true

find_lane : (p : LaneState → Bool) (os : List Open) → any_in p os ≡ true → Found p os
find_lane p [] e = cc
find_lane p (o ∷ os) e = by_case (p o.state) refl e (find_lane p os)
  where
    by_case : (b : Bool) → p o.state ≡ b → (b || any_in p os) ≡ true → (any_in p os ≡ true → Found p os) → Found p (o ∷ os)
    by_case true is e rest = record { before = []; lane = o; behind = os; here = refl; passes = is }
    by_case false is e rest = let f = rest e in record { before = o ∷ f.before; lane = f.lane; behind = f.behind; here = ap (λ (l : List Open). o ∷ l) f.here; passes = f.passes }

-- a transaction with calls has an entry
find_entry : (f : TxnId → Bool) (x : TxnId) → f x ≡ true → (es : List Entry) → ¬ (calls_of x es ≡ []) → list_any (λ (e : Entry). f e.txn) es ≡ true
find_entry f x is [] some_call = absurd (some_call refl)
find_entry f x is (e ∷ es) some_call = by_case (is_of x e) refl (find_entry f x is es)
  where
    by_case : (b : Bool) → is_of x e ≡ b → (¬ (calls_of x es ≡ []) → list_any (λ (g : Entry). f g.txn) es ≡ true) → (f e.txn || list_any (λ (g : Entry). f g.txn) es) ≡ true
    by_case true own rest = ap (λ (d : Bool). d || list_any (λ (g : Entry). f g.txn) es) (ap f (sym (same_txn x e.txn own)) ∙ is)
    by_case false own rest = yes_or (f e.txn) (list_any (λ (g : Entry). f g.txn) es) (rest (λ none. some_call (ap (λ (d : Bool). cond d (calls_in e.what) [] ++ calls_of x es) own ∙ none)))

-- an entry that passes tells of its transaction
record Names (f : TxnId → Bool) : Type 0 where
  txn : TxnId
  passes : f txn ≡ true

find_name : (f : TxnId → Bool) (es : List Entry) → list_any (λ (e : Entry). f e.txn) es ≡ true → Names f
find_name f [] e = cc
find_name f (a ∷ es) e = by_case (f a.txn) refl e (find_name f es)
  where
    by_case : (b : Bool) → f a.txn ≡ b → (b || list_any (λ (g : Entry). f g.txn) es) ≡ true → (list_any (λ (g : Entry). f g.txn) es ≡ true → Names f) → Names f
    by_case true is e rest = record { txn = a.txn; passes = is }
    by_case false is e rest = rest e

same_bool : (a b : Bool) → (a ≡ true → b ≡ true) → (b ≡ true → a ≡ true) → a ≡ b
same_bool true b f g = sym (f refl)
same_bool false true f g = g refl
same_bool false false f g = refl

module _ (r : Rules) (log : List Entry) (b : Board) (there : Reaches r start log b) (once : BeginsOnce log) where
  flag : (x : TxnId) → has_open_response x log ≡ is_responding (state_in (of_txn x) b.lanes)
  flag x = open_response (calls_of x log) (state_in (of_txn x) b.lanes) (agrees r log b there once x)

  from_lanes : any_in is_responding b.lanes ≡ true → any_response log ≡ true
  from_lanes e =
      let f = find_lane is_responding b.lanes e in
      let n = ap (held (of_txn f.lane.txn)) f.here in
      let few = few_lanes r log b there f.lane.txn in
      let o = once.once f.lane.txn in
      let only = in_place (of_txn f.lane.txn) f.before f.lane f.behind (same_self f.lane.txn) (omega arith) in
      let still : has_open_response f.lane.txn log ≡ true = flag f.lane.txn ∙ ap is_responding (ap (state_in (of_txn f.lane.txn)) f.here ∙ only.2) ∙ f.passes in
      find_entry (λ x. has_open_response x log) f.lane.txn still log (λ none. closed (calls_of f.lane.txn log) none still)
    where
      closed : (calls : List Call) → calls ≡ [] → fold response_by false calls ≡ true → ⊥
      closed calls none e = let q : false ≡ true = sym (ap (λ (cs : List Call). fold response_by false cs) none) ∙ e in cc

  to_lanes : any_response log ≡ true → any_in is_responding b.lanes ≡ true
  to_lanes e = let n = find_name (λ x. has_open_response x log) log e in in_any is_responding refl (of_txn n.txn) b.lanes (sym (flag n.txn) ∙ n.passes)

  -- a response is open on the board where one is by the log
  same_response : any_in is_responding b.lanes ≡ any_response log
  same_response = same_bool (any_in is_responding b.lanes) (any_response log) from_lanes to_lanes

module _ (r : Rules) (before : List Entry) (e : Entry) (b c : Board) (there : Reaches r start before b) (m : Steps r b e c) (once : BeginsOnce (before ++ e ∷ [])) where
  first_ones : BeginsOnce before
  first_ones = once_before before (e ∷ []) once

  after_own : (phase : Phase) (answer : TlmSync) → Moves r b e phase answer c → last_time e.txn before ≤ e.time
  after_own phase answer n =
      let lasts = lasts_walk r before [] start b refl there first_ones tt in
      let here = subst (λ (os : List Open). Each (IsLast before) os) n.here lasts in
      let own = (each_back (IsLast before) n.before (n.lane ∷ n.behind) here).0 ∙ ap (λ (x : TxnId). last_time x before) n.txn in
      let late = n.late in
      omega arith

  by_rules : (w : What) → StepsBy r b e w c → IsCallBy r before e w
  by_rules (Called BeginReq answer) n =
      let q = request_walk r before [] start b refl there first_ones in
      let late = n.late in
      (n.answered ∙ ap (request_answer r.req) (same_response r before b there first_ones), omega arith)
  by_rules (Called EndReq answer) n = (tt, after_own EndReq answer n)
  by_rules (Called BeginResp answer) n =
      let q = response_walk r before start b there in
      let late = n.turn.2 in
      (n.turn.1, (after_own BeginResp answer n, omega arith))
  by_rules (Called EndResp answer) n = (tt, after_own EndResp answer n)
  by_rules w n = absurd n

pub keeps_rules : (r : Rules) (log : List Entry) (d : Board) → Reaches r start log d → BeginsOnce log → KeepsRules r log
keeps_rules r log d h once = at_each r (λ before e. IsCallBy r before e e.what) (λ before e b c there m o. by_rules r before e b c there m o e.what m) log d h once
