-- Tests whether a hop and a pool could have made their logs, and the other premises of the law.
use Rattle.std.proofs.Common.{◌≡◌, ℕ, zero, suc, ◌<◌, ◌≤◌, List, [], ◌∷◌, ◌++◌, length, Option, Some, None, true, false, Bool, nat_eq, refl, ap, sym, arith, subst, ◌⊎◌, inl, inr}
use Rattle.std.specs.Prelude.{IsSome, nat_le, ◌==◌}
use Rattle.std.proofs.lemmas.Bool.{eq-eqb, leb-true}
use Rattle.tlm_types.specs.declared.words.Phase.{Phase}
use Rattle.tlm_types.specs.declared.words.Phase.TheVariants.{BeginReq, EndReq, BeginResp, EndResp}
use Rattle.tlm_types.specs.declared.words.TlmSync.{TlmSync}
use Rattle.tlm_types.specs.declared.words.TlmSync.TheVariants.{Accepted, Updated, Completed}
use Rattle.tlm_types.specs.declared.words.TxnId.{TxnId}
use Rattle.tlm_types.specs.declared.entry.Entry.{Entry}
use Rattle.tlm_types.specs.declared.entry.What.{What}
use Rattle.tlm_types.specs.declared.entry.What.TheVariants.{Call as Called, Take, Acquire, Release}
use Rattle.base_phases.specs.declared.phases.LaneState.{LaneState}
use Rattle.base_phases.specs.declared.phases.LaneState.TheVariants.{Free}
use Rattle.base_phases.specs.Phases.{next_state}
use Rattle.flow_model.specs.Answers.{is_requested, is_responding, request_answer, response_answer}
use Rattle.flow_model.specs.Board.{Begins, Board, InTurn, Moves, Open, Reaches, Rules, StepsBy, any_in, fresh_lane, lane_after, request_end_after, response_end_after, start}
use Rattle.flow_model.specs.World.{World}
use Rattle.flow_model.specs.Events.{Event, Among, hop_log}
use Rattle.flow_model.specs.Pools.{IsLive, IsPoolLog, Life, PoolStepBy, Slots, slots_after}
use Rattle.flow_model.specs.Slots.{no_slots}
use Rattle.flow_model.specs.Law.{HasSteps}
use Rattle.flow_check.proofs.Decide.{bind, each, either, is_phase, is_same_txn, less, same_nat}

abbrev le_by : (a b : ℕ) (t : Bool) → nat_le a b ≡ t → Option (a ≤ b)
le_by a b true q = Some (leb-true a b q)
le_by a b false q = None

abbrev pub at_most : (a b : ℕ) → Option (a ≤ b)
at_most a b = le_by a b (nat_le a b) refl

abbrev falsity : (b : Bool) → Option (b ≡ false)
falsity true = None
falsity false = Some refl

abbrev same_sync : (a b : TlmSync) → Option (a ≡ b)
same_sync Accepted Accepted = Some refl
same_sync Completed Completed = Some refl
same_sync (Updated p) (Updated q) = bind (is_phase q p) (λ s. Some (ap Updated s))
same_sync _ _ = None

-- one step of a hop
abbrev Next : Rules → Board → Entry → What → Type 0
Next r b e v = (c : Board) × StepsBy r b e v c

record Allowed (s : LaneState) (p : Phase) (a : TlmSync) : Type 0 where
  pub state : LaneState
  pub is : next_state s p a ≡ Some state

abbrev allowed_by : (s : LaneState) (p : Phase) (a : TlmSync) (o : Option LaneState) → next_state s p a ≡ o → Option (Allowed s p a)
allowed_by s p a None q = None
allowed_by s p a (Some t) q = Some (record { state = t; is = q })

abbrev begins : (r : Rules) (b : Board) (e : Entry) (a : TlmSync) → Option ((c : Board) × Begins r b e a c)
begins r b e a =
    bind (falsity (any_in is_requested b.lanes)) (λ alone. bind (less (length b.lanes) r.limit) (λ room. bind (same_sync a (request_answer r.req (any_in is_responding b.lanes))) (λ answered. bind (at_most b.request_end e.time) (λ late.
    bind (allowed_by Free BeginReq a (next_state Free BeginReq a) refl) (λ s.
    Some (
      record { lanes = b.lanes ++ lane_after (fresh_lane e) s.state e.time; request_end = request_end_after b.request_end false BeginReq a e.time; response_end = b.response_end },
      record { alone = alone; room = room; answered = answered; late = late; state = s.state; allowed = s.is; after = refl },
    ))))))

record LaneOf (lanes : List Open) (x : TxnId) : Type 0 where
  pub before : List Open
  pub lane : Open
  pub behind : List Open
  pub here : lanes ≡ before ++ lane ∷ behind
  pub txn : lane.txn ≡ x

abbrev lane_by : (l : Open) (ls : List Open) (x : TxnId) → Option (l.txn ≡ x) → Option (LaneOf ls x) → Option (LaneOf (l ∷ ls) x)
lane_by l ls x (Some q) rest = Some (record { before = []; lane = l; behind = ls; here = refl; txn = q })
lane_by l ls x None None = None
lane_by l ls x None (Some f) = Some (record { before = l ∷ f.before; lane = f.lane; behind = f.behind; here = ap (λ (m : List Open). l ∷ m) f.here; txn = f.txn })

abbrev lane_of : (lanes : List Open) (x : TxnId) → Option (LaneOf lanes x)
lane_of [] x = None
lane_of (l ∷ ls) x = lane_by l ls x (is_same_txn x l.txn) (lane_of ls x)

abbrev in_turn : (r : Rules) (b : Board) (e : Entry) (p : Phase) (a : TlmSync) → Option (InTurn r b e p a)
in_turn r b e BeginResp a = bind (falsity (any_in is_responding b.lanes)) (λ alone. bind (same_sync a (response_answer r.resp)) (λ answered. bind (at_most b.response_end e.time) (λ late. Some (alone, answered, late))))
in_turn r b e BeginReq a = Some tt
in_turn r b e EndReq a = Some tt
in_turn r b e EndResp a = Some tt

abbrev moves : (r : Rules) (b : Board) (e : Entry) (p : Phase) (a : TlmSync) → Option ((c : Board) × Moves r b e p a c)
moves r b e p a =
    bind (lane_of b.lanes e.txn) (λ l. bind (at_most l.lane.last e.time) (λ late. bind (in_turn r b e p a) (λ turn. bind (allowed_by l.lane.state p a (next_state l.lane.state p a) refl) (λ s.
    Some (
      record { lanes = l.before ++ (lane_after l.lane s.state e.time ++ l.behind); request_end = request_end_after b.request_end (is_requested l.lane.state) p a e.time; response_end = response_end_after b.response_end p a e.time },
      record { before = l.before; lane = l.lane; behind = l.behind; here = l.here; txn = l.txn; late = late; turn = turn; state = s.state; allowed = s.is; after = refl },
    )))))

abbrev step_by : (r : Rules) (b : Board) (e : Entry) (v : What) → Option (Next r b e v)
step_by r b e (Called BeginReq a) = begins r b e a
step_by r b e (Called EndReq a) = moves r b e EndReq a
step_by r b e (Called BeginResp a) = moves r b e BeginResp a
step_by r b e (Called EndResp a) = moves r b e EndResp a
step_by r b e _ = None

abbrev reaches_by : (r : Rules) (b : Board) (e : Entry) (es : List Entry) → Option (Next r b e e.what) → ((c : Board) → Option ((d : Board) × Reaches r c es d)) → Option ((d : Board) × Reaches r b (e ∷ es) d)
reaches_by r b e es None f = None
reaches_by r b e es (Some n) f = bind (f n.0) (λ m. Some (m.0, (n.0, n.1, m.1)))

abbrev reaches : (r : Rules) (b : Board) (log : List Entry) → Option ((d : Board) × Reaches r b log d)
reaches r b [] = Some (b, refl)
reaches r b (e ∷ es) = reaches_by r b e es (step_by r b e e.what) (λ c. reaches r c es)

abbrev pub has_steps : (w : World) (o : ℕ) (h : List Event) → Option (HasSteps w o h)
has_steps w o h = bind (reaches (w.hop o).rules start (hop_log o h)) (λ d. Some (record { board = d.0; steps = d.1 }))

-- one step of a pool
abbrev life_by : (s : Slots) (k : ℕ) (x : TxnId) (o : Option Life) → s k ≡ o → Option (IsLive s k x)
life_by s k x None q = None
life_by s k x (Some l) q = bind (is_same_txn x l.txn) (λ t. Some (record { life = l; is = q; txn = t }))

abbrev free_by : (s : Slots) (k : ℕ) (o : Option Life) → s k ≡ o → Option (s k ≡ None)
free_by s k None q = Some q
free_by s k (Some l) q = None

abbrev some_by : {A : Type 0} → (o : Option A) → Option (IsSome o)
some_by None = None
some_by (Some a) = Some refl

pub no_below : (s : Slots) (j : ℕ) → j < 0 → IsSome (s j)
no_below s j l = absurd (omega arith)

pub last_or_below : (s : Slots) (k : ℕ) → ((j : ℕ) → j < k → IsSome (s j)) → IsSome (s k) → (j : ℕ) → j < suc k → IsSome (s j)
last_or_below s k f q j l = elim (cases j k l) [ inl m ↦ f j m | inr e ↦ subst (λ (i : ℕ). IsSome (s i)) (sym e) q ]
  where
    cases : (j k : ℕ) → j < suc k → (j < k) ⊎ (j ≡ k)
    cases j k l = grind arith

abbrev all_below : (s : Slots) (k : ℕ) → Option ((j : ℕ) → j < k → IsSome (s j))
all_below s zero = Some (λ j l. no_below s j l)
all_below s (suc k) = bind (all_below s k) (λ f. bind (some_by (s k)) (λ q. Some (λ j l. last_or_below s k f q j l)))

pub not_first : (m n : ℕ) (ms : List ℕ) → nat_eq m n ≡ false → ¬ Among ms n → ¬ Among (m ∷ ms) n
not_first m n ms q f (inl r) = cc (q, eq-eqb m n r)
not_first m n ms q f (inr r) = f r

abbrev differs : (m n : ℕ) → Option (nat_eq m n ≡ false)
differs m n = falsity (nat_eq m n)

abbrev new_number : (ms : List ℕ) (n : ℕ) → Option (¬ Among ms n)
new_number [] n = Some (λ q. q)
new_number (m ∷ ms) n = bind (new_number ms n) (λ f. bind (differs m n) (λ q. Some (λ r. not_first m n ms q f r)))

abbrev same_bool : (a b : Bool) → Option (a ≡ b)
same_bool true true = Some refl
same_bool false false = Some refl
same_bool _ _ = None

abbrev pool_step : (slots : ℕ) (s : Slots) (x : TxnId) (n : ℕ) (v : What) → Option (PoolStepBy slots s x n v)
pool_step slots s x n (Take k) = bind (less k slots) (λ l. bind (free_by s k (s k) refl) (λ f. bind (all_below s k) (λ a. Some (record { below = l; free = f; least = a }))))
pool_step slots s x n (Acquire k) = bind (life_by s k x (s k) refl) (λ l. bind (same_nat n l.life.acquired) (λ q. bind (less n 15) (λ f. Some (record { live = l; number = q; few = f }))))
pool_step slots s x n (Release k freed) =
    bind (life_by s k x (s k) refl) (λ l. bind (either (bind (less n l.life.acquired) (λ q. Some (inl q))) (bind (same_nat n 15) (λ q. Some (inr q)))) (λ m.
    bind (new_number l.life.released n) (λ f. bind (same_bool freed (length l.life.released == l.life.acquired)) (λ d. Some (record { live = l; number = m; new = f; is_freed = d })))))
pool_step slots s x n _ = None

abbrev pub pool_log : (slots : ℕ) (log : List Event) → Option (IsPoolLog slots log)
pool_log slots log = each _ (λ before e. pool_step slots (slots_after no_slots before) e.txn e.number e.what) log
