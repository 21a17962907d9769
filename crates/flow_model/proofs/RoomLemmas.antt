-- Different transactions that have lanes are no more than there are lanes.
use Rattle.std.proofs.Common.{◌≡◌, ◌≢◌, ℕ, zero, suc, ◌+◌, ◌≤◌, ◌==◌, Bool, true, false, cond, List, [], ◌∷◌, ◌++◌, length, refl, sym, ap, ◌∙◌, arith, length-append}
use Rattle.std.specs.Prelude.{All, AllPairs}
use Rattle.std.proofs.lemmas.Bool.{and_parts, eqb-true}
use Rattle.std.proofs.lemmas.List.Elements.{All-head, All-tail, All-weaker}
use Rattle.tlm_types.specs.declared.words.Phase.{Phase}
use Rattle.tlm_types.specs.declared.words.Phase.TheVariants.{BeginReq, EndReq, BeginResp, EndResp}
use Rattle.tlm_types.specs.declared.words.TlmSync.{TlmSync}
use Rattle.tlm_types.specs.declared.words.TxnId.{TxnId}
use Rattle.tlm_types.specs.declared.entry.What.{What}
use Rattle.tlm_types.specs.declared.entry.What.TheVariants.{Call as Called}
use Rattle.tlm_types.specs.declared.entry.Entry.{Entry}
use Rattle.tlm_model.specs.Requests.{is_txn}
use Rattle.base_phases.specs.declared.phases.LaneState.{LaneState}
use Rattle.base_phases.specs.declared.phases.LaneState.TheVariants.{Free, Requested, Waiting, Responding}
use Rattle.flow_model.specs.Board.{Open, Board, Rules, Moves, StepsBy, Reaches, fresh_lane, lane_after}
use Rattle.flow_model.specs.Lives.{of_txn}
use Rattle.flow_model.proofs.LaneLemmas.{has, held, held-cons}

-- the test of a transaction passes that transaction alone
pub same_txn : (x t : TxnId) → is_txn x.initiator x.seq t ≡ true → x ≡ t
same_txn x t e =
    let parts = and_parts (t.initiator == x.initiator) (t.seq == x.seq) e in
    let made : ℕ → ℕ → TxnId = λ i s. record { initiator = i; seq = s } in
    ap (λ (i : ℕ). made i x.seq) (sym (eqb-true t.initiator x.initiator parts.0)) ∙ ap (λ (s : ℕ). made t.initiator s) (sym (eqb-true t.seq x.seq parts.1))

-- how many of the transactions have this lane
abbrev hits : Open → List TxnId → ℕ
hits o [] = 0
hits o (x ∷ xs) = cond {A = ℕ} (has (of_txn x) o) 1 0 + hits o xs

-- how many lanes the transactions have
abbrev total : List TxnId → List Open → ℕ
total [] os = 0
total (x ∷ xs) os = held (of_txn x) os + total xs os

total_nil : (xs : List TxnId) → total xs [] ≡ 0
total_nil [] = refl
total_nil (x ∷ xs) = let e = total_nil xs in omega arith

total_cons : (xs : List TxnId) (o : Open) (os : List Open) → total xs (o ∷ os) ≡ hits o xs + total xs os
total_cons [] o os = refl
total_cons (x ∷ xs) o os = let h = held-cons (of_txn x) o os in let e = total_cons xs o os in omega arith

pairs_head : {X : Type 0} (R : X → X → Type 0) (x : X) (xs : List X) → AllPairs R (x ∷ xs) → All (R x) xs
pairs_head R x xs p = λ k d within. p zero (suc k) d (omega arith) (omega arith)

pairs_tail : {X : Type 0} (R : X → X → Type 0) (x : X) (xs : List X) → AllPairs R (x ∷ xs) → AllPairs R xs
pairs_tail R x xs p = λ i j d order within. p (suc i) (suc j) d (omega arith) (omega arith)

no_hit : (o : Open) (xs : List TxnId) → All (λ y. o.txn ≢ y) xs → hits o xs ≡ 0
no_hit o [] none = refl
no_hit o (x ∷ xs) none = missed (has (of_txn x) o) refl (no_hit o xs (All-tail (λ y. o.txn ≢ y) x xs none))
  where
    missed : (b : Bool) → has (of_txn x) o ≡ b → hits o xs ≡ 0 → cond {A = ℕ} (has (of_txn x) o) 1 0 + hits o xs ≡ 0
    missed true e rest = absurd (All-head (λ y. o.txn ≢ y) x xs none (sym (same_txn x o.txn e)))
    missed false e rest = let z : cond {A = ℕ} (has (of_txn x) o) 1 0 ≡ 0 = ap (λ (c : Bool). cond {A = ℕ} c 1 0) e in omega arith

-- a lane is that of one transaction at most
one_hit : (o : Open) (xs : List TxnId) → AllPairs (λ x y. x ≢ y) xs → hits o xs ≤ 1
one_hit o [] p = omega arith
one_hit o (x ∷ xs) p = by_case (has (of_txn x) o) refl (one_hit o xs (pairs_tail (λ x y. x ≢ y) x xs p))
  where
    by_case : (b : Bool) → has (of_txn x) o ≡ b → hits o xs ≤ 1 → cond {A = ℕ} (has (of_txn x) o) 1 0 + hits o xs ≤ 1
    by_case true e rest =
        let z : cond {A = ℕ} (has (of_txn x) o) 1 0 ≡ 1 = ap (λ (c : Bool). cond {A = ℕ} c 1 0) e in
        let same = same_txn x o.txn e in
        let none = no_hit o xs (All-weaker (λ y. x ≢ y) (λ y. o.txn ≢ y) (λ y differ q. differ (same ∙ q)) xs (pairs_head (λ x y. x ≢ y) x xs p)) in
        omega arith
    by_case false e rest = let z : cond {A = ℕ} (has (of_txn x) o) 1 0 ≡ 0 = ap (λ (c : Bool). cond {A = ℕ} c 1 0) e in omega arith

few_total : (xs : List TxnId) → AllPairs (λ x y. x ≢ y) xs → (os : List Open) → total xs os ≤ length os
few_total xs p [] = let e = total_nil xs in omega arith
few_total xs p (o ∷ os) = let a = total_cons xs o os in let b = one_hit o xs p in let c = few_total xs p os in omega arith

covered : (xs : List TxnId) (os : List Open) → All (λ x. 1 ≤ held (of_txn x) os) xs → length xs ≤ total xs os
covered [] os all = omega arith
covered (x ∷ xs) os all =
    let h = All-head (λ y. 1 ≤ held (of_txn y) os) x xs all in
    let t = covered xs os (All-tail (λ y. 1 ≤ held (of_txn y) os) x xs all) in
    omega arith

-- different transactions with a lane each are no more than the lanes
pub no_more : (xs : List TxnId) (os : List Open) → AllPairs (λ x y. x ≢ y) xs → All (λ x. 1 ≤ held (of_txn x) os) xs → length xs ≤ length os
no_more xs os p all = let a = covered xs os all in let b = few_total xs p os in omega arith

length_after : (o : Open) (s : LaneState) (t : ℕ) → length (lane_after o s t) ≤ 1
length_after o Free t = omega arith
length_after o Requested t = omega arith
length_after o Waiting t = omega arith
length_after o Responding t = omega arith

room_moves : (r : Rules) (b : Board) (e : Entry) (c : Board) (phase : Phase) (answer : TlmSync) → Moves r b e phase answer c → length c.lanes ≤ length b.lanes
room_moves r b e c phase answer m =
    let new = ap (λ (d : Board). length d.lanes) m.after ∙ length-append m.before (lane_after m.lane m.state e.time ++ m.behind) in
    let new2 = length-append (lane_after m.lane m.state e.time) m.behind in
    let old = ap (λ (os : List Open). length os) m.here ∙ length-append m.before (m.lane ∷ m.behind) in
    let q = length_after m.lane m.state e.time in
    omega arith

room_step : (r : Rules) (b : Board) (e : Entry) (c : Board) → length b.lanes ≤ r.limit → (w : What) → StepsBy r b e w c → length c.lanes ≤ r.limit
room_step r b e c few (Called BeginReq answer) m =
    let new = ap (λ (d : Board). length d.lanes) m.after ∙ length-append b.lanes (lane_after (fresh_lane e) m.state e.time) in
    let q = length_after (fresh_lane e) m.state e.time in
    let free = m.room in
    omega arith
room_step r b e c few (Called EndReq answer) m = let q = room_moves r b e c EndReq answer m in omega arith
room_step r b e c few (Called BeginResp answer) m = let q = room_moves r b e c BeginResp answer m in omega arith
room_step r b e c few (Called EndResp answer) m = let q = room_moves r b e c EndResp answer m in omega arith
room_step r b e c few w m = absurd m

-- a board has no more lanes than the hop
pub room_kept : (r : Rules) (es : List Entry) (b d : Board) → Reaches r b es d → length b.lanes ≤ r.limit → length d.lanes ≤ r.limit
room_kept r [] b d h few = let e = ap (λ (x : Board). length x.lanes) h in omega arith
room_kept r (e ∷ es) b d h few = room_kept r es h.0 d h.2 (room_step r b e h.0 few e.what h.1)
