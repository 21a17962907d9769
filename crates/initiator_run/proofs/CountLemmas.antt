-- What a run counts, as it moves on.
use Rattle.std.proofs.Common.{◌≡◌, ℕ, ◌+◌, ◌-◌, ◌^◌, ◌<◌, ◌≤◌, Bool, true, false, ◌||◌, ◌&&◌, cond, refl, ap, sym, subst, ◌∙◌, arith}
use Rattle.tlm_model.specs.declared.platform.Platform.{Platform}
use Rattle.tlm_model.specs.Plan.{Initiator}
use Rattle.tlm_model.specs.Requests.{end_of}
use Rattle.tlm_model.specs.Rounds.{round_of, syncs_from}
use Rattle.tlm_model.specs.Route.{later}
use Rattle.quantum_keeper.specs.Keeper.{Keeper, current_time, needs_sync, stepped, synced}
use Rattle.script_engine.specs.declared.op.Op.{Op}
use Rattle.script_engine.specs.State.{State}
use Rattle.script_engine.specs.Asking.{is_sync_op, syncs_after_op, syncs_at, syncs_then, end_at, numbers_at, time_after_op}
use Rattle.initiator_run.specs.Come.{HasCounted, rounds_at}
use Rattle.initiator_run.specs.Run.{Run, is_due, once_more, with_sync}

-- a sync leaves the current time
pub synced_time : (k : Keeper) → current_time (synced k) ≡ current_time k
synced_time k = grind arith

stepped_time : (last local by : ℕ) → later last (later local by) ≡ later (later last local) by
stepped_time last local by = grind arith

pub time_stepped : (k : Keeper) (by : ℕ) → current_time (stepped k by) ≡ later (current_time k) by
time_stepped k by = stepped_time k.last_sync k.local by

-- the time that a sync leaves
pub with_sync_time : (sync : Bool) (r : Run) → current_time (with_sync sync r).keeper ≡ current_time r.keeper
with_sync_time sync r = by_cases (is_due sync r)
  where
    by_cases : (b : Bool) → current_time (cond b (record r { keeper = synced r.keeper; syncs = once_more r.syncs }) r).keeper ≡ current_time r.keeper
    by_cases true = synced_time r.keeper
    by_cases false = refl

pub with_sync_engine : (sync : Bool) (r : Run) → (with_sync sync r).engine ≡ r.engine
with_sync_engine sync r = by_cases (is_due sync r)
  where
    by_cases : (b : Bool) → (cond b (record r { keeper = synced r.keeper; syncs = once_more r.syncs }) r).engine ≡ r.engine
    by_cases true = refl
    by_cases false = refl

pub with_sync_refused : (sync : Bool) (r : Run) → (with_sync sync r).refused ≡ r.refused
with_sync_refused sync r = by_cases (is_due sync r)
  where
    by_cases : (b : Bool) → (cond b (record r { keeper = synced r.keeper; syncs = once_more r.syncs }) r).refused ≡ r.refused
    by_cases true = refl
    by_cases false = refl

pub with_sync_finished : (sync : Bool) (r : Run) → (with_sync sync r).finished ≡ r.finished
with_sync_finished sync r = by_cases (is_due sync r)
  where
    by_cases : (b : Bool) → (cond b (record r { keeper = synced r.keeper; syncs = once_more r.syncs }) r).finished ≡ r.finished
    by_cases true = refl
    by_cases false = refl

pub with_sync_round : (sync : Bool) (r : Run) → (with_sync sync r).round ≡ r.round
with_sync_round sync r = by_cases (is_due sync r)
  where
    by_cases : (b : Bool) → (cond b (record r { keeper = synced r.keeper; syncs = once_more r.syncs }) r).round ≡ r.round
    by_cases true = refl
    by_cases false = refl

-- at most one sync is made
pub with_sync_once : (sync : Bool) (r : Run) → r.syncs < 2 ^ 64 → (r.syncs ≤ (with_sync sync r).syncs) × ((with_sync sync r).syncs ≤ r.syncs + 1)
with_sync_once sync r few = by_cases (is_due sync r)
  where
    by_cases : (b : Bool) → (r.syncs ≤ (cond b (record r { keeper = synced r.keeper; syncs = once_more r.syncs }) r).syncs) × ((cond b (record r { keeper = synced r.keeper; syncs = once_more r.syncs }) r).syncs ≤ r.syncs + 1)
    by_cases true = (omega arith, omega arith)
    by_cases false = (omega arith, omega arith)

-- the syncs that are due then
then_due : (ended after due : Bool) (a b : ℕ) → after ≡ due → cond ended (cond after a b) b ≡ cond (ended && due) a b
then_due true after due a b same = ap (λ (c : Bool). cond c a b) same
then_due false after due a b same = refl

same_due : (op : Op) (k : Keeper) (quantum now t : ℕ) → k.quantum ≡ quantum → k.last_sync ≡ now → current_time k ≡ t → syncs_after_op quantum now t op ≡ (is_sync_op op || needs_sync k)
same_due op k quantum now t q n c =
    ap (λ (x : ℕ). syncs_after_op x now t op) (sym q)
    ∙ (ap (λ (x : ℕ). syncs_after_op k.quantum x t op) (sym n) ∙ ap (λ (x : ℕ). syncs_after_op k.quantum k.last_sync x op) (sym c))

-- the syncs before the s-th request, once what is next has been done: where that ends an operation, a sync may stand
abbrev pub rounds_then : Platform → Initiator → ℕ → ℕ → Op → State → ℕ → ℕ
rounds_then p i now t op e s = cond e.ended (cond (syncs_after_op p.quantum now t op) (rounds_at p i t t e s + 1) (rounds_at p i now t e s)) (rounds_at p i now t e s)

-- what the next thing in a script leaves to be counted
pub record Leaves (p : Platform) (i : Initiator) (r : Run) (op : Op) (e : State) (k : Keeper) : Type 0 where
  pub initiator : e.initiator ≡ r.engine.initiator
  pub quantum : k.quantum ≡ r.keeper.quantum
  pub last_sync : k.last_sync ≡ r.keeper.last_sync
  pub time : current_time k ≡ time_after_op p i (current_time r.keeper) op
  pub end : end_at p i (current_time r.keeper) r.engine ≡ end_at p i (time_after_op p i (current_time r.keeper) op) e
  pub syncs : syncs_at p i r.keeper.last_sync (current_time r.keeper) r.engine ≡ syncs_then p i r.keeper.last_sync (time_after_op p i (current_time r.keeper) op) op e
  pub seq : r.engine.seq ≤ e.seq
  pub rounds : (s : ℕ) → rounds_at p i r.keeper.last_sync (current_time r.keeper) r.engine (s + (e.seq - r.engine.seq)) ≡ rounds_then p i r.keeper.last_sync (time_after_op p i (current_time r.keeper) op) op e s
  pub numbers : numbers_at e ≡ numbers_at r.engine

HasCounted-then : (p : Platform) (i : Initiator) (r : Run) (op : Op) (e : State) (k : Keeper) → HasCounted p i r → Leaves p i r op e k → HasCounted p i (with_sync (is_sync_op op) (record r { engine = e; keeper = k }))
HasCounted-then p i r op e k has leaves = by_cases (is_due (is_sync_op op) next) left rounds_left
  where
    next : Run
    next = record r { engine = e; keeper = k }

    t : ℕ
    t = current_time k

    left : r.syncs + cond (e.ended && (is_sync_op op || needs_sync k)) (syncs_at p i t t e + 1) (syncs_at p i k.last_sync t e) ≡ syncs_from p i 0 0 i.script
    left =
        ap (λ (n : ℕ). r.syncs + n) (sym (leaves.syncs
        ∙ (ap (λ (x : ℕ). syncs_then p i r.keeper.last_sync x op e) (sym leaves.time)
        ∙ (ap (λ (x : ℕ). syncs_then p i x t op e) (sym leaves.last_sync)
        ∙ then_due e.ended (syncs_after_op p.quantum k.last_sync t op) (is_sync_op op || needs_sync k) (syncs_at p i t t e + 1) (syncs_at p i k.last_sync t e)
        (same_due op k p.quantum k.last_sync t (leaves.quantum ∙ has.quantum) refl refl)))))
        ∙ has.syncs

    rounds_left : (s : ℕ) → e.seq ≤ s → r.syncs + cond (e.ended && (is_sync_op op || needs_sync k)) (rounds_at p i t t e (s - e.seq) + 1) (rounds_at p i k.last_sync t e (s - e.seq)) ≡ round_of p i s
    rounds_left s after =
        let here : s - r.engine.seq ≡ (s - e.seq) + (e.seq - r.engine.seq) = omega (arith, leaves.seq) in
        ap (λ (n : ℕ). r.syncs + n) (sym (ap (rounds_at p i r.keeper.last_sync (current_time r.keeper) r.engine) here
        ∙ (leaves.rounds (s - e.seq)
        ∙ (ap (λ (x : ℕ). rounds_then p i r.keeper.last_sync x op e (s - e.seq)) (sym leaves.time)
        ∙ (ap (λ (x : ℕ). rounds_then p i x t op e (s - e.seq)) (sym leaves.last_sync)
        ∙ then_due e.ended (syncs_after_op p.quantum k.last_sync t op) (is_sync_op op || needs_sync k) (rounds_at p i t t e (s - e.seq) + 1) (rounds_at p i k.last_sync t e (s - e.seq))
        (same_due op k p.quantum k.last_sync t (leaves.quantum ∙ has.quantum) refl refl))))))
        ∙ has.rounds s (omega (arith, leaves.seq))

    end : end_at p i t e ≡ end_of p i
    end = ap (λ (x : ℕ). end_at p i x e) leaves.time ∙ (sym leaves.end ∙ has.end)

    by_cases : (b : Bool) → r.syncs + cond b (syncs_at p i t t e + 1) (syncs_at p i k.last_sync t e) ≡ syncs_from p i 0 0 i.script
        → ((s : ℕ) → e.seq ≤ s → r.syncs + cond b (rounds_at p i t t e (s - e.seq) + 1) (rounds_at p i k.last_sync t e (s - e.seq)) ≡ round_of p i s)
        → HasCounted p i (cond b (record next { keeper = synced k; syncs = once_more r.syncs }) next)
    by_cases true q each = record {
      number = leaves.initiator ∙ has.number;
      quantum = leaves.quantum ∙ has.quantum;
      end = ap (λ (x : ℕ). end_at p i x e) (synced_time k) ∙ end;
      syncs =
          let few = has.few in
          ap (λ (x : ℕ). once_more r.syncs + syncs_at p i t x e) (synced_time k) ∙ omega arith;
      rounds = λ s after.
          let few = has.few in
          let one = each s after in
          ap (λ (x : ℕ). once_more r.syncs + rounds_at p i t x e (s - e.seq)) (synced_time k) ∙ omega (arith, q);
      numbers = leaves.numbers ∙ has.numbers;
      few = has.few;
      roomy = has.roomy;
    }
    by_cases false q each = record {
      number = leaves.initiator ∙ has.number;
      quantum = leaves.quantum ∙ has.quantum;
      end = end;
      syncs = q;
      rounds = each;
      numbers = leaves.numbers ∙ has.numbers;
      few = has.few;
      roomy = has.roomy;
    }

pub HasCounted-moved : (p : Platform) (i : Initiator) (r : Run) (op : Op) (sync : Bool) (e : State) (k : Keeper) → is_sync_op op ≡ sync → HasCounted p i r → Leaves p i r op e k → HasCounted p i (with_sync sync (record r { engine = e; keeper = k }))
HasCounted-moved p i r op sync e k same has leaves = subst (λ (b : Bool). HasCounted p i (with_sync b (record r { engine = e; keeper = k }))) same (HasCounted-then p i r op e k has leaves)
