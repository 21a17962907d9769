-- How far an initiator has come in a history.
use Rattle.std.specs.Prelude.{ℕ, ◌≡◌, ◌+◌, ◌-◌, ◌≤◌, ◌^◌, ◌<◌, Bool, true, false, List, Option, Some, None, ◌++◌, length, map, if◌then◌else◌, ◌==◌, ◌||◌, nat_le, nat_lt}
use Rattle.std.specs.List.{AllByRecursion, filter, list_all}
use Rattle.tlm_types.specs.declared.entry.Entry.{Entry}
use Rattle.tlm_model.specs.declared.operation.Operation.{Operation}
use Rattle.tlm_model.specs.declared.platform.Platform.{Platform}
use Rattle.tlm_model.specs.Plan.{Initiator}
use Rattle.tlm_model.specs.Requests.{Request, requests_of, numbers_in, end_of, has_no_route}
use Rattle.tlm_model.specs.Route.{later, latency_of}
use Rattle.tlm_model.specs.Rounds.{next_point, round_of, rounds_from, syncs_from}
use Rattle.tlm_model.specs.Scripts.{has_answer, is_settled}
use Rattle.quantum_keeper.specs.Keeper.{current_time}
use Rattle.script_engine.specs.State.{Due, State}
use Rattle.script_engine.specs.Asking.{requests_at, end_at, syncs_at, numbers_at}
use Rattle.initiator_run.specs.Run.{Run, refused_item}
use Rattle.traffic_script.specs.Proper.{IsProper}

-- An initiator has made these requests, and what it asks for from here on, `left`, follows whatever is
-- answered next.
pub record HasMade (p : Platform) (i : Initiator) (h : List Entry) (made : List Request) (left : List Entry → List Request) : Type 0 where
  pub asked : (m : List Entry) → requests_of p i (h ++ m) ≡ made ++ left (h ++ m)
  pub settled : list_all (is_settled p i h) made ≡ true
  pub fresh : (s : ℕ) → length made ≤ s → has_answer i.number s h ≡ false

-- the syncs before the operation that asks for the s-th request from the end of an operation that is no sync on
abbrev pub rounds_once : Platform → Initiator → ℕ → ℕ → List Operation → ℕ → ℕ
rounds_once p i now t ops s = if (p.quantum == 0) || nat_le (next_point p.quantum now) t then rounds_from p i t t ops s + 1 else rounds_from p i now t ops s

abbrev pub rounds_behind : Platform → Initiator → ℕ → ℕ → Option Due → List Operation → ℕ → ℕ
rounds_behind p i now t None ops s = rounds_from p i now t ops s
rounds_behind p i now t (Some w) ops s = if nat_lt s 1 then 0 else rounds_once p i now (later t (latency_of p i w.address)) ops (s - 1)

-- the syncs before the operation that asks for the s-th request from here on
abbrev pub rounds_at : Platform → Initiator → ℕ → ℕ → State → ℕ → ℕ
rounds_at p i now t e s = rounds_behind p i now t e.due e.remaining s

-- what a run has counted is what its script asks for up to here
pub record HasCounted (p : Platform) (i : Initiator) (r : Run) : Type 0 where
  pub number : r.engine.initiator ≡ i.number
  pub quantum : r.keeper.quantum ≡ p.quantum
  pub end : end_at p i (current_time r.keeper) r.engine ≡ end_of p i
  pub syncs : r.syncs + syncs_at p i r.keeper.last_sync (current_time r.keeper) r.engine ≡ syncs_from p i 0 0 i.script
  pub rounds : (s : ℕ) → r.engine.seq ≤ s → r.syncs + rounds_at p i r.keeper.last_sync (current_time r.keeper) r.engine (s - r.engine.seq) ≡ round_of p i s
  pub numbers : numbers_at r.engine ≡ numbers_in i.script
  pub few : syncs_from p i 0 0 i.script < 2 ^ 64
  pub roomy : numbers_in i.script ≤ r.refused.room

-- a run has come to where its history leaves it
pub record HasCome (p : Platform) (i : Initiator) (h : List Entry) (r : Run) : Type 0 where
  pub stage : ℕ
  pub made : List Request
  pub asked : HasMade p i h made (λ m. requests_at p i m (current_time r.keeper) stage r.engine)
  pub count : length made ≡ r.engine.seq
  pub refused : r.refused.items ≡ map refused_item (filter (λ q. has_no_route p i q q.asked) made)
  pub counted : HasCounted p i r
  pub proper : AllByRecursion IsProper r.engine.remaining

-- all that an initiator asks for is settled: its script has ended, but for what needs no answer
abbrev pub has_ended : Platform → Initiator → List Entry → Bool
has_ended p i h = list_all (is_settled p i h) (requests_of p i h)
