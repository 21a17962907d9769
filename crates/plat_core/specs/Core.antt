-- What is seen of the core, and its steps.
use Rattle.std.specs.Prelude.{ℕ, ◌≡◌, ◌+◌, ◌*◌, ◌<◌, ◌≤◌, Bool, true, false, List, [], ◌∷◌, ◌++◌, length, map, replicate, sum_by, if◌then◌else◌, Some, IsSomeAnd, MatchOption, slice_get, slice_set}
use Rattle.std.specs.List.{list_all}
use Rattle.tlm_types.specs.declared.entry.Entry.{Entry}
use Rattle.tlm_types.specs.declared.words.ObjectNo.TheVariants.{Memory as memory_object}
use Rattle.tlm_model.specs.declared.platform.MemoryRow.{MemoryRow}
use Rattle.tlm_model.specs.declared.platform.Platform.{Platform}
use Rattle.tlm_model.specs.History.{entries_at}
use Rattle.tlm_model.specs.Plan.{Plan, Initiator, initiators_of}
use Rattle.good_history.specs.GrantLaws.{HasNoInvalidation}
use Rattle.good_history.specs.Good.{IsSound}
use Rattle.region_object.specs.Region.{LoggedMemory}
use Rattle.time_board.specs.declared.rounds.Member.{Member}
use Rattle.time_board.specs.Rounds.{member_of, new_member}
use Rattle.script_engine.specs.declared.op.Op.TheVariants as next
use Rattle.script_engine.specs.State.{op_of}
use Rattle.initiator_run.specs.Come.{HasCome, has_ended}
use Rattle.initiator_run.specs.Left.{total_bytes, total_left}
use Rattle.run_outcome.specs.Merge.{merged}
use Rattle.plat_core.specs.Rounds.{IsHeldBack, due_round}
use Rattle.initiator_run.specs.Run.{Run, fresh_run}
use Rattle.platform_shape.specs.Shape.{IsBlocking}
use Rattle.route_plan.specs.Valid.{IsValid}
use Rattle.plat_core.specs.declared.steps.CoreStep.{CoreStep}
use Rattle.plat_core.specs.declared.steps.CoreStep.TheVariants.{Made, Waits, Finished}

-- the plan, the history so far, and for each initiator whether it has finished, and its member of the rounds
pub record CoreView : Type 0 where
  pub plan : Plan
  pub history : List Entry
  pub finished : List Bool
  pub rounds : List Member

-- how many actors there are: the initiators, the routers and the memories, numbered in this order
abbrev pub actors_of : Platform → ℕ
actors_of p = length p.initiators + length p.routers + length p.memories

abbrev pub logs_of : List LoggedMemory → List (List Entry)
logs_of regions = map (λ (m : LoggedMemory). m.log.entries) regions

-- the history that these memories have
abbrev pub history_of : List LoggedMemory → List Entry
history_of regions = merged (logs_of regions)

abbrev pub are_finished : List Run → List Bool
are_finished runs = map (λ (r : Run). r.finished) runs

-- a core before its first step
abbrev pub begun_run : Plan → Initiator → Run
begun_run p i = fresh_run i.number i.script p.platform.quantum (2 * length i.script)

abbrev pub no_runs : Plan → List Run
no_runs p = map (begun_run p) (initiators_of p)

abbrev pub begun_core : Plan → CoreView
begun_core p = record { plan = p; history = []; finished = map (λ (i : Initiator). false) (initiators_of p); rounds = replicate (length p.platform.initiators) new_member }

-- memory k of a core: its log has room for all entries and all bytes that the runs are still to make there
pub record IsMemoryAt (p : Plan) (runs : List Run) (h : List Entry) (k : ℕ) (m : LoggedMemory) : Type 0 where
  pub number : m.number ≡ k
  pub row : IsSomeAnd (slice_get p.platform.memories k) (λ (row : MemoryRow). m.traits ≡ row.traits)
  pub log : m.log.entries ≡ entries_at (memory_object k) h
  pub few : m.log.room ≤ 1000000
  pub roomy : length m.log.entries + total_left p k (initiators_of p) runs ≤ m.log.room
  pub roomy_bytes : total_bytes p k (initiators_of p) runs ≤ m.log.room_bytes

-- the run of an initiator
pub record IsRunOf (p : Plan) (h : List Entry) (i : Initiator) (r : Run) : Type 0 where
  pub come : HasCome p.platform i h r
  pub finished : r.finished ≡ true → op_of r.engine ≡ next.Done

-- the parts of a core
pub record IsCore (p : Plan) (runs : List Run) (regions : List LoggedMemory) (made : ℕ) : Type 0 where
  pub valid : IsValid p
  pub blocking : IsBlocking p.platform
  pub quiet : HasNoInvalidation p
  pub sound : IsSound p (history_of regions)
  pub count : made ≡ length (history_of regions)
  pub run_count : length runs ≡ length p.platform.initiators
  pub region_count : length regions ≡ length p.platform.memories
  pub each_run : (k : ℕ) (i : Initiator) (r : Run) → slice_get (initiators_of p) k ≡ Some i → slice_get runs k ≡ Some r → IsRunOf p (history_of regions) i r
  pub each_region : (k : ℕ) (m : LoggedMemory) → slice_get regions k ≡ Some m → IsMemoryAt p runs (history_of regions) k m

abbrev pub all_true : List Bool → Bool
all_true bs = list_all (λ b. b) bs

-- the member of initiator n after a step, in this round
abbrev pub member_in : ℕ → List Member → ℕ → Bool → List Member
member_in n members round finished = slice_set members n (record { round = round; finished = finished })

-- a step of an initiator whose script has not ended, and that nobody holds back, makes its next entry, at the end of the
-- history and in its round
pub record HasMadeEntry (old : CoreView) (n : ℕ) (i : Initiator) (new : CoreView) (position : ℕ) : Type 0 where
  pub unended : has_ended old.plan.platform i old.history ≡ false
  pub free : IsHeldBack old.rounds n (due_round old.plan.platform i old.history) → ⊥
  pub entry : Entry
  pub after : new ≡ record old { history = old.history ++ entry ∷ []; rounds = member_in n old.rounds (due_round old.plan.platform i old.history) false }
  pub mine : entry.txn.initiator ≡ i.number
  pub at_end : position ≡ length old.history
  pub sound : IsSound old.plan new.history

-- only the member of initiator n may have risen
pub record HasRisen (old : CoreView) (n : ℕ) (new : CoreView) : Type 0 where
  pub round : ℕ
  pub more : (member_of old.rounds n).round ≤ round
  pub after : new ≡ record old { rounds = member_in n old.rounds round false }

-- a step of an initiator that is held back makes no entry
pub record HasWaited (old : CoreView) (n : ℕ) (i : Initiator) (new : CoreView) : Type 0 where
  pub held : IsHeldBack old.rounds n (due_round old.plan.platform i old.history)
  pub risen : HasRisen old n new

-- a step of an initiator whose script has ended, and that nobody holds back, finishes it, in its last round
pub record HasFinished (old : CoreView) (n : ℕ) (i : Initiator) (new : CoreView) : Type 0 where
  pub ended : has_ended old.plan.platform i old.history ≡ true
  pub free : IsHeldBack old.rounds n (due_round old.plan.platform i old.history) → ⊥
  pub after : new ≡ record old { finished = slice_set old.finished n true; rounds = member_in n old.rounds (due_round old.plan.platform i old.history) true }

abbrev pub IsInitiatorStep : CoreView → ℕ → Initiator → CoreView → CoreStep → Type 0
IsInitiatorStep old n i new (Made position) = HasMadeEntry old n i new position
IsInitiatorStep old n i new Waits = HasWaited old n i new
IsInitiatorStep old n i new Finished = HasFinished old n i new

-- a router or a memory has no work of its own: it waits until all initiators have finished
abbrev pub IsNodeStep : CoreView → CoreView → CoreStep → Type 0
IsNodeStep old new (Made position) = ⊥
IsNodeStep old new Waits = (all_true old.finished ≡ false) × (new ≡ old)
IsNodeStep old new Finished = (all_true old.finished ≡ true) × (new ≡ old)

-- a step of actor n
abbrev pub IsStep : CoreView → ℕ → CoreView → CoreStep → Type 0
IsStep old n new step = MatchOption (slice_get (initiators_of old.plan) n) (IsNodeStep old new step) (λ i. IsInitiatorStep old n i new step)

-- how far a core has come: its entries, its rounds, and who has finished
abbrev pub rank : Member → ℕ
rank m = m.round + (if m.finished then 1 else 0)

abbrev pub progress : CoreView → ℕ
progress v = length v.history + sum_by rank v.rounds

-- a member has finished, or an unfinished one is behind it
abbrev pub IsStuck : List Member → ℕ → Type 0
IsStuck members n = (member_of members n).finished ≡ false → (k : ℕ) × ((member_of members k).finished ≡ false) × ((member_of members k).round < (member_of members n).round)

-- after this step there has been progress, or the initiator is stuck
abbrev pub HasStopped : CoreView → ℕ → CoreView → CoreStep → Type 0
HasStopped old n new (Made position) = progress old < progress new
HasStopped old n new Waits = progress new ≤ progress old → (new ≡ old) × IsStuck old.rounds n
HasStopped old n new Finished = progress new ≤ progress old → (new ≡ old) × IsStuck old.rounds n

-- the plan and the initiators stay, and what has been done isn't undone
pub record GoesOn (old new : CoreView) : Type 0 where
  pub plan : new.plan ≡ old.plan
  pub flags : length new.finished ≡ length old.finished
  pub more : progress old ≤ progress new
