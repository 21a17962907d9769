-- What each initiator and each memory keeps by itself.
use Rattle.std.specs.Prelude.{ℕ, ◌≡◌, ◌<◌, List, [], length, Option, Some, None, IsTrue, slice_get}
use Rattle.std.specs.List.{AllByRecursion, list_all}
use Rattle.tlm_types.specs.declared.words.ObjectNo.TheVariants.{Memory}
use Rattle.tlm_types.specs.declared.entry.Entry.{Entry}
use Rattle.tlm_model.specs.declared.platform.MemoryRow.{MemoryRow}
use Rattle.tlm_model.specs.declared.platform.Platform.{Platform}
use Rattle.tlm_model.specs.History.{IsNumbered, entries_at}
use Rattle.tlm_model.specs.Log.{IsLog}
use Rattle.tlm_model.specs.Plan.{Plan, Initiator, initiators_of}
use Rattle.tlm_model.specs.Requests.{requests_of}
use Rattle.tlm_model.specs.Scripts.{RunsScripts, is_settled}
use Rattle.tlm_model.specs.Times.{HasDecoupledTimes}
use Rattle.good_history.specs.Laws.{AllDecoupled}
use Rattle.good_history.specs.Own.{own}

-- An initiator's own entries run its script, with the times of their requests.
pub record KeepsOwn (p : Plan) (mine : List Entry) : Type 0 where
  pub scripts : RunsScripts p mine
  pub times : HasDecoupledTimes p mine

-- by its own entries all that an initiator asks for is settled
abbrev pub EndsOwn : Platform → Initiator → List Entry → Type 0
EndsOwn p i mine = IsTrue (list_all (is_settled p i mine) (requests_of p i mine))

-- each entry is of an initiator of the plan
abbrev pub HasOwners : Plan → List Entry → Type 0
HasOwners p h = AllByRecursion (λ e. e.txn.initiator < length (initiators_of p)) h

abbrev pub IsLogOf : Option MemoryRow → List Entry → Type 0
IsLogOf None log = log ≡ []
IsLogOf (Some row) log = IsLog row.traits log

-- the entries at each memory are a lawful log of it, and where there is no memory stands no entry
abbrev pub HasLogs : Platform → List Entry → Type 0
HasLogs p h = (m : ℕ) → IsLogOf (slice_get p.memories m) (entries_at (Memory m) h)

-- A history of which each initiator and each memory keeps its own part.
pub record IsJoined (p : Plan) (h : List Entry) : Type 0 where
  pub numbered : IsNumbered h
  pub owners : HasOwners p h
  pub initiators : AllByRecursion (λ i. KeepsOwn p (own i.number h)) (initiators_of p)
  pub memories : HasLogs p.platform h

-- each initiator has ended its script
abbrev pub AllHaveEnded : Plan → List Entry → Type 0
AllHaveEnded p h = AllByRecursion (λ i. EndsOwn p.platform i (own i.number h)) (initiators_of p)

-- each initiator's own entries are accesses, grants, invalidations and closings at memories
abbrev pub OwnDecoupled : Plan → List Entry → Type 0
OwnDecoupled p h = AllByRecursion (λ i. AllDecoupled (own i.number h)) (initiators_of p)
