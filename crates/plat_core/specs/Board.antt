-- What the rounds know of the runs of a core.
use Rattle.std.specs.Prelude.{ℕ, ◌≡◌, List, slice_get, length, Some}
use Rattle.std.specs.List.{AllByRecursion}
use Rattle.tlm_types.specs.declared.entry.Entry.{Entry}
use Rattle.tlm_model.specs.Plan.{Plan}
use Rattle.time_board.specs.declared.rounds.Member.{Member}
use Rattle.time_board.specs.Rounds.{member_of}
use Rattle.plat_core.specs.Rounds.{KeepsRounds, round_at}
use Rattle.initiator_run.specs.Run.{Run}
use Rattle.initiator_run.specs.Board.{IsNear, IsInRound}

-- each run is a member, nobody is more than a round behind another one or behind an entry, and the history keeps the rounds
pub record AreInRounds (p : Plan) (h : List Entry) (runs : List Run) (members : List Member) : Type 0 where
  pub count : length members ≡ length runs
  pub each : (k : ℕ) (r : Run) → slice_get runs k ≡ Some r → IsInRound members k r
  pub close : (k : ℕ) → IsNear members (member_of members k).round
  pub near : AllByRecursion (λ (e : Entry). IsNear members (round_at p e)) h
  pub kept : KeepsRounds p h
