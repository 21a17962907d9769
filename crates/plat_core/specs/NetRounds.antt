-- What a history and the rounds are to one another where only blocking and direct initiators take part in rounds.
use Rattle.std.specs.Prelude.{ℕ, ◌≡◌, ◌+◌, ◌≤◌, true, List}
use Rattle.std.specs.List.{AllByRecursion}
use Rattle.tlm_types.specs.declared.entry.Entry.{Entry}
use Rattle.tlm_model.specs.Plan.{Plan}
use Rattle.time_board.specs.declared.rounds.Member.{Member}
use Rattle.initiator_run.specs.Board.{IsNear}
use Rattle.plat_core.specs.Rounds.{KeepsRoundsOf, is_decoupled_entry, round_at}

-- nobody is more than a round behind an entry of a blocking or direct initiator, and these entries keep the rounds
pub record StandsInRounds (p : Plan) (h : List Entry) (members : List Member) : Type 0 where
  pub near : AllByRecursion (λ (e : Entry). is_decoupled_entry p e ≡ true → IsNear members (round_at p e)) h
  pub kept : KeepsRoundsOf p h

-- The round of one that has not finished: nobody is more than a round behind it, and it is no more than one behind what nobody is.
pub record IsCurrent (members : List Member) (round : ℕ) : Type 0 where
  pub near : IsNear members round
  pub least : (other : ℕ) → IsNear members other → other ≤ round + 1
