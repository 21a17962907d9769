use Rattle.std.proofs.Common.{ℕ, ◌+◌, ◌<◌, false, ◌≡◌, IsSome, List, subst, arith}
use Rattle.time_board.specs.declared.rounds.Member.{Member}
use Rattle.time_board.specs.Rounds.{member_of, first_behind}
use Rattle.time_board.proofs.Tallies.{reached_by_one}
use Rattle.time_board.proofs.rounds.Rounds.reached.Goals as goal

pub returns-clause-one : goal.returns-clause-one
returns-clause-one c =
    subst
    (λ (members : List Member). (k : ℕ) → (member_of members k).finished ≡ false → c.reached.result < 18446744073709551615 → IsSome (first_behind members (c.reached.result + 1)))
    c.self.view_is
    (λ k unfinished small.
    reached_by_one c.self.inside.members.items c.self.inside.tally c.self.invariant c.reached.result
    c.reached.ensures.lower (λ empty. omega (arith, c.reached.ensures.upper empty)) k unfinished)
