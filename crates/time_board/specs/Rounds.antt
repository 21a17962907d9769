-- What is seen of the rounds: the list of the members.
use Rattle.std.specs.Prelude.{◌≡◌, ℕ, ◌+◌, ◌-◌, ◌^◌, ◌≤◌, Bool, true, false, not, ◌&&◌, nat_lt, if◌then◌else◌, min, List, Option, Some, None, position, slice_index_or, slice_set}
use Rattle.time_board.specs.declared.rounds.Member.{Member}
use Rattle.time_board.specs.declared.rounds.Advance.{Advance}
use Rattle.time_board.specs.declared.rounds.Advance.TheVariants.{Advanced, NotYet}

-- a member at the beginning
abbrev pub new_member : Member
new_member = record { round = 0; finished = false }

-- the member of a number; a number that no member has counts as one that has finished
abbrev pub member_of : List Member → ℕ → Member
member_of members who = slice_index_or members who (record { round = 0; finished = true })

-- does a member hold back those of a round
abbrev pub is_behind : ℕ → Member → Bool
is_behind round m = not m.finished && nat_lt m.round round

-- the least member that holds back those of a round
abbrev pub first_behind : List Member → ℕ → Option ℕ
first_behind members round = position (is_behind round) members

-- the round after a round: at the greatest `u64` it stays
abbrev pub next_round : ℕ → ℕ
next_round round = min (round + 1) (2 ^ 64 - 1)

-- what an unfinished member of a round is answered, by who is behind
abbrev pub answer_at : List Member → ℕ → Option ℕ → Advance
answer_at members round None = Advanced (next_round round)
answer_at members round (Some behind) = NotYet behind (member_of members behind).round

-- what an advance answers
abbrev pub answer_of : List Member → ℕ → Advance
answer_of members who =
    let m = member_of members who in
    if m.finished then Advanced 0 else answer_at members m.round (first_behind members m.round)

-- the members after the advance of an unfinished one, by who is behind
abbrev pub members_at : List Member → ℕ → ℕ → Option ℕ → List Member
members_at members who round None = slice_set members who (record { round = next_round round; finished = false })
members_at members who round (Some behind) = members

-- the members after an advance
abbrev pub members_after : List Member → ℕ → List Member
members_after members who =
    let m = member_of members who in
    if m.finished then members else members_at members who m.round (first_behind members m.round)

-- the members after one has finished
abbrev pub members_finished : List Member → ℕ → List Member
members_finished members who = slice_set members who (record { round = (member_of members who).round; finished = true })

-- the rounds of unfinished members differ by at most one
abbrev pub AreClose : List Member → Type 0
AreClose members =
    (j k : ℕ) → (member_of members j).finished ≡ false → (member_of members k).finished ≡ false → (member_of members k).round ≤ (member_of members j).round + 1

-- this answers the advance of a member, where the members are some whose rounds are close
abbrev pub IsAnswer : ℕ → Advance → Type 0
IsAnswer who answer = (members : List Member) × AreClose members × (answer ≡ answer_of members who)
