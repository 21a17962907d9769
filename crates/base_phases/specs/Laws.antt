-- Laws of the walks.
use Rattle.std.specs.Prelude.{◌≡◌, List, ◌∷◌, ◌++◌, Some}
use Rattle.tlm_types.specs.declared.words.Phase.TheVariants.{BeginReq}
use Rattle.tlm_types.specs.declared.words.TlmSync.{TlmSync}
use Rattle.base_phases.specs.declared.phases.LaneState.TheVariants.{Free}
use Rattle.base_phases.specs.Sequences.{Call, IsBegun, IsSequence}
use Rattle.base_phases.specs.Walks.{HasOneBegin, IsRound, IsWalk, state_after}

-- a walk with one BEGIN_REQ at most is a prefix of one of the sequences
abbrev pub WalksBeginSequences : Type 0
WalksBeginSequences = (calls : List Call) → IsWalk calls → HasOneBegin calls → IsBegun calls

-- the calls before a BEGIN_REQ leave the lane free
abbrev pub RequestsBeginWhenFree : Type 0
RequestsBeginWhenFree = (before : List Call) (answer : TlmSync) (behind : List Call) → IsWalk (before ++ (BeginReq, answer) ∷ behind) → state_after before ≡ Some Free

abbrev pub SequencesAreRounds : Type 0
SequencesAreRounds = (calls : List Call) → IsSequence calls → IsRound calls

abbrev pub RoundsAreSequences : Type 0
RoundsAreSequences = (calls : List Call) → IsRound calls → IsSequence calls
