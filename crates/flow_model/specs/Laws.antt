-- Laws of a hop's log.
use Rattle.std.specs.Prelude.{◌≡◌, ℕ, false, List, [], ◌∷◌, ◌++◌}
use Rattle.std.specs.List.{AllByRecursion}
use Rattle.tlm_types.specs.declared.words.TxnId.{TxnId}
use Rattle.tlm_types.specs.declared.words.ReqMode.{ReqMode}
use Rattle.tlm_types.specs.declared.words.RespMode.{RespMode}
use Rattle.tlm_types.specs.declared.entry.Entry.{Entry}
use Rattle.base_phases.specs.Sequences.{IsBegun, IsSequence}
use Rattle.flow_model.specs.Board.{Board, Open, Rules, Reaches, start}
use Rattle.flow_model.specs.ByRules.{KeepsRules}
use Rattle.flow_model.specs.Calls.{calls_of}
use Rattle.flow_model.specs.Lives.{HasBegun, HasOneBeginAt, at_position, has_lane, life_of, of_txn}
use Rattle.flow_model.specs.Protocol.{BeginsOnce, FollowsPhases, IsExclusive}
use Rattle.flow_model.specs.Table.{IsBegunIn, hop_sequences, sequences_of}

abbrev pub LogsFollowPhases : Type 0
LogsFollowPhases = (r : Rules) (log : List Entry) (d : Board) → Reaches r start log d → BeginsOnce log → FollowsPhases log

-- the calls of a transaction are a prefix of a sequence that the modes of the two ends make
abbrev pub LogsFollowModes : Type 0
LogsFollowModes = (r : Rules) (log : List Entry) (d : Board) → Reaches r start log d → BeginsOnce log → (x : TxnId) → IsBegunIn (hop_sequences r.req r.resp) (calls_of x log)

abbrev pub LogsAreExclusive : Type 0
LogsAreExclusive = (r : Rules) (log : List Entry) (d : Board) → Reaches r start log d → BeginsOnce log → IsExclusive r.limit log

-- each call has its answer and its time
abbrev pub LogsKeepRules : Type 0
LogsKeepRules = (r : Rules) (log : List Entry) (d : Board) → Reaches r start log d → BeginsOnce log → KeepsRules r log

-- a transaction without a lane has not begun, or its calls are a whole sequence
abbrev pub EndedTransactionsAreWhole : Type 0
EndedTransactionsAreWhole = (r : Rules) (log : List Entry) (d : Board) → Reaches r start log d → BeginsOnce log → (x : TxnId) → has_lane (of_txn x) d ≡ false → ¬ (calls_of x log ≡ []) → IsSequence (calls_of x log)

-- each lane of the board is that of a BEGIN_REQ
abbrev pub LanesHaveBegun : Type 0
LanesHaveBegun = (r : Rules) (log : List Entry) (d : Board) → Reaches r start log d → (before : List Open) (lane : Open) (behind : List Open) → d.lanes ≡ before ++ lane ∷ behind → HasBegun log lane

-- the calls of a lane are a prefix of one of the eleven sequences
abbrev pub LivesFollowPhases : Type 0
LivesFollowPhases = (r : Rules) (log : List Entry) (d : Board) (steps : Reaches r start log d) (position : ℕ) → HasOneBeginAt position log → IsBegun (life_of position r log d steps)

-- those of a lane that has ended are a whole sequence
abbrev pub EndedLivesAreWhole : Type 0
EndedLivesAreWhole = (r : Rules) (log : List Entry) (d : Board) (steps : Reaches r start log d) (position : ℕ) → HasOneBeginAt position log → has_lane (at_position position) d ≡ false → ¬ (life_of position r log d steps ≡ []) → IsSequence (life_of position r log d steps)

-- the table has sequences of the eleven
abbrev pub RowsAreSequences : Type 0
RowsAreSequences = (req : ReqMode) (resp : RespMode) → AllByRecursion IsSequence (sequences_of req resp)
