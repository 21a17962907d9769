-- The calls of one lane, from its BEGIN_REQ on.
use Rattle.std.specs.Prelude.{◌≡◌, true, ℕ, ◌≤◌, ◌==◌, ◌&&◌, Bool, if◌then◌else◌, List, [], ◌∷◌, ◌++◌, count_by}
use Rattle.std.specs.List.{list_any}
use Rattle.tlm_types.specs.declared.words.TxnId.{TxnId}
use Rattle.tlm_types.specs.declared.words.Phase.TheVariants.{BeginReq, EndReq, BeginResp, EndResp}
use Rattle.tlm_types.specs.declared.entry.What.{What}
use Rattle.tlm_types.specs.declared.entry.What.TheVariants.{Call as Called}
use Rattle.tlm_types.specs.declared.entry.Entry.{Entry}
use Rattle.tlm_model.specs.Requests.{is_txn}
use Rattle.base_phases.specs.Sequences.{Call}
use Rattle.flow_model.specs.Board.{Open, Board, Rules, Reaches, StepsBy, start}
use Rattle.flow_model.specs.Calls.{begins_request, calls_in}

-- a test of a lane, by its transaction and the position of its BEGIN_REQ
abbrev pub LaneTest : Type 0
LaneTest = TxnId → ℕ → Bool

-- the lanes of a transaction
abbrev pub of_txn : TxnId → LaneTest
of_txn x txn position = is_txn x.initiator x.seq txn

-- the lane whose BEGIN_REQ stands at a position
abbrev pub at_position : ℕ → LaneTest
at_position place txn position = position == place

-- some lane of the board passes the test
abbrev pub has_lane : LaneTest → Board → Bool
has_lane test b = list_any (λ (o : Open). test o.txn o.position) b.lanes

-- the position of the BEGIN_REQ of the lane on which a step is
abbrev pub position_of : (r : Rules) (b : Board) (e : Entry) (what : What) (c : Board) → StepsBy r b e what c → ℕ
position_of r b e (Called BeginReq answer) c step = e.position
position_of r b e (Called EndReq answer) c step = step.lane.position
position_of r b e (Called BeginResp answer) c step = step.lane.position
position_of r b e (Called EndResp answer) c step = step.lane.position
position_of r b e _ c step = absurd step

-- the calls on the lanes that pass the test
abbrev pub calls_on : LaneTest → (r : Rules) (b : Board) (log : List Entry) (d : Board) → Reaches r b log d → List Call
calls_on test r b [] d steps = []
calls_on test r b (e ∷ es) d steps = (if test e.txn (position_of r b e e.what steps.0 steps.1) then calls_in e.what else []) ++ calls_on test r steps.0 es d steps.2

-- the calls on the lane whose BEGIN_REQ stands at this position
abbrev pub life_of : ℕ → (r : Rules) (log : List Entry) (d : Board) → Reaches r start log d → List Call
life_of position r log d steps = calls_on (at_position position) r start log d steps

-- the lane is that of a BEGIN_REQ in the log, and has its transaction
pub record HasBegun (log : List Entry) (o : Open) : Type 0 where
  pub before : List Entry
  pub entry : Entry
  pub behind : List Entry
  pub here : log ≡ before ++ entry ∷ behind
  pub begins : begins_request entry.what ≡ true
  pub position : entry.position ≡ o.position
  pub txn : entry.txn ≡ o.txn

-- at most one BEGIN_REQ stands at this position
abbrev pub HasOneBeginAt : ℕ → List Entry → Type 0
HasOneBeginAt position log = count_by (λ e. begins_request e.what && (e.position == position)) log ≤ 1
