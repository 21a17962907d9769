-- Lanes, and their legs.
use Rattle.std.specs.Prelude.{◌≡◌, ℕ, suc, ◌+◌, ◌*◌, ◌<◌, ◌≤◌, ◌==◌, ◌&&◌, ◌||◌, not, Bool, true, false, List, [], ◌∷◌, ◌++◌, length, Option, Some, None, is_none, is_some, count_by, find, slice_index_or, take, drop}
use Rattle.std.specs.List.{list_any, All, HoldsAt}
use Rattle.std.specs.Option.{option_map}
use Rattle.tlm_types.specs.declared.words.TxnId.{TxnId}
use Rattle.tlm_model.specs.Requests.{is_txn}
use Rattle.base_phases.specs.declared.phases.LaneState.{LaneState}
use Rattle.base_phases.specs.declared.phases.LaneState.TheVariants.{Free, Requested, Waiting}
use Rattle.flow_model.specs.Answers.{is_requested, is_responding}
use Rattle.flow_model.specs.Board.{Open}
use Rattle.hop_object.specs.declared.lane.Lane.{Lane}
use Rattle.hop_object.specs.declared.lane.Side.{Side}
use Rattle.hop_object.specs.declared.lane.Side.TheVariants.{Down, Up}
use Rattle.hop_object.specs.States.{number_of_state, is_down}

-- the name of the leg of a lane whose BEGIN_REQ stands at this position
abbrev pub name_at : ℕ → LaneState → ℕ
name_at position state = 4 * position + number_of_state state

-- the side at which a lane's item waits, if it has one
abbrev pub side_of : LaneState → Side
side_of Requested = Down
side_of Waiting = Down
side_of state = Up

module _ {T : Type 0} where
  abbrev pub leg_name : Lane T → ℕ
  leg_name l = name_at l.position l.state

  -- the lane's leg of this name is out: it carries nothing
  abbrev pub has_leg : ℕ → Lane T → Bool
  has_leg n l = is_none l.item && (leg_name l == n)

  -- how many legs of a name are out
  abbrev pub legs_out : ℕ → List (Lane T) → ℕ
  legs_out n lanes = count_by (has_leg n) lanes

  abbrev pub any_requested : List (Lane T) → Bool
  any_requested lanes = list_any (λ (l : Lane T). is_requested l.state) lanes

  abbrev pub any_responding : List (Lane T) → Bool
  any_responding lanes = list_any (λ (l : Lane T). is_responding l.state) lanes

  -- the transaction of the lane whose request is open
  abbrev pub requester : List (Lane T) → Option TxnId
  requester lanes = option_map (λ (l : Lane T). l.txn) (find (λ (l : Lane T). is_requested l.state) lanes)

  -- the transaction of the lane whose response is open
  abbrev pub responder : List (Lane T) → Option TxnId
  responder lanes = option_map (λ (l : Lane T). l.txn) (find (λ (l : Lane T). is_responding l.state) lanes)

  -- no state of the lane is the transaction's
  abbrev pub is_ended : TxnId → Lane T → Bool
  is_ended x l = not (is_txn x.initiator x.seq l.txn) || (number_of_state l.state == 0)

  -- what the model sees of a lane: one that only carries an ended transaction's response is none
  abbrev pub open_by : Lane T → LaneState → List Open
  open_by l Free = []
  open_by l state = record { txn = l.txn; position = l.position; state = state; last = l.last } ∷ []

  abbrev pub opens : List (Lane T) → List Open
  opens [] = []
  opens (l ∷ ls) = open_by l l.state ++ opens ls

  -- a position of the history
  abbrev pub HasPosition : Lane T → Type 0
  HasPosition l = l.position < 1000000

  -- the lane after a call or a fetch
  abbrev pub step_lane : Lane T → LaneState → ℕ → ℕ → Option T → Lane T
  step_lane l state last latest item = record { txn = l.txn; position = l.position; state = state; last = last; latest = latest; item = item }

  -- the lane at a place was moved on, and gave up what it carried
  pub record Changed (xs ys : List (Lane T)) (i : ℕ) (was : Option T) (state : LaneState) (last latest : ℕ) (item : Option T) (lane : Lane T) : Type 0 where
    pub here : xs ≡ take i xs ++ lane ∷ drop (suc i) xs
    pub after : ys ≡ take i xs ++ step_lane lane state last latest item ∷ drop (suc i) xs
    pub carried : was ≡ lane.item

  abbrev pub ChangedAt : List (Lane T) → List (Lane T) → ℕ → Option T → LaneState → ℕ → ℕ → Option T → Type 0
  ChangedAt xs ys i was state last latest item = (lane : Lane T) → lane ≡ slice_index_or xs i lane → Changed xs ys i was state last latest item lane

  -- the lane at a place was ended
  pub record Removed (xs ys : List (Lane T)) (i : ℕ) (was : Option T) (lane : Lane T) : Type 0 where
    pub here : xs ≡ take i xs ++ lane ∷ drop (suc i) xs
    pub after : ys ≡ take i xs ++ drop (suc i) xs
    pub carried : was ≡ lane.item

  abbrev pub RemovedAt : List (Lane T) → List (Lane T) → ℕ → Option T → Type 0
  RemovedAt xs ys i was = (lane : Lane T) → lane ≡ slice_index_or xs i lane → Removed xs ys i was lane

  -- the lane's item waits to be fetched at this side
  abbrev pub waits : Side → Lane T → Bool
  waits Down l = is_some l.item && is_down l.state
  waits Up l = is_some l.item && not (is_down l.state)

  -- a lane's last call is no later than another's, equal times in order of arrival
  abbrev pub NotAfter : Lane T → Lane T → Type 0
  NotAfter l m = (l.last ≤ m.last) × (l.last ≡ m.last → l.latest ≤ m.latest)

  -- the first of the lanes that wait
  pub record IsFirst (side : Side) (lanes : List (Lane T)) (i : ℕ) : Type 0 where
    pub place : i < length lanes
    pub waiting : HoldsAt (λ (l : Lane T). waits side l ≡ true) lanes i
    pub first : HoldsAt (λ (l : Lane T). All (λ (m : Lane T). waits side m ≡ true → NotAfter l m) lanes) lanes i

  abbrev pub FindsFirst : Side → List (Lane T) → Option ℕ → Type 0
  FindsFirst side lanes None = All (λ (l : Lane T). waits side l ≡ false) lanes
  FindsFirst side lanes (Some i) = IsFirst side lanes i
