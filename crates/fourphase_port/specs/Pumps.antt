-- What a move of a port is, and a pump: which moves it makes, and which of them ends it.
use Rattle.std.specs.Prelude.{ℕ, zero, suc, ◌≡◌, ◌<◌, ◌⊎◌, Bool, true, false, length, Option, Some, None, List, ◌∷◌, ◌++◌, IsSome, [], is_some}
use Rattle.one_history.specs.declared.view.Frame.{Frame}
use Rattle.one_history.specs.Held.{Held}
use Rattle.tlm_types.specs.declared.entry.Content.{Content}
use Rattle.tlm_model.specs.Plan.{Plan}
use Rattle.cargo_model.specs.declared.cargo.Cargo.{Cargo}
use Rattle.script_engine.specs.declared.op.Op.TheVariants as next
use Rattle.script_engine.specs.declared.part.Part.{Part}
use Rattle.script_engine.specs.declared.part.Part.TheVariants.{Asks, Pauses, Invalidates, Ends as AtEnd}
use Rattle.script_engine.specs.declared.part.Pause.{Pause}
use Rattle.script_engine.specs.declared.part.Transfer.{Transfer}
use Rattle.script_engine.specs.declared.part.TransferKind.{TransferKind}
use Rattle.script_engine.specs.declared.part.TransferKind.TheVariants as kinds
use Rattle.script_engine.specs.State.{State, next_of, op_of}
use Rattle.plat_net.specs.Calls.{route_at}
use Rattle.port_model.specs.Issues.{IsPlainPart}
use Rattle.port_moves.specs.Moved.{after_begin, ends, ends_made, made, went}
use Rattle.port_moves.specs.Moves.{Acquires, Begins, Ends, Fetches, FindsBusy, FindsNone, Passes, PutsStray, Serves, Settles, Stows, TakesBack}
use Rattle.fourphase_port.specs.Moves.{FindsFull, InvalidatesNext, LooksLive, ReadsDebug, Takes}
use Rattle.port_moves.specs.Reach.{first_hop, own_pool}
use Rattle.port_moves.specs.State.{PortView, StateView, with_note}
use Rattle.fourphase_port.specs.Rest.{RestView}
use Rattle.port_moves.specs.declared.hand.Hand.{Hand}
use Rattle.port_moves.specs.declared.hand.Hand.TheVariants.{Free, Taken, Acquired, Begun, Owed, Ended, Released}
use Rattle.port_moves.specs.declared.hand.Moved.{Moved}
use Rattle.port_moves.specs.declared.hand.Pumped.{Pumped}
use Rattle.port_moves.specs.declared.hand.Pumped.TheVariants.{Did, Nothing, Finished}

-- the number that an access or a debug read has which is next
abbrev pub asks_for : Part → Option ℕ
asks_for (Asks x) = Some x.seq
asks_for part = None

-- a debug read makes an entry where its address has a route, and the pump ends with it
abbrev pub read_moved : Plan → PortView → Transfer → Moved
read_moved p v x = record { entry = is_some (route_at p v.port.engine.initiator x.address); pumped = Some Did }

-- an invalidation makes entries where its address has a route, and the pump ends with it
abbrev pub invalidation_moved : Plan → PortView → ℕ → Moved
invalidation_moved p v address = record { entry = is_some (route_at p v.port.engine.initiator address); pumped = Some Did }

-- what it worked on was taken out of its hand; or the request that was refused was, to try it again
abbrev pub empty_handed : StateView → StateView
empty_handed s = record s { hand = Free }

abbrev pub unheld : StateView → StateView
unheld s = record s { held = None }

module _ (frame : Frame Plan) where
  -- BEGIN_REQ was made; or a request is open on the hop or no lane free, and the pump ends so
  abbrev pub TriesBegin : Cargo → Pumped → PortView → PortView → Moved → Type 0
  TriesBegin c busy old new m = (Begins frame c old new × (m ≡ after_begin new.hand)) ⊎ (FindsBusy frame c old new × (m ≡ ends busy))

  -- the next move of what it works on; the pump ends once a request went down, was refused, or a payload was stowed
  abbrev pub GoesOnWith : Hand → PortView → PortView → Moved → Type 0
  GoesOnWith Free old new m = ⊥
  GoesOnWith (Taken b) old new m = Acquires frame b old new × (m ≡ made)
  GoesOnWith (Acquired c) old new m = TriesBegin c Did old new m
  GoesOnWith (Begun c at leg) old new m = Serves frame c at old new × (m ≡ made)
  GoesOnWith (Owed c leg at) old new m = Ends frame c at old new × (m ≡ made)
  GoesOnWith (Ended c end) old new m = (TakesBack frame c end old new ⊎ PutsStray frame c end old new) × (m ≡ made)
  GoesOnWith (Released b ticket end) old new m = Stows frame b end old new × (m ≡ ends_made Did)

  -- the access that is next was taken; or all slots of the pool are live, and there is nothing to do
  abbrev pub TakesNext : Bool → PortView → PortView → Moved → Type 0
  TakesNext fenced old new m = (Takes frame fenced old new × (m ≡ made)) ⊎ (FindsFull frame old new × (m ≡ ends Nothing))

  -- a transfer before which all comes back
  abbrev pub DoesKind : TransferKind → PortView → PortView → Moved → Type 0
  DoesKind (kinds.Access command plain fenced) old new m = TakesNext fenced old new m
  DoesKind kinds.DebugRead old new m = (reads : ReadsDebug frame old new) × (m ≡ read_moved frame.world old reads.transfer)

  -- the time is settled, and then it is done
  pub record SettlesAndDoes (kind : TransferKind) (old new : PortView) (m : Moved) : Type 0 where
    pub mid : StateView
    pub settles : Settles old.state mid
    pub does : DoesKind kind (with_note mid old.note) new m

  pub record SettlesAndPasses (pause : Pause) (old new : PortView) (m : Moved) : Type 0 where
    pub mid : StateView
    pub settles : Settles old.state mid
    pub passes : Passes pause mid new.state
    pub note : new.note ≡ old.note
    pub done : m ≡ ends Did

  pub record SettlesAndInvalidates (address count : ℕ) (old new : PortView) (m : Moved) : Type 0 where
    pub mid : StateView
    pub settles : Settles old.state mid
    pub invalidates : InvalidatesNext frame address count (with_note mid old.note) new
    pub done : m ≡ invalidation_moved frame.world (with_note mid old.note) address

  -- what is next but a plain access, where nothing is outstanding: once the script has ended the pump finishes unless a slot of the pool is live
  abbrev pub DoesNext : Part → PortView → PortView → Moved → Type 0
  DoesNext (Asks x) old new m = SettlesAndDoes x.kind old new m
  DoesNext (Pauses pause) old new m = SettlesAndPasses pause old new m
  DoesNext (Invalidates s a n) old new m = SettlesAndInvalidates a n old new m
  DoesNext AtEnd old new m = (LooksLive frame 0 old new × (m ≡ ends Finished)) ⊎ (LooksLive frame 7 old new × (m ≡ ends Nothing))

  -- It goes on in its script: a plain access is taken; before all else nothing is done while something is outstanding.
  pub record GoesOnIn (part : Part) (old new : PortView) (m : Moved) : Type 0 where
    pub plain : IsPlainPart part → TakesNext false old new m
    pub waits : (IsPlainPart part → ⊥) → 0 < length old.port.away → (new ≡ old) × (m ≡ ends Nothing)
    pub does : (IsPlainPart part → ⊥) → length old.port.away ≡ 0 → DoesNext part old new m

  -- it goes on where no response waits: a request that was refused is tried again before all else
  abbrev pub GoesOn : Option Cargo → PortView → PortView → Moved → Type 0
  GoesOn None old new m = GoesOnIn (next_of old.port.engine) old new m
  GoesOn (Some c) old new m = TriesBegin c Nothing (with_note (unheld old.state) old.note) new m

  -- with nothing in hand it looks for a response, once in a pump, and then goes on
  abbrev pub IsFreeMove : Bool → PortView → PortView → Moved → Type 0
  IsFreeMove false old new m = (Fetches frame old new ⊎ FindsNone frame old new) × (m ≡ went)
  IsFreeMove true old new m = GoesOn old.held old new m

  abbrev pub IsMoveOf : Hand → Bool → PortView → PortView → Moved → Type 0
  IsMoveOf Free fetched old new m = IsFreeMove fetched old new m
  IsMoveOf hand fetched old new m = GoesOnWith hand (with_note (empty_handed old.state) old.note) new m

  -- A move. `fetched` says that this pump has looked for a response.
  abbrev pub IsMove : Bool → PortView → PortView → Moved → Type 0
  IsMove fetched old new m = IsMoveOf old.hand fetched old new m

  pub record IsLast (fetched : Bool) (old new : PortView) (pumped : Pumped) : Type 0 where
    pub moved : Moved
    pub is : IsMove fetched old new moved
    pub ends_it : moved.pumped ≡ Some pumped

  pub record IsFirst (fetched : Bool) (old mid : PortView) : Type 0 where
    pub moved : Moved
    pub is : IsMove fetched old mid moved
    pub goes_on : moved.pumped ≡ None

  -- so many moves, of which the last one ends the pump with this answer, and no other one ends it
  abbrev pub AreMoves : ℕ → Bool → PortView → PortView → Pumped → Type 0
  AreMoves zero fetched old new pumped = IsLast fetched old new pumped
  AreMoves (suc n) fetched old new pumped = (mid : PortView) × IsFirst fetched old mid × AreMoves n true mid new pumped

  -- A pump: it looks for a response first, where it has nothing in hand.
  pub record IsPump (fetched : Bool) (old new : PortView) (pumped : Pumped) : Type 0 where
    pub more : ℕ
    pub moves : AreMoves more fetched old new pumped

-- of a port between its pumps, which has its note
abbrev pub IsPumped : Frame Plan → RestView → RestView → Pumped → Type 0
IsPumped frame old new pumped = (n k : Held Content Plan) → old.note ≡ Some n → new.note ≡ Some k → IsPump frame false (with_note old.state n) (with_note new.state k) pumped

-- the script has ended, nothing is outstanding, and it works on nothing
pub record HasFinished (s : StateView) : Type 0 where
  pub free : (s.hand ≡ Free) × (s.held ≡ None)
  pub none : length s.port.away ≡ 0
  pub ended : op_of s.port.engine ≡ next.Done

-- How far the moves of a pump are from its end, at most: each move that goes on brings it nearer.
abbrev pub moves_left : Hand → Bool → ℕ
moves_left Free false = 9
moves_left Free true = 8
moves_left (Taken b) fetched = 7
moves_left (Acquired c) fetched = 6
moves_left (Begun c at leg) fetched = 5
moves_left (Owed c leg at) fetched = 4
moves_left (Ended c end) fetched = 3
moves_left (Released b ticket end) fetched = 2

-- Why a pump does nothing that found no response, where the script stands here, these are outstanding, and this request was refused before; `before` and `now` are the
-- looks so far and then: the request is refused again; or an access is next, and all slots of the pool are live; or something is outstanding, for which it has to wait; or the
-- script has ended, and a slot is still live.
pub data WhyNothing (p : Plan) (e : State) (away : List ℕ) (held : Option Cargo) (before now : List (ℕ × ℕ)) : Type 0 where
  RefusedAgain : IsSome held → now ≡ before ++ (first_hop p e.initiator, 3) ∷ [] → WhyNothing p e away held before now
  AllLive : (x : Transfer) → next_of e ≡ Asks x → now ≡ before ++ (own_pool p e.initiator, 6) ∷ [] → WhyNothing p e away held before now
  SomeOut : 0 < length away → now ≡ before → WhyNothing p e away held before now
  SomeLive : op_of e ≡ next.Done → length away ≡ 0 → now ≡ before ++ (own_pool p e.initiator, 7) ∷ [] → WhyNothing p e away held before now

-- A pump has done nothing: it has looked in vain for a response, and there is a cause. The script is where it was, and so is what is outstanding.
pub record DidNothing (p : Plan) (old new : PortView) : Type 0 where
  pub engine : new.port.engine ≡ old.port.engine
  pub away : new.port.away ≡ old.port.away
  pub free : new.hand ≡ Free
  pub why : WhyNothing p old.port.engine old.port.away old.held (old.note.knows.looks ++ (first_hop p old.port.engine.initiator, 2) ∷ []) new.note.knows.looks

abbrev pub NothingHasLooked : Type 0
NothingHasLooked = (frame : Frame Plan) (old new : PortView) → old.hand ≡ Free → IsPump frame false old new Nothing → DidNothing frame.world old new
