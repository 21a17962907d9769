-- A transaction that a router holds, and what a step of a pump does with it.
use Rattle.std.specs.Prelude.{ℕ, ◌≡◌, ◌<◌, ◌≤◌, ◌==◌, ◌⊎◌, Bool, true, false, IsTrue, List, [], ◌∷◌, ◌++◌, length, Option, Some, None, IfSome, IsSomeAnd, if◌then◌else◌}
use Rattle.atomic_table.specs.Seated.{TableId}
use Rattle.one_history.specs.declared.entry.Entry.{Entry}
use Rattle.one_history.specs.declared.view.Frame.{Frame}
use Rattle.one_history.specs.declared.view.View.{View}
use Rattle.tlm_types.specs.declared.entry.Content.{Content}
use Rattle.tlm_types.specs.declared.words.Phase.TheVariants.{BeginReq, BeginResp}
use Rattle.tlm_types.specs.declared.words.TxnId.{TxnId}
use Rattle.tlm_model.specs.Plan.{Plan}
use Rattle.tlm_model.specs.Route.{later}
use Rattle.flow_model.specs.World.{Passage, hop_at}
use Rattle.flow_model.specs.Events.{Finds, FindsAt, IsAccess, IsPhase, IsReleased}
use Rattle.flow_model.specs.Numbers.{IsEnder}
use Rattle.cargo_model.specs.Known.{Known}
use Rattle.route_plan.specs.Valid.{hop_count}
use Rattle.plat_net.specs.HopCalls.{CanRespond}
use Rattle.plat_net.specs.Places.{hop_place, memory_place}
use Rattle.tlm_model.specs.declared.platform.Target.TheVariants.{Router}
use Rattle.node_hops.specs.Steps.{AddsAt, AddsOf, IsByNode}
use Rattle.node_hops.specs.Traits.{hop_latency}
use Rattle.router_moves.specs.Items.{IsBegun, IsDown, IsHolding, IsRest}
use Rattle.router_moves.specs.Moves.{HasBegunOn}
use Rattle.router_moves.specs.declared.items.BegunBelow.{BegunBelow}
use Rattle.router_moves.specs.declared.items.Down.{Down as ToPass}
use Rattle.router_moves.specs.declared.items.PassedOn.{PassedOn}
use Rattle.router_moves.specs.declared.items.RouterResponse.{RouterResponse}
use Rattle.router_moves.specs.declared.items.Rest.{Rest}
use Rattle.router_node.specs.declared.stage.SentUp.{SentUp}
use Rattle.router_node.specs.declared.stage.Stage.{Stage}
use Rattle.router_node.specs.declared.stage.Stage.TheVariants.{Down, Below, Up, Sent}
use Rattle.router_node.specs.declared.stage.Step.{Step}
use Rattle.router_node.specs.declared.stage.Step.TheVariants.{End, Send, Pass}

module _ (frame : Frame Plan) (tokens : TableId) (known : List (Entry Content)) where
  -- What is to be made below for x once it has ended on this hop above.
  pub record IsRestUnder (above : ℕ) (x : TxnId) (r : Rest) : Type 0 where
    pub pass : Passage
    pub hop : ℕ
    pub here : hop_at pass hop ≡ above
    pub of : r.txn ≡ x
    pub rest : IsRest frame tokens known r pass hop

  -- A response may go up, and what is to be made below then is known. Nothing is where the router made the response itself.
  pub record IsUp (r : RouterResponse) (rest : Option Rest) : Type 0 where
    pub there : r.hop < hop_count frame.world.platform
    pub can : CanRespond frame tokens r.hop r.leg r.cargo r.due known
    pub below : IfSome rest (IsRestUnder r.hop r.cargo.baton.txn)

  -- A response was sent up at this time. Where the answer ended it, its end is known.
  pub record IsAway (a : SentUp) : Type 0 where
    pub there : a.above < hop_count frame.world.platform
    pub begun : HasBegunOn frame known a.above a.txn
    pub sent : FindsAt (Known frame.world.platform known) (IsPhase a.txn a.above BeginResp) a.at
    pub ended : IsTrue a.ended → Finds (Known frame.world.platform known) (IsEnder a.txn a.above)
    pub below : IfSome a.rest (IsRestUnder a.above a.txn)

  -- A request has gone down, and no END_REQ is owed above.
  pub record IsSettled (h : PassedOn) : Type 0 where
    pub there : h.above < hop_count frame.world.platform
    pub owed : h.owed ≡ None
    pub holding : IsHolding frame tokens known h

  -- What a router knows of a transaction that it holds.
  abbrev pub IsStage : Stage → Type 0
  IsStage (Down d) = (d.held.above < hop_count frame.world.platform) × IsDown frame tokens known d
  IsStage (Below h) = IsSettled h
  IsStage (Up r rest) = IsUp r rest
  IsStage (Sent a) = IsAway a

-- the look of a step that finds nothing to do: 3 for BEGIN_REQ that was Busy, 4 for BEGIN_RESP that was Busy, 5 for no end
abbrev pub look_of : Step → ℕ
look_of End = 5
look_of Send = 4
look_of Pass = 3

-- whether a step is one for a transaction
abbrev pub is_about : Step → Stage → Bool
is_about End (Sent a) = true
is_about Send (Up r rest) = true
is_about Pass (Down d) = true
is_about w s = false

-- Where a transaction stands: all that it is but its payload. A try in vain leaves it as it was.
pub data Standing : Type 0 where
  ToGoDown : PassedOn → ℕ → Standing
  IsBelow : PassedOn → Standing
  ToGoUp : ℕ → ℕ → TxnId → Option Rest → Standing
  WasSent : SentUp → Standing

abbrev pub standing : Stage → Standing
standing (Down d) = ToGoDown d.held d.due
standing (Below h) = IsBelow h
standing (Up r rest) = ToGoUp r.hop r.due r.cargo.baton.txn rest
standing (Sent a) = WasSent a

-- the look that a transaction gives in vain, and the hop of it; one that is below gives none
abbrev pub mark : Standing → ℕ × ℕ
mark (ToGoDown h due) = (3, h.below)
mark (IsBelow h) = (0, h.below)
mark (ToGoUp hop due x rest) = (4, hop)
mark (WasSent a) = (5, a.above)

abbrev pub vain_at : Plan → Step → ℕ × ℕ → List (ℕ × ℕ)
vain_at p w m = if m.0 == look_of w then (hop_place p m.1, look_of w) ∷ [] else []

abbrev pub vain : Plan → Step → Standing → List (ℕ × ℕ)
vain p w s = vain_at p w (mark s)

-- the reference of the hop below was released
abbrev pub WasReleased : Frame Plan → List (Entry Content) → TxnId → Type 0
WasReleased frame known x = (time : ℕ) × (number : ℕ) × FindsAt (Known frame.world.platform known) (IsReleased x number) time

-- A response that was sent has ended above, and below where it came from there.
pub record HasEnded (frame : Frame Plan) (known : List (Entry Content)) (a : SentUp) : Type 0 where
  pub above : Finds (Known frame.world.platform known) (IsEnder a.txn a.above)
  pub below : IfSome a.rest (λ r. WasReleased frame known r.txn)

-- BEGIN_REQ was made on the hop below, at a time at which the request was due or later.
pub record WentDown (frame : Frame Plan) (known : List (Entry Content)) (d : ToPass) (time : ℕ) : Type 0 where
  pub late : d.due ≤ time
  pub made : FindsAt (Known frame.world.platform known) (IsPhase d.held.txn d.held.below BeginReq) time

-- Its response came by return: the access was made at the time of BEGIN_REQ, and the response is due above after the memory's latency.
pub record CameBack (frame : Frame Plan) (known : List (Entry Content)) (d : ToPass) (r : RouterResponse) : Type 0 where
  pub time : ℕ
  pub went : WentDown frame known d time
  pub made : FindsAt (Known frame.world.platform known) (IsAccess d.held.txn) time
  pub due : r.due ≡ later time (hop_latency frame.world d.held.below)

-- What a step makes of a transaction that it moves: one that has ended is forgotten, a response was sent, a request is below or back.
abbrev pub Moves : Frame Plan → List (Entry Content) → Step → Stage → Option Stage → Type 0
Moves frame known End (Sent a) None = HasEnded frame known a
Moves frame known Send (Up r rest) (Some (Sent a)) = (a.txn ≡ r.cargo.baton.txn) × (a.above ≡ r.hop) × (r.due ≤ a.at) × (a.rest ≡ rest)
Moves frame known Pass (Down d) (Some (Below h)) = (h.txn ≡ d.held.txn) × (h.above ≡ d.held.above) × (h.below ≡ d.held.below) × ((time : ℕ) × WentDown frame known d time)
Moves frame known Pass (Down d) (Some (Up r rest)) = (r.hop ≡ d.held.above) × (r.cargo.baton.txn ≡ d.held.txn) × CameBack frame known d r
Moves frame known w s o = ⊥

-- It was moved; or it stands where it stood, and the step has looked in vain where it is one for it.
abbrev pub HasStepped : Frame Plan → Step → Stage → View Content Plan → View Content Plan → Bool → Option Stage → Type 0
HasStepped frame w s old new true o = Moves frame new.known w s o
HasStepped frame w s old new false o = IsSomeAnd o (λ t. standing t ≡ standing s) × (new.looks ≡ old.looks ++ vain frame.world w (standing s))

-- A pump comes by a transaction: it makes a step with it. Or in haste it leaves it out, and nothing has happened.
abbrev pub ComesBy : Frame Plan → Bool → Step → Stage → View Content Plan → View Content Plan → Bool → Option Stage → Type 0
ComesBy frame hasty w s old new moved o = HasStepped frame w s old new moved o ⊎ ((hasty ≡ true) × (moved ≡ false) × (o ≡ Some s) × (new ≡ old))

module _ (frame : Frame Plan) (tokens : TableId) (known back : List (Entry Content)) where
  -- END_REQ above was made where it was owed. What was known of the transaction is known of it.
  pub record HasSettled (h : PassedOn) (new : PassedOn) : Type 0 where
    pub txn : new.txn ≡ h.txn
    pub above : new.above ≡ h.above
    pub below : new.below ≡ h.below
    pub owed : new.owed ≡ None
    pub holding : IsHolding frame tokens back new
    pub begun : (b : BegunBelow) → IsBegun frame tokens known h b → IsBegun frame tokens back new b

-- The memory of a request whose response came by return was called at the time of its BEGIN_REQ. The response is due above after the memory's latency.
pub record IsServedAs (frame : Frame Plan) (known : List (Entry Content)) (h : PassedOn) (b : BegunBelow) (r : RouterResponse) : Type 0 where
  pub hop : r.hop ≡ h.above
  pub txn : r.cargo.baton.txn ≡ h.txn
  pub made : FindsAt (Known frame.world.platform known) (IsAccess h.txn) b.at
  pub due : r.due ≡ later b.at (hop_latency frame.world h.below)

abbrev pub IsServed : Frame Plan → List (Entry Content) → PassedOn → BegunBelow → Stage → Type 0
IsServed frame known h b (Up r (Some rest)) = IsServedAs frame known h b r
IsServed frame known h b s = ⊥

-- A response that was sent has ended above; or not, by a look.
abbrev pub HasLookedForEnd : Frame Plan → SentUp → View Content Plan → View Content Plan → Bool → Type 0
HasLookedForEnd frame a old new true = Finds (Known frame.world.platform new.known) (IsEnder a.txn a.above)
HasLookedForEnd frame a old new false = new.looks ≡ old.looks ++ (hop_place frame.world a.above, 5) ∷ []

-- An entry of a hop was added.
pub record AddsOnHop (p : Plan) (was is : View Content Plan) : Type 0 where
  pub hop : ℕ
  pub there : hop < hop_count p.platform
  pub added : AddsAt (hop_place p hop) was is

-- An access of x at a memory was added.
pub record AddsAccess (p : Plan) (x : TxnId) (was is : View Content Plan) : Type 0 where
  pub memory : ℕ
  pub there : memory < length p.platform.memories
  pub added : AddsOf (memory_place p memory) x was is

-- An entry is one of a router, whichever it is.
abbrev pub IsByRouter : Plan → Entry Content → Type 0
IsByRouter p e = (router : ℕ) → IsByNode p (Router router) e

-- a request that is to go down
abbrev pub is_down : Stage → Bool
is_down (Down d) = true
is_down (Below h) = false
is_down (Up r rest) = false
is_down (Sent a) = false
