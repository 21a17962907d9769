-- A router that is stepped an entry at a time: what is due between two steps, and what a step has come to.
use Rattle.std.specs.Prelude.{ℕ, ◌<◌, ◌≤◌, Bool, true, false, List, length, Option, None, IfSome, IsSome}
use Rattle.atomic_table.specs.Seated.{TableId}
use Rattle.view_lists.specs.Lists.{Within}
use Rattle.one_history.specs.Held.{Held as HeldNote}
use Rattle.one_history.specs.declared.entry.Entry.{Entry}
use Rattle.one_history.specs.declared.view.Frame.{Frame}
use Rattle.one_history.specs.declared.view.View.{View}
use Rattle.tlm_types.specs.declared.entry.Content.{Content}
use Rattle.tlm_model.specs.Plan.{Plan}
use Rattle.route_plan.specs.Valid.{hop_count}
use Rattle.node_hops.specs.Steps.{HasNew}
use Rattle.router_moves.specs.Items.{HasGone, IsBegun}
use Rattle.router_moves.specs.Moves.{IsDone, IsReleasing}
use Rattle.router_moves.specs.declared.items.BegunBelow.{BegunBelow}
use Rattle.router_moves.specs.declared.items.Down.{Down as ToPass}
use Rattle.router_moves.specs.declared.items.PassedOn.{PassedOn}
use Rattle.router_node.specs.Node.{DoesNothing, HasSwept, HasTakenBack, HasTakenIn, IsRouter}
use Rattle.router_node.specs.Places.{StandsAt}
use Rattle.router_node.specs.Stages.{IsByRouter, IsSettled}
use Rattle.router_node.specs.declared.node.RouterNode.{RouterNode}
use Rattle.router_node.specs.declared.stage.Stage.{Stage}
use Rattle.router_node.specs.declared.stage.Stage.TheVariants.{Down}
use Rattle.router_node.specs.declared.stage.Step.TheVariants.{End, Send, Pass}
use Rattle.router_steps.specs.declared.steps.Due.{Due}
use Rattle.router_steps.specs.declared.steps.Due.TheVariants.{EndAbove, Serve, Release}
use Rattle.router_steps.specs.declared.steps.SteppedRouter.{SteppedRouter}
use Rattle.router_steps.specs.declared.tries.Tried.{Tried}
use Rattle.router_steps.specs.declared.tries.Tried.TheVariants.{Made, Moved, Nothing}

-- There is room at this place, between so many others.
pub record HasPlace (at count room : ℕ) : Type 0 where
  pub there : at ≤ count
  pub free : count < room

-- a request that is to go down stands at this place
abbrev pub IsDownAt : List Stage → ℕ → Type 0
IsDownAt held at = (d : ToPass) × StandsAt held at (Down d)

-- where a try has made an entry, it is one of a router, past all that was known
abbrev pub TryAdds : Plan → List (Entry Content) → List (Entry Content) → Tried → Type 0
TryAdds p known back (Made due) = HasNew (IsByRouter p) known back
TryAdds p known back Moved = Unit {0}
TryAdds p known back Nothing = Unit {0}

-- what a fetch of a request has come to: one that is to go down has a reference of the hop below, by an entry
abbrev pub come_in : Bool → Tried
come_in true = Made None
come_in false = Moved

module _ (frame : Frame Plan) (tokens : TableId) where
  -- BEGIN_REQ of a request was made below at this time. Where its response came by return, the memory is still to be called.
  pub record HasGoneDown (known : List (Entry Content)) (h : PassedOn) (time : ℕ) (begun : Option BegunBelow) : Type 0 where
    pub there : h.above < hop_count frame.world.platform
    pub gone : HasGone frame tokens known h time
    pub begun_is : IfSome begun (IsBegun frame tokens known h)

  -- What is due may be made, where so many others are held and there is room for so many.
  abbrev pub IsDue : List (Entry Content) → ℕ → ℕ → Due → Type 0
  IsDue known count room (EndAbove at h time begun) = HasPlace at count room × IsSome h.owed × HasGoneDown known h time begun
  IsDue known count room (Serve at h begun) = HasPlace at count room × IsSettled frame tokens known h × IsBegun frame tokens known h begun
  IsDue known count room (Release rest) = IsDone rest.end × IsReleasing frame tokens known rest

  -- What a try has come to, where so many are held then and there is room for so many: an entry, and what is due then may be made; a move without an
  -- entry; or nothing was moved.
  abbrev pub HasTried : List (Entry Content) → ℕ → ℕ → Type 0 → Tried → Type 0
  HasTried known count room still (Made due) = IfSome due (IsDue known count room)
  HasTried known count room still Moved = Unit {0}
  HasTried known count room still Nothing = still

  -- None of the transactions that are held was moved, with every try and every look.
  pub record MovesNone (old new : RouterNode) (was is : HeldNote Content Plan) : Type 0 where
    pub ended : RouterNode
    pub after_end : HeldNote Content Plan
    pub end_all : HasSwept frame tokens false End old ended was.knows after_end.knows false
    pub sent : RouterNode
    pub after_send : HeldNote Content Plan
    pub send_all : HasSwept frame tokens false Send ended sent after_end.knows after_send.knows false
    pub pass_all : HasSwept frame tokens false Pass sent new after_send.knows is.knows false

  -- And none was fetched, with every look.
  pub record FetchesNone (old new : RouterNode) (was is : HeldNote Content Plan) : Type 0 where
    pub joined : RouterNode
    pub after_back : HeldNote Content Plan
    pub take_back : HasTakenBack frame tokens false old joined was.knows after_back.knows false
    pub knew_back : Within was.knows.known after_back.knows.known
    pub take_in : HasTakenIn frame tokens false joined new after_back is false
    pub knew_in : Within after_back.knows.known is.knows.known

  -- The state of a router between two steps, by what it knows: without the transaction of what is due it is a router that holds the others.
  pub record IsSteppedRouter (s : SteppedRouter) (known : List (Entry Content)) : Type 0 where
    pub node : IsRouter frame tokens s.node known
    pub due : IfSome s.due (IsDue known (length s.node.held.items) s.node.room)

  -- A step that waits: from some moment on it has gone through all that a pump does with every look, and nothing was moved.
  pub record HasWaited (new : RouterNode) (was is : View Content Plan) : Type 0 where
    pub start : RouterNode
    pub before : View Content Plan
    pub knew : Within was.known before.known
    pub nothing : DoesNothing frame tokens start new before is
