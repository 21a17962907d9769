-- A router with the transactions that it holds, and what it does in a pump.
use Rattle.std.specs.Prelude.{ℕ, ◌≡◌, ◌+◌, ◌<◌, ◌≤◌, ◌||◌, Bool, true, false, List, [], ◌∷◌, ◌++◌, length, map, Option, Some, None, IfSome, if◌then◌else◌, nat_lt}
use Rattle.std.specs.List.{AllByRecursion}
use Rattle.std.specs.Prelude.{vec_capacity}
use Rattle.atomic_table.specs.Seated.{TableId}
use Rattle.view_lists.specs.Lists.{Within}
use Rattle.one_history.specs.Held.{Held as HeldNote}
use Rattle.one_history.specs.declared.entry.Entry.{Entry}
use Rattle.one_history.specs.declared.view.Frame.{Frame}
use Rattle.one_history.specs.declared.view.View.{View}
use Rattle.tlm_types.specs.declared.entry.Content.{Content}
use Rattle.tlm_model.specs.declared.platform.Target.TheVariants.{Router}
use Rattle.tlm_model.specs.Plan.{Plan}
use Rattle.tlm_model.specs.Route.{window_hop}
use Rattle.node_hops.specs.Hops.{IsHopTo}
use Rattle.node_hops.specs.Looks.{IsFirst, vain_looks}
use Rattle.node_hops.specs.Traits.{is_accepting, latency_of}
use Rattle.router_moves.specs.Items.{IsRequest}
use Rattle.router_node.specs.Finds.{AreLookedAt, IsFound, IsHopBelow}
use Rattle.router_node.specs.Joins.{HasJoinedOne}
use Rattle.router_node.specs.Places.{StandsAt}
use Rattle.router_node.specs.Stages.{ComesBy, IsStage, Standing, standing, vain}
use Rattle.router_moves.specs.Turns.{HasTurned}
use Rattle.router_moves.specs.declared.choice.Turned.{Turned}
use Rattle.router_moves.specs.declared.choice.Turned.TheVariants as Turns
use Rattle.router_node.specs.declared.finds.Found.{Found}
use Rattle.router_moves.specs.declared.items.RouterRequest.{RouterRequest}
use Rattle.node_hops.specs.declared.node.Pumped.{Pumped}
use Rattle.node_hops.specs.declared.node.Pumped.TheVariants.{Did, Nothing}
use Rattle.router_node.specs.declared.node.RouterNode.{RouterNode}
use Rattle.router_node.specs.declared.stage.SentUp.{SentUp}
use Rattle.router_node.specs.declared.stage.Stage.{Stage}
use Rattle.router_node.specs.declared.stage.Stage.TheVariants.{Down, Sent, Up}
use Rattle.router_node.specs.declared.stage.Step.{Step}
use Rattle.router_node.specs.declared.stage.Step.TheVariants.{End, Send, Pass}

module _ (frame : Frame Plan) (tokens : TableId) where
  -- A response that is of none of the transactions that are held: what was known of it when it was fetched is known.
  pub record IsStray (known : List (Entry Content)) (f : Found) : Type 0 where
    pub at_fetch : List (Entry Content)
    pub within : Within at_fetch known
    pub found : IsFound frame tokens at_fetch f

  -- The state of a router, by what it knows: each transaction that it holds may be moved on, there is room for all of them, and a response of none of
  -- them is kept.
  pub record IsRouter (r : RouterNode) (known : List (Entry Content)) : Type 0 where
    pub router : r.router < length frame.world.platform.routers
    pub first : r.first ≡ window_hop frame.world.platform r.router 0
    pub accepts : r.accepts ≡ is_accepting frame.world.platform (Router r.router)
    pub latency : r.latency ≡ latency_of frame.world.platform (Router r.router)
    pub above : AllByRecursion (λ (h : ℕ). IsHopTo frame.world (Router r.router) h) r.above.items
    pub below : AllByRecursion (λ (h : ℕ). IsHopBelow frame.world h) r.below.items
    pub held : AllByRecursion (IsStage frame tokens known) r.held.items
    pub few : length r.held.items ≤ r.room
    pub room : r.room ≤ vec_capacity r.held
    pub stray : IfSome r.stray (IsStray known)

-- what is left of a transaction after a step: itself, or nothing where it is forgotten
abbrev pub left : Option Stage → List Stage
left None = []
left (Some s) = s ∷ []

-- what stands at the place of a transaction while a step is made with it
abbrev pub gap : Stage
gap = Sent (record { txn = record { initiator = 0; seq = 0 }; above = 0; at = 0; ended = false; rest = None })

-- a response that was sent stands at this place
abbrev pub IsSentAt : List Stage → ℕ → Type 0
IsSentAt held at = (a : SentUp) × StandsAt held at (Sent a)

-- A pump came by the transaction at this place with a step, in haste or not. The next one stands behind what is left of it, and the others are as they
-- were.
pub record MovesAt (frame : Frame Plan) (hasty : Bool) (w : Step) (at : ℕ) (old new : List Stage) (was is : View Content Plan) (next : ℕ) (moved : Bool) : Type 0 where
  pub stage : Stage
  pub stands : StandsAt old at stage
  pub after : Option Stage
  pub stepped : ComesBy frame hasty w stage was is moved after
  pub line : new ≡ stands.before ++ (left after ++ stands.rest)
  pub next_is : next ≡ at + length (left after)

-- It came by each of these transactions, in order, and what was known in between is known. Whether one was moved.
abbrev pub Sweeps : Frame Plan → Bool → Step → List Stage → List Stage → View Content Plan → View Content Plan → Bool → Type 0
Sweeps frame hasty w [] new was is moved = (new ≡ []) × (is ≡ was) × (moved ≡ false)
Sweeps frame hasty w (s ∷ ss) new was is moved =
    (after : Option Stage) × (rest : List Stage) × (mid : View Content Plan) × (first : Bool) × (more : Bool)
    × ComesBy frame hasty w s was mid first after × Within mid.known is.known × Sweeps frame hasty w ss rest mid is more × (new ≡ left after ++ rest) × (moved ≡ (first || more))

-- looks in vain of a step, one for each transaction that it is one for, in order
abbrev pub vain_steps : Plan → Step → List Standing → List (ℕ × ℕ)
vain_steps p w [] = []
vain_steps p w (s ∷ ss) = vain p w s ++ vain_steps p w ss

-- looks for responses, where no stray one is kept
abbrev pub back_looks : Plan → Option Found → List ℕ → List (ℕ × ℕ)
back_looks p None below = vain_looks p 2 below
back_looks p (Some f) below = []

-- looks for requests, where there is room
abbrev pub in_looks : Plan → Bool → List ℕ → List (ℕ × ℕ)
in_looks p room above = if room then vain_looks p 1 above else []

abbrev pub has_room : RouterNode → Bool
has_room r = nat_lt (length r.held.items) r.room

-- what a request that was fetched is held as
abbrev pub stage_of : Turned → Stage
stage_of (Turns.Down d) = Down d
stage_of (Turns.Back r) = Up r None

module _ (frame : Frame Plan) (tokens : TableId) where
  -- One step of a pump for all transactions. Nothing else changes.
  pub record HasSwept (hasty : Bool) (w : Step) (old new : RouterNode) (was is : View Content Plan) (moved : Bool) : Type 0 where
    pub swept : Sweeps frame hasty w old.held.items new.held.items was is moved
    pub knew : Within was.known is.known
    pub same : new ≡ record old { held = new.held }

  -- A response was fetched from the first of the hops below that were looked at at which one waits, and joined with its transaction; or it is a stray one.
  -- These are all; in haste some.
  pub record TakesBack (hasty : Bool) (old new : RouterNode) (was is : View Content Plan) : Type 0 where
    pub free : old.stray ≡ None
    pub found : Found
    pub hops : List ℕ
    pub looked_at : AreLookedAt hasty old.below.items hops
    pub first : IsFirst frame.world 2 hops found.hop was.looks is.looks
    pub waited : IsFound frame tokens is.known found
    pub joined : HasJoinedOne found old.held.items new.held.items new.stray
    pub same : new ≡ record old { held = new.held; stray = new.stray }

  -- Or none waits at any, or a stray one is kept.
  abbrev pub HasTakenBack : Bool → RouterNode → RouterNode → View Content Plan → View Content Plan → Bool → Type 0
  HasTakenBack hasty old new was is true = TakesBack hasty old new was is
  HasTakenBack hasty old new was is false = (new ≡ old) × ((hops : List ℕ) × AreLookedAt hasty old.below.items hops × (is.looks ≡ was.looks ++ back_looks frame.world old.stray hops))

  -- A request was fetched from the first of the hops above that were looked at at which one waits, and turned down or back. It is the last that is held.
  -- These are all; in haste some.
  pub record TakesIn (hasty : Bool) (old new : RouterNode) (was is : HeldNote Content Plan) : Type 0 where
    pub room : length old.held.items < old.room
    pub request : RouterRequest
    pub mid : HeldNote Content Plan
    pub hops : List ℕ
    pub looked_at : AreLookedAt hasty old.above.items hops
    pub first : IsFirst frame.world 1 hops request.hop was.knows.looks mid.knows.looks
    pub waited : IsRequest frame tokens mid.knows.known old.router request
    pub turned : Turned
    pub turns : HasTurned frame tokens old.router old.latency request mid is turned
    pub knew : Within mid.knows.known is.knows.known
    pub line : new.held.items ≡ old.held.items ++ stage_of turned ∷ []
    pub same : new ≡ record old { held = new.held }

  -- Or none waits at any, or there is no room.
  abbrev pub HasTakenIn : Bool → RouterNode → RouterNode → HeldNote Content Plan → HeldNote Content Plan → Bool → Type 0
  HasTakenIn hasty old new was is true = TakesIn hasty old new was is
  HasTakenIn hasty old new was is false = (new ≡ old) × ((hops : List ℕ) × AreLookedAt hasty old.above.items hops × (is.knows.looks ≡ was.knows.looks ++ in_looks frame.world (has_room old) hops))

  -- A pump goes through these, in this order, in haste or with every look. What has ended above is ended below. Each response that is to go up is tried,
  -- and each request that is to go down. A response is fetched from below, and a request from above. What was known in between is known. Whether one of
  -- them has moved a transaction.
  pub record GoesThrough (hasty : Bool) (old new : RouterNode) (was is : HeldNote Content Plan) (moved : Bool) : Type 0 where
    pub ended : RouterNode
    pub after_end : HeldNote Content Plan
    pub ends : Bool
    pub end_all : HasSwept hasty End old ended was.knows after_end.knows ends
    pub sent : RouterNode
    pub after_send : HeldNote Content Plan
    pub sends : Bool
    pub send_all : HasSwept hasty Send ended sent after_end.knows after_send.knows sends
    pub passed : RouterNode
    pub after_pass : HeldNote Content Plan
    pub passes : Bool
    pub pass_all : HasSwept hasty Pass sent passed after_send.knows after_pass.knows passes
    pub joined : RouterNode
    pub after_back : HeldNote Content Plan
    pub joins : Bool
    pub take_back : HasTakenBack hasty passed joined after_pass.knows after_back.knows joins
    pub knew_back : Within after_pass.knows.known after_back.knows.known
    pub takes : Bool
    pub take_in : HasTakenIn hasty joined new after_back is takes
    pub knew_in : Within after_back.knows.known is.knows.known
    pub moved_is : moved ≡ (ends || (sends || (passes || (joins || takes))))

  -- Nothing was moved so far: each transaction that is held stands where it stood, and what was known is known. There may have been looks.
  pub record StandsStill (old new : RouterNode) (was is : View Content Plan) : Type 0 where
    pub same : new ≡ record old { held = new.held }
    pub stand : map standing new.held.items ≡ map standing old.held.items
    pub knew : Within was.known is.known
    pub earlier : List (ℕ × ℕ)
    pub looks : is.looks ≡ was.looks ++ earlier

  -- A pump goes through, in haste or with every look, and before that nothing was moved. Where it moves nothing, it has every look.
  pub record GoesOn (old new : RouterNode) (was is : HeldNote Content Plan) (moved : Bool) : Type 0 where
    pub start : RouterNode
    pub note : HeldNote Content Plan
    pub still : StandsStill old start was.knows note.knows
    pub hasty : Bool
    pub goes : GoesThrough hasty start new note is moved
    pub every_look : moved ≡ false → hasty ≡ false

  -- Nothing was moved: each transaction that is held stands where it stood. The last looks are that the end of each response that was sent isn't there
  -- yet, that each response that is to go up was refused, and so was each request that is to go down, and that nothing waits at any hop below and, where
  -- there is room, at any hop above. There may have been earlier ones.
  pub record DoesNothing (old new : RouterNode) (was is : View Content Plan) : Type 0 where
    pub same : new ≡ record old { held = new.held }
    pub stand : map standing new.held.items ≡ map standing old.held.items
    pub earlier : List (ℕ × ℕ)
    pub looks : is.looks
        ≡ was.looks ++ earlier ++ vain_steps frame.world End (map standing old.held.items) ++ vain_steps frame.world Send (map standing old.held.items) ++ vain_steps frame.world Pass (map standing old.held.items)
        ++ back_looks frame.world old.stray old.below.items ++ in_looks frame.world (has_room old) old.above.items

  -- Did comes where one of these was moved, Nothing where none was.
  abbrev pub HasPumped : RouterNode → RouterNode → HeldNote Content Plan → HeldNote Content Plan → Pumped → Type 0
  HasPumped old new was is Did = GoesOn old new was is true
  HasPumped old new was is Nothing = DoesNothing old new was.knows is.knows

-- the answer of a pump
abbrev pub pumped_by : Bool → Pumped
pumped_by true = Did
pumped_by false = Nothing
