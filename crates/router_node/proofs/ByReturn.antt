-- A response that comes by return is a memory's.
use Rattle.std.proofs.Common.{◌≡◌, ℕ, ◌+◌, ◌≤◌, List, Bool, Some, None, sym, ap, subst, ◌∙◌, arith}
use Rattle.std.proofs.lemmas.Grind.{common_steps}
use Rattle.atomic_table.specs.Seated.{TableId}
use Rattle.view_lists.specs.Lists.{Within}
use Rattle.one_history.specs.declared.entry.Entry.{Entry}
use Rattle.one_history.specs.declared.view.Frame.{Frame}
use Rattle.tlm_types.specs.declared.entry.Content.{Content}
use Rattle.tlm_types.specs.declared.words.Phase.TheVariants.{BeginReq}
use Rattle.tlm_types.specs.declared.words.ReqMode.{ReqMode}
use Rattle.tlm_types.specs.declared.words.TlmSync.{TlmSync}
use Rattle.tlm_model.specs.declared.platform.Target.TheVariants.{Router}
use Rattle.tlm_model.specs.Plan.{Plan}
use Rattle.tlm_model.specs.Route.{later}
use Rattle.flow_model.specs.World.{HopEnds, hop_at, is_refused, row_by}
use Rattle.flow_model.specs.Events.{FindsAt, IsAccess, IsPhase}
use Rattle.flow_model.specs.Platform.{world_of}
use Rattle.platform_shape.specs.Shape.{IsShape}
use Rattle.cargo_model.specs.Counts.{responses}
use Rattle.cargo_model.specs.Known.{Known}
use Rattle.cargo_model.specs.Stops.{response_at}
use Rattle.cargo_net.specs.Forwards.{IsRouterMode}
use Rattle.plat_net.specs.Places.{LeadsTo}
use Rattle.plat_net.proofs.Forwarding.{router_answers}
use Rattle.node_hops.specs.Traits.{hop_latency}
use Rattle.router_moves.specs.Items.{HasGone, IsBegun}
use Rattle.router_moves.specs.Moves.{HasServedBelow, TurnsUp}
use Rattle.router_node.specs.Stages.{IsServed, IsServedAs, Moves, WentDown}
use Rattle.router_moves.specs.declared.items.Back.{Back}
use Rattle.router_moves.specs.declared.items.BegunBelow.{BegunBelow}
use Rattle.router_moves.specs.declared.items.Down.{Down as ToPass}
use Rattle.router_moves.specs.declared.items.PassedOn.{PassedOn}
use Rattle.router_moves.specs.declared.items.RouterResponse.{RouterResponse}
use Rattle.router_moves.specs.declared.items.Rest.{Rest}
use Rattle.router_node.specs.declared.stage.Stage.{Stage}
use Rattle.router_node.specs.declared.stage.Stage.TheVariants.{Below, Down, Sent, Up}
use Rattle.router_node.specs.declared.stage.Step.TheVariants.{Pass}
use Rattle.router_moves.proofs.Grown.{finds_at_more}
use Rattle.router_moves.proofs.Windows.{ends_are}

no_router : (refused : Bool) (mode : ReqMode) (answer : TlmSync) → IsRouterMode mode → responses (row_by refused mode) answer ≡ 0 → ⊥
no_router refused mode answer router none = grind (arith, common_steps)

-- the component behind the hop is no router
pub by_memory : (frame : Frame Plan) (tokens : TableId) (known : List (Entry Content)) (shape : IsShape frame.world.platform) (h : PassedOn) (b : BegunBelow) → IsBegun frame tokens known h b → (r : ℕ) → LeadsTo frame.world.platform h.below (Router r) → ⊥
by_memory frame tokens known shape h b begun r leads =
    let p = frame.world in
    let here = subst (λ (n : ℕ). LeadsTo p.platform n (Router r)) (sym begun.held.below) leads in
    let ends = ends_are p tokens known shape h.txn begun.pass begun.down.asked (begun.hop + 1) r begun.held.next here in
    let mode : IsRouterMode ((world_of p).hop (hop_at begun.pass (begun.hop + 1))).req = subst (λ (e : HopEnds). IsRouterMode e.req) (sym ends) (router_answers p.platform (response_at begun.down.asked.initiator (begun.hop + 1)) r shape.bounded) in
    no_router (is_refused (world_of p) begun.pass (begun.hop + 1)) ((world_of p).hop (hop_at begun.pass (begun.hop + 1))).req begun.answer mode begun.responds

-- its BEGIN_REQ was made below
pub gone_of : (frame : Frame Plan) (tokens : TableId) (known : List (Entry Content)) (h : PassedOn) (b : BegunBelow) → IsBegun frame tokens known h b → HasGone frame tokens known h b.at
gone_of frame tokens known h b begun =
    let f = begun.made in
    record { pass = begun.pass; hop = begun.hop; state = begun.state; held = begun.held; begun = record { event = f.event; known = f.known; is = record { answer = begun.answer; call = f.is }; time = f.time } }

pub went_down : (frame : Frame Plan) (tokens : TableId) (known more : List (Entry Content)) → Within known more → (d : ToPass) (h : PassedOn) (at : ℕ) → h ≡ d.held → d.due ≤ at → HasGone frame tokens known h at → WentDown frame more d at
went_down frame tokens known more w d h at same late gone =
    let g : HasGone frame tokens known d.held at = subst (λ (x : PassedOn). HasGone frame tokens known x at) same gone in
    record {
      late = late;
      made = finds_at_more frame.world known more w at (subst (λ (o : ℕ). FindsAt (Known frame.world.platform known) (IsPhase d.held.txn o BeginReq) at) g.held.below g.begun);
    }

-- the memory was called, and the response turned up
pub served_as : (frame : Frame Plan) (tokens : TableId) (known : List (Entry Content)) (latency : ℕ) (h : PassedOn) (b : BegunBelow) (back : Back) (r : RouterResponse) (rest : Rest) → latency ≡ hop_latency frame.world h.below → HasServedBelow frame tokens latency h b known back → TurnsUp frame tokens known h back r rest
    → IsServedAs frame known h b r
served_as frame tokens known latency h b back r rest is served turns =
    record { hop = turns.at; txn = turns.txn; made = served.made; due = turns.due ∙ (served.at ∙ ap (λ (n : ℕ). later b.at n) is) }

-- a request was passed on, and its response came by return
pub came_back : (frame : Frame Plan) (known : List (Entry Content)) (d : ToPass) (h : PassedOn) (b : BegunBelow) (s : Stage) → h.txn ≡ d.held.txn → h.above ≡ d.held.above → h.below ≡ d.held.below → WentDown frame known d b.at → IsServed frame known h b s
    → Moves frame known Pass (Down d) (Some s)
came_back frame known d h b (Up r (Some rest)) txn above below went is = (
  is.hop ∙ above,
  is.txn ∙ txn,
  record {
    time = b.at;
    went = went;
    made = subst (λ (x : _). FindsAt (Known frame.world.platform known) (IsAccess x) b.at) txn is.made;
    due = is.due ∙ ap (λ (o : ℕ). later b.at (hop_latency frame.world o)) below;
  },
)
came_back frame known d h b (Up r None) txn above below went is = absurd is
came_back frame known d h b (Down e) txn above below went is = absurd is
came_back frame known d h b (Below e) txn above below went is = absurd is
came_back frame known d h b (Sent a) txn above below went is = absurd is
