-- What a router knows of a response that it makes itself, or that is back from a hop below.
use Rattle.std.proofs.Common.{◌≡◌, ℕ, zero, suc, ◌+◌, ◌-◌, ◌<◌, ◌≤◌, List, [], ◌∷◌, length, drop, map, get_or, Option, Some, None, refl, sym, ◌∙◌, ap, subst, inl, arith}
use Rattle.std.proofs.Math.Seq.{drop-length}
use Rattle.std.specs.Prelude.{slice_get}
use Rattle.atomic_table.specs.Seated.{TableId}
use Rattle.one_history.specs.declared.entry.Entry.{Entry}
use Rattle.one_history.specs.declared.view.Frame.{Frame}
use Rattle.tlm_types.specs.declared.entry.Content.{Content}
use Rattle.tlm_types.specs.declared.words.Phase.TheVariants as Phases
use Rattle.tlm_types.specs.declared.words.Response.TheVariants.{AddressError}
use Rattle.tlm_types.specs.declared.words.RespMode.{RespMode}
use Rattle.tlm_types.specs.declared.words.RespMode.TheVariants.{Accept as accept_response}
use Rattle.tlm_types.specs.declared.words.TlmSync.TheVariants.{Accepted}
use Rattle.tlm_types.specs.declared.words.TxnId.{TxnId}
use Rattle.tlm_model.specs.declared.platform.InitiatorRow.{InitiatorRow}
use Rattle.tlm_model.specs.declared.platform.MemoryRow.{MemoryRow}
use Rattle.tlm_model.specs.declared.platform.Platform.{Platform}
use Rattle.tlm_model.specs.declared.platform.RouterRow.{RouterRow}
use Rattle.tlm_model.specs.declared.platform.Target.{Target}
use Rattle.tlm_model.specs.declared.platform.Target.TheVariants.{Memory, Router}
use Rattle.tlm_model.specs.declared.platform.WindowRow.{WindowRow}
use Rattle.tlm_model.specs.Plan.{Plan}
use Rattle.tlm_model.specs.Route.{later}
use Rattle.generic_payload.specs.Payload.{PayloadView}
use Rattle.base_phases.specs.declared.phases.LaneState.{LaneState}
use Rattle.base_phases.specs.declared.phases.LaneState.TheVariants.{Responding}
use Rattle.token_book.specs.Account.{Slip}
use Rattle.flow_model.specs.Answers.{response_answer}
use Rattle.flow_model.specs.World.{HopEnds, Passage, hop_at, hop_count}
use Rattle.flow_model.specs.Events.{FindsAt, IsCall}
use Rattle.flow_model.specs.Numbers.{UpFrom}
use Rattle.flow_model.specs.Platform.{all_windows, hop_in, hop_to, no_hop, passage_of, to_memory, to_router, world_of}
use Rattle.flow_model.proofs.Ways.{world_law}
use Rattle.platform_shape.specs.Shape.{IsShape}
use Rattle.route_plan.specs.Valid as valid
use Rattle.cargo_model.specs.Counts.{owed_by}
use Rattle.cargo_model.specs.Known.{Known}
use Rattle.cargo_model.specs.Laws.{with_contents}
use Rattle.cargo_model.specs.Travel.{Back as IsBackAt, GoesUp, stop_for}
use Rattle.cargo_model.proofs.Up.{refuses}
use Rattle.cargo_net.specs.Fetched.{HasEndLeg, HasFetchedResponse, mode_above}
use Rattle.cargo_net.specs.Hops.{IsLegOfLane}
use Rattle.cargo_net.specs.declared.fetches.FetchedResponse.{FetchedResponse}
use Rattle.plat_net.specs.Places.{hop_place}
use Rattle.plat_net.proofs.NoCycle.{shapes_law}
use Rattle.plat_net.proofs.Targets.{back_at}
use Rattle.node_hops.specs.Traits.{hop_latency}
use Rattle.router_moves.specs.Items.{IsBack, IsHeld, IsRequest, OwesEnd, way_of}
use Rattle.router_moves.specs.Moves.{HasFetchedUp, IsRefused}
use Rattle.router_moves.specs.declared.items.PassedOn.{PassedOn}
use Rattle.router_moves.specs.declared.items.RouterRequest.{RouterRequest}
use Rattle.router_moves.proofs.Downs.{address_is, hop_here, leads_here, leaves_at}
use Rattle.router_moves.proofs.Passes.{tail}
use Rattle.router_moves.proofs.Windows.{ends_here, leads_nowhere, row_is_no_accept, to_no_memory}

drop_all : (k : ℕ) (hops : List ℕ) → k ≡ length hops → drop k hops ≡ []
drop_all k hops q = subst (λ (i : ℕ). drop i hops ≡ []) (sym q) (drop-length hops)

-- REFUSE
module _ (frame : Frame Plan) (tokens : TableId) (known : List (Entry Content)) (shape : IsShape frame.world.platform) (router : ℕ) (r : RouterRequest) (req : IsRequest frame tokens known router r) (none : way_of frame.world router r.cargo.baton.payload.address ≡ None) where
  abbrev p : Plan
  p = frame.world

  nowhere : way_of p router (let s = stop_for p tokens (Known p.platform known) r.cargo.baton.txn req.pass req.down.asked req.hop in s.address) ≡ None
  nowhere = subst (λ (a : ℕ). way_of p router a ≡ None) (address_is frame tokens known shape router r req) none

  last : req.hop + 1 ≡ hop_count req.pass
  last = ends_here p tokens known shape r.cargo.baton.txn req.pass req.down.asked req.hop router req.down.held.below (leads_here frame tokens known shape router r req) nowhere

  pub refused : (latency due : ℕ) (v : PayloadView) → latency ≡ hop_latency p r.hop → due ≡ later r.at latency → v ≡ (let old = r.cargo.baton.payload in record old { status = AddressError })
      → IsRefused frame tokens known latency r (record { hop = r.hop; leg = r.leg; due = due; cargo = with_contents r.cargo v r.cargo.baton.wallet })
  refused latency due v lat at is =
      let b = req.begun in
      let leads = leads_here frame tokens known shape router r req in
      record {
        hop = refl;
        due = at;
        txn = refl;
        can = record {
          pass = req.pass;
          hop = req.hop;
          here = req.here;
          up = refuses (record { p = p; tokens = tokens; entries = known; x = r.cargo.baton.txn; pass = req.pass; c = r.cargo }) req.hop req.down v last
              (to_no_memory p tokens known shape r.cargo.baton.txn req.pass req.down.asked req.hop router req.down.held.below leads)
              (leads_nowhere p tokens known shape r.cargo.baton.txn req.pass req.down.asked req.hop router req.down.held.below leads nowhere)
              (record { event = b.event; known = b.known; is = record { answer = req.answer; call = b.is } }) is;
          state = req.state;
          open_lane = req.open_lane;
          leg_of = req.leg_of;
          answer = req.answer;
          begun = record { event = b.event; known = b.known; is = b.is };
          fits = req.fits;
          responds = req.responds;
          ended = λ q. absurd (row_is_no_accept p tokens known shape r.cargo.baton.txn req.pass req.down.asked req.hop router req.down.held.below leads nowhere q);
          least = subst (λ (rest : List ℕ). UpFrom (world_of p) (Known p.platform known) r.cargo.baton.txn (hop_at req.pass req.hop) rest due) (sym (drop_all (req.hop + 1) req.pass.hops last)) (leaves_at frame tokens known shape router r req latency due lat at);
        };
      }

-- a hop behind a window: the component above it accepts responses
resp_of : (p : Platform) (t : Target) → (hop_to p accept_response t).resp ≡ accept_response
resp_of p (Router r) = by (slice_get p.routers r)
  where
    by : (o : Option RouterRow) → (to_router accept_response o).resp ≡ accept_response
    by None = refl
    by (Some row) = refl
resp_of p (Memory m) = by (slice_get p.memories m)
  where
    by : (o : Option MemoryRow) → (to_memory accept_response o).resp ≡ accept_response
    by None = refl
    by (Some row) = refl

window_resp : (p : Platform) (ws : List WindowRow) (n : ℕ) → (get_or (map (λ (v : WindowRow). hop_to p accept_response v.to) ws) n no_hop).resp ≡ accept_response
window_resp p [] n = refl
window_resp p (v ∷ ws) zero = resp_of p v.to
window_resp p (v ∷ ws) (suc n) = window_resp p ws n

pub window_accepts : (p : Platform) (h : ℕ) → length p.initiators ≤ h → (hop_in p h).resp ≡ accept_response
window_accepts p h past =
    let n = h - length p.initiators in
    ap (λ (e : HopEnds). e.resp) (back_at (λ (i : InitiatorRow). hop_to p i.response i.bind) p.initiators (map (λ (v : WindowRow). hop_to p accept_response v.to) (all_windows p)) (h - length p.initiators) h no_hop (omega (arith, past)))
    ∙ window_resp p (all_windows p) (h - length p.initiators)

-- FETCH UP
module _ (frame : Frame Plan) (tokens : TableId) (known : List (Entry Content)) (shape : IsShape frame.world.platform) (hop : ℕ) (there : hop < valid.hop_count frame.world.platform) (window : length frame.world.platform.initiators ≤ hop)
    (r : FetchedResponse) (f : HasFetchedResponse frame tokens (hop_place frame.world hop) r known) where
  abbrev plan : Plan
  plan = frame.world

  here : hop_at f.pass f.hop ≡ hop
  here = hop_here plan hop (hop_at f.pass f.hop) there f.place

  mode : mode_above plan f.pass f.hop ≡ accept_response
  mode = ap (λ (n : ℕ). (hop_in plan.platform n).resp) here ∙ window_accepts plan.platform hop window

  made : FindsAt (Known plan.platform known) (IsCall r.txn hop Phases.BeginResp Accepted) r.at
  made = subst (λ (m : RespMode). FindsAt (Known plan.platform known) (IsCall r.txn hop Phases.BeginResp (response_answer m)) r.at) mode
      (subst (λ (n : ℕ). FindsAt (Known plan.platform known) (IsCall r.txn n Phases.BeginResp (response_answer (mode_above plan f.pass f.hop))) r.at) here f.made)

  up : GoesUp plan tokens (Known plan.platform known) r.txn f.pass (IsBackAt 1) f.hop r.cargo
  up = subst (λ (m : RespMode). GoesUp plan tokens (Known plan.platform known) r.txn f.pass (IsBackAt (owed_by m)) f.hop r.cargo) mode f.up

  leg : HasEndLeg frame tokens (hop_place plan hop) known r.txn accept_response r.leg
  leg = subst (λ (m : RespMode). HasEndLeg frame tokens (hop_place plan hop) known r.txn m r.leg) mode f.leg_of

  pub fetched_up : HasFetchedUp frame tokens known hop (record { txn = r.txn; back = record { at = r.at; leg = r.leg; cargo = r.cargo } })
  fetched_up = record {
    made = made;
    back = λ h pass k state held txn below. by h pass k state held txn below;
  }
    where
      one : (a b : Passage) → Some a ≡ Some b → a ≡ b
      one a b q = cc

      owes : (pass : Passage) (k : ℕ) → hop_at pass (k + 1) ≡ hop → (l : Option Slip) → HasEndLeg frame tokens (hop_place plan hop) known r.txn accept_response l → OwesEnd frame tokens known r.txn pass (k + 1) r.at 1 l
      owes pass k at (Some l) e = (refl, subst (λ (n : ℕ). IsLegOfLane frame tokens (hop_place plan n) known r.txn Responding l) (sym at) e)
      owes pass k at None e = absurd e

      by : (h : PassedOn) (pass : Passage) (k : ℕ) (state : LaneState) → IsHeld frame tokens known h pass k state → h.txn ≡ r.txn → h.below ≡ hop → IsBack frame tokens known h (record { at = r.at; leg = r.leg; cargo = r.cargo }) pass k 1
      by h pass k state held txn below =
          let same : f.pass ≡ pass = one f.pass pass (sym f.up.asked.passes ∙ subst (λ (x : TxnId). passage_of plan x ≡ Some pass) txn held.passes) in
          let at : hop_at pass (k + 1) ≡ hop = held.below ∙ below in
          let few : f.hop < hop_count pass = subst (λ (g : Passage). f.hop < hop_count g) same f.up.held.below in
          let passes : passage_of plan r.txn ≡ Some pass = subst (λ (x : TxnId). passage_of plan x ≡ Some pass) txn held.passes in
          let once = (world_law plan (shapes_law plan.platform shape)).passages r.txn pass passes in
          let place : f.hop ≡ k + 1 = once.distinct f.hop (k + 1) few held.next (subst (λ (g : Passage). hop_at g f.hop ≡ hop) same here ∙ sym at) in
          subst (λ (x : TxnId). IsBack frame tokens known (record h { txn = x }) (record { at = r.at; leg = r.leg; cargo = r.cargo }) pass k 1) (sym txn) (record {
            up = subst (λ (n : ℕ). GoesUp plan tokens (Known plan.platform known) r.txn pass (IsBackAt 1) n r.cargo) place (subst (λ (g : Passage). GoesUp plan tokens (Known plan.platform known) r.txn g (IsBackAt 1) f.hop r.cargo) same up);
            end = owes pass k at r.leg leg;
            least = subst (λ (rest : List ℕ). UpFrom (world_of plan) (Known plan.platform known) r.txn (hop_at pass k) rest r.at) (sym (tail pass k held.next))
                (inl (record { event = made.event; known = made.known; is = record { answer = Accepted; call = subst (λ (n : ℕ). IsCall r.txn n Phases.BeginResp Accepted made.event) (sym at) made.is }; time = made.time }));
          })
