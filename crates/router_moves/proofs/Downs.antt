-- What a router knows of a request that it passes on.
use Rattle.std.proofs.Common.{◌≡◌, ℕ, zero, suc, ◌+◌, ◌<◌, List, [], ◌∷◌, length, Bool, Option, Some, None, slice_get, refl, sym, ◌∙◌, ap, subst, inl, inr, arith}
use Rattle.std.proofs.lemmas.Grind.{common_steps}
use Rattle.atomic_table.specs.Seated.{TableId}
use Rattle.view_lists.specs.Lists.{Within}
use Rattle.one_history.specs.declared.entry.Entry.{Entry}
use Rattle.one_history.specs.declared.view.Frame.{Frame}
use Rattle.tlm_types.specs.declared.entry.Access.{Access}
use Rattle.tlm_types.specs.declared.entry.Content.{Content}
use Rattle.tlm_types.specs.declared.words.ObjectNo.{ObjectNo}
use Rattle.tlm_types.specs.declared.words.ObjectNo.TheVariants.{Hop}
use Rattle.tlm_types.specs.declared.words.Phase.TheVariants.{BeginReq}
use Rattle.tlm_types.specs.declared.words.ReqMode.{ReqMode}
use Rattle.tlm_types.specs.declared.words.ReqMode.TheVariants.{Accept, Short, EndReq, BeginResp, Complete}
use Rattle.tlm_types.specs.declared.words.TlmSync.{TlmSync}
use Rattle.tlm_types.specs.declared.words.TxnId.{TxnId}
use Rattle.tlm_model.specs.declared.platform.Target.TheVariants.{Router}
use Rattle.tlm_model.specs.Plan.{Plan}
use Rattle.tlm_model.specs.Route.{later}
use Rattle.base_phases.specs.declared.phases.LaneState.{LaneState}
use Rattle.base_phases.specs.declared.phases.LaneState.TheVariants.{Free, Requested}
use Rattle.base_phases.specs.Phases.{next_state}
use Rattle.token_book.specs.Account.{Slip}
use Rattle.token_book.specs.declared.ticket.Ticket.{Ticket}
use Rattle.flow_model.specs.World.{hop_at, hop_count, row_of}
use Rattle.flow_model.specs.Events.{Among, FindsAt, IsCall}
use Rattle.flow_model.specs.Numbers.{Past}
use Rattle.flow_model.specs.Platform.{world_of}
use Rattle.platform_shape.specs.Shape.{IsShape}
use Rattle.route_plan.specs.Valid as valid
use Rattle.cargo_model.specs.declared.cargo.Cargo.{Cargo}
use Rattle.cargo_model.specs.Called.{IsAnswerIn}
use Rattle.cargo_model.specs.Known.{Known, objects_of}
use Rattle.cargo_model.specs.Travel.{GoesDown, IsHoldOf, Ready, There, stop_for}
use Rattle.cargo_model.proofs.Origins.{only_object}
use Rattle.cargo_net.specs.Descends.{owed_on}
use Rattle.cargo_net.specs.Fetched.{HasFetchedRequest}
use Rattle.cargo_net.specs.Hops.{IsLegOfLane}
use Rattle.cargo_net.specs.Wallets.{IsTicketAt}
use Rattle.cargo_net.specs.declared.fetches.FetchedRequest.{FetchedRequest}
use Rattle.plat_net.specs.Places.{LeadsTo, hop_place}
use Rattle.plat_net.specs.PoolCalls.{CanDescend, place_above}
use Rattle.plat_net.proofs.Given.{took}
use Rattle.plat_net.proofs.NumberLemmas.{hop_there}
use Rattle.node_hops.specs.Traits.{hop_latency, is_accepting}
use Rattle.router_moves.specs.Items.{HasDebt, IsDown, IsHeld, IsRequest, way_of}
use Rattle.router_moves.specs.Moves.{owed_above}
use Rattle.router_moves.specs.declared.items.RouterRequest.{RouterRequest}
use Rattle.router_moves.specs.declared.items.WayBehind.{WayBehind}
use Rattle.router_moves.proofs.Grown.{debt_more, finds_more, hold_more, known_more, leaves, leg_more}
use Rattle.router_moves.proofs.Windows.{above_is, goes_on, next_address, next_hop, to_no_memory}

pub same_hop : (a b : ℕ) → ◌≡◌ {A = ObjectNo} (Hop a) (Hop b) → a ≡ b
same_hop a b e = cc

pub among_at : {A : Type 0} (xs : List A) (k : ℕ) (x : A) → slice_get xs k ≡ Some x → Among xs x
among_at [] k x at = cc
among_at (y ∷ xs) zero x at = inl (one y x at)
  where
    one : {A : Type 0} (y x : A) → Some y ≡ Some x → y ≡ x
    one y x q = cc
among_at (y ∷ xs) (suc k) x at = inr (among_at xs k x at)

-- the hop of the plan that has a number in the history
pub hop_here : (p : Plan) (hop n : ℕ) → hop < valid.hop_count p.platform → hop_place p hop ≡ hop_place p n → n ≡ hop
hop_here p hop n below place = same_hop n hop (only_object p.platform (Hop n) (Hop hop) (among_at (objects_of p.platform) (length p.platform.memories + hop) (Hop hop) (hop_there p.platform hop below)) (sym place))

-- FETCH DOWN
pub request_is : (frame : Frame Plan) (tokens : TableId) (known : List (Entry Content)) (router hop : ℕ) → hop < valid.hop_count frame.world.platform → LeadsTo frame.world.platform hop (Router router) → (r : FetchedRequest) → HasFetchedRequest frame tokens (hop_place frame.world hop) r known
    → IsRequest frame tokens known router (record { hop = hop; leg = r.leg; at = r.at; cargo = r.cargo })
request_is frame tokens known router hop below leads r h =
    let txn : r.txn ≡ r.cargo.baton.txn = sym h.down.held.txn in
    record {
      pass = h.pass;
      hop = h.hop;
      here = hop_here frame.world hop (hop_at h.pass h.hop) below h.place;
      leads = leads;
      down = subst (λ (x : TxnId). GoesDown frame.world tokens (Known frame.world.platform known) x h.pass There h.hop r.cargo) txn h.down;
      state = r.state;
      leg_of = subst (λ (x : TxnId). IsLegOfLane frame tokens (hop_place frame.world hop) known x r.state r.leg) txn h.leg_of;
      open_lane = h.open_lane;
      answer = h.answer;
      begun = subst (λ (x : TxnId). FindsAt (Known frame.world.platform known) (IsCall x (hop_at h.pass h.hop) BeginReq h.answer) r.at) txn h.begun;
      fits = h.fits;
      responds = h.responds;
      leads_to = h.leads;
    }

-- where the row has END_REQ, the request of the lane is open
requested : (row : ReqMode) (answer : TlmSync) (state : LaneState) → IsAnswerIn row answer → next_state Free BeginReq answer ≡ Some state → row ≡ Accept → state ≡ Requested
requested row answer state fits leads is = grind (arith, common_steps)

module _ (frame : Frame Plan) (tokens : TableId) (known : List (Entry Content)) (shape : IsShape frame.world.platform) (router : ℕ) (r : RouterRequest) (req : IsRequest frame tokens known router r) where
  abbrev p : Plan
  p = frame.world

  abbrev x : TxnId
  x = r.cargo.baton.txn

  pub leads_here : LeadsTo p.platform (hop_at req.pass req.hop) (Router router)
  leads_here = subst (λ (h : ℕ). LeadsTo p.platform h (Router router)) (sym req.here) req.leads

  abbrev below : req.hop < hop_count req.pass
  below = req.down.held.below

  -- the address that its payload has is the one there
  pub address_is : r.cargo.baton.payload.address ≡ (stop_for p tokens (Known p.platform known) x req.pass req.down.asked req.hop).address
  address_is = ap (λ (a : Access). a.offset) req.down.content

  -- it leaves after the latency
  pub leaves_at : (latency due : ℕ) → latency ≡ hop_latency p r.hop → due ≡ later r.at latency → Past (world_of p) (Known p.platform known) x (hop_at req.pass req.hop) due
  leaves_at latency due is at = record {
    req = r.at;
    is_req = (let b = req.begun in record { event = b.event; known = b.known; is = record { answer = req.answer; call = b.is }; time = b.time });
    sum = at ∙ ap (λ (n : ℕ). later r.at n) (is ∙ ap (λ (h : ℕ). hop_latency p h) (sym req.here));
  }

  module _ (way : WayBehind) (is : way_of p router r.cargo.baton.payload.address ≡ Some way) where
    pub there : way_of p router (stop_for p tokens (Known p.platform known) x req.pass req.down.asked req.hop).address ≡ Some way
    there = subst (λ (a : ℕ). way_of p router a ≡ Some way) address_is is

    pub next : req.hop + 1 < hop_count req.pass
    next = goes_on p tokens known shape x req.pass req.down.asked req.hop router below leads_here way there

    -- DESCEND
    abbrev pub can_descend : (initiator : ℕ) (accepts : Bool) (above : Option ℕ) (latency due : ℕ) → initiator ≡ x.initiator → accepts ≡ is_accepting p.platform (Router router) → router < length p.platform.routers → above ≡ owed_above accepts r.hop → latency ≡ hop_latency p r.hop → due ≡ later r.at latency
        → CanDescend frame tokens initiator r.cargo above way.address due known
    can_descend initiator accepts above latency due of mode row above_as lat at = record {
      of = sym of;
      pass = req.pass;
      hop = req.hop;
      down = req.down;
      next = next;
      begun = (let b = req.begun in record { event = b.event; known = b.known; is = record { answer = req.answer; call = b.is } });
      arrival = leaves (world_of p) (Known p.platform known) x req.pass req.hop due (leaves_at latency due lat at);
      address_is = next_address p tokens known shape x req.pass req.down.asked req.hop router below leads_here way there;
      above_is = above_as ∙ ap (λ (h : ℕ). owed_above accepts h) (sym req.here) ∙ above_is p tokens known shape x req.pass req.down.asked req.hop router below leads_here way there accepts mode row;
    }

    debt_at : (row : ReqMode) (ticket : Option Ticket) → row_of (world_of p) req.pass req.hop ≡ row → IsTicketAt tokens (place_above p (owed_on row (hop_at req.pass req.hop))) ticket → HasDebt frame tokens known x req.pass req.hop req.state ticket
    debt_at Accept (Some t) q of = (of, requested (row_of (world_of p) req.pass req.hop) req.answer req.state req.fits req.leads_to q, q)
    debt_at Accept None q of = absurd of
    debt_at Short None q of = (req.open_lane, λ e. cc (q, e))
    debt_at EndReq None q of = (req.open_lane, λ e. cc (q, e))
    debt_at BeginResp None q of = (req.open_lane, λ e. cc (q, e))
    debt_at Complete None q of = (req.open_lane, λ e. cc (q, e))
    debt_at Short (Some t) q of = absurd of
    debt_at EndReq (Some t) q of = absurd of
    debt_at BeginResp (Some t) q of = absurd of
    debt_at Complete (Some t) q of = absurd of

    module _ (more : List (Entry Content)) (w : Within known more) where
      held_is : (kept : Slip) (ticket : Option Ticket) → kept ≡ r.cargo.hold → IsTicketAt tokens (place_above p (owed_on (row_of (world_of p) req.pass req.hop) (hop_at req.pass req.hop))) ticket
          → IsHeld frame tokens more (record { txn = x; above = r.hop; below = way.hop; leg = r.leg; kept = kept; owed = ticket }) req.pass req.hop req.state
      held_is kept ticket same of = record {
        passes = req.down.asked.passes;
        next = next;
        above = req.here;
        below = next_hop p tokens known shape x req.pass req.down.asked req.hop router below leads_here way there;
        router = to_no_memory p tokens known shape x req.pass req.down.asked req.hop router below leads_here;
        taken = finds_more p known more w (took (Known p.platform known) x req.down.held.position r.cargo.baton.slot req.down.held.taken);
        answer = req.answer;
        begun = (let b = req.begun in record { event = b.event; known = known_more p known more w b.event b.known; is = b.is });
        fits = req.fits;
        responds = req.responds;
        leg_of = leg_more frame tokens (hop_place p r.hop) known more w x req.state r.leg req.leg_of;
        kept = subst (IsHoldOf p tokens (Known p.platform more) x req.pass req.hop) (sym same) (hold_more p tokens known more w x req.pass req.hop r.cargo.hold req.down.held.hold);
        debt = debt_more frame tokens known more w x req.pass req.hop req.state ticket (debt_at (row_of (world_of p) req.pass req.hop) ticket refl of);
      }

      pub down_is : (txn : TxnId) (kept : Slip) (ticket : Option Ticket) (cargo : Cargo) (latency due : ℕ) → txn ≡ x → kept ≡ r.cargo.hold
          → IsTicketAt tokens (place_above p (owed_on (row_of (world_of p) req.pass req.hop) (hop_at req.pass req.hop))) ticket → latency ≡ hop_latency p r.hop → due ≡ later r.at latency
          → GoesDown p tokens (Known p.platform more) x req.pass Ready (req.hop + 1) cargo
          → IsDown frame tokens more (record { held = record { txn = txn; above = r.hop; below = way.hop; leg = r.leg; kept = kept; owed = ticket }; due = due; cargo = cargo })
      down_is txn kept ticket cargo latency due is_x same of lat at down =
          subst (λ (y : TxnId). IsDown frame tokens more (record { held = record { txn = y; above = r.hop; below = way.hop; leg = r.leg; kept = kept; owed = ticket }; due = due; cargo = cargo })) (sym is_x) (
          let past = leaves_at latency due lat at in
          record {
            pass = req.pass;
            hop = req.hop;
            state = req.state;
            held = held_is kept ticket same of;
            down = down;
            least = leaves (world_of p) (Known p.platform more) x req.pass req.hop due (let q = past.is_req in record { req = past.req; is_req = record { event = q.event; known = known_more p known more w q.event q.known; is = q.is; time = q.time }; sum = past.sum });
          })
