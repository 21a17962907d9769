-- What a memory knows of what it fetches.
use Rattle.std.proofs.Common.{◌≡◌, ◌≢◌, ℕ, ◌+◌, ◌<◌, ◌&&◌, ◌==◌, Bool, true, false, not, List, length, get_or, Option, Some, None, refl, sym, ◌∙◌, ap, subst, arith}
use Rattle.std.specs.Prelude.{slice_get}
use Rattle.atomic_table.specs.Seated.{TableId}
use Rattle.one_history.specs.declared.entry.Entry.{Entry}
use Rattle.one_history.specs.declared.view.Frame.{Frame}
use Rattle.tlm_types.specs.declared.entry.Content.{Content}
use Rattle.tlm_types.specs.declared.words.ObjectNo.{ObjectNo}
use Rattle.tlm_types.specs.declared.words.ObjectNo.TheVariants.{Hop}
use Rattle.tlm_types.specs.declared.words.Phase.TheVariants.{BeginReq}
use Rattle.tlm_types.specs.declared.words.ReqMode.{ReqMode}
use Rattle.tlm_types.specs.declared.words.ReqMode.TheVariants.{Accept, Short, EndReq as end_req, BeginResp as begin_resp, Complete}
use Rattle.tlm_types.specs.declared.words.RespMode.TheVariants.{Accept as accept_response}
use Rattle.tlm_types.specs.declared.words.TlmSync.TheVariants.{Accepted}
use Rattle.tlm_types.specs.declared.words.TxnId.{TxnId}
use Rattle.tlm_model.specs.declared.platform.MemoryRow.{MemoryRow}
use Rattle.tlm_model.specs.declared.platform.Target.TheVariants.{Memory}
use Rattle.tlm_model.specs.Plan.{Plan}
use Rattle.base_phases.specs.declared.phases.LaneState.{LaneState}
use Rattle.base_phases.specs.declared.phases.LaneState.TheVariants.{Free, Requested}
use Rattle.base_phases.specs.Phases.{next_state}
use Rattle.token_book.specs.Purse.{Purse, left_of}
use Rattle.token_book.specs.Ticket.{IsTicket}
use Rattle.token_book.specs.declared.ticket.Ticket.{Ticket}
use Rattle.flow_model.specs.World.{HopEnds, Passage, hop_at, hop_count, row_by, row_of}
use Rattle.flow_model.specs.Events.{Event, FindsAt, IsCall}
use Rattle.flow_model.specs.Platform.{hop_in, hop_to, to_memory, world_of}
use Rattle.tlm_model.proofs.InitiatorLemmas.{initiator_from}
use Rattle.route_plan.specs.Valid as valid
use Rattle.cargo_model.specs.Called.{IsAnswerIn}
use Rattle.cargo_model.specs.Counts.{request_ends}
use Rattle.cargo_model.specs.Known.{Known, objects_of}
use Rattle.cargo_model.specs.Stops.{response_at}
use Rattle.cargo_model.specs.Tickets.{Pulls, PullsOwed}
use Rattle.cargo_model.specs.Travel.{GoesDown, IsAsked, There, with_wallet}
use Rattle.cargo_model.proofs.HopEnds.{hops_law}
use Rattle.cargo_model.proofs.Origins.{only_object}
use Rattle.cargo_net.specs.declared.fetches.FetchedRequest.{FetchedRequest}
use Rattle.cargo_net.specs.Fetched.{HasFetchedRequest}
use Rattle.cargo_net.specs.Hops.{IsLegOfLane}
use Rattle.plat_net.specs.Places.{LeadsTo, hop_place}
use Rattle.plat_net.proofs.Given.{among_at}
use Rattle.plat_net.proofs.NumberLemmas.{hop_there}
use Rattle.plat_net.proofs.Targets.{ends_stop}
use Rattle.node_hops.specs.Traits.{accepts, is_accepting}
use Rattle.target_node.specs.Items.{IsFetchedWith, IsOwedEnd, IsRequest, IsWaiting}
use Rattle.target_node.specs.declared.items.MemoryRequest.{MemoryRequest}

-- what was fetched with a ticket, and without
pub with_ticket : (frame : Frame Plan) (tokens : TableId) (memory : ℕ) (known : List (Entry Content)) (at : ℕ) (accepting : Bool) (r : MemoryRequest) (t : Ticket) → IsFetchedWith frame tokens memory known at accepting r (Some t) → (accepting ≡ true) × IsOwedEnd frame tokens memory known r × IsTicket tokens (hop_place frame.world at) t
with_ticket frame tokens memory known at true r t f = (refl, f.1, f.2)
with_ticket frame tokens memory known at false r t f = absurd f

pub with_none : (frame : Frame Plan) (tokens : TableId) (memory : ℕ) (known : List (Entry Content)) (at : ℕ) (accepting : Bool) (r : MemoryRequest) → IsFetchedWith frame tokens memory known at accepting r None → (accepting ≡ false) × IsWaiting frame tokens memory known r
with_none frame tokens memory known at true r f = absurd f
with_none frame tokens memory known at false r f = (refl, f.1)

same_hop : (a b : ℕ) → ◌≡◌ {A = ObjectNo} (Hop a) (Hop b) → a ≡ b
same_hop a b e = cc

-- the ends of a hop by which an access reaches a memory
pub ends_are : (p : Plan) (tokens : TableId) (known : List (Entry Content)) (x : TxnId) (pass : Passage) (asked : IsAsked p tokens (Known p.platform known) x pass) (k memory : ℕ) → k < hop_count pass → LeadsTo p.platform (hop_at pass k) (Memory memory)
    → hop_in p.platform (hop_at pass k) ≡ to_memory (response_at asked.initiator k) (slice_get p.platform.memories memory)
ends_are p tokens known x pass asked k memory below leads =
    let a = asked in
    let f = initiator_from 0 p.platform.initiators p.scripts x.initiator a.initiator a.is in
    let own : a.initiator.number ≡ x.initiator = f.0 ∙ none x.initiator in
    let row : slice_get p.platform.initiators a.initiator.number ≡ Some a.initiator.row = ap (slice_get p.platform.initiators) own ∙ f.1 in
    let hops = ap (λ (g : Passage). g.hops) a.way in
    let within = subst (λ (l : List ℕ). k < length l) hops below in
    let law = hops_law p.platform a.initiator a.request.address k row within in
    let here = ap (λ (l : List ℕ). hop_in p.platform (get_or l k 0)) hops in
    let stop = ends_stop p tokens known x pass a k (Memory memory) below leads in
    here ∙ law ∙ ap (hop_to p.platform (response_at a.initiator k)) stop
  where
    none : (n : ℕ) → 0 + n ≡ n
    none n = omega arith

-- its row is the memory's mode
row_plain : (b : Bool) (mode : ReqMode) (e : HopEnds) → e.to_memory ≡ true → e.req ≡ mode → row_by (b && not e.to_memory) e.req ≡ mode
row_plain b mode e t m = ap (λ (c : Bool). row_by (b && not c) e.req) t ∙ (off b e.req ∙ m)
  where
    off : (b : Bool) (mode : ReqMode) → row_by (b && false) mode ≡ mode
    off true mode = refl
    off false mode = refl

pub row_is : (p : Plan) (tokens : TableId) (known : List (Entry Content)) (x : TxnId) (pass : Passage) (asked : IsAsked p tokens (Known p.platform known) x pass) (k memory : ℕ) (row : MemoryRow) → k < hop_count pass → LeadsTo p.platform (hop_at pass k) (Memory memory)
    → slice_get p.platform.memories memory ≡ Some row → row_of (world_of p) pass k ≡ row.reply
row_is p tokens known x pass asked k memory row below leads is =
    let e = ends_are p tokens known x pass asked k memory below leads ∙ ap (to_memory (response_at asked.initiator k)) is in
    row_plain (k + 1 == hop_count pass) row.reply (hop_in p.platform (hop_at pass k)) (ap (λ (h : HopEnds). h.to_memory) e) (ap (λ (h : HopEnds). h.req) e)

module _ (frame : Frame Plan) (tokens : TableId) (known : List (Entry Content)) (hop : ℕ) (below : hop < valid.hop_count frame.world.platform) (memory : ℕ) (leads : LeadsTo frame.world.platform hop (Memory memory)) (row : MemoryRow) (is : slice_get frame.world.platform.memories memory ≡ Some row)
    (r : FetchedRequest) (h : HasFetchedRequest frame tokens (hop_place frame.world hop) r known) where
  abbrev p : Plan
  p = frame.world

  abbrev K : Event → Type 0
  K = Known p.platform known

  pub here : hop_at h.pass h.hop ≡ hop
  here = same_hop (hop_at h.pass h.hop) hop (only_object p.platform (Hop (hop_at h.pass h.hop)) (Hop hop) (among_at (objects_of p.platform) (length p.platform.memories + hop) (Hop hop) (hop_there p.platform hop below)) (sym h.place))

  lead : LeadsTo p.platform (hop_at h.pass h.hop) (Memory memory)
  lead = subst (λ (n : ℕ). LeadsTo p.platform n (Memory memory)) (sym here) leads

  mode : row_of (world_of p) h.pass h.hop ≡ row.reply
  mode = row_is p tokens known r.txn h.pass h.down.asked h.hop memory row h.down.held.below lead is

  -- a ticket of the hop is in the payload's wallet
  pub paid : 0 < left_of r.cargo.baton.wallet (hop_place p hop)
  paid = let l = (h.down.tickets.hops h.hop h.down.held.below).here refl in subst (λ (n : ℕ). 0 < left_of r.cargo.baton.wallet n) (sym h.place) (omega (arith, l))

  -- the request, once the ticket of END_REQ was pulled where it is owed
  abbrev pub taken : Purse → MemoryRequest
  taken after = record { hop = hop; leg = r.leg; at = r.at; cargo = with_wallet r.cargo after }

  request_is : (after : Purse) (state : LaneState) → r.state ≡ state → PullsOwed tokens (request_ends (row_of (world_of p) h.pass h.hop)) (hop_place p hop) r.cargo.baton.wallet after → IsRequest frame tokens memory known (taken after) h.pass h.hop state
  request_is after state same pulls =
      let txn : r.txn ≡ r.cargo.baton.txn = sym h.down.held.txn in
      record {
        here = here;
        leads = leads;
        fetched = (let d : GoesDown p tokens K r.cargo.baton.txn h.pass There h.hop r.cargo = subst (λ (x : TxnId). GoesDown p tokens K x h.pass There h.hop r.cargo) txn h.down in
            record { before = r.cargo.baton.wallet; down = d; pulled = subst (λ (n : ℕ). PullsOwed tokens (request_ends (row_of (world_of p) h.pass h.hop)) n r.cargo.baton.wallet after) h.place pulls });
        leg_of = subst (λ (s : LaneState). IsLegOfLane frame tokens (hop_place p hop) known r.cargo.baton.txn s r.leg) same (subst (λ (x : TxnId). IsLegOfLane frame tokens (hop_place p hop) known x r.state r.leg) txn h.leg_of);
        answer = h.answer;
        begun = subst (λ (x : TxnId). FindsAt K (IsCall x (hop_at h.pass h.hop) BeginReq h.answer) r.at) txn h.begun;
        fits = h.fits;
        responds = h.responds;
      }

  -- the mode is that END_REQ is a call of its own
  accept_is : (m : ReqMode) → true ≡ accepts m → m ≡ Accept
  accept_is Accept q = refl
  accept_is Short q = cc
  accept_is end_req q = cc
  accept_is begin_resp q = cc
  accept_is Complete q = cc

  other_is : (m : ReqMode) → false ≡ accepts m → m ≢ Accept
  other_is m q e = (let t : false ≡ true = q ∙ ap accepts e in cc)

  no_end : (m : ReqMode) → false ≡ accepts m → request_ends m ≡ 0
  no_end Accept q = cc
  no_end Short q = refl
  no_end end_req q = refl
  no_end begin_resp q = refl
  no_end Complete q = refl

  requested : h.answer ≡ Accepted → r.state ≡ Requested
  requested a = some_is r.state (sym (ap (next_state Free BeginReq) a) ∙ h.leads)
    where
      some_is : (s : LaneState) → Some Requested ≡ Some s → s ≡ Requested
      some_is s q = cc

  accepted : (m : ReqMode) → m ≡ Accept → IsAnswerIn m h.answer → h.answer ≡ Accepted
  accepted m q f = subst (λ (n : ReqMode). IsAnswerIn n h.answer) q f

  pub owed_is : (after : Purse) (ticket : Ticket) → true ≡ is_accepting p.platform (Memory memory) → Pulls tokens (hop_place p hop) 0 r.cargo.baton.wallet after → IsTicket tokens (hop_place p hop) ticket → IsFetchedWith frame tokens memory known hop true (taken after) (Some ticket)
  owed_is after ticket on pulls of =
      let m : row.reply ≡ Accept = accept_is row.reply (on ∙ ap (λ (o : Option MemoryRow). accepts (to_memory accept_response o).rules.req) is) in
      let owes : row_of (world_of p) h.pass h.hop ≡ Accept = mode ∙ m in
      let state = requested (accepted (row_of (world_of p) h.pass h.hop) owes h.fits) in
      (refl, record { pass = h.pass; hop = h.hop; request = request_is after Requested state (record { none = λ q. absurd (let e = ap request_ends owes in omega (arith, e, q)); one = λ q. pulls }); row = owes }, of)

  pub waiting_is : false ≡ is_accepting p.platform (Memory memory) → IsFetchedWith frame tokens memory known hop false (taken r.cargo.baton.wallet) None
  waiting_is off =
      let m : false ≡ accepts row.reply = off ∙ ap (λ (o : Option MemoryRow). accepts (to_memory accept_response o).rules.req) is in
      let ends : request_ends (row_of (world_of p) h.pass h.hop) ≡ 0 = ap request_ends mode ∙ no_end row.reply m in (
        refl,
        record {
          pass = h.pass;
          hop = h.hop;
          state = r.state;
          request = request_is r.cargo.baton.wallet r.state refl (record { none = λ q. refl; one = λ q. absurd (omega (arith, ends, q)) });
          open_lane = h.open_lane;
          ended = λ q. absurd (other_is row.reply m (sym mode ∙ q));
        },
      )
