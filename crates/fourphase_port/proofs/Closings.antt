-- A port that tells an invalidation and closes the grants that it ends is a port again once it has returned.
use Rattle.std.proofs.Common.{◌≡◌, ℕ, ◌<◌, ◌≤◌, false, length, Some, None, refl, sym, ap, ◌∙◌, subst, arith}
use Rattle.atomic_table.specs.Seated.{TableId}
use Rattle.view_lists.specs.Lists.{Within}
use Rattle.one_history.specs.Held.{Held}
use Rattle.one_history.specs.declared.view.Frame.{Frame}
use Rattle.shared_object.specs.Steps.{IsNote}
use Rattle.shared_object.specs.Written.{written_at}
use Rattle.token_book.specs.Purse.{IsOf, Purse, empty_purse, left_of}
use Rattle.tlm_types.specs.declared.entry.Content.{Content}
use Rattle.tlm_types.specs.declared.words.TxnId.{TxnId}
use Rattle.tlm_model.specs.Plan.{Plan}
use Rattle.joined_traffic.specs.Accesses.{txn_of}
use Rattle.route_plan.specs.declared.step.Route.{Route}
use Rattle.script_engine.specs.declared.part.Part.TheVariants.{Invalidates}
use Rattle.script_engine.specs.Part.{is_fenced_part}
use Rattle.script_engine.specs.State.{next_of, op_of, passed_by}
use Rattle.plat_net.specs.Calls.{HasNoPassage, route_at}
use Rattle.dmi_grants.specs.Invalidating.{HasInvalidated, IsToldIn}
use Rattle.dmi_grants.specs.Made.{IsRoomyFor, unclosed}
use Rattle.dmi_grants.specs.Revoking.{HasRevoked as HasReturned, IsRevoking}
use Rattle.dmi_grants.specs.declared.invalidation.Revocation.{Revocation}
use Rattle.dmi_grants.proofs.Revoking.{revoking_can_pay, revoking_goes_on, revoking_is_told}
use Rattle.port_model.specs.Issues.{IsWaitingOp, IsWaitingPart}
use Rattle.port_model.specs.Laws.{HasSettled}
use Rattle.port_model.specs.Way.{Port}
use Rattle.port_moves.specs.Moves.{Settles}
use Rattle.port_moves.specs.Returned.{TakesAll, with_port}
use Rattle.port_moves.specs.State.{IsPort, StateView, with_note}
use Rattle.port_moves.proofs.Scripts.{has_settled}
use Rattle.fourphase_port.specs.Closing.{IsClosing, IsToTell}
use Rattle.fourphase_port.specs.Moves.{last_place}
use Rattle.fourphase_port.specs.Revoking.{HasRevoked, MayRevoke, Revokes}
use Rattle.fourphase_port.specs.declared.closes.Told.{Told}
use Rattle.fourphase_port.proofs.Revoked.{may_revoke, no_fence, revoked_as, seq_is, state_as}

same_route : (a b : Route) → Some a ≡ Some b → a ≡ b
same_route a b q = cc

no_route : {A : Type 0} (r : Route) → Some r ≡ None → A
no_route r q = cc

pub tell_waits : (p : Plan) (s : StateView) (t : Told) → IsToTell p s t → IsWaitingOp (op_of s.port.engine)
tell_waits p s t to = subst IsWaitingPart (sym to.next_is) tt

-- it is told once the time is settled
module _ (table tokens : TableId) (frame : Frame Plan) (s : StateView) (note : Held Content Plan) (p : IsPort table tokens frame (with_note s note)) (t : Told) (to : IsToTell frame.world s t) (mid : StateView) (settles : Settles s mid)
    (port : IsPort table tokens frame (with_note mid note)) where
  abbrev n : ℕ
  n = mid.port.engine.initiator

  abbrev x : TxnId
  x = txn_of n mid.port.engine.seq

  pub settled : HasSettled mid.port
  settled = has_settled table tokens frame s note p to.free.0 to.free.1 mid settles

  pub same_engine : mid.port.engine ≡ s.port.engine
  same_engine = ap (λ (q : Port). q.engine) settles.port

  abbrev pub still_to_tell : (w : Purse) → IsToTell frame.world (record mid { wallet = w }) t
  still_to_tell w = record {
    free = (settles.rest.hand ∙ to.free.0, settles.rest.held ∙ to.free.1);
    alone = ap (λ (q : Port). length q.away) settles.port ∙ to.alone;
    address = to.address;
    next_is = ap next_of same_engine ∙ to.next_is;
    routed = ap (λ (k : ℕ). route_at frame.world k to.address) (ap (λ (e : _). e.initiator) same_engine) ∙ to.routed;
  }

  abbrev its_next : next_of mid.port.engine ≡ Invalidates t.seq to.address t.count
  its_next = (still_to_tell mid.wallet).next_is

  abbrev its_route : route_at frame.world n to.address ≡ Some t.route
  its_route = (still_to_tell mid.wallet).routed

  may : MayRevoke tokens frame n x to.address note mid.wallet
  may = may_revoke table tokens frame mid note port settled t.seq to.address t.count its_next

  pub tell_memory : t.route.memory < length frame.world.platform.memories
  tell_memory = may.memory t.route its_route

  pub tell_txn : (who : ℕ) → who ≡ n → txn_of who t.seq ≡ x
  tell_txn who is = ap (λ (k : ℕ). txn_of k t.seq) is ∙ ap (txn_of n) (seq_is table tokens frame mid note port settled t.seq to.address t.count its_next)

  pub tell_passage : (y : TxnId) → y ≡ x → HasNoPassage frame.world y
  tell_passage y is = subst (HasNoPassage frame.world) (sym is) may.passage

  pub tell_room : (w : Purse) → w ≡ mid.wallet → IsRoomyFor t.route.memory w
  tell_room w is = subst (IsRoomyFor t.route.memory) (sym is) (may.room t.route its_route)

  pub tell_ticket : (w : Purse) → w ≡ mid.wallet → 0 < left_of w t.route.memory
  tell_ticket w is = subst (λ (u : Purse). 0 < left_of u t.route.memory) (sym is) (let l = may.tickets t.route its_route in omega (arith, l))

  pub closing_by : (new : StateView) (w start : Purse) (r : Revocation) (back : Held Content Plan) (y : TxnId) (at last : ℕ) → new ≡ record mid { wallet = w } → start ≡ mid.wallet → y ≡ x → at ≡ mid.port.time → last ≡ last_place t.route.offset t.count
      → r ≡ record { memory = t.route.memory; first = t.route.offset; last = last; position = r.position; txn = y; at = at } → IsRevoking frame r note.knows back.knows start w → IsOf tokens w → IsRoomyFor t.route.memory w → IsClosing table tokens frame new r back
  closing_by new w start r back y at last is from txn time end fields revoking of room = subst (λ (v : StateView). IsClosing table tokens frame v r back) (sym is) (record {
    began = note;
    start = mid.wallet;
    port = port;
    settled = settled;
    told = t;
    to_tell = still_to_tell w;
    memory = memory;
    first = ap (λ (z : Revocation). z.first) fields;
    last = ap (λ (z : Revocation). z.last) fields ∙ end;
    txn = ap (λ (z : Revocation). z.txn) fields ∙ txn;
    at = ap (λ (z : Revocation). z.at) fields ∙ time;
    revoking = subst (λ (u : Purse). IsRevoking frame r note.knows back.knows u w) from revoking;
    wallet_of = of;
    room = subst (λ (m : ℕ). IsRoomyFor m w) (sym memory) room;
  })
    where
      memory : r.memory ≡ t.route.memory
      memory = ap (λ (z : Revocation). z.memory) fields

module _ (table tokens : TableId) (frame : Frame Plan) (s : StateView) (r : Revocation) (note : Held Content Plan) (c : IsClosing table tokens frame s r note) where
  abbrev k : ℕ
  k = s.port.engine.initiator

  abbrev own : TxnId
  own = txn_of k s.port.engine.seq

  abbrev begun : StateView
  begun = record s { wallet = c.start }

  abbrev address : ℕ
  address = c.to_tell.address

  might : MayRevoke tokens frame k own address c.began c.start
  might = may_revoke table tokens frame begun c.began c.port c.settled c.told.seq address c.told.count c.to_tell.next_is

  -- its next grant may be ended
  pub close_memory : r.memory < length frame.world.platform.memories
  close_memory = subst (λ (m : ℕ). m < length frame.world.platform.memories) (sym c.memory) (might.memory c.told.route c.to_tell.routed)

  pub close_passage : HasNoPassage frame.world r.txn
  close_passage = subst (HasNoPassage frame.world) (sym c.txn) might.passage

  pub close_told : IsToldIn (written_at r.memory note.knows.known) r.first r.last r.position
  close_told = (revoking_is_told frame r c.began.knows note.knows c.start s.wallet c.revoking).1

  pub close_tickets : (w : Purse) → w ≡ s.wallet → unclosed frame.world r.memory (written_at r.memory note.knows.known) ≤ left_of w r.memory
  close_tickets w is = subst (λ (u : Purse). unclosed frame.world r.memory (written_at r.memory note.knows.known) ≤ left_of u r.memory) (sym is)
      (revoking_can_pay frame r c.began.knows note.knows c.start s.wallet
      (subst (λ (m : ℕ). unclosed frame.world m (written_at m c.began.knows.known) < left_of c.start m) (sym c.memory) (might.tickets c.told.route c.to_tell.routed)) c.revoking)

  -- what the invalidation has come to, where the state has another wallet
  pub closes_on : (new : StateView) (back : Held Content Plan) (w : Purse) → new ≡ record s { wallet = w } → IsRevoking frame r c.began.knows back.knows c.start w → IsOf tokens w → IsRoomyFor r.memory w → IsClosing table tokens frame new r back
  closes_on new back w is revoking of room = subst (λ (v : StateView). IsClosing table tokens frame v r back) (sym is) (record {
    began = c.began;
    start = c.start;
    port = c.port;
    settled = c.settled;
    told = c.told;
    to_tell = (let t = c.to_tell in record { free = t.free; alone = t.alone; address = t.address; next_is = t.next_is; routed = t.routed });
    memory = c.memory;
    first = c.first;
    last = c.last;
    txn = c.txn;
    at = c.at;
    revoking = revoking;
    wallet_of = of;
    room = room;
  })

  -- it stays so while others make entries
  pub closing_more : (back : Held Content Plan) → Within note.knows.known back.knows.known → IsClosing table tokens frame s r back
  closing_more back knew = closes_on s back s.wallet refl (revoking_goes_on frame r c.began.knows note.knows back.knows c.start s.wallet c.revoking knew) c.wallet_of c.room

  -- it may be passed
  pub close_passes : (new : StateView) → new.port ≡ s.port → is_fenced_part (next_of new.port.engine) ≡ false
  close_passes new is = ap (λ (q : Port). is_fenced_part (next_of q.engine)) is ∙ no_fence table tokens frame begun c.began c.port c.settled c.told.seq address c.told.count c.to_tell.next_is

  -- by what it has done once it has returned
  module _ (back : Held Content Plan) (of : IsNote table back) (spent w : Purse) (returned : HasReturned frame r c.began.knows back.knows c.start spent) (takes : TakesAll tokens spent (empty_purse 1) w) where
    invalidated : HasInvalidated frame c.told.route.memory own s.port.time c.told.route.offset (last_place c.told.route.offset c.told.count) c.began.knows back.knows c.start spent
    invalidated =
        subst (λ (y : ℕ). HasInvalidated frame c.told.route.memory own s.port.time c.told.route.offset y c.began.knows back.knows c.start spent) c.last
        (subst (λ (y : ℕ). HasInvalidated frame c.told.route.memory own s.port.time y r.last c.began.knows back.knows c.start spent) c.first
        (subst (λ (y : ℕ). HasInvalidated frame c.told.route.memory own y r.first r.last c.began.knows back.knows c.start spent) c.at
        (subst (λ (y : TxnId). HasInvalidated frame c.told.route.memory y r.at r.first r.last c.began.knows back.knows c.start spent) c.txn
        (subst (λ (y : ℕ). HasInvalidated frame y r.txn r.at r.first r.last c.began.knows back.knows c.start spent) c.memory returned))))

    revokes : Revokes tokens frame k own s.port.time address c.told.count c.began back c.start w
    revokes = record {
      called = λ q e. subst (λ (z : Route). HasRevoked tokens frame z own s.port.time c.told.count c.began back c.start w) (same_route c.told.route q (sym c.to_tell.routed ∙ e)) (record { spent = spent; called = invalidated; takes = takes });
      none = λ e. no_route c.told.route (sym c.to_tell.routed ∙ e);
    }

    pub closed_port : (tidied new : StateView) → tidied ≡ record s { wallet = w } → new ≡ (let port = tidied.port in with_port tidied (record port { engine = passed_by port.engine })) → IsPort table tokens frame (with_note new back)
    closed_port tidied new tidy passed =
        revoked_as table tokens frame begun c.began c.port c.settled c.told.seq address c.told.count c.to_tell.next_is back of w revokes c.to_tell.free.0 new
        (state_as table tokens frame begun c.began c.port c.settled c.told.seq address c.told.count c.to_tell.next_is tidied new w tidy passed)
