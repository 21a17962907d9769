-- What a call adds.
use Rattle.std.proofs.Common.{◌≡◌, ℕ, ◌+◌, List, [], ◌∷◌, length, map, Bool, true, false, Option, Some, None, refl, sym, ap, subst, ◌∙◌}
use Rattle.std.specs.Prelude.{◌&&◌, not}
use Rattle.atomic_table.specs.Seated.{TableId}
use Rattle.view_lists.specs.Lists.{Has, Within}
use Rattle.view_lists.proofs.Members.{has_mapped, has_right}
use Rattle.one_history.specs.declared.view.Frame.{Frame}
use Rattle.one_history.specs.declared.view.View.{View}
use Rattle.tlm_types.specs.declared.entry.Content.{Content}
use Rattle.tlm_types.specs.declared.words.TxnId.{TxnId}
use Rattle.tlm_model.specs.Plan.{Plan}
use Rattle.token_book.specs.Account.{Slip}
use Rattle.shared_object.specs.Steps.{Enters}
use Rattle.shared_object.specs.Written.{Written, noted, placed, wrote}
use Rattle.generic_payload.specs.Payload.{PayloadView}
use Rattle.region_object.specs.declared.call.RegionCall.{RegionCall}
use Rattle.region_object.specs.declared.call.RegionCall.TheVariants as Calls
use Rattle.region_object.specs.declared.call.RegionReply.{RegionReply}
use Rattle.region_object.specs.Call.{txn_of}
use Rattle.region_object.specs.Region.{LoggedMemory, after_call, region_entry, with_logged}
use Rattle.region_object.specs.Written.{content_of as memory_content, written_from}
use Rattle.region_object.proofs.Written.{written_from-more}
use Rattle.hop_object.specs.View.{HopView}
use Rattle.hop_object.specs.Calls.{AnswersRequest, AnswersResponse}
use Rattle.hop_object.specs.Hops.{can_begin}
use Rattle.hop_object.specs.Lanes.{any_responding, has_leg}
use Rattle.hop_object.specs.Objects.{Applied, content_by, is_admitted, knows}
use Rattle.hop_object.specs.declared.call.Begun.{Begun as BeginAnswer}
use Rattle.hop_object.specs.declared.call.HopCall.{HopCall}
use Rattle.hop_object.specs.declared.call.HopCall.TheVariants.{BeginReq, BeginResp, EndReq, EndResp, Ended as AskEnded, FetchDown, FetchUp}
use Rattle.hop_object.specs.declared.call.HopReply.{HopReply}
use Rattle.hop_object.specs.declared.call.HopReply.TheVariants.{Begun, Down, Ended, EndedReq, EndedResp, Responded, Up}
use Rattle.hop_object.specs.declared.call.Responded.{Responded as RespondAnswer}
use Rattle.hop_object.proofs.Places.{found_any}
use Rattle.payload_pool.specs.Calls.{Applied as PoolApplied, admitted, content_of as pool_content}
use Rattle.payload_pool.specs.Pool.{PoolView}
use Rattle.payload_pool.specs.declared.baton.Baton.{Baton}
use Rattle.payload_pool.specs.declared.call.PoolCall.{PoolCall}
use Rattle.payload_pool.specs.declared.call.PoolCall.TheVariants.{Acquire, Live as AskLive, Release, Stow, Take}
use Rattle.payload_pool.specs.declared.call.PoolReply.{PoolReply}
use Rattle.payload_pool.specs.declared.call.PoolReply.TheVariants.{Acquired, Live, Released, Took}
use Rattle.cargo_model.specs.declared.cargo.Cargo.{Cargo}
use Rattle.cargo_net.specs.declared.forwards.Forwarded.{Forwarded}
use Rattle.cargo_net.specs.declared.forwards.Forwarded.TheVariants as forwarded
use Rattle.cargo_net.specs.Forwards.{HasForwarded}
use Rattle.cargo_net.specs.Hops.{HasAnswered}
use Rattle.cargo_net.specs.Memories.{HasServedCall}
use Rattle.cargo_net.specs.Pools.{HasPooled}
use Rattle.plat_net.specs.Calls.{IsCalled, entries_of}
use Rattle.node_hops.specs.Laws.{IsForwardMade, IsMadeInPool, IsMadeOnHop, IsOfTransport}
use Rattle.node_hops.specs.Steps.{AddsAt, AddsOf}
use Rattle.node_hops.proofs.News.{added_more}

no_bool : true ≡ false → ⊥
no_bool e = cc

-- the entry of a call that was taken
pub entered : (frame : Frame Plan) (number : ℕ) (before after : List Written) (taken : Bool) (content : Content) (note back : View Content Plan) (z : Option ℕ) → Enters frame number before after taken content note back z → taken ≡ true → AddsOf number content.txn note back
entered frame number before after taken content note back None e is = absurd (no_bool (sym is ∙ e.when))
entered frame number before after taken content note back (Some z) e is =
    let w = wrote z content in
    let there : Has after w = subst (λ (l : List Written). Has l w) (sym e.log) (has_right before (w ∷ []) w (0, refl)) in
    let late = e.late in
    record {
      added = record { entry = placed number w; has = e.knows (placed number w) (has_mapped (placed number) after w there); late = late.0; object = refl };
      txn = refl;
    }

-- a hop has taken each call by whose reply it has made an entry
begin_taken : (v w : HopView Cargo) (position : ℕ) (x : TxnId) (at : ℕ) (item : Cargo) (answer : BeginAnswer Cargo) → AnswersRequest v position x at item w answer → IsMadeOnHop (Begun answer) → can_begin v ≡ true
begin_taken v w position x at item answer a made = go (can_begin v) refl
  where
    go : (b : Bool) → can_begin v ≡ b → can_begin v ≡ true
    go true q = q
    go false q = let refused = a.busy q in absurd (subst (λ (r : BeginAnswer Cargo). IsMadeOnHop (Begun r)) refused.1 made)

response_taken : (v w : HopView Cargo) (leg : Slip) (position at : ℕ) (item : Cargo) (answer : RespondAnswer Cargo) → AnswersResponse v leg position at item w answer → IsMadeOnHop (Responded answer) → (knows v leg && not (any_responding v.lanes)) ≡ true
response_taken v w leg position at item answer a made = go (any_responding v.lanes) refl
  where
    go : (b : Bool) → any_responding v.lanes ≡ b → (knows v leg && not (any_responding v.lanes)) ≡ true
    go true q = let refused = a.busy q in absurd (subst (λ (r : RespondAnswer Cargo). IsMadeOnHop (Responded r)) refused.answer_is made)
    go false q =
        let r = a.sent q in
        let there : knows v leg ≡ true = found_any (has_leg leg.name) v.lanes r.lane r.leg_is in
        ap (λ (b : Bool). b && not (any_responding v.lanes)) there ∙ ap (λ (b : Bool). true && not b) q

hop_taken : (v w : HopView Cargo) (position : ℕ) (call : HopCall Cargo) (reply : HopReply Cargo) → Applied v position call reply w → IsMadeOnHop reply → is_admitted v call ≡ true
hop_taken v w position (BeginReq x at item) (Begun answer) a made = begin_taken v w position x at item answer a made
hop_taken v w position (EndReq leg at) (EndedReq next time) a made = found_any (has_leg leg.name) v.lanes a.lane a.leg_is
hop_taken v w position (BeginResp leg at item) (Responded answer) a made = response_taken v w leg position at item answer a made
hop_taken v w position (EndResp leg at) (EndedResp time) a made = found_any (has_leg leg.name) v.lanes a.lane a.leg_is
hop_taken v w position FetchDown (Down fetched) a made = absurd made
hop_taken v w position FetchUp (Up fetched) a made = absurd made
hop_taken v w position (AskEnded x) (Ended answer) a made = absurd made
hop_taken v w position call reply a made = absurd a

pub hop_adds : (frame : Frame Plan) (tokens : TableId) (number own : ℕ) (note back : View Content Plan) (call : HopCall Cargo) (reply : HopReply Cargo) → HasAnswered frame tokens number own note back call reply → IsMadeOnHop reply → AddsAt number note back
hop_adds frame tokens number own note back call reply a made =
    let added = entered frame number _ _ (is_admitted a.before call) (content_by a.before call) note back a.position a.enters (hop_taken a.before a.after _ call reply a.applied made) in
    added.added

pub begin_adds : (frame : Frame Plan) (tokens : TableId) (number own : ℕ) (note back : View Content Plan) (x : TxnId) (at : ℕ) (item : Cargo) (answer : BeginAnswer Cargo) → HasAnswered frame tokens number own note back (BeginReq x at item) (Begun answer) → IsMadeOnHop (Begun answer) → AddsOf number x note back
begin_adds frame tokens number own note back x at item answer a made =
    entered frame number _ _ (is_admitted a.before (BeginReq x at item)) (content_by a.before (BeginReq x at item)) note back a.position a.enters (hop_taken a.before a.after _ (BeginReq x at item) (Begun answer) a.applied made)

pub forward_adds : (frame : Frame Plan) (tokens : TableId) (number own : ℕ) (c : Cargo) (at : ℕ) (note back : View Content Plan) (answer : Forwarded) → HasForwarded frame tokens number own c at note back answer → IsForwardMade answer → AddsOf number c.baton.txn note back
forward_adds frame tokens number own c at note back (forwarded.Left answer time left) f made = added_more number c.baton.txn note f.stepped back f.knew (begin_adds frame tokens number own note f.stepped c.baton.txn at _ _ f.answered tt)
forward_adds frame tokens number own c at note back (forwarded.Now answer time due leg cargo left) f made = added_more number c.baton.txn note f.stepped back f.knew (begin_adds frame tokens number own note f.stepped c.baton.txn at _ _ f.answered tt)
forward_adds frame tokens number own c at note back (forwarded.Busy holder live cargo left) f made = absurd made

-- a pool has taken each call by whose reply it has made an entry
pool_taken : (v w : PoolView) (position : ℕ) (call : PoolCall) (reply : PoolReply) → PoolApplied v position call reply w → IsMadeInPool reply → admitted v call ≡ true
pool_taken v w position (Take x at) (Took (Some baton)) a made = a.0
pool_taken v w position (Take x at) (Took None) a made = absurd made
pool_taken v w position (Acquire baton at) (Acquired next hold) a made = a.was
pool_taken v w position (Release hold at) (Released freed) a made = a.was
pool_taken v w position (Stow baton at) (Released freed) a made = a.was
pool_taken v w position AskLive (Live live) a made = absurd made
pool_taken v w position call reply a made = absurd a

pub pool_adds : (frame : Frame Plan) (tokens : TableId) (number own : ℕ) (note back : View Content Plan) (call : PoolCall) (reply : PoolReply) → HasPooled frame tokens number own note back call reply → IsMadeInPool reply → AddsAt number note back
pool_adds frame tokens number own note back call reply a made =
    let added = entered frame number _ _ (admitted a.before call) (pool_content a.before call) note back a.position a.enters (pool_taken a.before a.after _ call reply a.applied made) in
    added.added

pub take_adds : (frame : Frame Plan) (tokens : TableId) (number own : ℕ) (note back : View Content Plan) (x : TxnId) (at : ℕ) (baton : Baton) → HasPooled frame tokens number own note back (Take x at) (Took (Some baton)) → AddsOf number x note back
take_adds frame tokens number own note back x at baton a =
    entered frame number _ _ (admitted a.before (Take x at)) (pool_content a.before (Take x at)) note back a.position a.enters (pool_taken a.before a.after _ (Take x at) (Took (Some baton)) a.applied tt)

-- a memory takes each call
pub serve_adds : (frame : Frame Plan) (tokens : TableId) (number own : ℕ) (note back : View Content Plan) (call : RegionCall) (reply : RegionReply) → HasServedCall frame tokens number own note back call reply → AddsOf number (txn_of call) note back
serve_adds frame tokens number own note back call reply a = entered frame number _ _ true (memory_content a.before call) note back a.position a.enters refl

-- the last entry of a log
logged_last : (m : LoggedMemory) (position : ℕ) (call : RegionCall) → Has (entries_of (with_logged m (region_entry m position call))) (noted (0 + length m.log.entries) (region_entry m position call))
logged_last m position call =
    let e = region_entry m position call in
    let w = noted (0 + length m.log.entries) e in
    subst (λ (l : List Written). Has l w) (sym (written_from-more 0 m.log.entries e)) (has_right (written_from 0 m.log.entries) (w ∷ []) w (0, refl))

called_as : (p : Plan) (m : ℕ) (call : RegionCall) (note back : View Content Plan) (payload : PayloadView) (c : IsCalled p m call note back payload) → after_call c.memory c.position call ≡ with_logged c.memory (region_entry c.memory c.position call) → AddsOf m (txn_of call) note back
called_as p m call note back payload c taken =
    let after = with_logged c.memory (region_entry c.memory c.position call) in
    let w = noted (0 + length c.memory.log.entries) (region_entry c.memory c.position call) in
    let knows = subst (λ (x : LoggedMemory). Within (map (placed m) (entries_of x)) back.known) taken c.knows in
    record {
      added = record { entry = placed m w; has = knows (placed m w) (has_mapped (placed m) (entries_of after) w (logged_last c.memory c.position call)); late = c.late; object = refl };
      txn = refl;
    }

pub call_adds : (p : Plan) (m : ℕ) (call : RegionCall) (note back : View Content Plan) (payload : PayloadView) → IsCalled p m call note back payload → IsOfTransport call → AddsOf m (txn_of call) note back
call_adds p m (Calls.Access txn time way sent) note back payload c of = called_as p m (Calls.Access txn time way sent) note back payload c refl
call_adds p m (Calls.Debug txn time sent) note back payload c of = called_as p m (Calls.Debug txn time sent) note back payload c refl
call_adds p m call note back payload c of = absurd of
