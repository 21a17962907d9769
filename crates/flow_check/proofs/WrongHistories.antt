-- Wrong histories miss a point.
use Rattle.std.proofs.Common.{◌≡◌, ℕ, zero, suc, ◌+◌, ◌<◌, ◌≤◌, List, [], ◌∷◌, Option, Some, true, false, Bool, refl, ap, sym, ◌∙◌, arith, inl, inr, lit<}
use Rattle.std.specs.Prelude.{slice_get}
use Rattle.tlm_types.specs.declared.words.Phase.{Phase}
use Rattle.tlm_types.specs.declared.words.Phase.TheVariants.{BeginReq, EndReq, BeginResp, EndResp}
use Rattle.tlm_types.specs.declared.words.TlmSync.{TlmSync}
use Rattle.tlm_types.specs.declared.words.TlmSync.TheVariants.{Accepted, Updated, Completed}
use Rattle.tlm_types.specs.declared.words.TxnId.{TxnId}
use Rattle.tlm_types.specs.declared.words.ReqMode.TheVariants as Req
use Rattle.tlm_types.specs.declared.words.RespMode.TheVariants as Resp
use Rattle.tlm_types.specs.declared.words.Way.{Way}
use Rattle.tlm_types.specs.declared.words.Response.{Response}
use Rattle.tlm_types.specs.declared.entry.Access.{Access}
use Rattle.tlm_model.specs.Route.{later}
use Rattle.tlm_types.specs.declared.entry.What.TheVariants.{Access as Accessed, Call, Take, Acquire}
use Rattle.base_phases.specs.declared.phases.LaneState.{LaneState}
use Rattle.base_phases.specs.declared.phases.LaneState.TheVariants.{Free, Responding}
use Rattle.base_phases.proofs.WalkLemmas.{whole_free}
use Rattle.flow_model.specs.Events.{Event, Among, IsAcquire, IsPhase, entries, numbered}
use Rattle.flow_model.specs.Numbers.{NumberOf}
use Rattle.flow_model.specs.Platform.{world_of}
use Rattle.flow_model.specs.Traffic.{FollowsPhases, HasFreedPayloads, HasPhaseTimes, HasWholeSequences, IsExclusive, KeepsPools, PassesHops}
use Rattle.flow_check.specs.Worked.{acquire, call, take, written, early_access, ended_below_first, freed_twice, hasty_response, kept, lone, request_doubled, request_unended, routed_plan, unended, unreferenced, wrongly_answered}

first : TxnId
first = record { initiator = 0; seq = 0 }

not_take : (s : ℕ) (p : Phase) (a : TlmSync) → Take s ≡ Call p a → ⊥
not_take s p a q = cc

not_acquire : (s : ℕ) (p : Phase) (a : TlmSync) → Acquire s ≡ Call p a → ⊥
not_acquire s p a q = cc

not_access : (way : Way) (access : Access) (status : Response) (got : List ℕ) (p : Phase) (a : TlmSync) → Accessed way access status got ≡ Call p a → ⊥
not_access way access status got p a q = cc

take_no_acquire : (s k : ℕ) → Take s ≡ Acquire k → ⊥
take_no_acquire s k q = cc

pub early_access_wrong : ¬ PassesHops (lone Req.Accept Resp.Accept) (entries early_access)
unfolding lone early_access
early_access_wrong p = go (p.orders.1.1.0.begun 0 refl).known (p.orders.1.1.0.begun 0 refl).is
  where
    go : {e : Event} → Among (take 0 0 ∷ acquire 1 0 0 ∷ []) e → IsPhase (record { initiator = 0; seq = 0 }) 0 BeginReq e → ⊥
    go (inl q) i = not_take 0 BeginReq i.answer (ap (λ (d : Event). d.what) q ∙ i.call.what)
    go (inr (inl q)) i = not_acquire 0 BeginReq i.answer (ap (λ (d : Event). d.what) q ∙ i.call.what)
    go (inr (inr q)) i = q

pub unreferenced_wrong : ¬ PassesHops (lone Req.Accept Resp.Accept) (entries unreferenced)
unfolding lone unreferenced
unreferenced_wrong p = go p.orders.1.0.order.acquired.known p.orders.1.0.order.acquired.is
  where
    go : {e : Event} {k : ℕ} → Among (take 0 0 ∷ []) e → IsAcquire (record { initiator = 0; seq = 0 }) k e → ⊥
    go (inl q) i = take_no_acquire 0 i.slot (ap (λ (d : Event). d.what) q ∙ i.what)
    go (inr q) i = q

second : {X : Type 0} (a b c d : X) (m n : List X) → a ∷ b ∷ m ≡ c ∷ d ∷ n → b ≡ d
second a b c d m n q = cc

pub request_unended_wrong : ¬ FollowsPhases (lone Req.Accept Resp.Accept) (entries request_unended)
unfolding lone request_unended
request_unended_wrong p = go (p.table (record { initiator = 0; seq = 0 }) _ refl 0 (lit< tt)).0 (p.table (record { initiator = 0; seq = 0 }) _ refl 0 (lit< tt)).1 (p.table (record { initiator = 0; seq = 0 }) _ refl 0 (lit< tt)).2
  where
    apart : ◌≡◌ {A = Phase} EndReq BeginResp → ⊥
    apart q = cc

    some_same : (a b : List (Phase × TlmSync)) → Some a ≡ Some b → a ≡ b
    some_same a b q = cc

    go : (k : ℕ) (rest : List (Phase × TlmSync)) → slice_get (((BeginReq, Accepted) ∷ (EndReq, Accepted) ∷ (BeginResp, Accepted) ∷ (EndResp, Completed) ∷ []) ∷ []) k ≡ Some ((BeginReq, Accepted) ∷ (BeginResp, Accepted) ∷ rest) → ⊥
    go zero rest q = apart (ap (λ (z : Phase × TlmSync). z.0) (second _ _ _ _ _ _ (some_same _ _ q)))
    go (suc k) rest q = cc

pub wrongly_answered_wrong : ¬ FollowsPhases (lone Req.Accept Resp.Accept) (entries wrongly_answered)
unfolding lone wrongly_answered
wrongly_answered_wrong p = apart (p.modes 0).0.0
  where
    apart : ◌≡◌ {A = TlmSync} (Updated EndReq) Accepted → ⊥
    apart q = cc

pub request_doubled_wrong : ¬ IsExclusive (lone Req.Accept Resp.Accept) (entries request_doubled)
unfolding lone request_doubled
request_doubled_wrong p = apart ((p.hops 0).requests.1.0 (record { initiator = 0; seq = 0 }) refl)
  where
    apart : ◌≡◌ {A = Bool} true false → ⊥
    apart q = cc

pub freed_twice_wrong : ¬ KeepsPools (lone Req.Accept Resp.Accept) (entries freed_twice)
unfolding lone freed_twice
freed_twice_wrong p = (p.counts 0).1.1.1.1.0

pub kept_wrong : ¬ KeepsPools (lone Req.Accept Resp.Accept) (entries kept)
unfolding lone kept
kept_wrong p = apart (p.counts 0).1.0.1
  where
    apart : ◌≡◌ {A = Bool} false true → ⊥
    apart q = cc

pub ended_below_first_wrong : ¬ PassesHops routed_plan (entries ended_below_first)
unfolding routed_plan ended_below_first
ended_below_first_wrong p = apart (whole_free _ (p.ends_in_turn.1.1.1.1.1.1.1.1.1.1.1.1.1.1.0 (record { initiator = 0; seq = 0 }) _ refl 0 (lit< tt) (record { answer = Completed; call = record { object = refl; txn = refl; what = refl } })))
  where
    apart : ◌≡◌ {A = Option LaneState} (Some Responding) (Some Free) → ⊥
    apart q = cc

pub unended_wrong : ¬ HasWholeSequences (lone Req.Accept Resp.Accept) (entries unended)
unfolding lone unended
unended_wrong p = go (p.whole (record { initiator = 0; seq = 0 }) _ refl 0 (lit< tt))
  where
    go : Among {X = List (Phase × TlmSync)} (((BeginReq, Accepted) ∷ (EndReq, Accepted) ∷ (BeginResp, Accepted) ∷ (EndResp, Completed) ∷ []) ∷ []) ((BeginReq, Accepted) ∷ (EndReq, Accepted) ∷ (BeginResp, Accepted) ∷ []) → ⊥
    go (inl q) = cc
    go (inr m) = m

pub unended_kept : ¬ HasFreedPayloads (lone Req.Accept Resp.Accept) (entries unended)
unfolding lone unended
unended_kept p = let q : 0 ≡ 1 + 1 = p.released (record { initiator = 0; seq = 0 }) _ refl in absurd (omega arith)

-- the response can't be there before 10 ps
begun_at : (e : Event) → Among (numbered (entries (take 0 0 ∷ acquire 1 0 0 ∷ call 2 0 0 BeginReq Accepted ∷ call 3 0 0 EndReq Accepted ∷ written 4 0 ∷ []))) e → IsPhase (record { initiator = 0; seq = 0 }) 0 BeginReq e → e.time ≡ 0
begun_at e (inl q) i = absurd (not_take 0 BeginReq i.answer (ap (λ (d : Event). d.what) q ∙ i.call.what))
begun_at e (inr (inl q)) i = absurd (not_acquire 0 BeginReq i.answer (ap (λ (d : Event). d.what) q ∙ i.call.what))
begun_at e (inr (inr (inl q))) i = sym (ap (λ (d : Event). d.time) q)
begun_at e (inr (inr (inr (inl q)))) i = absurd (apart EndReq BeginReq Accepted i.answer (ap (λ (d : Event). d.what) q ∙ i.call.what) (λ r. cc))
  where
    apart : (p q : Phase) (a b : TlmSync) → Call p a ≡ Call q b → ¬ (p ≡ q) → ⊥
    apart p q a b r n = n (same p q a b r)
      where
        same : (p q : Phase) (a b : TlmSync) → Call p a ≡ Call q b → p ≡ q
        same p q a b r = cc
begun_at e (inr (inr (inr (inr (inl q))))) i = absurd (not_access _ _ _ _ BeginReq i.answer (ap (λ (d : Event). d.what) q ∙ i.call.what))
begun_at e (inr (inr (inr (inr (inr q))))) i = absurd q

too_soon : (hop number : ℕ) → hop < 1 → NumberOf (world_of (lone Req.Accept Resp.Accept)) (Among (numbered (entries (take 0 0 ∷ acquire 1 0 0 ∷ call 2 0 0 BeginReq Accepted ∷ call 3 0 0 EndReq Accepted ∷ written 4 0 ∷ [])))) (record { initiator = 0; seq = 0 }) (record { hops = 0 ∷ []; routed = true }) hop BeginResp number → number ≤ 9 → ⊥
unfolding lone
too_soon zero number below n least =
    let t : n.is_req.event.time ≡ 0 = begun_at n.is_req.event n.is_req.known n.is_req.is in
    let u : n.is_req.event.time ≡ n.req = n.is_req.time in
    let z : n.req ≡ 0 = sym u ∙ t in
    let s : number ≡ later n.req 10 = n.sum in
    let v : number ≡ 10 = s ∙ ap (λ (m : ℕ). later m 10) z in
    omega arith
too_soon (suc hop) number below n least = omega arith

pub hasty_response_wrong : ¬ HasPhaseTimes (lone Req.Accept Resp.Accept) (entries hasty_response)
unfolding lone hasty_response
hasty_response_wrong p = too_soon p.calls.1.1.1.1.1.0.hop p.calls.1.1.1.1.1.0.number p.calls.1.1.1.1.1.0.below p.calls.1.1.1.1.1.0.is_number p.calls.1.1.1.1.1.0.time.least
