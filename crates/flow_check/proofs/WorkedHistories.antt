-- The worked histories meet the premises of the law.
use Rattle.std.proofs.Common.{◌≡◌, ◌≢◌, ℕ, zero, suc, ◌<◌, ◌≤◌, List, [], ◌∷◌, Option, Some, None, true, refl, ap, sym, ◌∙◌, arith, subst}
use Rattle.std.specs.Prelude.{MatchOption, slice_get}
use Rattle.std.specs.List.{AllByRecursion}
use Rattle.tlm_types.specs.declared.words.ObjectNo.{ObjectNo}
use Rattle.tlm_types.specs.declared.words.ObjectNo.TheVariants.{Memory, Hop, Pool}
use Rattle.tlm_types.specs.declared.words.ReqMode.{ReqMode}
use Rattle.tlm_types.specs.declared.words.ReqMode.TheVariants as Req
use Rattle.tlm_types.specs.declared.words.RespMode.{RespMode}
use Rattle.tlm_types.specs.declared.words.RespMode.TheVariants as Resp
use Rattle.tlm_types.specs.declared.words.TxnId.{TxnId}
use Rattle.tlm_types.specs.declared.words.Way.TheVariants.{Blocking as by_blocking, FourPhase as by_four, Direct as by_direct, Debug as by_debug}
use Rattle.tlm_types.specs.declared.entry.Entry.{Entry}
use Rattle.tlm_types.specs.declared.entry.What.{What}
use Rattle.tlm_types.specs.declared.entry.What.TheVariants.{Access as Accessed, Granted, Invalidated, Closed, Call, Take, Acquire, Release}
use Rattle.tlm_model.specs.declared.operation.Operation.{Operation}
use Rattle.tlm_model.specs.declared.platform.Platform.{Platform}
use Rattle.tlm_model.specs.declared.platform.RouterRow.{RouterRow}
use Rattle.tlm_model.specs.declared.platform.Style.{Style}
use Rattle.tlm_model.specs.declared.platform.Style.TheVariants.{Blocking, Direct, FourPhase}
use Rattle.tlm_model.specs.declared.platform.Target.TheVariants.{Router, Memory as at_memory}
use Rattle.tlm_model.specs.declared.platform.WindowRow.{WindowRow}
use Rattle.tlm_model.specs.Plan.{Initiator, Plan, initiators_of}
use Rattle.tlm_model.specs.Requests.{Request, requests_of}
use Rattle.tlm_model.specs.Scripts.{OfRequest, comes_first}
use Rattle.flow_model.specs.World.{IsWorld, Passage}
use Rattle.flow_model.specs.Events.{Among, Event, Finds, entries}
use Rattle.flow_model.specs.Points.{IsFreed}
use Rattle.flow_model.specs.Issue.{issue_time}
use Rattle.flow_model.specs.Platform.{world_of}
use Rattle.flow_model.specs.Traffic.{IsIssuedBy, IsWaitedFor, IssuesInTime, WaitsForEnds, slots_of}
use Rattle.flow_model.specs.Law.{Premises}
use Rattle.flow_model.specs.Valid.{HasNoCycle, LeadsOver, LeadsTo}
use Rattle.flow_model.proofs.Backed.{issue_law, traffic_law}
use Rattle.flow_model.proofs.Ended.{ended_law}
use Rattle.flow_model.proofs.Ways.{world_law}
use Rattle.good_history.specs.GrantLaws.{ClosesNothing, HasNoDirect, IsNoClosing}
use Rattle.good_history.proofs.Ungranted.{ungranted_is_good}
use Rattle.flow_check.specs.Worked.{IsWorked, accepting, answering, completing, ending, lone, plan_of, refused, refused_plan, routed, routed_plan, write_at}
use Rattle.flow_check.proofs.Decide.{bind, each, find, found, guard_true, is_same_object, is_same_txn, same_nat}
use Rattle.flow_check.proofs.DecidePremises.{all, bounded, premises_of, tested}
use Rattle.flow_check.proofs.WorkedRequests.{RunsRequests, accepting_runs, answering_runs, completing_runs, ending_runs, refused_runs, routed_runs}

-- the points of requests
abbrev match_by : {A : Type 0} → (o : Option A) (Q : A → Type 0) → ((a : A) → Option (Q a)) → Option (MatchOption o ⊥ Q)
match_by None Q f = None
match_by (Some a) Q f = f a

abbrev of_request : (p : Plan) (Q : List Entry → Entry → Initiator → Request → Type 0) → ((before : List Entry) (e : Entry) (i : Initiator) (r : Request) → Option (Q before e i r)) → (before : List Entry) (e : Entry) → Option (OfRequest p before e (Q before e))
of_request p Q f before e =
    match_by (slice_get (initiators_of p) e.txn.initiator) (λ i. MatchOption (slice_get (requests_of p.platform i before) e.txn.seq) ⊥ (λ r. Q before e i r)) (λ i.
    match_by (slice_get (requests_of p.platform i before) e.txn.seq) (λ r. Q before e i r) (λ r. f before e i r))

abbrev issued_by : (s : Style) (time issued : ℕ) (v : What) → Option (IsIssuedBy s time issued v)
issued_by Blocking time issued v = Some tt
issued_by Direct time issued v = Some tt
issued_by FourPhase time issued (Accessed by_debug access status got) = same_nat time issued
issued_by FourPhase time issued (Accessed by_blocking access status got) = Some tt
issued_by FourPhase time issued (Accessed by_four access status got) = Some tt
issued_by FourPhase time issued (Accessed (by_direct g) access status got) = Some tt
issued_by FourPhase time issued (Invalidated first last) = same_nat time issued
issued_by FourPhase time issued (Closed gate) = same_nat time issued
issued_by FourPhase time issued (Granted gate first last kind) = Some tt
issued_by FourPhase time issued (Call phase answer) = Some tt
issued_by FourPhase time issued (Take slot) = Some tt
issued_by FourPhase time issued (Acquire slot) = Some tt
issued_by FourPhase time issued (Release slot freed) = Some tt

-- where no request waits for another
abbrev not_waited : (p : Plan) (before : List Entry) (i : Initiator) (q r : Request) → Option (IsWaitedFor p before i q r)
not_waited p before i q r = guard_true (comes_first i.row.style r q) None

-- when requests are issued
pub record Issues (p : Plan) (h : List Entry) : Type 0 where
  pub others : IssuesInTime p h
  pub waits : WaitsForEnds p h

abbrev pub issues : (p : Plan) (h : List Entry) → Option (Issues p h)
issues p h =
    bind (each _ (of_request p (λ before e i r. IsIssuedBy i.row.style e.time (issue_time p before e.txn) e.what) (λ before e i r. issued_by i.row.style e.time (issue_time p before e.txn) e.what)) h) (λ o.
    bind (each _ (of_request p (λ before e i q. AllByRecursion (IsWaitedFor p before i q) (requests_of p.platform i before)) (λ before e i q. all (IsWaitedFor p before i q) (not_waited p before i q) (requests_of p.platform i before))) h) (λ w.
    Some (record { others = o; waits = w })))

-- direct initiators, and closings: there are none
pub record HasNoGrants (p : Plan) (h : List Entry) : Type 0 where
  pub direct : HasNoDirect p
  pub closes : ClosesNothing h

pub blocking_apart : Blocking ≢ Direct
blocking_apart same = cc

pub four_apart : FourPhase ≢ Direct
four_apart same = cc

abbrev not_direct : (s : Style) → Option (s ≢ Direct)
not_direct Blocking = Some blocking_apart
not_direct Direct = None
not_direct FourPhase = Some four_apart

abbrev not_closed : (v : What) → Option (IsNoClosing v)
not_closed (Closed gate) = None
not_closed v = Some tt

abbrev pub ungranted : (p : Plan) (h : List Entry) → Option (HasNoGrants p h)
ungranted p h =
    bind (all (λ (i : Initiator). i.row.style ≢ Direct) (λ (i : Initiator). not_direct i.row.style) (initiators_of p)) (λ d.
    bind (all (λ (e : Entry). IsNoClosing e.what) (λ (e : Entry). not_closed e.what) h) (λ c.
    Some (record { direct = d; closes = c })))

abbrev pub first : TxnId
first = record { initiator = 0; seq = 0 }

-- the freed Release
abbrev freed_by : (x : TxnId) (e : Event) → e.object ≡ Pool x.initiator → e.txn ≡ x → (v : What) → e.what ≡ v → Option (IsFreed x e)
freed_by x e d t (Release k true) v = Some (record { number = e.number; release = record { object = d; txn = t; number = refl; slot = k; what = v } })
freed_by x e d t _ v = None

abbrev pub is_freed : (x : TxnId) (e : Event) → Option (IsFreed x e)
is_freed x e = bind (is_same_object (Pool x.initiator) e.object) (λ d. bind (is_same_txn x e.txn) (λ t. freed_by x e d t e.what refl))

abbrev frees : (h : List Event) → Option (Finds (Among h) (IsFreed first))
frees h = find (IsFreed first) (is_freed first) h

-- the plan has one access
abbrev HasOne : Plan → Type 0
HasOne p = (i s : ℕ) (pass : Passage) → (world_of p).passage (record { initiator = i; seq = s }) ≡ Some pass → first ≡ record { initiator = i; seq = s }

-- a history whose accesses are freed
pub worked_by : (p : Plan) (h : List Event) → Premises (world_of p) (slots_of p) (issue_time p) h → RunsRequests p (entries h) → Issues p (entries h) → HasNoGrants p (entries h)
    → ((x : TxnId) (pass : Passage) → (world_of p).passage x ≡ Some pass → Finds (Among h) (IsFreed x)) → IsWorked p h
worked_by p h pr r i g freed = record {
  premises = pr;
  good = ungranted_is_good p (entries h) g.direct g.closes r.keeps (issue_law p (entries h) (traffic_law p h pr) i.others i.waits) r.ends (ended_law p h pr freed);
}

worked : (p : Plan) (h : List Event) → Premises (world_of p) (slots_of p) (issue_time p) h → RunsRequests p (entries h) → Issues p (entries h) → HasNoGrants p (entries h) → HasOne p → Finds (Among h) (IsFreed first) → IsWorked p h
worked p h pr r i g one f = worked_by p h pr r i g (λ x pass q. subst (λ (y : TxnId). Finds (Among h) (IsFreed y)) (one x.initiator x.seq pass q) f)

-- the objects that have entries
unfoldable pub places : List ObjectNo
places = Hop 0 ∷ Pool 0 ∷ Memory 0 ∷ []

some_same : {X : Type 0} (a b : X) → Some a ≡ Some b → a ≡ b
some_same a b q = cc

pub direct_world : (reply : ReqMode) (response : RespMode) (size : ℕ) (script : List Operation) → IsWorld (world_of (plan_of reply response size (at_memory 0) [] script))
direct_world reply response size script = world_law (plan_of reply response size (at_memory 0) [] script) (λ n r l. no_router l.1.is)
  where
    no_router : {X : Type 0} {row : X} → None ≡ Some row → ⊥
    no_router q = cc

lone_world : (reply : ReqMode) (response : RespMode) → IsWorld (world_of (lone reply response))
unfolding lone
lone_world reply response = direct_world reply response 16 (write_at 0)

lone_one : (reply : ReqMode) (response : RespMode) → HasOne (lone reply response)
unfolding lone
lone_one reply response zero zero pass q = refl
lone_one reply response zero (suc s) pass q = cc
lone_one reply response (suc i) s pass q = cc

pub accepting_works : IsWorked (lone Req.Accept Resp.Accept) accepting
unfolding lone accepting places
accepting_works = worked (lone Req.Accept Resp.Accept) accepting (premises_of _ _ _ places accepting (lone_world Req.Accept Resp.Accept) (found (tested _ _ _ places accepting) refl) (found (bounded accepting) refl)) accepting_runs (found (issues (lone Req.Accept Resp.Accept) (entries accepting)) refl) (found (ungranted (lone Req.Accept Resp.Accept) (entries accepting)) refl) (lone_one Req.Accept Resp.Accept) (found (frees accepting) refl)

pub completing_works : IsWorked (lone Req.Complete Resp.Accept) completing
unfolding lone completing places
completing_works = worked (lone Req.Complete Resp.Accept) completing (premises_of _ _ _ places completing (lone_world Req.Complete Resp.Accept) (found (tested _ _ _ places completing) refl) (found (bounded completing) refl)) completing_runs (found (issues (lone Req.Complete Resp.Accept) (entries completing)) refl) (found (ungranted (lone Req.Complete Resp.Accept) (entries completing)) refl) (lone_one Req.Complete Resp.Accept) (found (frees completing) refl)

pub answering_works : IsWorked (lone Req.BeginResp Resp.Accept) answering
unfolding lone answering places
answering_works = worked (lone Req.BeginResp Resp.Accept) answering (premises_of _ _ _ places answering (lone_world Req.BeginResp Resp.Accept) (found (tested _ _ _ places answering) refl) (found (bounded answering) refl)) answering_runs (found (issues (lone Req.BeginResp Resp.Accept) (entries answering)) refl) (found (ungranted (lone Req.BeginResp Resp.Accept) (entries answering)) refl) (lone_one Req.BeginResp Resp.Accept) (found (frees answering) refl)

pub ending_works : IsWorked (lone Req.EndReq Resp.EndResp) ending
unfolding lone ending places
ending_works = worked (lone Req.EndReq Resp.EndResp) ending (premises_of _ _ _ places ending (lone_world Req.EndReq Resp.EndResp) (found (tested _ _ _ places ending) refl) (found (bounded ending) refl)) ending_runs (found (issues (lone Req.EndReq Resp.EndResp) (entries ending)) refl) (found (ungranted (lone Req.EndReq Resp.EndResp) (entries ending)) refl) (lone_one Req.EndReq Resp.EndResp) (found (frees ending) refl)

-- platforms whose routers lead to later ones have no cycle
rising : (p : Platform) → ((r s : ℕ) → LeadsTo p r s → r < s) → HasNoCycle p
rising p f n r l = let q : r < r = go n r r l in omega arith
  where
    over : (n r s : ℕ) → LeadsOver p n r s → r ≤ s
    over zero r s q = let e : r ≡ s = q in omega arith
    over (suc n) r s q = let a : r < q.0 = f r q.0 q.1 in let b : q.0 ≤ s = over n q.0 s q.2 in omega arith

    go : (n r s : ℕ) → LeadsOver p (suc n) r s → r < s
    go n r s q = let a : r < q.0 = f r q.0 q.1 in let b : q.0 ≤ s = over n q.0 s q.2 in omega arith

refused_rises : (r s : ℕ) → LeadsTo refused_plan.platform r s → r < s
unfolding refused_plan
refused_rises zero s l = to_memory l.index (subst (λ (d : RouterRow). slice_get d.windows l.index ≡ Some l.window) (sym (some_same _ l.row l.is)) l.there)
  where
    to_memory : (k : ℕ) → slice_get (record { first = 0; last = 0xff; to = at_memory 0; base = 0 } ∷ []) k ≡ Some l.window → 0 < s
    to_memory zero q = absurd (apart (ap (λ (v : WindowRow). v.to) (some_same _ l.window q) ∙ l.to))
      where
        apart : at_memory 0 ≡ Router s → ⊥
        apart z = cc
    to_memory (suc k) q = cc
refused_rises (suc r) s l = absurd (none l.is)
  where
    none : {row : RouterRow} → None ≡ Some row → ⊥
    none q = cc

refused_world : IsWorld (world_of refused_plan)
unfolding refused_plan
refused_world = world_law refused_plan (rising refused_plan.platform refused_rises)

refused_one : HasOne refused_plan
unfolding refused_plan
refused_one zero zero pass q = refl
refused_one zero (suc s) pass q = cc
refused_one (suc i) s pass q = cc

pub refused_works : IsWorked refused_plan refused
unfolding refused_plan refused places
refused_works = worked refused_plan refused (premises_of _ _ _ places refused refused_world (found (tested _ _ _ places refused) refl) (found (bounded refused) refl)) refused_runs (found (issues refused_plan (entries refused)) refl) (found (ungranted refused_plan (entries refused)) refl) refused_one (found (frees refused) refl)

routed_rises : (r s : ℕ) → LeadsTo routed_plan.platform r s → r < s
unfolding routed_plan
routed_rises zero s l = to_bridge l.index (subst (λ (d : RouterRow). slice_get d.windows l.index ≡ Some l.window) (sym (some_same _ l.row l.is)) l.there)
  where
    to_bridge : (k : ℕ) → slice_get (record { first = 0; last = 0xff; to = Router 1; base = 0 } ∷ []) k ≡ Some l.window → 0 < s
    to_bridge zero q = let e : 1 ≡ s = same (ap (λ (v : WindowRow). v.to) (some_same _ l.window q) ∙ l.to) in omega arith
      where
        same : Router 1 ≡ Router s → 1 ≡ s
        same z = cc
    to_bridge (suc k) q = cc
routed_rises (suc zero) s l = to_memory l.index (subst (λ (d : RouterRow). slice_get d.windows l.index ≡ Some l.window) (sym (some_same _ l.row l.is)) l.there)
  where
    to_memory : (k : ℕ) → slice_get (record { first = 0; last = 0xff; to = at_memory 0; base = 0 } ∷ []) k ≡ Some l.window → 1 < s
    to_memory zero q = absurd (apart (ap (λ (v : WindowRow). v.to) (some_same _ l.window q) ∙ l.to))
      where
        apart : at_memory 0 ≡ Router s → ⊥
        apart z = cc
    to_memory (suc k) q = cc
routed_rises (suc (suc r)) s l = absurd (none l.is)
  where
    none : {row : RouterRow} → None ≡ Some row → ⊥
    none q = cc

routed_world : IsWorld (world_of routed_plan)
unfolding routed_plan
routed_world = world_law routed_plan (rising routed_plan.platform routed_rises)

routed_places : List ObjectNo
routed_places = Hop 0 ∷ Hop 1 ∷ Hop 2 ∷ Pool 0 ∷ Memory 0 ∷ []

routed_one : HasOne routed_plan
unfolding routed_plan
routed_one zero zero pass q = refl
routed_one zero (suc s) pass q = cc
routed_one (suc i) s pass q = cc

pub routed_works : IsWorked routed_plan routed
unfolding routed_plan routed routed_places
routed_works = worked routed_plan routed (premises_of _ _ _ routed_places routed routed_world (found (tested _ _ _ routed_places routed) refl) (found (bounded routed) refl)) routed_runs (found (issues routed_plan (entries routed)) refl) (found (ungranted routed_plan (entries routed)) refl) routed_one (found (frees routed) refl)
