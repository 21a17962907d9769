-- The time of an entry of a four-phase initiator is small where the times before it are.
use Rattle.std.proofs.Common.{◌≡◌, ℕ, zero, suc, ◌+◌, ◌^◌, ◌<◌, ◌&&◌, Bool, true, false, cond, List, [], ◌∷◌, ◌++◌, drop, get_or, Option, Some, None, refl, sym, subst, ◌∙◌, inl, inr, ⊎_elim, arith}
use Rattle.std.specs.Prelude.{slice_get, unwrap_or, if◌then◌else◌}
use Rattle.std.specs.List.{AllByRecursion, filter, fold}
use Rattle.tlm_types.specs.declared.words.ObjectNo.{ObjectNo}
use Rattle.tlm_types.specs.declared.words.ObjectNo.TheVariants.{Memory, Hop, Pool}
use Rattle.tlm_types.specs.declared.words.Phase.{Phase}
use Rattle.tlm_types.specs.declared.words.Phase.TheVariants.{BeginReq, EndReq, BeginResp, EndResp}
use Rattle.tlm_types.specs.declared.words.TxnId.{TxnId}
use Rattle.tlm_types.specs.declared.words.Way.{Way}
use Rattle.tlm_types.specs.declared.entry.Entry.{Entry}
use Rattle.tlm_types.specs.declared.entry.What.{What}
use Rattle.tlm_types.specs.declared.entry.What.TheVariants.{Access as Accessed, Granted, Invalidated, Closed, Call, Take, Acquire, Release}
use Rattle.tlm_model.specs.declared.operation.Operation.{Operation}
use Rattle.tlm_model.specs.declared.platform.Style.TheVariants.{FourPhase as fourphase_style}
use Rattle.tlm_model.specs.Actions.{Action, Plain, Alone, Pair, Pause, action_of}
use Rattle.tlm_model.specs.History.{entries_at, is_object}
use Rattle.tlm_model.specs.Plan.{Plan, Initiator, initiators_of}
use Rattle.tlm_model.specs.Requests.{Asked, Transport, DebugRead, Invalidation, Request, paused, requests_of}
use Rattle.tlm_model.specs.Route.{route_of}
use Rattle.tlm_model.specs.Scripts.{HasWay, IsEntryOf}
use Rattle.flow_model.specs.Board.{ends_request}
use Rattle.flow_model.specs.ByRules.{last_time, request_end_by, request_end_from}
use Rattle.flow_model.specs.Calls.{calls_of, has_open_request, is_of}
use Rattle.flow_model.specs.World.{World, Passage, hop_at}
use Rattle.flow_model.specs.Events.{Event, Among, FindsAt, IsPhase, IsTake, entries, hop_log}
use Rattle.flow_model.specs.Numbers.{ArrIs, EndIs, NumberOf, Past, RspFrom, UpFrom, served_hop}
use Rattle.flow_model.specs.Ends.{access_end, end_by, end_time, has_phase, is_completed, phase_time, response_time}
use Rattle.flow_model.specs.Issue.{issue_by, issue_time, issues_by, issues_from, settled}
use Rattle.flow_model.specs.Platform.{passage_of, world_of}
use Rattle.flow_model.specs.Points.{CallTimed, InOrderBy, TimeIs, TimedBy}
use Rattle.flow_model.specs.Traffic.{IsIssuedBy}
use Rattle.trace_print.proofs.EntryKinds.{IsKind}
use Rattle.trace_print.proofs.Passages.{IsPassed, passes-some}
use Rattle.trace_print.proofs.Requested.{later-small}

abbrev pub IsSmallTime : Entry → Type 0
IsSmallTime e = e.time < 2 ^ 64

abbrev pub HaveSmallTimes : List Entry → Type 0
HaveSmallTimes h = AllByRecursion IsSmallTime h

either-small : (b : Bool) (s t : ℕ) → s < 2 ^ 64 → t < 2 ^ 64 → (if b then s else t) < 2 ^ 64
either-small true s t h g = h
either-small false s t h g = g

or-small : (o : Option ℕ) (t : ℕ) → ((s : ℕ) → o ≡ Some s → s < 2 ^ 64) → t < 2 ^ 64 → unwrap_or o t < 2 ^ 64
or-small None t f h = h
or-small (Some s) t f h = f s refl

-- what holds of all holds of those that are picked
picked : {X : Type 0} (P : X → Type 0) (test : X → Bool) (xs : List X) → AllByRecursion P xs → AllByRecursion P (filter test xs)
picked P test [] all = tt
picked P test (x ∷ xs) all = go (picked P test xs all.1) (test x)
  where
    go : AllByRecursion P (filter test xs) → (b : Bool) → AllByRecursion P (cond b (x ∷ filter test xs) (filter test xs))
    go rest true = (all.0, rest)
    go rest false = rest

event-small : (be : List Event) → HaveSmallTimes (entries be) → (f : Event) → Among be f → f.time < 2 ^ 64
event-small [] all f m = absurd m
event-small (e ∷ be) all f (inl same) = subst (λ (g : Event). g.time < 2 ^ 64) same all.0
event-small (e ∷ be) all f (inr m) = event-small be all.1 f m

-- the end of the last request
request-small : (before : List Entry) (old : ℕ) (log : List Entry) → old < 2 ^ 64 → HaveSmallTimes log → request_end_from before old log < 2 ^ 64
request-small before old [] small all = small
request-small before old (e ∷ log) small all = request-small (before ++ e ∷ []) (request_end_by old (has_open_request e.txn before) e.time e.what) log (by_what (has_open_request e.txn before) e.what) all.1
  where
    by_what : (is_open : Bool) (w : What) → request_end_by old is_open e.time w < 2 ^ 64
    by_what is_open (Call phase answer) = either-small (ends_request is_open phase answer) e.time old all.0 small
    by_what is_open w = small

-- the numbers that known entries give
module _ (w : World) (be : List Event) (x : TxnId) (small : (f : Event) → Among be f → f.time < 2 ^ 64) where
  found : (P : Event → Type 0) (t : ℕ) → FindsAt (Among be) P t → t < 2 ^ 64
  found P t f = let s = small f.event f.known in omega (arith, s, f.time)

  past : (o t : ℕ) → Past w (Among be) x o t → t < 2 ^ 64
  past o t b = omega (arith, b.sum, later-small b.req (w.hop o).latency)

  arr : (pass : Passage) (k t : ℕ) → ArrIs w (Among be) x pass k t → t < 2 ^ 64
  arr pass zero t is = found (IsTake x) t is
  arr pass (suc k) t is = past (hop_at pass k) t is

  up : (o : ℕ) (rest : List ℕ) (t : ℕ) → UpFrom w (Among be) x o rest t → t < 2 ^ 64
  up o [] t is = past o t is
  up o (q ∷ rest) t (inl f) = found (IsPhase x q BeginResp) t f
  up o (q ∷ rest) t (inr r) = up q rest t r.1

  rsp : (o : ℕ) (rest : List ℕ) (t : ℕ) → RspFrom w (Among be) x o rest t → t < 2 ^ 64
  rsp o rest t (inl f) = found (IsPhase x o BeginResp) t f
  rsp o rest t (inr r) = up o rest t r.1

  end : (pass : Passage) (k t : ℕ) → EndIs w (Among be) x pass k t → t < 2 ^ 64
  end pass k t (inl r) = rsp (hop_at pass k) (drop (k + 1) pass.hops) t r.1
  end pass k t (inr f) = let s = small f.event f.known in omega (arith, s, f.time)

  number : (pass : Passage) (k : ℕ) (phase : Phase) (t : ℕ) → NumberOf w (Among be) x pass k phase t → t < 2 ^ 64
  number pass k BeginReq t is = arr pass k t is
  number pass k EndReq t is = found (IsPhase x (served_hop (w.hop (hop_at pass k)).to_memory pass k) BeginReq) t is
  number pass k BeginResp t is = up (hop_at pass k) (drop (k + 1) pass.hops) t is
  number pass zero EndResp t is = rsp (hop_at pass 0) (drop 1 pass.hops) t is
  number pass (suc k) EndResp t is = rsp (hop_at pass k) (drop (k + 1) pass.hops) t is

  call-at : (o : ℕ) (phase : Phase) (n t : ℕ) → HaveSmallTimes (entries be) → n < 2 ^ 64 → TimeIs be x o phase n t → t < 2 ^ 64
  call-at o BeginReq n t all few is =
      let log = request-small [] 0 (hop_log o be) (omega arith) (picked IsSmallTime (λ (d : Entry). is_object (Hop o) d.object) (entries be) all) in
      omega (arith, few, log, is)
  call-at o EndReq n t all few is = omega (arith, few, is)
  call-at o BeginResp n t all few is = ⊎_elim (λ (e : t ≡ n). omega (arith, few, e)) (λ (f : _). let s = small f.event f.known in omega (arith, s, f.time)) is.reached
  call-at o EndResp n t all few is = omega (arith, few, is)

  call-small : (pass : Passage) (o : ℕ) (phase : Phase) (t : ℕ) → HaveSmallTimes (entries be) → CallTimed w be x pass o phase t → t < 2 ^ 64
  call-small pass o phase t all c = call-at o phase c.number t all (number pass c.hop phase c.number c.is_number) c.time

-- the ends of accesses
phase-small : (x : TxnId) (phase : Phase) (log : List Entry) → HaveSmallTimes log → (s : ℕ) → phase_time x phase log ≡ Some s → s < 2 ^ 64
phase-small x phase [] all s q = cc
phase-small x phase (e ∷ log) all s q = go (λ r. phase-small x phase log all.1 s r) (is_of x e && has_phase phase e.what) q
  where
    same : (a b : ℕ) → Some a ≡ Some b → a ≡ b
    same a b e = cc

    go : (phase_time x phase log ≡ Some s → s < 2 ^ 64) → (b : Bool) → cond b (Some e.time) (phase_time x phase log) ≡ Some s → s < 2 ^ 64
    go rest true q = omega (arith, all.0, same e.time s q)
    go rest false q = rest q

last-small : (x : TxnId) (old : ℕ) (log : List Entry) → old < 2 ^ 64 → HaveSmallTimes log → fold (λ (old : ℕ) (e : Entry). if is_of x e then e.time else old) old log < 2 ^ 64
last-small x old [] small all = small
last-small x old (e ∷ log) small all = last-small x (if is_of x e then e.time else old) log (either-small (is_of x e) e.time old all.0 small) all.1

module _ (w : World) (x : TxnId) (h : List Entry) (all : HaveSmallTimes h) where
  at-hop : (o : ℕ) → HaveSmallTimes (entries_at (Hop o) h)
  at-hop o = picked IsSmallTime (λ (d : Entry). is_object (Hop o) d.object) h all

  response-small : (hops : List ℕ) → response_time w x h hops < 2 ^ 64
  response-small [] = omega arith
  response-small (o ∷ []) =
      or-small (phase_time x BeginResp (entries_at (Hop o) h)) _ (phase-small x BeginResp (entries_at (Hop o) h) (at-hop o))
      (later-small (unwrap_or (phase_time x BeginReq (entries_at (Hop o) h)) 0) (w.hop o).latency)
  response-small (o ∷ q ∷ rest) = or-small (phase_time x BeginResp (entries_at (Hop o) h)) _ (phase-small x BeginResp (entries_at (Hop o) h) (at-hop o)) (response-small (q ∷ rest))

  end-small : (hops : List ℕ) → end_time w x h hops < 2 ^ 64
  end-small [] = omega arith
  end-small (o ∷ rest) = either-small (is_completed (calls_of x (entries_at (Hop o) h))) (response_time w x h (o ∷ rest)) (last_time x (entries_at (Hop o) h)) (response-small (o ∷ rest)) (last-small x 0 (entries_at (Hop o) h) (omega arith) (at-hop o))

  ended-small : (f : Option Passage) → end_by w x h f < 2 ^ 64
  ended-small None = omega arith
  ended-small (Some pass) = end-small pass.hops

-- the times at which requests are issued
module _ (end : ℕ → ℕ) (small : (s : ℕ) → end s < 2 ^ 64) where
  settled-small : (s t : ℕ) → t < 2 ^ 64 → settled end s t < 2 ^ 64
  settled-small zero t few = few
  settled-small (suc s) t few = omega (arith, settled-small s t few, small s)

  paused-small : (t : ℕ) (time : Option ℕ) → t < 2 ^ 64 → paused t time < 2 ^ 64
  paused-small t None few = few
  paused-small t (Some n) few = later-small t n

  action-small : (s t : ℕ) → t < 2 ^ 64 → (a : Action) (next : ℕ → ℕ → List ℕ) → ((s t : ℕ) → t < 2 ^ 64 → AllByRecursion (λ u. u < 2 ^ 64) (next s t)) → AllByRecursion (λ u. u < 2 ^ 64) (issues_by end s t a next)
  action-small s t few (Plain a access) next f = (few, f (s + 1) t few)
  action-small s t few (Alone a asked) next f = let n = settled-small s t few in (n, f (s + 1) (settled end s t) n)
  action-small s t few (Pair from to n change) next f = let m = settled-small (s + 1) t few in (settled-small s t few, (m, f (s + 2) (settled end (s + 1) t) m))
  action-small s t few (Pause time sync) next f = f s (paused (settled end s t) time) (paused-small (settled end s t) time (settled-small s t few))

  issues-small : (s t : ℕ) → t < 2 ^ 64 → (ops : List Operation) → AllByRecursion (λ u. u < 2 ^ 64) (issues_from end s t ops)
  issues-small s t few [] = tt
  issues-small s t few (op ∷ ops) = action-small s t few (action_of op) (λ s t. issues_from end s t ops) (λ s t few. issues-small s t few ops)

number-at : (ts : List ℕ) (k : ℕ) → AllByRecursion (λ u. u < 2 ^ 64) ts → get_or ts k 0 < 2 ^ 64
number-at [] k all = omega arith
number-at (t ∷ ts) zero all = all.0
number-at (t ∷ ts) (suc k) all = number-at ts k all.1

issue-small : (p : Plan) (h : List Entry) → HaveSmallTimes h → (x : TxnId) → issue_time p h x < 2 ^ 64
issue-small p h all x = go (slice_get (initiators_of p) x.initiator)
  where
    go : (o : Option Initiator) → issue_by p h x.seq o < 2 ^ 64
    go None = omega arith
    go (Some i) =
        number-at (issues_from (λ s. access_end (world_of p) h (record { initiator = i.number; seq = s })) 0 0 i.script) x.seq
        (issues-small (λ s. access_end (world_of p) h (record { initiator = i.number; seq = s })) (λ s. (let y : TxnId = record { initiator = i.number; seq = s } in ended-small (world_of p) y h all (passage_of p y))) 0 0 (omega arith) i.script)

module _ (p : Plan) (be : List Event) (all : HaveSmallTimes (entries be)) (x : TxnId) where
  -- an entry of a four-phase initiator, of a request with a passage
  pub passed-small : (pass : Passage) → IsPassed p.platform pass → (o : ObjectNo) (w : What) (t n : ℕ) (asked : Asked) → IsKind o w → TimedBy (world_of p) (issue_time p) be x (Some pass) o t n w
      → HasWay fourphase_style asked w → IsIssuedBy fourphase_style t (issue_time p (entries be) x) w → t < 2 ^ 64
  passed-small pass is (Memory m) (Granted g f l k) t n asked kind timed came issued = absurd came
  passed-small pass is (Memory m) (Invalidated f l) t n asked kind timed came issued = omega (arith, issued, issue-small p (entries be) all x)
  passed-small pass is (Memory m) (Closed g) t n asked kind timed came issued = omega (arith, issued, issue-small p (entries be) all x)
  passed-small pass is (Memory m) (Accessed way access status got) t n asked kind timed came issued = found (world_of p) be x (event-small be all) (IsPhase x (hop_at pass is.last) BeginReq) t (timed is.last is.some)
  passed-small pass is (Memory m) w t n asked kind timed came issued = absurd kind
  passed-small pass is (Hop h) (Call c a) t n asked kind timed came issued = call-small (world_of p) be x (event-small be all) pass h c t all timed
  passed-small pass is (Hop h) w t n asked kind timed came issued = absurd kind
  passed-small pass is (Pool i) (Take k) t n asked kind timed came issued = omega (arith, timed, issue-small p (entries be) all x)
  passed-small pass is (Pool i) (Acquire k) t n asked kind timed came issued = arr (world_of p) be x (event-small be all) pass n t timed
  passed-small pass is (Pool i) (Release k f) t n asked kind timed came issued = end (world_of p) be x (event-small be all) pass timed.hop t timed.time
  passed-small pass is (Pool i) w t n asked kind timed came issued = absurd kind

  -- and one of a request that has none
  pub unpassed-small : (o : ObjectNo) (w : What) (t n : ℕ) (i : Initiator) (r : Request) (before : List Entry) → IsKind o w → InOrderBy (world_of p) be x None o n w
      → slice_get (initiators_of p) x.initiator ≡ Some i → i.row.style ≡ fourphase_style → slice_get (requests_of p.platform i before) x.seq ≡ Some r → passage_of p x ≡ None
      → IsEntryOf (route_of p.platform i r.address) r.asked o w → HasWay fourphase_style r.asked w → IsIssuedBy fourphase_style t (issue_time p (entries be) x) w → t < 2 ^ 64
  unpassed-small (Memory m) (Accessed way access status got) t n i r before kind order is style asked none reply came issued = by_asked r.asked refl reply came
    where
      by_asked : (a : Asked) → r.asked ≡ a → IsEntryOf (route_of p.platform i r.address) a (Memory m) (Accessed way access status got) → HasWay fourphase_style a (Accessed way access status got) → t < 2 ^ 64
      by_asked (Transport b) q reply came = let found = passes-some p before x i r b is style asked q in let wrong : Some found.0 ≡ None = sym found.1 ∙ none in cc
      by_asked (DebugRead b) q reply came =
          let at : t ≡ issue_time p (entries be) x = subst (λ (v : Way). IsIssuedBy fourphase_style t (issue_time p (entries be) x) (Accessed v access status got)) came issued in
          omega (arith, at, issue-small p (entries be) all x)
      by_asked (Invalidation b) q reply came = absurd came
  unpassed-small (Memory m) (Granted g f l k) t n i r before kind order is style asked none reply came issued = absurd came
  unpassed-small (Memory m) (Invalidated f l) t n i r before kind order is style asked none reply came issued = omega (arith, issued, issue-small p (entries be) all x)
  unpassed-small (Memory m) (Closed g) t n i r before kind order is style asked none reply came issued = omega (arith, issued, issue-small p (entries be) all x)
  unpassed-small (Memory m) w t n i r before kind order is style asked none reply came issued = absurd kind
  unpassed-small (Hop h) (Call c a) t n i r before kind order is style asked none reply came issued = absurd order
  unpassed-small (Hop h) w t n i r before kind order is style asked none reply came issued = absurd kind
  unpassed-small (Pool k) (Take s) t n i r before kind order is style asked none reply came issued = absurd order
  unpassed-small (Pool k) (Acquire s) t n i r before kind order is style asked none reply came issued = absurd order
  unpassed-small (Pool k) (Release s f) t n i r before kind order is style asked none reply came issued = absurd order
  unpassed-small (Pool k) w t n i r before kind order is style asked none reply came issued = absurd kind
