-- An access that has ended on a hop, and whose calls are known but END_RESP, has a whole sequence there.
use Rattle.std.proofs.Common.{◌≡◌, ◌≢◌, ℕ, List, [], ◌∷◌, length, Bool, true, false, refl, ap, sym, ◌∙◌, subst, ◌⊎◌, inl, inr}
use Rattle.tlm_types.specs.declared.words.ObjectNo.TheVariants.{Hop}
use Rattle.tlm_types.specs.declared.words.Phase.{Phase}
use Rattle.tlm_types.specs.declared.words.Phase.TheVariants.{BeginReq, EndReq, BeginResp, EndResp}
use Rattle.tlm_types.specs.declared.words.TlmSync.{TlmSync}
use Rattle.tlm_types.specs.declared.words.TlmSync.TheVariants.{Accepted, Updated, Completed}
use Rattle.tlm_types.specs.declared.words.ReqMode.{ReqMode}
use Rattle.tlm_types.specs.declared.words.ReqMode.TheVariants as Req
use Rattle.tlm_types.specs.declared.words.RespMode.{RespMode}
use Rattle.tlm_types.specs.declared.words.RespMode.TheVariants as Resp
use Rattle.tlm_types.specs.declared.words.TxnId.{TxnId}
use Rattle.tlm_types.specs.declared.entry.Entry.{Entry}
use Rattle.tlm_types.specs.declared.entry.What.{What}
use Rattle.tlm_types.specs.declared.entry.What.TheVariants.{Call as Called}
use Rattle.base_phases.specs.Sequences.{Call, IsSequence}
use Rattle.flow_model.specs.Answers.{request_answer, response_answer}
use Rattle.flow_model.specs.Calls.{calls_of}
use Rattle.flow_model.specs.Table.{ending, sequences_of}
use Rattle.flow_model.specs.World.{World, Passage, hop_at, row_by, is_refused, row_of}
use Rattle.flow_model.specs.Events.{Among, Event, Finds, IsCall, entries, hop_log, at}
use Rattle.flow_model.specs.Numbers.{IsEnder, IsEnding}
use Rattle.flow_model.specs.Law.{HasSteps}
use Rattle.flow_model.specs.Counting.{HasSequence}
use Rattle.flow_model.proofs.Forms.{Saying, says, sayings}
use Rattle.flow_model.proofs.Sayings.{In, said_in}
use Rattle.flow_model.proofs.CallLists.{call_of, calls, calls_at, entries-at}
use Rattle.flow_model.proofs.Splits.{among_at, from_at}
use Rattle.flow_model.specs.Called.{HasCalled}
use Rattle.joined_traffic.proofs.HopSteps.{FitsBy, Known, fits}

among_calls : (cs : List Saying) (p : Phase) (a : TlmSync) → In cs (says p a) → Among (calls cs) (p, a)
unfolding calls call_of
among_calls [] p a m = absurd m
among_calls (c ∷ cs) p a (inl q) = inl (ap call_of q)
among_calls (c ∷ cs) p a (inr m) = inr (among_calls cs p a m)

-- a call in the history is one of the calls on its hop
pub call_in : (x : TxnId) (o : ℕ) (h : List Event) (p : Phase) (a : TlmSync) → Finds (Among h) (IsCall x o p a) → Among (calls_of x (hop_log o h)) (p, a)
call_in x o h p a f = subst (λ (l : List Call). Among l (p, a)) (sym (calls_at x o h)) (among_calls (sayings x o h) p a (said_in x o h f.event p a f.known f.is))

entry_in : (l : List Event) (e : Event) → Among l e → Among (entries l) e.entry
entry_in [] e m = absurd m
entry_in (f ∷ l) e (inl q) = inl (ap (λ (g : Event). g.entry) q)
entry_in (f ∷ l) e (inr m) = inr (entry_in l e m)

pub record Origin (l : List Event) (e : Entry) : Type 0 where
  pub event : Event
  pub known : Among l event
  pub is : event.entry ≡ e

pub entry_from : (l : List Event) (e : Entry) → Among (entries l) e → Origin l e
entry_from [] e m = absurd m
entry_from (f ∷ l) e (inl q) = record { event = f; known = inl refl; is = q }
entry_from (f ∷ l) e (inr m) = let r = entry_from l e m in record { event = r.event; known = inr r.known; is = r.is }

pub log_entry : (o : ℕ) (h : List Event) (e : Event) → Among h e → e.object ≡ Hop o → Among (hop_log o h) e.entry
log_entry o h e m mine = subst (λ (l : List Entry). Among l e.entry) (sym (entries-at (Hop o) h)) (entry_in (at (Hop o) h) e (among_at (Hop o) h e m mine))

module _ (w : World) (o : ℕ) (h : List Event) (steps : HasSteps w o h) where
  -- the calls on the hop
  abbrev pub InLog : Known
  InLog y c = Among (calls_of y (hop_log o h)) c

  in_log : (e : Entry) → Among (hop_log o h) e → (p : Phase) (a : TlmSync) → e.what ≡ Called p a → InLog e.txn (p, a)
  in_log e m p a v =
      let r = entry_from (at (Hop o) h) e (subst (λ (l : List Entry). Among l e) (entries-at (Hop o) h) m) in
      let at_hop = from_at (Hop o) h r.event r.known in
      call_in e.txn o h p a (record {
        event = r.event;
        known = at_hop.among;
        is = record { object = at_hop.mine; txn = ap (λ (f : Entry). f.txn) r.is; what = ap (λ (f : Entry). f.what) r.is ∙ v };
      })

  pub entry_fits : (e : Event) → Among h e → e.object ≡ Hop o → FitsBy (w.hop o).rules InLog e.txn e.what
  entry_fits e m at_hop = fits (w.hop o).rules InLog (hop_log o h) steps.board in_log steps.steps e.entry (log_entry o h e m at_hop)

  pub call_fits : (x : TxnId) (p : Phase) (a : TlmSync) (e : Event) → Among h e → IsCall x o p a e → FitsBy (w.hop o).rules InLog x (Called p a)
  call_fits x p a e m c =
      subst (λ (v : What). FitsBy (w.hop o).rules InLog x v) c.what (
      subst (λ (y : TxnId). FitsBy (w.hop o).rules InLog y e.what) c.txn (
      fits (w.hop o).rules InLog (hop_log o h) steps.board in_log steps.steps e.entry (log_entry o h e m c.object)))

-- each of these calls is among those
abbrev AllIn : List Call → List Call → Type 0
AllIn cs [] = Unit {0}
AllIn cs (c ∷ s) = Among cs c × AllIn cs s

all_in : (cs s : List Call) → AllIn cs s → (c : Call) → Among s c → Among cs c
all_in cs [] a c m = absurd m
all_in cs (d ∷ s) a c (inl q) = subst (Among cs) q a.0
all_in cs (d ∷ s) a c (inr m) = all_in cs s a.1 c m

-- all but END_RESP
abbrev KnownIn : List Call → List Call → Type 0
KnownIn cs s = (p : Phase) (a : TlmSync) → Among s (p, a) → p ≢ EndResp → Among cs (p, a)

-- how an access of this row has ended
record ByResponse (row : ReqMode) (resp : RespMode) (cs : List Call) : Type 0 where
  accepts : resp ≢ Resp.Accept
  called : Among cs (BeginResp, response_answer resp)
  begun : row ≡ Req.BeginResp → Among cs (BeginReq, Updated EndReq)

abbrev EndedBy : ReqMode → RespMode → List Call → Type 0
EndedBy row resp cs = Among cs (EndResp, Completed) ⊎ ((row ≡ Req.Complete) ⊎ ByResponse row resp cs)

module _ (log : List Entry) (x : TxnId) where
  cs : List Call
  cs = calls_of x log

  closed : (row : ReqMode) → EndedBy row Resp.Accept (calls_of x log) → row ≢ Req.Complete → Among (calls_of x log) (EndResp, Completed)
  closed row (inl e) d = e
  closed row (inr (inl q)) d = absurd (d q)
  closed row (inr (inr b)) d = absurd (b.accepts refl)

  has : (s : List Call) (n : ℕ) → IsSequence s → length s ≡ n → AllIn (calls_of x log) s → HasSequence log x n
  has s n whole long all = record { sequence = s; is = whole; long = long; all = all_in (calls_of x log) s all }

  made : (row : ReqMode) (resp : RespMode) (s : List Call) (n : ℕ) → Among (sequences_of row resp) s → length s ≡ n → KnownIn (calls_of x log) s → EndedBy row resp (calls_of x log) → HasSequence log x n
  made row resp s n m long k ended = by_row row resp m ended
    where
      own : (t : List Call) → t ≡ s → KnownIn (calls_of x log) t
      own t q = subst (KnownIn (calls_of x log)) (sym q) k

      size : (t : List Call) → t ≡ s → length t ≡ n
      size t q = ap length q ∙ long

      three : (t0 t1 : TlmSync) (t : Phase) (rest : List Call) → (BeginReq, t0) ∷ (t, t1) ∷ rest ≡ s → t ≢ EndResp → AllIn (calls_of x log) rest → AllIn (calls_of x log) ((BeginReq, t0) ∷ (t, t1) ∷ rest)
      three t0 t1 t rest q d all = (own _ q BeginReq t0 (inl refl) (λ r. cc), (own _ q t t1 (inr (inl refl)) d, all))

      by_return : (resp : RespMode) → EndedBy Req.BeginResp resp (calls_of x log) → (BeginReq, Updated BeginResp) ∷ (EndResp, Completed) ∷ [] ≡ s → HasSequence log x n
      by_return resp (inl e) q = has _ n (1, refl) (size _ q) (own _ q BeginReq (Updated BeginResp) (inl refl) (λ r. cc), (e, tt))
      by_return resp (inr (inl c)) q = cc
      by_return Resp.Accept (inr (inr b)) q = absurd (b.accepts refl)
      by_return Resp.EndResp (inr (inr b)) q = has ((BeginReq, Updated EndReq) ∷ (BeginResp, Updated EndResp) ∷ []) n (3, refl) (size _ q) (b.begun refl, (b.called, tt))
      by_return Resp.Complete (inr (inr b)) q = has ((BeginReq, Updated EndReq) ∷ (BeginResp, Completed) ∷ []) n (4, refl) (size _ q) (b.begun refl, (b.called, tt))

      at_once : (row : ReqMode) (resp : RespMode) → row ≢ Req.Complete → EndedBy row resp (calls_of x log) → Among (sequences_of Req.EndReq resp) s → HasSequence log x n
      at_once row Resp.Accept d ended (inl q) = has _ n (2, refl) (size _ q) (three (Updated EndReq) Accepted BeginResp _ q (λ r. cc) (closed row ended d, tt))
      at_once row Resp.Accept d ended (inr z) = absurd z
      at_once row Resp.EndResp d ended (inl q) = has _ n (3, refl) (size _ q) (three (Updated EndReq) (Updated EndResp) BeginResp _ q (λ r. cc) tt)
      at_once row Resp.EndResp d ended (inr z) = absurd z
      at_once row Resp.Complete d ended (inl q) = has _ n (4, refl) (size _ q) (three (Updated EndReq) Completed BeginResp _ q (λ r. cc) tt)
      at_once row Resp.Complete d ended (inr z) = absurd z

      by_row : (row : ReqMode) (resp : RespMode) → Among (sequences_of row resp) s → EndedBy row resp (calls_of x log) → HasSequence log x n
      by_row Req.Accept Resp.Accept (inl q) ended = has _ n (5, refl) (size _ q) (three Accepted Accepted EndReq _ q (λ r. cc) (own _ q BeginResp Accepted (inr (inr (inl refl))) (λ r. cc), (closed Req.Accept ended (λ r. cc), tt)))
      by_row Req.Accept Resp.Accept (inr z) ended = absurd z
      by_row Req.Accept Resp.EndResp (inl q) ended = has _ n (6, refl) (size _ q) (three Accepted Accepted EndReq _ q (λ r. cc) (own _ q BeginResp (Updated EndResp) (inr (inr (inl refl))) (λ r. cc), tt))
      by_row Req.Accept Resp.EndResp (inr z) ended = absurd z
      by_row Req.Accept Resp.Complete (inl q) ended = has _ n (7, refl) (size _ q) (three Accepted Accepted EndReq _ q (λ r. cc) (own _ q BeginResp Completed (inr (inr (inl refl))) (λ r. cc), tt))
      by_row Req.Accept Resp.Complete (inr z) ended = absurd z
      by_row Req.Short Resp.Accept (inl q) ended = has _ n (8, refl) (size _ q) (three Accepted Accepted BeginResp _ q (λ r. cc) (closed Req.Short ended (λ r. cc), tt))
      by_row Req.Short Resp.Accept (inr z) ended = absurd z
      by_row Req.Short Resp.EndResp (inl q) ended = has _ n (9, refl) (size _ q) (three Accepted (Updated EndResp) BeginResp _ q (λ r. cc) tt)
      by_row Req.Short Resp.EndResp (inr z) ended = absurd z
      by_row Req.Short Resp.Complete (inl q) ended = has _ n (10, refl) (size _ q) (three Accepted Completed BeginResp _ q (λ r. cc) tt)
      by_row Req.Short Resp.Complete (inr z) ended = absurd z
      by_row Req.EndReq resp m ended = at_once Req.EndReq resp (λ r. cc) ended m
      by_row Req.BeginResp resp (inl q) ended = by_return resp ended q
      by_row Req.BeginResp resp (inr m) ended = at_once Req.BeginResp resp (λ r. cc) ended (second resp m)
        where
          second : (resp : RespMode) → Among (((BeginReq, Updated EndReq) ∷ ending resp) ∷ []) s → Among (sequences_of Req.EndReq resp) s
          second resp m = m
      by_row Req.Complete resp (inl q) ended = has _ n (0, refl) (size _ q) (own _ q BeginReq Completed (inl refl) (λ r. cc), tt)
      by_row Req.Complete resp (inr z) ended = absurd z

completes : (req : ReqMode) (b : Bool) → Completed ≡ request_answer req b → req ≡ Req.Complete
completes Req.Complete b q = refl
completes Req.Accept b q = cc
completes Req.Short b q = cc
completes Req.EndReq b q = cc
completes Req.BeginResp true q = cc
completes Req.BeginResp false q = cc

row_completes : (b : Bool) (req : ReqMode) → req ≡ Req.Complete → row_by b req ≡ Req.Complete
row_completes true req q = ap (row_by true) q
row_completes false req q = ap (row_by false) q

row_responds : (b : Bool) (req : ReqMode) → row_by b req ≡ Req.BeginResp → req ≡ Req.BeginResp
row_responds true Req.Accept q = cc
row_responds true Req.Short q = cc
row_responds true Req.EndReq q = cc
row_responds true Req.BeginResp q = refl
row_responds true Req.Complete q = cc
row_responds false req q = q

module _ (w : World) (h : List Event) (x : TxnId) (pass : Passage) (k : ℕ) (steps : HasSteps w (hop_at pass k) h) where
  abbrev Done : Type 0
  Done = EndedBy (row_of w pass k) (w.hop (hop_at pass k)).resp (calls_of x (hop_log (hop_at pass k) h))

  ended_by : (p : Phase) (a : TlmSync) (e : Event) → Among h e → IsCall x (hop_at pass k) p a e → IsEnding p a → FitsBy (w.hop (hop_at pass k)).rules (InLog w (hop_at pass k) h steps) x (Called p a) → Done
  ended_by EndResp a e m c ends f = inl (subst (λ (b : TlmSync). Among (calls_of x (hop_log (hop_at pass k) h)) (EndResp, b)) f (call_in x (hop_at pass k) h EndResp a (record { event = e; known = m; is = c })))
  ended_by BeginReq Completed e m c ends f = inr (inl (row_completes (is_refused w pass k) (w.hop (hop_at pass k)).req (completes (w.hop (hop_at pass k)).req f.0 f.1)))
  ended_by BeginReq Accepted e m c ends f = absurd ends
  ended_by BeginReq (Updated p) e m c ends f = absurd ends
  ended_by BeginResp Accepted e m c ends f = absurd ends
  ended_by BeginResp (Updated p) e m c ends f = inr (inr (record {
    accepts = λ q. clash (f.0 ∙ ap response_answer q);
    called = subst (λ (b : TlmSync). Among (calls_of x (hop_log (hop_at pass k) h)) (BeginResp, b)) f.0 (call_in x (hop_at pass k) h BeginResp (Updated p) (record { event = e; known = m; is = c }));
    begun = λ q. f.1 (row_responds (is_refused w pass k) (w.hop (hop_at pass k)).req q);
  }))
    where
      clash : Updated p ≡ Accepted → ⊥
      clash q = cc
  ended_by BeginResp Completed e m c ends f = inr (inr (record {
    accepts = λ q. clash (f.0 ∙ ap response_answer q);
    called = subst (λ (b : TlmSync). Among (calls_of x (hop_log (hop_at pass k) h)) (BeginResp, b)) f.0 (call_in x (hop_at pass k) h BeginResp Completed (record { event = e; known = m; is = c }));
    begun = λ q. f.1 (row_responds (is_refused w pass k) (w.hop (hop_at pass k)).req q);
  }))
    where
      clash : Completed ≡ Accepted → ⊥
      clash q = cc
  ended_by EndReq a e m c ends f = absurd ends

  -- its calls there hold a whole sequence, of the length that its initiator knows
  pub sequence_of : (n : ℕ) → HasCalled w (Among h) x pass k n → Finds (Among h) (IsEnder x (hop_at pass k)) → HasSequence (hop_log (hop_at pass k) h) x n
  sequence_of n called ender =
      let e = ender.is in
      made (hop_log (hop_at pass k) h) x (row_of w pass k) (w.hop (hop_at pass k)).resp called.sequence n called.given called.long
      (λ p a m d. call_in x (hop_at pass k) h p a (called.known p a m d))
      (ended_by e.phase e.answer ender.event ender.known e.call e.ends (call_fits w (hop_at pass k) h steps x e.phase e.answer ender.event ender.known e.call))
