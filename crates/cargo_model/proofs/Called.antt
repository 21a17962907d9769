-- The calls of each row of the table, as they become known.
use Rattle.std.proofs.Common.{◌≡◌, ℕ, suc, ◌+◌, ◌-◌, ◌<◌, ◌≤◌, List, [], ◌∷◌, length, true, false, refl, sym, ◌∙◌, ap, arith, subst, inl, inr}
use Rattle.std.specs.Prelude.{◌≢◌}
use Rattle.tlm_types.specs.declared.words.Phase.{Phase}
use Rattle.tlm_types.specs.declared.words.Phase.TheVariants.{BeginReq, EndReq, BeginResp, EndResp}
use Rattle.tlm_types.specs.declared.words.TlmSync.{TlmSync}
use Rattle.tlm_types.specs.declared.words.TlmSync.TheVariants.{Accepted, Updated, Completed}
use Rattle.tlm_types.specs.declared.words.ReqMode.{ReqMode}
use Rattle.tlm_types.specs.declared.words.ReqMode.TheVariants as Req
use Rattle.tlm_types.specs.declared.words.RespMode.{RespMode}
use Rattle.tlm_types.specs.declared.words.RespMode.TheVariants as Resp
use Rattle.tlm_types.specs.declared.words.TxnId.{TxnId}
use Rattle.base_phases.specs.Sequences.{Call}
use Rattle.flow_model.specs.Answers.{response_answer}
use Rattle.flow_model.specs.Table.{ending, sequences_of}
use Rattle.flow_model.specs.World.{Passage, World, hop_at, row_of}
use Rattle.flow_model.specs.Events.{Among, Event, Finds, IsCall}
use Rattle.flow_model.specs.Numbers.{EndIs, IsEnder, IsEnding, IsResponding, IsResponse, UpIs}
use Rattle.flow_model.specs.Called.{HasCalled}
use Rattle.cargo_model.specs.Called.{IsAnswerIn, IsCalled, IsReturned, IsSent, ends_in}
use Rattle.cargo_model.specs.Counts.{calls_down, calls_up, owed_after, owed_by, response_ends, responses}
use Rattle.cargo_model.specs.Laws.{AnswersFit, IsCounted}
use Rattle.cargo_model.proofs.Rows.{count_law}

pub answers_fit : AnswersFit
answers_fit Req.Accept true b = refl
answers_fit Req.Accept false b = refl
answers_fit Req.Short true b = refl
answers_fit Req.Short false b = refl
answers_fit Req.EndReq true b = refl
answers_fit Req.EndReq false b = refl
answers_fit Req.BeginResp true true = inr refl
answers_fit Req.BeginResp true false = inl refl
answers_fit Req.BeginResp false true = inr refl
answers_fit Req.BeginResp false false = inl refl
answers_fit Req.Complete true b = refl
answers_fit Req.Complete false b = refl

ending_long : (resp : RespMode) → length (ending resp) ≡ 1 + owed_by resp
ending_long Resp.Accept = refl
ending_long Resp.EndResp = refl
ending_long Resp.Complete = refl

ending_ends : (resp : RespMode) → ends_in (ending resp) ≡ owed_by resp
ending_ends Resp.Accept = refl
ending_ends Resp.EndResp = refl
ending_ends Resp.Complete = refl

few_owed_by : (resp : RespMode) → owed_by resp ≤ 1
few_owed_by Resp.Accept = omega arith
few_owed_by Resp.EndResp = omega arith
few_owed_by Resp.Complete = omega arith

in_ending : (resp : RespMode) → Among (ending resp) (BeginResp, response_answer resp)
in_ending Resp.Accept = inl refl
in_ending Resp.EndResp = inl refl
in_ending Resp.Complete = inl refl

-- no sequence has more than four calls
few_calls : (row : ReqMode) (resp : RespMode) (seq : List Call) → Among (sequences_of row resp) seq → length seq ≤ 4
few_calls row resp seq m = go row m
  where
    short : (c : Call) → suc (length (ending resp)) ≤ 4
    short c = let l = ending_long resp in let f = few_owed_by resp in omega (arith, l, f)

    long : suc (suc (length (ending resp))) ≤ 4
    long = let l = ending_long resp in let f = few_owed_by resp in omega (arith, l, f)

    of : (s : List Call) → s ≡ seq → length s ≤ 4 → length seq ≤ 4
    of s q l = subst (λ (t : List Call). length t ≤ 4) q l

    go : (row : ReqMode) → Among (sequences_of row resp) seq → length seq ≤ 4
    go Req.Accept (inl q) = of _ q long
    go Req.Accept (inr m) = absurd m
    go Req.Short (inl q) = of _ q (short (BeginReq, Accepted))
    go Req.Short (inr m) = absurd m
    go Req.EndReq (inl q) = of _ q (short (BeginReq, Accepted))
    go Req.EndReq (inr m) = absurd m
    go Req.BeginResp (inl q) = of _ q (omega arith)
    go Req.BeginResp (inr (inl q)) = of _ q (short (BeginReq, Accepted))
    go Req.BeginResp (inr (inr m)) = absurd m
    go Req.Complete (inl q) = of _ q (omega arith)
    go Req.Complete (inr m) = absurd m

some : ◌≡◌ {A = ℕ} 1 0 → ⊥
some q = cc

none : ◌≡◌ {A = ℕ} 0 1 → ⊥
none q = cc

module _ (K : Event → Type 0) (x : TxnId) (o : ℕ) where
  -- all calls of a sequence are known but END_RESP
  abbrev pub AreKnown : List Call → Type 0
  AreKnown seq = (phase : Phase) (answer : TlmSync) → Among seq (phase, answer) → phase ≢ EndResp → Finds K (IsCall x o phase answer)

  no_calls : AreKnown []
  no_calls q b m n = absurd m

  and_call : (phase : Phase) (a : TlmSync) (rest : List Call) → Finds K (IsCall x o phase a) → AreKnown rest → AreKnown ((phase, a) ∷ rest)
  and_call phase a rest f others q b (inl e) n = subst (λ (c : Call). Finds K (IsCall x o c.0 c.1)) e f
  and_call phase a rest f others q b (inr m) n = others q b m n

  and_end : (a : TlmSync) (rest : List Call) → AreKnown rest → AreKnown ((EndResp, a) ∷ rest)
  and_end a rest others q b (inl e) n = absurd (n (sym (ap (λ (c : Call). c.0) e)))
  and_end a rest others q b (inr m) n = others q b m n

  ending_known : (resp : RespMode) → Finds K (IsCall x o BeginResp (response_answer resp)) → AreKnown (ending resp)
  ending_known Resp.Accept f = and_call BeginResp Accepted ((EndResp, Completed) ∷ []) f (and_end Completed [] no_calls)
  ending_known Resp.EndResp f = and_call BeginResp (Updated EndResp) [] f no_calls
  ending_known Resp.Complete f = and_call BeginResp Completed [] f no_calls

  -- a sequence of the row with these calls
  pub record HasSequence (row : ReqMode) (resp : RespMode) (n owed : ℕ) : Type 0 where
    pub sequence : List Call
    pub given : Among (sequences_of row resp) sequence
    pub long : length sequence ≡ n
    pub known : AreKnown sequence
    pub ends : ends_in sequence ≡ owed

  module _ (resp : RespMode) (a : TlmSync) where
    with_answer : (b : TlmSync) → a ≡ b → Finds K (IsCall x o BeginReq a) → Finds K (IsCall x o BeginReq b)
    with_answer b q f = subst (λ (c : TlmSync). Finds K (IsCall x o BeginReq c)) q f

    -- with a BEGIN_RESP of its own
    pub sent_sequence : (row : ReqMode) → IsAnswerIn row a → responses row a ≡ 1 → Finds K (IsCall x o BeginReq a) → (row ≡ Req.Accept → Finds K (IsCall x o EndReq Accepted)) →
        Finds K (IsCall x o BeginResp (response_answer resp)) → HasSequence row resp (calls_up row a + owed_by resp) (owed_by resp)
    sent_sequence Req.Accept q one f e r = record {
      sequence = (BeginReq, Accepted) ∷ (EndReq, Accepted) ∷ ending resp;
      given = inl refl;
      long = (let l = ending_long resp in omega (arith, l));
      known = and_call BeginReq Accepted ((EndReq, Accepted) ∷ ending resp) (with_answer Accepted q f) (and_call EndReq Accepted (ending resp) (e refl) (ending_known resp r));
      ends = ending_ends resp;
    }
    sent_sequence Req.Short q one f e r = record {
      sequence = (BeginReq, Accepted) ∷ ending resp;
      given = inl refl;
      long = (let l = ending_long resp in omega (arith, l));
      known = and_call BeginReq Accepted (ending resp) (with_answer Accepted q f) (ending_known resp r);
      ends = ending_ends resp;
    }
    sent_sequence Req.EndReq q one f e r = record {
      sequence = (BeginReq, Updated EndReq) ∷ ending resp;
      given = inl refl;
      long = (let l = ending_long resp in omega (arith, l));
      known = and_call BeginReq (Updated EndReq) (ending resp) (with_answer (Updated EndReq) q f) (ending_known resp r);
      ends = ending_ends resp;
    }
    sent_sequence Req.BeginResp (inl q) one f e r = absurd (none (subst (λ (b : TlmSync). responses Req.BeginResp b ≡ 1) q one))
    sent_sequence Req.BeginResp (inr q) one f e r = record {
      sequence = (BeginReq, Updated EndReq) ∷ ending resp;
      given = inr (inl refl);
      long = (let l = ending_long resp in omega (arith, l, one));
      known = and_call BeginReq (Updated EndReq) (ending resp) (with_answer (Updated EndReq) q f) (ending_known resp r);
      ends = ending_ends resp;
    }
    sent_sequence Req.Complete q one f e r = absurd (none one)

    -- with the response in the answer of BEGIN_REQ
    pub returned_sequence : (row : ReqMode) → IsAnswerIn row a → responses row a ≡ 0 → Finds K (IsCall x o BeginReq a) → HasSequence row resp (calls_down row + response_ends row resp a) (response_ends row resp a)
    returned_sequence Req.Accept q without f = absurd (some without)
    returned_sequence Req.Short q without f = absurd (some without)
    returned_sequence Req.EndReq q without f = absurd (some without)
    returned_sequence Req.BeginResp (inl q) without f = record {
      sequence = (BeginReq, Updated BeginResp) ∷ (EndResp, Completed) ∷ [];
      given = inl refl;
      long = subst (λ (b : TlmSync). ◌≡◌ {A = ℕ} 2 (1 + owed_after resp b)) (sym q) refl;
      known = and_call BeginReq (Updated BeginResp) ((EndResp, Completed) ∷ []) (with_answer (Updated BeginResp) q f) (and_end Completed [] no_calls);
      ends = subst (λ (b : TlmSync). ◌≡◌ {A = ℕ} 1 (owed_after resp b)) (sym q) refl;
    }
    returned_sequence Req.BeginResp (inr q) without f = absurd (some (subst (λ (b : TlmSync). responses Req.BeginResp b ≡ 0) q without))
    returned_sequence Req.Complete q without f = record {
      sequence = (BeginReq, Completed) ∷ [];
      given = inl refl;
      long = refl;
      known = and_call BeginReq Completed [] (with_answer Completed q f) no_calls;
      ends = refl;
    }

  -- one of its calls is the response
  response_in : (row : ReqMode) (resp : RespMode) (seq : List Call) → Among (sequences_of row resp) seq → AreKnown seq → Finds K (IsResponse x o)
  response_in row resp seq m known = go row m
    where
      by : (phase : Phase) (a : TlmSync) → IsResponding phase a → Finds K (IsCall x o phase a) → Finds K (IsResponse x o)
      by phase a r f = record { event = f.event; known = f.known; is = record { phase = phase; answer = a; call = f.is; responds = r } }

      later : BeginResp ≢ EndResp
      later q = cc

      first : BeginReq ≢ EndResp
      first q = cc

      of : (s : List Call) → s ≡ seq → AreKnown s
      of s q = subst AreKnown (sym q) known

      go : (row : ReqMode) → Among (sequences_of row resp) seq → Finds K (IsResponse x o)
      go Req.Accept (inl q) = by BeginResp (response_answer resp) tt (of ((BeginReq, Accepted) ∷ (EndReq, Accepted) ∷ ending resp) q BeginResp (response_answer resp) (inr (inr (in_ending resp))) later)
      go Req.Accept (inr m) = absurd m
      go Req.Short (inl q) = by BeginResp (response_answer resp) tt (of ((BeginReq, Accepted) ∷ ending resp) q BeginResp (response_answer resp) (inr (in_ending resp)) later)
      go Req.Short (inr m) = absurd m
      go Req.EndReq (inl q) = by BeginResp (response_answer resp) tt (of ((BeginReq, Updated EndReq) ∷ ending resp) q BeginResp (response_answer resp) (inr (in_ending resp)) later)
      go Req.EndReq (inr m) = absurd m
      go Req.BeginResp (inl q) = by BeginReq (Updated BeginResp) tt (of ((BeginReq, Updated BeginResp) ∷ (EndResp, Completed) ∷ []) q BeginReq (Updated BeginResp) (inl refl) first)
      go Req.BeginResp (inr (inl q)) = by BeginResp (response_answer resp) tt (of ((BeginReq, Updated EndReq) ∷ ending resp) q BeginResp (response_answer resp) (inr (in_ending resp)) later)
      go Req.BeginResp (inr (inr m)) = absurd m
      go Req.Complete (inl q) = by BeginReq Completed tt (of ((BeginReq, Completed) ∷ []) q BeginReq Completed (inl refl) first)
      go Req.Complete (inr m) = absurd m

module _ (w : World) (K : Event → Type 0) (x : TxnId) (pass : Passage) (k : ℕ) where
  abbrev from_sequence : (n owed : ℕ) → HasSequence K x (hop_at pass k) (row_of w pass k) (w.hop (hop_at pass k)).resp n owed → HasCalled w K x pass k n
  from_sequence n owed s = record { sequence = s.sequence; given = s.given; long = s.long; known = s.known }

  fits : (a b c : ℕ) → a + b ≡ 4 → a + (b + c) ≡ 4 + c
  fits a b c q = omega arith

  -- the response that went up on hop k, once its BEGIN_RESP is known
  pub sent_returned : (left : ℕ) → IsSent w K x pass k left → Finds K (IsCall x (hop_at pass k) BeginResp (response_answer (w.hop (hop_at pass k)).resp)) → IsReturned w K x pass k (owed_by (w.hop (hop_at pass k)).resp) left
  sent_returned left s f =
      let q : HasSequence K x (hop_at pass k) (row_of w pass k) (w.hop (hop_at pass k)).resp _ _ = sent_sequence K x (hop_at pass k) (w.hop (hop_at pass k)).resp s.answer (row_of w pass k) s.fits s.responds s.begun s.ended f in
      record {
        calls = calls_up (row_of w pass k) s.answer + owed_by (w.hop (hop_at pass k)).resp;
        called = from_sequence _ _ q;
        sum = fits left _ _ s.sum;
        ends = q.ends;
      }

  pub answer_returned : (left : ℕ) (a : TlmSync) → IsAnswerIn (row_of w pass k) a → responses (row_of w pass k) a ≡ 0 → Finds K (IsCall x (hop_at pass k) BeginReq a) → left + calls_down (row_of w pass k) ≡ 4 →
      IsReturned w K x pass k (response_ends (row_of w pass k) (w.hop (hop_at pass k)).resp a) left
  answer_returned left a q none f sum =
      let r : HasSequence K x (hop_at pass k) (row_of w pass k) (w.hop (hop_at pass k)).resp _ _ = returned_sequence K x (hop_at pass k) (w.hop (hop_at pass k)).resp a (row_of w pass k) q none f in
      record {
        calls = calls_down (row_of w pass k) + response_ends (row_of w pass k) (w.hop (hop_at pass k)).resp a;
        called = from_sequence _ _ r;
        sum = fits left _ _ sum;
        ends = r.ends;
      }

  pub called_response : (n : ℕ) → HasCalled w K x pass k n → Finds K (IsResponse x (hop_at pass k))
  called_response n c = response_in K x (hop_at pass k) (row_of w pass k) (w.hop (hop_at pass k)).resp c.sequence c.given c.known

  pub called_few : (n : ℕ) → HasCalled w K x pass k n → n ≤ 4
  called_few n c = subst (λ (i : ℕ). i ≤ 4) c.long (few_calls (row_of w pass k) (w.hop (hop_at pass k)).resp c.sequence c.given)

  pub owed_there : (owed left : ℕ) → IsReturned w K x pass k owed left → owed ≤ left
  owed_there owed left c = let f = called_few c.calls c.called in let s = c.sum in omega (arith, f, s)

  pub owed_pulled : (owed left : ℕ) → IsReturned w K x pass k owed left → IsCalled w K x pass k (left - owed)
  owed_pulled owed left c = record { calls = c.calls; called = c.called; sum = fits_without left c.calls owed c.sum (called_few c.calls c.called) }
    where
      fits_without : (a b o : ℕ) → a + b ≡ 4 + o → b ≤ 4 → (a - o) + b ≡ 4
      fits_without a b o q l = omega arith

-- the sequences begin with BEGIN_REQ, so their lengths are those of its answer
begins_with : (row : ReqMode) (resp : RespMode) (seq : List Call) → Among (sequences_of row resp) seq → (a : TlmSync) × (rest : List Call) × ((BeginReq, a) ∷ rest ≡ seq)
begins_with Req.Accept resp seq (inl q) = (Accepted, (EndReq, Accepted) ∷ ending resp, q)
begins_with Req.Accept resp seq (inr m) = absurd m
begins_with Req.Short resp seq (inl q) = (Accepted, ending resp, q)
begins_with Req.Short resp seq (inr m) = absurd m
begins_with Req.EndReq resp seq (inl q) = (Updated EndReq, ending resp, q)
begins_with Req.EndReq resp seq (inr m) = absurd m
begins_with Req.BeginResp resp seq (inl q) = (Updated BeginResp, (EndResp, Completed) ∷ [], q)
begins_with Req.BeginResp resp seq (inr (inl q)) = (Updated EndReq, ending resp, q)
begins_with Req.BeginResp resp seq (inr (inr m)) = absurd m
begins_with Req.Complete resp seq (inl q) = (Completed, [], q)
begins_with Req.Complete resp seq (inr m) = absurd m

pub called_counts : (w : World) (K : Event → Type 0) (x : TxnId) (pass : Passage) (k n : ℕ) → HasCalled w K x pass k n → IsCounted w K x pass k n
called_counts w K x pass k n c =
    let row = row_of w pass k in
    let resp = (w.hop (hop_at pass k)).resp in
    let b = begins_with row resp c.sequence c.given in
    record {
      answer = b.0;
      begun = c.known BeginReq b.0 (subst (λ (s : List Call). Among s (BeginReq, b.0)) b.2 (inl refl)) first;
      count = sym c.long ∙ (sym (ap (λ (s : List Call). length s) b.2) ∙ count_law row resp b.0 b.1 (subst (λ (s : List Call). Among (sequences_of row resp) s) (sym b.2) c.given));
    }
  where
    first : BeginReq ≢ EndResp
    first q = cc

-- How an access has ended on a hop.
module _ (w : World) (K : Event → Type 0) (x : TxnId) (pass : Passage) (k : ℕ) where
  -- the ending call and its time
  pub record HasEnd : Type 0 where
    pub ender : Finds K (IsEnder x (hop_at pass k))
    pub time : ℕ
    pub is : EndIs w K x pass k time

  by_response : (a : TlmSync) → IsEnding BeginResp a → Finds K (IsCall x (hop_at pass k) BeginResp a) → HasEnd
  by_response a e f = record {
    ender = record { event = f.event; known = f.known; is = record { phase = BeginResp; answer = a; call = f.is; ends = e } };
    time = f.event.time;
    is = inr (record {
      event = f.event;
      known = f.known;
      is = (record { phase = BeginResp; answer = a; call = f.is; ends = e }, inl (record { answer = a; call = f.is }));
      time = refl;
    });
  }

  by_end : Finds K (IsCall x (hop_at pass k) EndResp Completed) → HasEnd
  by_end f = record {
    ender = record { event = f.event; known = f.known; is = record { phase = EndResp; answer = Completed; call = f.is; ends = tt } };
    time = f.event.time;
    is = inr (record {
      event = f.event;
      known = f.known;
      is = (record { phase = EndResp; answer = Completed; call = f.is; ends = tt }, inr (record { answer = Completed; call = f.is }));
      time = refl;
    });
  }

  by_completion : (t : ℕ) → UpIs w K x pass k t → Finds K (IsCall x (hop_at pass k) BeginReq Completed) → HasEnd
  by_completion t up f = record {
    ender = record { event = f.event; known = f.known; is = record { phase = BeginReq; answer = Completed; call = f.is; ends = tt } };
    time = t;
    is = inl (f, inr (record { event = f.event; known = f.known; is = record { answer = Completed; call = f.is; brings = tt } }, up));
  }

  pub ends_by : (t owed left : ℕ) → UpIs w K x pass k t → IsReturned w K x pass k owed left → (0 < owed → Finds K (IsCall x (hop_at pass k) EndResp Completed)) → HasEnd
  ends_by t owed left up r made = go (row_of w pass k) r.called.given
    where
      resp : RespMode
      resp = (w.hop (hop_at pass k)).resp

      known_of : (s : List Call) → s ≡ r.called.sequence → AreKnown K x (hop_at pass k) s
      known_of s q = subst (AreKnown K x (hop_at pass k)) (sym q) r.called.known

      ends_of : (s : List Call) → s ≡ r.called.sequence → ends_in s ≡ owed
      ends_of s q = subst (λ (i : List Call). ends_in i ≡ owed) (sym q) r.ends

      later : BeginResp ≢ EndResp
      later q = cc

      first : BeginReq ≢ EndResp
      first q = cc

      by_mode : (m : RespMode) → Finds K (IsCall x (hop_at pass k) BeginResp (response_answer m)) → owed_by m ≡ owed → HasEnd
      by_mode Resp.Accept f q = by_end (made (omega (arith, q)))
      by_mode Resp.EndResp f q = by_response (Updated EndResp) tt f
      by_mode Resp.Complete f q = by_response Completed tt f

      go : (row : ReqMode) → Among (sequences_of row resp) r.called.sequence → HasEnd
      go Req.Accept (inl q) = by_mode resp (known_of ((BeginReq, Accepted) ∷ (EndReq, Accepted) ∷ ending resp) q BeginResp (response_answer resp) (inr (inr (in_ending resp))) later)
          (sym (ending_ends resp) ∙ ends_of ((BeginReq, Accepted) ∷ (EndReq, Accepted) ∷ ending resp) q)
      go Req.Accept (inr m) = absurd m
      go Req.Short (inl q) = by_mode resp (known_of ((BeginReq, Accepted) ∷ ending resp) q BeginResp (response_answer resp) (inr (in_ending resp)) later)
          (sym (ending_ends resp) ∙ ends_of ((BeginReq, Accepted) ∷ ending resp) q)
      go Req.Short (inr m) = absurd m
      go Req.EndReq (inl q) = by_mode resp (known_of ((BeginReq, Updated EndReq) ∷ ending resp) q BeginResp (response_answer resp) (inr (in_ending resp)) later)
          (sym (ending_ends resp) ∙ ends_of ((BeginReq, Updated EndReq) ∷ ending resp) q)
      go Req.EndReq (inr m) = absurd m
      go Req.BeginResp (inl q) = let e = ends_of ((BeginReq, Updated BeginResp) ∷ (EndResp, Completed) ∷ []) q in by_end (made (omega (arith, e)))
      go Req.BeginResp (inr (inl q)) = by_mode resp (known_of ((BeginReq, Updated EndReq) ∷ ending resp) q BeginResp (response_answer resp) (inr (in_ending resp)) later)
          (sym (ending_ends resp) ∙ ends_of ((BeginReq, Updated EndReq) ∷ ending resp) q)
      go Req.BeginResp (inr (inr m)) = absurd m
      go Req.Complete (inl q) = by_completion t up (known_of ((BeginReq, Completed) ∷ []) q BeginReq Completed (inl refl) first)
      go Req.Complete (inr m) = absurd m
