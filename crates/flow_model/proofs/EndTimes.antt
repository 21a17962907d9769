-- The computed end of an access on a hop is its end.
use Rattle.std.proofs.Common.{◌≡◌, ℕ, ◌+◌, ◌<◌, List, [], ◌∷◌, ◌++◌, drop, Option, Some, None, true, false, Bool, cond, ◌&&◌, refl, ap, sym, ◌∙◌, subst, inl, inr, append_assoc}
use Rattle.std.specs.Prelude.{unwrap_or}
use Rattle.std.specs.List.{fold}
use Rattle.std.proofs.lemmas.List.{drop_more, map-append}
use Rattle.std.proofs.lemmas.List.Sums.{fold-append}
use Rattle.tlm_types.specs.declared.words.ObjectNo.TheVariants.{Hop}
use Rattle.tlm_types.specs.declared.words.Phase.{Phase}
use Rattle.tlm_types.specs.declared.words.Phase.TheVariants.{BeginReq, EndReq, BeginResp, EndResp}
use Rattle.tlm_types.specs.declared.words.TlmSync.{TlmSync}
use Rattle.tlm_types.specs.declared.words.TlmSync.TheVariants.{Accepted, Updated, Completed}
use Rattle.tlm_types.specs.declared.words.TxnId.{TxnId}
use Rattle.tlm_types.specs.declared.entry.Entry.{Entry}
use Rattle.tlm_types.specs.declared.entry.What.{What}
use Rattle.tlm_types.specs.declared.entry.What.TheVariants.{Access as Accessed, Granted, Invalidated, Closed, Call, Take, Acquire, Release}
use Rattle.tlm_model.specs.History.{entries_at}
use Rattle.tlm_model.specs.Route.{later}
use Rattle.flow_model.specs.ByRules.{last_time}
use Rattle.flow_model.specs.Calls.{calls_of, is_of}
use Rattle.flow_model.specs.World.{World, Passage, hop_at, hop_count}
use Rattle.flow_model.specs.Events.{Event, Among, Finds, FindsAt, IsCall, IsPhase, IsOwn, at, entries}
use Rattle.flow_model.specs.Numbers.{EndIs, IsEnder, Past, RspFrom, UpFrom}
use Rattle.flow_model.specs.Ends.{end_time, has_phase, is_completed, is_same_phase, phase_time, response_time}
use Rattle.flow_model.proofs.CallLists.{calls, call_of, calls_at, entries-at}
use Rattle.flow_model.proofs.Forms.{Given, Saying, says, sayings, is_txn}
use Rattle.flow_model.proofs.Nodes.{OneOf, before_call}
use Rattle.flow_model.proofs.OneNumber.{after_end, one_req, one_rsp, only_end}
use Rattle.flow_model.proofs.Sayings.{In, in_said, is_txn_self, same_txn, sayings-split}
use Rattle.flow_model.proofs.Splits.{among_at, among_right, among_split, at-split, from_at}
use Rattle.flow_model.proofs.Steps.{came, hop_model}

and_left : (a b : Bool) → (a && b) ≡ true → a ≡ true
and_left true b q = refl
and_left false b q = q

and_right : (a b : Bool) → (a && b) ≡ true → b ≡ true
and_right true b q = q
and_right false b q = cc

both : (a b : Bool) → a ≡ true → b ≡ true → (a && b) ≡ true
both true b p q = q
both false b p q = cc

clash : {A : Type 0} → ◌≡◌ {A = Bool} true false → A
clash q = cc

same_phase : (p q : Phase) → is_same_phase p q ≡ true → q ≡ p
same_phase BeginReq BeginReq s = refl
same_phase EndReq EndReq s = refl
same_phase BeginResp BeginResp s = refl
same_phase EndResp EndResp s = refl
same_phase BeginReq EndReq s = cc
same_phase BeginReq BeginResp s = cc
same_phase BeginReq EndResp s = cc
same_phase EndReq BeginReq s = cc
same_phase EndReq BeginResp s = cc
same_phase EndReq EndResp s = cc
same_phase BeginResp BeginReq s = cc
same_phase BeginResp EndReq s = cc
same_phase BeginResp EndResp s = cc
same_phase EndResp BeginReq s = cc
same_phase EndResp EndReq s = cc
same_phase EndResp BeginResp s = cc

phase_self : (p : Phase) → is_same_phase p p ≡ true
phase_self BeginReq = refl
phase_self EndReq = refl
phase_self BeginResp = refl
phase_self EndResp = refl

call_of_phase : (p : Phase) (v : What) → has_phase p v ≡ true → (a : TlmSync) × (v ≡ Call p a)
call_of_phase p (Call q a) s = (a, ap (λ (r : Phase). Call r a) (same_phase p q s))
call_of_phase p (Accessed way access status got) s = clash (sym s)
call_of_phase p (Granted g f l k) s = clash (sym s)
call_of_phase p (Invalidated f l) s = clash (sym s)
call_of_phase p (Closed g) s = clash (sym s)
call_of_phase p (Take k) s = clash (sym s)
call_of_phase p (Acquire k) s = clash (sym s)
call_of_phase p (Release k f) s = clash (sym s)

-- the time of a phase, or that there is none
data PhaseCase (x : TxnId) (o : ℕ) (p : Phase) (l : List Event) : Type 0 where
  at_time : (t : ℕ) → phase_time x p (entries l) ≡ Some t → FindsAt (Among l) (IsPhase x o p) t → PhaseCase x o p l
  never : phase_time x p (entries l) ≡ None → ¬ Finds (Among l) (IsPhase x o p) → PhaseCase x o p l

phase_case : (x : TxnId) (o : ℕ) (p : Phase) (l : List Event) → ((e : Event) → Among l e → e.object ≡ Hop o) → PhaseCase x o p l
phase_case x o p [] mine = never refl (λ f. f.known)
phase_case x o p (e ∷ l) mine = go (phase_case x o p l (λ f m. mine f (inr m))) (is_txn x e.txn && has_phase p e.what) refl
  where
    onward : (b : Bool) → (is_txn x e.txn && has_phase p e.what) ≡ b → phase_time x p (entries (e ∷ l)) ≡ cond b (Some e.time) (phase_time x p (entries l))
    onward b q = ap (λ (c : Bool). cond c (Some e.time) (phase_time x p (entries l))) q

    go : PhaseCase x o p l → (b : Bool) → (is_txn x e.txn && has_phase p e.what) ≡ b → PhaseCase x o p (e ∷ l)
    go r true q =
        let c = call_of_phase p e.what (and_right (is_txn x e.txn) (has_phase p e.what) q) in
        at_time e.time (onward true q) (record { event = e; known = inl refl; is = record { answer = c.0; call = record { object = mine e (inl refl); txn = same_txn x e.txn (and_left (is_txn x e.txn) (has_phase p e.what) q); what = c.1 } }; time = refl })
    go (at_time t s f) false q = at_time t (onward false q ∙ s) (record { event = f.event; known = inr f.known; is = f.is; time = f.time })
    go (never s n) false q = never (onward false q ∙ s) (λ f. here f.event f.known f.is)
      where
        here : (f : Event) → Among (e ∷ l) f → IsPhase x o p f → ⊥
        here f (inr m) i = n (record { event = f; known = m; is = i })
        here f (inl r) i =
            let t : is_txn x e.txn ≡ true = subst (λ (y : TxnId). is_txn x y ≡ true) (sym (ap (λ (d : Event). d.txn) r ∙ i.call.txn)) (is_txn_self x) in
            let v : has_phase p e.what ≡ true = ap (has_phase p) (ap (λ (d : Event). d.what) r ∙ i.call.what) ∙ phase_self p in
            clash (sym (both (is_txn x e.txn) (has_phase p e.what) t v) ∙ q)

-- entries of other transactions leave the last time
last_none : (x : TxnId) (l : List Event) (t : ℕ) → ((e : Event) → Among l e → is_txn x e.txn ≡ false) → fold (λ (old : ℕ) (d : Entry). cond (is_of x d) d.time old) t (entries l) ≡ t
last_none x [] t f = refl
last_none x (e ∷ l) t f =
    ap (λ (u : ℕ). fold (λ (old : ℕ) (d : Entry). cond (is_of x d) d.time old) u (entries l)) (ap (λ (b : Bool). cond b e.time t) (f e (inl refl)))
    ∙ last_none x l t (λ g m. f g (inr m))

completed_in : (cs : List Saying) → is_completed (calls cs) ≡ true → In cs (says BeginReq Completed)
unfolding calls call_of
completed_in [] q = clash (sym q)
completed_in (s ∷ cs) q = go s.phase s.answer refl refl q
  where
    here : (p : Phase) (a : TlmSync) → s.phase ≡ p → s.answer ≡ a → s ≡ says p a
    here p a q r = λ i. record { phase = q i; answer = r i }

    go : (p : Phase) (a : TlmSync) → s.phase ≡ p → s.answer ≡ a → is_completed ((p, a) ∷ calls cs) ≡ true → In (s ∷ cs) (says BeginReq Completed)
    go BeginReq Completed u v q = inl (here BeginReq Completed u v)
    go BeginReq Accepted u v q = clash (sym q)
    go BeginReq (Updated r) u v q = clash (sym q)
    go EndReq a u v q = clash (sym q)
    go BeginResp a u v q = clash (sym q)
    go EndResp a u v q = clash (sym q)

completed_first : (a : List Saying) → is_completed (calls (says BeginReq Completed ∷ a)) ≡ true
unfolding calls call_of
completed_first a = refl

module _ (w : World) (slots : ℕ → ℕ) (issued : List Entry → TxnId → ℕ) (h : List Event) (pr : Given w slots issued h) (x : TxnId) where
  mine : (o : ℕ) (e : Event) → Among (at (Hop o) h) e → e.object ≡ Hop o
  mine o e m = (from_at (Hop o) h e m).mine

  in_history : (o : ℕ) (P : Event → Type 0) (t : ℕ) → FindsAt (Among (at (Hop o) h)) P t → FindsAt (Among h) P t
  in_history o P t f = record { event = f.event; known = (from_at (Hop o) h f.event f.known).among; is = f.is; time = f.time }

  in_log : (o : ℕ) (p : Phase) → Finds (Among h) (IsPhase x o p) → Finds (Among (at (Hop o) h)) (IsPhase x o p)
  in_log o p f = record { event = f.event; known = among_at (Hop o) h f.event f.known f.is.call.object; is = f.is }

  -- phase_time on the hop's log
  timed : (o : ℕ) (p : Phase) → PhaseCase x o p (at (Hop o) h)
  timed o p = phase_case x o p (at (Hop o) h) (mine o)

  log_time : (o : ℕ) (p : Phase) → phase_time x p (entries_at (Hop o) (entries h)) ≡ phase_time x p (entries (at (Hop o) h))
  log_time o p = ap (phase_time x p) (entries-at (Hop o) h)

  past_is : (o t : ℕ) → Past w (Among h) x o t → t ≡ later (unwrap_or (phase_time x BeginReq (entries_at (Hop o) (entries h))) 0) (w.hop o).latency
  past_is o t f = go (timed o BeginReq)
    where
      go : PhaseCase x o BeginReq (at (Hop o) h) → t ≡ later (unwrap_or (phase_time x BeginReq (entries_at (Hop o) (entries h))) 0) (w.hop o).latency
      go (at_time u s g) =
          f.sum ∙ ap (λ (r : ℕ). later r (w.hop o).latency) (one_req w slots issued h pr x o f.req u f.is_req (in_history o (IsPhase x o BeginReq) u g) ∙ sym (ap (λ (r : Option ℕ). unwrap_or r 0) (log_time o BeginReq ∙ s)))
      go (never s n) = absurd (n (in_log o BeginReq (record { event = f.is_req.event; known = f.is_req.known; is = f.is_req.is })))

  rsp_is : (o : ℕ) (rest : List ℕ) (t : ℕ) → RspFrom w (Among h) x o rest t → t ≡ response_time w x (entries h) (o ∷ rest)
  rsp_is o [] t r = go (timed o BeginResp) r
    where
      go : PhaseCase x o BeginResp (at (Hop o) h) → RspFrom w (Among h) x o [] t → t ≡ unwrap_or (phase_time x BeginResp (entries_at (Hop o) (entries h))) (later (unwrap_or (phase_time x BeginReq (entries_at (Hop o) (entries h))) 0) (w.hop o).latency)
      go (at_time u s g) r = one_rsp w slots issued h pr x o [] t u r (inl (in_history o (IsPhase x o BeginResp) u g)) ∙ sym (ap (λ (d : Option ℕ). unwrap_or d (later (unwrap_or (phase_time x BeginReq (entries_at (Hop o) (entries h))) 0) (w.hop o).latency)) (log_time o BeginResp ∙ s))
      go (never s n) (inl f) = absurd (n (in_log o BeginResp (record { event = f.event; known = f.known; is = f.is })))
      go (never s n) (inr f) = past_is o t f.1 ∙ sym (ap (λ (d : Option ℕ). unwrap_or d (later (unwrap_or (phase_time x BeginReq (entries_at (Hop o) (entries h))) 0) (w.hop o).latency)) (log_time o BeginResp ∙ s))
  rsp_is o (p ∷ rest) t r = go (λ u d. rsp_is p rest u d) (timed o BeginResp) r
    where
      next : UpFrom w (Among h) x o (p ∷ rest) t → RspFrom w (Among h) x p rest t
      next (inl f) = inl f
      next (inr f) = inr f

      go : ((u : ℕ) → RspFrom w (Among h) x p rest u → u ≡ response_time w x (entries h) (p ∷ rest)) → PhaseCase x o BeginResp (at (Hop o) h) → RspFrom w (Among h) x o (p ∷ rest) t → t ≡ unwrap_or (phase_time x BeginResp (entries_at (Hop o) (entries h))) (response_time w x (entries h) (p ∷ rest))
      go more (at_time u s g) r = one_rsp w slots issued h pr x o (p ∷ rest) t u r (inl (in_history o (IsPhase x o BeginResp) u g)) ∙ sym (ap (λ (d : Option ℕ). unwrap_or d (response_time w x (entries h) (p ∷ rest))) (log_time o BeginResp ∙ s))
      go more (never s n) (inl f) = absurd (n (in_log o BeginResp (record { event = f.event; known = f.known; is = f.is })))
      go more (never s n) (inr f) = more t (next f.1) ∙ sym (ap (λ (d : Option ℕ). unwrap_or d (response_time w x (entries h) (p ∷ rest))) (log_time o BeginResp ∙ s))

  -- a completed BEGIN_REQ is the first call
  completed_is : (o : ℕ) → Finds (Among h) (IsCall x o BeginReq Completed) → is_completed (calls_of x (entries_at (Hop o) (entries h))) ≡ true
  completed_is o f =
      let s = among_split h f.event f.known in
      let c = (came w slots issued h pr s.before s.after f.event s.is x o BeginReq Completed f.is).0 in
      let split : sayings x o h ≡ sayings x o s.before ++ says BeginReq Completed ∷ sayings x o s.after = sayings-split x o h s.before s.after f.event BeginReq Completed s.is f.is in
      ap is_completed (calls_at x o h ∙ ap calls split) ∙ first (sayings x o s.before) (sayings x o s.after) c
    where
      first : (b a : List Saying) → OneOf (before_call BeginReq) b → is_completed (calls (b ++ says BeginReq Completed ∷ a)) ≡ true
      first b a (inl q) = ap (λ (l : List Saying). is_completed (calls (l ++ says BeginReq Completed ∷ a))) q ∙ completed_first a
      first b a (inr q) = absurd q

  -- the call that ended the sequence is the last
  ender_last : (o t : ℕ) (g : Event) → Among h g → IsEnder x o g → g.time ≡ t → t ≡ last_time x (entries_at (Hop o) (entries h))
  ender_last o t g m i q =
      let s = among_split h g m in
      let log : at (Hop o) h ≡ at (Hop o) s.before ++ g ∷ at (Hop o) s.after = at-split (Hop o) h s.before s.after g s.is i.call.object in
      let all : entries_at (Hop o) (entries h) ≡ entries (at (Hop o) s.before) ++ g.entry ∷ entries (at (Hop o) s.after) =
      entries-at (Hop o) h ∙ (ap entries log ∙ map-append (λ (e : Event). e.entry) (at (Hop o) s.before) (g ∷ at (Hop o) s.after)) in
      let own : is_txn x g.txn ≡ true = subst (λ (y : TxnId). is_txn x y ≡ true) (sym i.call.txn) (is_txn_self x) in
      let later_none : (f : Event) → Among (at (Hop o) s.after) f → is_txn x f.txn ≡ false = λ f n. none s.before s.after s.is f n (is_txn x f.txn) refl in
      sym (ap (last_time x) all
      ∙ (fold-append (λ (old : ℕ) (d : Entry). cond (is_of x d) d.time old) 0 (entries (at (Hop o) s.before)) (g.entry ∷ entries (at (Hop o) s.after))
      ∙ (ap (λ (b : Bool). fold (λ (old : ℕ) (d : Entry). cond (is_of x d) d.time old) (cond b g.time (last_time x (entries (at (Hop o) s.before)))) (entries (at (Hop o) s.after))) own
      ∙ (last_none x (at (Hop o) s.after) g.time later_none ∙ q))))
    where
      none : (b a : List Event) → h ≡ b ++ g ∷ a → (f : Event) → Among (at (Hop o) a) f → (c : Bool) → is_txn x f.txn ≡ c → is_txn x f.txn ≡ false
      none b a r f n false z = z
      none b a r f n true z =
          let p = from_at (Hop o) a f n in
          let d = among_split a f p.among in
          let whole : h ≡ (b ++ g ∷ d.before) ++ f ∷ d.after = r ∙ (ap (λ (l : List Event). b ++ g ∷ l) d.is ∙ sym (append_assoc b (g ∷ d.before) (f ∷ d.after))) in
          let k = (hop_model w slots issued h pr o).steps (at (Hop o) (b ++ g ∷ d.before)) f (at (Hop o) d.after) (at-split (Hop o) h (b ++ g ∷ d.before) d.after f whole p.mine) in
          let own : IsOwn x o f = record { phase = k.phase; answer = k.answer; call = record { object = p.mine; txn = same_txn x f.txn z; what = k.what } } in
          absurd (after_end w slots issued h pr x o g f i own (record { place = record { before = b ++ g ∷ d.before; after = d.after; is = whole }; known = among_right b (g ∷ d.before) g (inl refl) }))

  pub end_is : (pass : Passage) (k : ℕ) → k < hop_count pass → (t : ℕ) → EndIs w (Among h) x pass k t → t ≡ end_time w x (entries h) (drop k pass.hops)
  end_is pass k below t e = go e ∙ sym (ap (end_time w x (entries h)) (drop_more pass.hops k 0 below))
    where
      go : EndIs w (Among h) x pass k t → t ≡ cond (is_completed (calls_of x (entries_at (Hop (hop_at pass k)) (entries h)))) (response_time w x (entries h) (hop_at pass k ∷ drop (k + 1) pass.hops)) (last_time x (entries_at (Hop (hop_at pass k)) (entries h)))
      go (inl f) =
          rsp_is (hop_at pass k) (drop (k + 1) pass.hops) t f.1
          ∙ sym (ap (λ (b : Bool). cond b (response_time w x (entries h) (hop_at pass k ∷ drop (k + 1) pass.hops)) (last_time x (entries_at (Hop (hop_at pass k)) (entries h)))) (completed_is (hop_at pass k) f.0))
      go (inr f) = by_last (is_completed (calls_of x (entries_at (Hop (hop_at pass k)) (entries h)))) refl
        where
          by_last : (b : Bool) → is_completed (calls_of x (entries_at (Hop (hop_at pass k)) (entries h))) ≡ b → t ≡ cond (is_completed (calls_of x (entries_at (Hop (hop_at pass k)) (entries h)))) (response_time w x (entries h) (hop_at pass k ∷ drop (k + 1) pass.hops)) (last_time x (entries_at (Hop (hop_at pass k)) (entries h)))
          by_last false q = ender_last (hop_at pass k) t f.event f.known f.is.0 f.time ∙ sym (ap (λ (b : Bool). cond b (response_time w x (entries h) (hop_at pass k ∷ drop (k + 1) pass.hops)) (last_time x (entries_at (Hop (hop_at pass k)) (entries h)))) q)
          by_last true q = absurd (only_end w slots issued h pr x (hop_at pass k) t (in_said x (hop_at pass k) h BeginReq Completed (completed_in (sayings x (hop_at pass k) h) (ap is_completed (sym (calls_at x (hop_at pass k) h)) ∙ q))) f)
