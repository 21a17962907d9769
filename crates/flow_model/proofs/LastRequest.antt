-- On a hop the last call that ended a request has the greatest_time time of those that did.
use Rattle.std.proofs.Common.{◌≡◌, ℕ, ◌≤◌, List, [], ◌∷◌, ◌++◌, Option, None, true, false, Bool, cond, refl, ap, sym, ◌∙◌, arith, subst, inl, inr, append_assoc}
use Rattle.std.specs.List.{cons_option}
use Rattle.std.proofs.lemmas.List.Elements.{filter_map-append}
use Rattle.tlm_types.specs.declared.words.ObjectNo.TheVariants.{Hop}
use Rattle.tlm_types.specs.declared.words.Phase.{Phase}
use Rattle.tlm_types.specs.declared.words.Phase.TheVariants.{BeginReq, EndReq, BeginResp, EndResp}
use Rattle.tlm_types.specs.declared.words.TlmSync.{TlmSync}
use Rattle.tlm_types.specs.declared.words.TlmSync.TheVariants.{Accepted, Updated, Completed}
use Rattle.tlm_types.specs.declared.words.TxnId.{TxnId}
use Rattle.tlm_types.specs.declared.entry.What.{What}
use Rattle.tlm_types.specs.declared.entry.What.TheVariants.{Call}
use Rattle.flow_model.specs.Events.{Event, Among, IsCall, IsOwn}
use Rattle.flow_model.specs.World.{World}
use Rattle.flow_model.proofs.Forms.{Saying, says, said, said_by, sayings, is_txn, eleven, IsPrefixOf, HopModel, CallStep, IsRequested, is_requested, ends_request, ended_by, request_end, request_end_from}
use Rattle.flow_model.proofs.Nodes.{OneOf, before_call, next_call}
use Rattle.flow_model.proofs.Sayings.{In, in_said, said_in, said_call, same_txn, is_txn_self, sayings-split, prefix_of_front}
use Rattle.flow_model.proofs.Splits.{among_right, among_cases}

append_nil : {X : Type 0} (l : List X) → l ++ [] ≡ l
append_nil [] = refl
append_nil (x ∷ l) = ap (λ (m : List _). x ∷ m) (append_nil l)

request_end_push : (o : ℕ) (b : List Event) (t : ℕ) (l : List Event) (e : Event) → request_end_from o b t (l ++ e ∷ []) ≡ ended_by o (b ++ l) e.txn e.time e.what (request_end_from o b t l)
request_end_push o b t [] e = ap (λ (m : List Event). ended_by o m e.txn e.time e.what t) (sym (append_nil b))
request_end_push o b t (x ∷ l) e =
    request_end_push o (b ++ x ∷ []) (ended_by o b x.txn x.time x.what t) l e
    ∙ ap (λ (m : List Event). ended_by o m e.txn e.time e.what (request_end_from o (b ++ x ∷ []) (ended_by o b x.txn x.time x.what t) l)) (append_assoc b (x ∷ []) l)

-- where a list of one says is a list and one more, the list is empty
single : (cs : List Saying) (c s : Saying) → cs ++ c ∷ [] ≡ s ∷ [] → c ≡ s
single [] c s q = cc
single (d ∷ []) c s q = cc
single (d ∷ f ∷ cs) c s q = cc

single_nil : (cs : List Saying) (c s : Saying) → cs ++ c ∷ [] ≡ s ∷ [] → cs ≡ []
single_nil [] c s q = refl
single_nil (d ∷ []) c s q = cc
single_nil (d ∷ f ∷ cs) c s q = cc

requested_is : (cs : List Saying) → is_requested cs ≡ true → cs ≡ says BeginReq Accepted ∷ []
requested_is [] q = cc
requested_is (s ∷ []) q = one s.phase s.answer q
  where
    one : (p : Phase) (a : TlmSync) → is_requested (says p a ∷ []) ≡ true → says p a ∷ [] ≡ says BeginReq Accepted ∷ []
    one BeginReq Accepted q = refl
    one BeginReq (Updated r) q = cc
    one BeginReq Completed q = cc
    one EndReq a q = cc
    one BeginResp a q = cc
    one EndResp a q = cc
requested_is (s ∷ t ∷ l) q = cc

phase_of : (s t : Saying) → s ≡ t → s.phase ≡ t.phase
phase_of s t q = ap (λ (u : Saying). u.phase) q

-- the place of an entry of a list and one more
pub data PlaceCase (l : List Event) (e : Event) (b : List Event) (f : Event) : Type 0 where
  inside : (a : List Event) → l ≡ b ++ f ∷ a → PlaceCase l e b f
  last : l ≡ b → e ≡ f → PlaceCase l e b f

place_case : (l : List Event) (e : Event) (b : List Event) (f : Event) (a : List Event) → l ++ e ∷ [] ≡ b ++ f ∷ a → PlaceCase l e b f
place_case [] e [] f a q = last refl (head_of e f [] a q)
  where
    head_of : (e f : Event) (m n : List Event) → e ∷ m ≡ f ∷ n → e ≡ f
    head_of e f m n q = cc
place_case [] e (x ∷ []) f a q = cc
place_case [] e (x ∷ y ∷ b) f a q = cc
place_case (x ∷ l) e [] f a q = inside l (go x f l (l ++ e ∷ []) a q)
  where
    go : (x f : Event) (l m a : List Event) → x ∷ m ≡ f ∷ a → x ∷ l ≡ f ∷ l
    go x f l m a q = ap (λ (y : Event). y ∷ l) (head_of x f m a q)
      where
        head_of : (e f : Event) (m n : List Event) → e ∷ m ≡ f ∷ n → e ≡ f
        head_of e f m n q = cc
place_case (x ∷ l) e (y ∷ b) f a q = go (place_case l e b f a (tail_of x y (l ++ e ∷ []) (b ++ f ∷ a) q)) (head_of x y (l ++ e ∷ []) (b ++ f ∷ a) q)
  where
    head_of : (e f : Event) (m n : List Event) → e ∷ m ≡ f ∷ n → e ≡ f
    head_of e f m n q = cc

    tail_of : (e f : Event) (m n : List Event) → e ∷ m ≡ f ∷ n → m ≡ n
    tail_of e f m n q = cc

    go : PlaceCase l e b f → x ≡ y → PlaceCase (x ∷ l) e (y ∷ b) f
    go (inside c r) s = inside c (λ i. s i ∷ r i)
    go (last r t) s = last (λ i. s i ∷ r i) t

pub record Inv (o : ℕ) (l : List Event) : Type 0 where
  pub ended : (b a : List Event) (f : Event) (p : Phase) (c : TlmSync) → l ≡ b ++ f ∷ a → f.what ≡ Call p c → ends_request o b f.txn p c ≡ true → f.time ≤ request_end o l
  pub held : (y : TxnId) → IsRequested y o l → (f : Event) → Among l f → IsOwn y o f → request_end o l ≤ f.time
  pub one : (x y : TxnId) → IsRequested x o l → IsRequested y o l → x ≡ y

inv_nil : (o : ℕ) → Inv o []
inv_nil o = record { ended = λ b a f p c q. nothing b a f q; held = λ y r f m. absurd m; one = λ x y r. cc }
  where
    nothing : (b a : List Event) (f : Event) → [] ≡ b ++ f ∷ a → {A : Type 0} → A
    nothing [] a f q = cc
    nothing (x ∷ b) a f q = cc

module _ (o : ℕ) (l : List Event) (e : Event) (p : Phase) (a : TlmSync) (mine : IsCall e.txn o p a e) (inv : Inv o l) where
  pub data Still (y : TxnId) : Type 0 where
    own : e.txn ≡ y → sayings y o l ≡ [] → says p a ≡ says BeginReq Accepted → Still y
    others : ¬ (e.txn ≡ y) → IsRequested y o l → Still y

  still : (y : TxnId) → IsRequested y o (l ++ e ∷ []) → Still y
  still y r = go (is_txn y e.txn) refl
    where
      whole : sayings y o (l ++ e ∷ []) ≡ sayings y o l ++ cons_option (said y o e) []
      whole = filter_map-append (said y o) l (e ∷ [])

      go : (b : Bool) → is_txn y e.txn ≡ b → Still y
      go true q =
          let t : e.txn ≡ y = same_txn y e.txn q in
          let c : IsCall y o p a e = record { object = mine.object; txn = t; what = mine.what } in
          let s : sayings y o l ++ says p a ∷ [] ≡ says BeginReq Accepted ∷ [] = sym (whole ∙ ap (λ (d : Option Saying). sayings y o l ++ cons_option d []) (said_call y o p a e c)) ∙ r in
          own t (single_nil (sayings y o l) (says p a) (says BeginReq Accepted) s) (single (sayings y o l) (says p a) (says BeginReq Accepted) s)
      go false q =
          let d : said y o e ≡ None = ap (λ (b : Bool). cond b (said_by o e.object e.what) None) q in
          others (λ t. differ t q) (sym (whole ∙ (ap (λ (d : Option Saying). sayings y o l ++ cons_option d []) d ∙ append_nil (sayings y o l))) ∙ r)
        where
          differ : e.txn ≡ y → is_txn y e.txn ≡ false → ⊥
          differ t q = wrong (sym (subst (λ (z : TxnId). is_txn y z ≡ true) (sym t) (is_txn_self y)) ∙ q)
            where
              wrong : ◌≡◌ {A = Bool} true false → ⊥
              wrong z = cc

  end_is : (b : Bool) → ends_request o l e.txn p a ≡ b → request_end o (l ++ e ∷ []) ≡ cond b e.time (request_end o l)
  end_is b q =
      request_end_push o [] 0 l e
      ∙ (ap (λ (v : What). ended_by o l e.txn e.time v (request_end o l)) mine.what
      ∙ ap (λ (d : Bool). cond d e.time (request_end o l)) q)

  same_call : (f : Event) (q : Phase) (c : TlmSync) → e ≡ f → f.what ≡ Call q c → says q c ≡ says p a
  same_call f q c r v = call_same (sym v ∙ (sym (ap (λ (d : Event). d.what) r) ∙ mine.what))
    where
      call_same : Call q c ≡ Call p a → says q c ≡ says p a
      call_same z = let u : q ≡ p = cc z in let v : c ≡ a = cc z in λ i. says (u i) (v i)

  -- after a call that ends a request
  after_ender : ends_request o l e.txn p a ≡ true → request_end o l ≤ e.time → ((y : TxnId) → ¬ IsRequested y o (l ++ e ∷ [])) → Inv o (l ++ e ∷ [])
  after_ender ends least none = record {
    ended = λ b c f q d r v t. go b f q d v t (place_case l e b f c r);
    held = λ y r. absurd (none y r);
    one = λ x y r. absurd (none x r);
  }
    where
      now : request_end o (l ++ e ∷ []) ≡ e.time
      now = end_is true ends

      go : (b : List Event) (f : Event) (q : Phase) (d : TlmSync) → f.what ≡ Call q d → ends_request o b f.txn q d ≡ true → PlaceCase l e b f → f.time ≤ request_end o (l ++ e ∷ [])
      go b f q d v t (inside c r) = let u : f.time ≤ request_end o l = inv.ended b c f q d r v t in let n : request_end o (l ++ e ∷ []) ≡ e.time = now in omega arith
      go b f q d v t (last r s) = let u : e.time ≡ f.time = ap (λ (g : Event). g.time) s in let n : request_end o (l ++ e ∷ []) ≡ e.time = now in omega arith

  -- after a call that ends no request
  not_ended : ends_request o l e.txn p a ≡ false → (b c : List Event) (f : Event) (q : Phase) (d : TlmSync) → l ++ e ∷ [] ≡ b ++ f ∷ c → f.what ≡ Call q d → ends_request o b f.txn q d ≡ true → f.time ≤ request_end o (l ++ e ∷ [])
  not_ended ends b c f q d r v t = go (place_case l e b f c r)
    where
      now : request_end o (l ++ e ∷ []) ≡ request_end o l
      now = end_is false ends

      go : PlaceCase l e b f → f.time ≤ request_end o (l ++ e ∷ [])
      go (inside c r) = let u : f.time ≤ request_end o l = inv.ended b c f q d r v t in let n : request_end o (l ++ e ∷ []) ≡ request_end o l = now in omega arith
      go (last r s) = absurd (clash (sym at_f ∙ ends))
        where
          at_f : ends_request o l e.txn p a ≡ true
          at_f = subst (λ (m : List Event). ends_request o m e.txn p a ≡ true) (sym r)
              (subst (λ (y : TxnId). ends_request o b y p a ≡ true) (sym (ap (λ (g : Event). g.txn) s))
              (subst (λ (u : Saying). ends_request o b f.txn u.phase u.answer ≡ true) (same_call f q d s v) t))

          clash : ◌≡◌ {A = Bool} true false → ⊥
          clash z = cc

  still_end : ends_request o l e.txn p a ≡ false → request_end o (l ++ e ∷ []) ≡ request_end o l
  still_end ends = end_is false ends

  -- a call other than BEGIN_REQ that ends no request
  after_other : ends_request o l e.txn p a ≡ false → ¬ (p ≡ BeginReq) → Inv o (l ++ e ∷ [])
  after_other ends other = record {
    ended = not_ended ends;
    held = λ y r f m i. let n : request_end o (l ++ e ∷ []) ≡ request_end o l = still_end ends in let u : request_end o l ≤ f.time = held y (still y r) f m i in omega arith;
    one = λ x y r s. both x y (still x r) (still y s);
  }
    where
      no_own : says p a ≡ says BeginReq Accepted → ⊥
      no_own q = other (phase_of (says p a) (says BeginReq Accepted) q)

      held : (y : TxnId) → Still y → (f : Event) → Among (l ++ e ∷ []) f → IsOwn y o f → request_end o l ≤ f.time
      held y (own t n c) f m i = absurd (no_own c)
      held y (others d r) f m i = elim (among_cases l (e ∷ []) f m) [
        | inl k ↦ inv.held y r f k i
        | inr k ↦ elim k [ inl s ↦ absurd (d (ap (λ (g : Event). g.txn) s ∙ i.call.txn)) | inr z ↦ absurd z ]
      ]

      both : (x y : TxnId) → Still x → Still y → x ≡ y
      both x y (own t n c) s = absurd (no_own c)
      both x y r (own t n c) = absurd (no_own c)
      both x y (others d r) (others f s) = inv.one x y r s

  -- an accepted BEGIN_REQ, while no request is open
  after_accepted : ends_request o l e.txn p a ≡ false → ((y : TxnId) → ¬ IsRequested y o l) → request_end o l ≤ e.time → Inv o (l ++ e ∷ [])
  after_accepted ends free least = record {
    ended = not_ended ends;
    held = λ y r f m i. let n : request_end o (l ++ e ∷ []) ≡ request_end o l = still_end ends in let u : request_end o l ≤ f.time = held y (still y r) f m i in omega arith;
    one = λ x y r s. both x y (still x r) (still y s);
  }
    where
      held : (y : TxnId) → Still y → (f : Event) → Among (l ++ e ∷ []) f → IsOwn y o f → request_end o l ≤ f.time
      held y (others d r) f m i = absurd (free y r)
      held y (own t n c) f m i = elim (among_cases l (e ∷ []) f m) [
        | inl k ↦ absurd (subst (λ (cs : List Saying). In cs (says i.phase i.answer)) n (said_in y o l f i.phase i.answer k i.call))
        | inr k ↦ elim k [ inl s ↦ (let u : e.time ≡ f.time = ap (λ (g : Event). g.time) s in omega arith) | inr z ↦ absurd z ]
      ]

      both : (x y : TxnId) → Still x → Still y → x ≡ y
      both x y (others d r) s = absurd (free x r)
      both x y r (others d s) = absurd (free y s)
      both x y (own t n c) (own u m d) = sym t ∙ u

module _ (w : World) (o : ℕ) (log : List Event) (mine : (e : Event) → Among log e → e.object ≡ Hop o) (m : HopModel w o log) where
  module _ (l c : List Event) (e : Event) (q : log ≡ l ++ e ∷ c) (inv : Inv o l) (p : Phase) (a : TlmSync) (v : e.what ≡ Call p a) (step : CallStep w o l e p a) where
    call : IsCall e.txn o p a e
    call = record { object = mine e (subst (λ (k : List Event). Among k e) (sym q) (among_right l (e ∷ c) e (inl refl))); txn = refl; what = v }

    came : OneOf (before_call p) (sayings e.txn o l)
    came =
        let whole : sayings e.txn o log ≡ (sayings e.txn o l ++ says p a ∷ []) ++ sayings e.txn o c = sayings-split e.txn o log l c e p a q call ∙ sym (append_assoc (sayings e.txn o l) (says p a ∷ []) (sayings e.txn o c)) in
        (next_call (sayings e.txn o l) p a (prefix_of_front eleven (sayings e.txn o l ++ says p a ∷ []) (sayings e.txn o c) (subst (λ (k : List Saying). IsPrefixOf eleven k) whole (m.proper e.txn)))).0

    -- a call on a Requested lane has at least the time of the last call that ended a request
    least : IsRequested e.txn o l → request_end o l ≤ e.time
    least r =
        let f = in_said e.txn o l BeginReq Accepted (subst (λ (cs : List Saying). In cs (says BeginReq Accepted)) (sym r) (inl refl)) in
        let i : IsOwn e.txn o f.event = record { phase = BeginReq; answer = Accepted; call = f.is } in
        let u : request_end o l ≤ f.event.time = inv.held e.txn r f.event f.known i in
        let t : f.event.time ≤ e.time = step.after_own f.event f.known i in
        omega arith

    -- and no lane is Requested after it
    none_left : IsRequested e.txn o l → ¬ (p ≡ BeginReq) → (y : TxnId) → ¬ IsRequested y o (l ++ e ∷ [])
    none_left r other y s = go (still o l e p a call inv y s)
      where
        go : Still o l e p a call inv y → ⊥
        go (own t n d) = other (phase_of (says p a) (says BeginReq Accepted) d)
        go (others d u) = d (inv.one e.txn y r u)

    ended_lane : IsRequested e.txn o l → ends_request o l e.txn p a ≡ true → ¬ (p ≡ BeginReq) → Inv o (l ++ e ∷ [])
    ended_lane r ends other = after_ender o l e p a call inv ends (least r) (none_left r other)

  after_call : (l c : List Event) (e : Event) → log ≡ l ++ e ∷ c → Inv o l → (p : Phase) (a : TlmSync) → e.what ≡ Call p a → CallStep w o l e p a → Inv o (l ++ e ∷ [])
  after_call l c e q inv BeginReq Accepted v step =
      after_accepted o l e BeginReq Accepted (call l c e q inv BeginReq Accepted v step) inv refl (step.free refl) (step.after_requests refl)
  after_call l c e q inv BeginReq (Updated r) v step =
      after_ender o l e BeginReq (Updated r) (call l c e q inv BeginReq (Updated r) v step) inv refl (step.after_requests refl) (λ y s. unasked y (still o l e BeginReq (Updated r) (call l c e q inv BeginReq (Updated r) v step) inv y s))
    where
      unasked : (y : TxnId) → Still o l e BeginReq (Updated r) (call l c e q inv BeginReq (Updated r) v step) inv y → ⊥
      unasked y (own t n d) = cc (ap (λ (u : Saying). u.answer) d)
      unasked y (others d u) = step.free refl y u
  after_call l c e q inv BeginReq Completed v step =
      after_ender o l e BeginReq Completed (call l c e q inv BeginReq Completed v step) inv refl (step.after_requests refl) (λ y s. unasked y (still o l e BeginReq Completed (call l c e q inv BeginReq Completed v step) inv y s))
    where
      unasked : (y : TxnId) → Still o l e BeginReq Completed (call l c e q inv BeginReq Completed v step) inv y → ⊥
      unasked y (own t n d) = cc (ap (λ (u : Saying). u.answer) d)
      unasked y (others d u) = step.free refl y u
  after_call l c e q inv EndReq a v step = go (came l c e q inv EndReq a v step)
    where
      other : ¬ (EndReq ≡ BeginReq)
      other z = cc

      go : OneOf (before_call EndReq) (sayings e.txn o l) → Inv o (l ++ e ∷ [])
      go (inl r) = ended_lane l c e q inv EndReq a v step r refl other
      go (inr r) = absurd r
  after_call l c e q inv BeginResp a v step = go (is_requested (sayings e.txn o l)) refl
    where
      other : ¬ (BeginResp ≡ BeginReq)
      other z = cc

      go : (b : Bool) → is_requested (sayings e.txn o l) ≡ b → Inv o (l ++ e ∷ [])
      go true r = ended_lane l c e q inv BeginResp a v step (requested_is (sayings e.txn o l) r) r other
      go false r = after_other o l e BeginResp a (call l c e q inv BeginResp a v step) inv r other
  after_call l c e q inv EndResp a v step =
      after_other o l e EndResp a (call l c e q inv EndResp a v step) inv refl (λ z. wrong z)
    where
      wrong : EndResp ≡ BeginReq → ⊥
      wrong z = cc

  inv_on : (rest l c : List Event) → log ≡ (l ++ rest) ++ c → Inv o l → Inv o (l ++ rest)
  inv_on [] l c q inv = subst (Inv o) (sym (append_nil l)) inv
  inv_on (e ∷ rest) l c q inv =
      let q' : log ≡ l ++ e ∷ (rest ++ c) = q ∙ append_assoc l (e ∷ rest) c in
      let shift : (l ++ e ∷ []) ++ rest ≡ l ++ e ∷ rest = append_assoc l (e ∷ []) rest in
      let s = m.steps l e (rest ++ c) q' in
      let next : Inv o (l ++ e ∷ []) = after_call l (rest ++ c) e q' inv s.phase s.answer s.what s.step in
      subst (Inv o) shift (inv_on rest (l ++ e ∷ []) c (q ∙ ap (λ (k : List Event). k ++ c) (sym shift)) next)

  -- at each place of the log the last call that ended a request has the greatest_time time
  pub last_is_greatest : (l c : List Event) → log ≡ l ++ c → (b a : List Event) (f : Event) (p : Phase) (d : TlmSync) → l ≡ b ++ f ∷ a → f.what ≡ Call p d → ends_request o b f.txn p d ≡ true → f.time ≤ request_end o l
  last_is_greatest l c q = (inv_on l [] c q (inv_nil o)).ended
