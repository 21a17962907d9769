-- Each call of an access has its time.
use Rattle.std.proofs.Common.{◌≡◌, ℕ, zero, suc, ◌+◌, ◌-◌, ◌<◌, ◌≤◌, List, [], ◌∷◌, ◌++◌, length, drop, Option, Some, None, true, false, Bool, not, ◌&&◌, nat_eq, refl, ap, sym, ◌∙◌, arith, add-one, subst, ◌⊎◌, inl, inr}
use Rattle.std.proofs.lemmas.Bool.{eq-eqb}
use Rattle.tlm_types.specs.declared.words.ObjectNo.{ObjectNo}
use Rattle.tlm_types.specs.declared.words.ObjectNo.TheVariants.{Memory, Hop, Pool}
use Rattle.tlm_types.specs.declared.words.Phase.{Phase}
use Rattle.tlm_types.specs.declared.words.Phase.TheVariants.{BeginReq, EndReq, BeginResp, EndResp}
use Rattle.tlm_types.specs.declared.words.TlmSync.{TlmSync}
use Rattle.tlm_types.specs.declared.words.TlmSync.TheVariants.{Accepted, Updated, Completed}
use Rattle.tlm_types.specs.declared.entry.Entry.{Entry}
use Rattle.tlm_types.specs.declared.words.TxnId.{TxnId}
use Rattle.tlm_types.specs.declared.words.ReqMode.{ReqMode}
use Rattle.tlm_types.specs.declared.entry.What.{What}
use Rattle.tlm_types.specs.declared.entry.What.TheVariants.{Access as Accessed, Call, Take, Acquire, Release}
use Rattle.tlm_types.specs.declared.words.ReqMode.TheVariants.{Accept, Short, EndReq as AtOnce, BeginResp as WithResponse, Complete}
use Rattle.tlm_model.specs.Route.{later, greatest_time}
use Rattle.flow_model.specs.ByRules.{request_end as hop_request_end}
use Rattle.flow_model.specs.Backed.{TimeBacked, BackedBy, EndsRequestBy as EndsRequestMarked}
use Rattle.flow_model.specs.Events.{Event, Among, Finds, IsCall, IsPhase, IsOwn, at, hop_log}
use Rattle.flow_model.specs.Numbers.{ReqIs, UpFrom, RspFrom, NumberOf, released_hop, IsByReturn, served_hop, BringsResponse}
use Rattle.flow_model.specs.Points.{CallTimed, TimedBy, IsTimed}
use Rattle.flow_model.specs.World.{World, Passage, hop_count, hop_at, row_by, row_of, is_refused}
use Rattle.flow_model.specs.Calls.{request_by}
use Rattle.std.specs.List.{fold}
use Rattle.flow_model.proofs.CallLists.{calls, calls_at, call_of}
use Rattle.flow_model.proofs.Each.{each_from}
use Rattle.flow_model.proofs.Forms.{Saying, says, sayings, is_requested, ends_request, request_end, Given}
use Rattle.flow_model.proofs.LastRequest.{last_is_greatest}
use Rattle.flow_model.proofs.More.{rsp_more}
use Rattle.flow_model.proofs.Nodes.{OneOf, before_call, RowAnswer}
use Rattle.flow_model.proofs.Once.{once_same, among_order, Precedes}
use Rattle.flow_model.proofs.Sayings.{In, in_said, said_in, sayings-at}
use Rattle.flow_model.proofs.Splits.{among_split, from_at, among_at, among_whole, earlier, at-split}
use Rattle.flow_model.proofs.Steps.{hop_model, step, came, backed_at}
use Rattle.flow_model.proofs.Table.{row_answer}
use Rattle.std.proofs.lemmas.List.{drop_more}
use Rattle.std.proofs.Common.{length-drop}

-- the calls that came before a call of this phase
abbrev pub CameAs : Phase → Phase → TlmSync → Type 0
CameAs BeginReq q b = ⊥
CameAs EndReq q b = q ≡ BeginReq
CameAs BeginResp q b = (q ≡ BeginReq) ⊎ (q ≡ EndReq)
CameAs EndResp q b = (q ≡ BeginReq) ⊎ ((q ≡ EndReq) ⊎ (q ≡ BeginResp))

phase_of : (s t : Saying) → s ≡ t → s.phase ≡ t.phase
phase_of s t q = ap (λ (u : Saying). u.phase) q

answer_of : (a b : TlmSync) → Call BeginReq a ≡ Call BeginReq b → a ≡ b
answer_of a b q = cc

only : (p q : Phase) (a b : TlmSync) → In (says p a ∷ []) (says q b) → q ≡ p
only p q a b (inl r) = sym (phase_of (says p a) (says q b) r)
only p q a b (inr r) = absurd r

first_of_two : (p s q : Phase) (a c b : TlmSync) → In (says p a ∷ says s c ∷ []) (says q b) → (q ≡ p) ⊎ (q ≡ s)
first_of_two p s q a c b (inl r) = inl (sym (phase_of (says p a) (says q b) r))
first_of_two p s q a c b (inr r) = inr (only s q c b r)

in_list : (cs l : List Saying) (s : Saying) → cs ≡ l → In cs s → In l s
in_list cs l s q i = subst (λ (k : List Saying). In k s) q i

came_before : (p q : Phase) (b : TlmSync) (cs : List Saying) → OneOf (before_call p) cs → In cs (says q b) → CameAs p q b
came_before BeginReq q b cs (inl m) i = in_list cs [] (says q b) m i
came_before BeginReq q b cs (inr m) i = absurd m
came_before EndReq q b cs (inl m) i = only BeginReq q Accepted b (in_list cs _ (says q b) m i)
came_before EndReq q b cs (inr m) i = absurd m
came_before BeginResp q b cs (inl m) i = inl (only BeginReq q Accepted b (in_list cs _ (says q b) m i))
came_before BeginResp q b cs (inr (inl m)) i = inl (only BeginReq q (Updated EndReq) b (in_list cs _ (says q b) m i))
came_before BeginResp q b cs (inr (inr (inl m))) i = first_of_two BeginReq EndReq q Accepted Accepted b (in_list cs _ (says q b) m i)
came_before BeginResp q b cs (inr (inr (inr m))) i = absurd m
came_before EndResp q b cs (inl m) i = inl (only BeginReq q (Updated BeginResp) b (in_list cs _ (says q b) m i))
came_before EndResp q b cs (inr (inl m)) i =
    elim (first_of_two BeginReq BeginResp q (Updated EndReq) Accepted b (in_list cs _ (says q b) m i)) [ inl r ↦ inl r | inr r ↦ inr (inr r) ]
came_before EndResp q b cs (inr (inr (inl m))) i =
    elim (in_list cs _ (says q b) m i) [ inl r ↦ inl (sym (phase_of (says BeginReq Accepted) (says q b) r)) | inr r ↦ inr (first_of_two EndReq BeginResp q Accepted Accepted b r) ]
came_before EndResp q b cs (inr (inr (inr (inl m)))) i =
    elim (first_of_two BeginReq BeginResp q Accepted Accepted b (in_list cs _ (says q b) m i)) [ inl r ↦ inl r | inr r ↦ inr (inr r) ]
came_before EndResp q b cs (inr (inr (inr (inr m)))) i = absurd m

-- before END_REQ and BEGIN_RESP the BEGIN_REQ didn't bring the response
pub record Held (cs : List Saying) : Type 0 where
  pub answer : TlmSync
  pub said : In cs (says BeginReq answer)
  pub held : ¬ IsByReturn answer

held_by : (cs l : List Saying) (a : TlmSync) → ¬ IsByReturn a → cs ≡ says BeginReq a ∷ l → Held cs
held_by cs l a n q = record { answer = a; said = subst (λ (k : List Saying). In k (says BeginReq a)) (sym q) (inl refl); held = n }

held : (p : Phase) (cs : List Saying) → OneOf (before_call p) cs → (p ≡ EndReq) ⊎ (p ≡ BeginResp) → Held cs
held BeginReq cs o (inl q) = cc
held BeginReq cs o (inr q) = cc
held EndReq cs (inl m) q = held_by cs _ Accepted (λ r. r) m
held EndReq cs (inr m) q = absurd m
held BeginResp cs (inl m) q = held_by cs _ Accepted (λ r. r) m
held BeginResp cs (inr (inl m)) q = held_by cs _ (Updated EndReq) (λ r. r) m
held BeginResp cs (inr (inr (inl m))) q = held_by cs _ Accepted (λ r. r) m
held BeginResp cs (inr (inr (inr m))) q = absurd m
held EndResp cs o (inl q) = cc
held EndResp cs o (inr q) = cc

at_least : (w : World) (K : Event → Type 0) (x : TxnId) (pass : Passage) (k : ℕ) (p : Phase) (t : ℕ) → (b : TimeBacked w K x pass k p t) → b.number ≤ t
at_least w K x pass k p t b = elim b.time [ inl q ↦ omega arith | inr q ↦ (let r : b.number < t = q.0 in omega arith) ]

grows : (t n : ℕ) → t ≤ greatest_time → t ≤ later t n
grows t n h = omega arith

-- a hop with a row of late END_REQs that isn't to a memory leads on
leads_on : (last mem : Bool) (r : ReqMode) → row_by (last && not mem) r ≡ Accept → mem ≡ false → last ≡ false
leads_on false mem r q m = refl
leads_on true true r q m = cc
leads_on true false Accept q m = cc
leads_on true false Short q m = cc
leads_on true false AtOnce q m = cc
leads_on true false WithResponse q m = cc
leads_on true false Complete q m = cc

not_last : (k n : ℕ) → k < n → nat_eq (k + 1) n ≡ false → suc k < n
not_last k n below q =
    let r : ¬ (k + 1 ≡ n) = λ s. cc (eq-eqb (k + 1) n s) in
    omega arith

more_left : (xs : List ℕ) (k p : ℕ) (rest : List ℕ) → drop (k + 1) xs ≡ p ∷ rest → k + 1 < length xs
more_left xs k p rest q =
    let l : length (drop (k + 1) xs) ≡ suc (length rest) = ap length q in
    let m : length (drop (k + 1) xs) ≡ length xs - (k + 1) = length-drop (k + 1) xs in
    omega arith

first_same : (p q : ℕ) (l m : List ℕ) → p ∷ l ≡ q ∷ m → p ≡ q
first_same p q l m r = cc

rest_same : (p q : ℕ) (l m : List ℕ) → p ∷ l ≡ q ∷ m → l ≡ m
rest_same p q l m r = cc

pub rest_at : (pass : Passage) (k : ℕ) → suc k < hop_count pass → drop (k + 1) pass.hops ≡ hop_at pass (suc k) ∷ drop (suc k + 1) pass.hops
rest_at pass k below = ap (λ (n : ℕ). drop n pass.hops) (add-one k) ∙ drop_more pass.hops (suc k) 0 below

-- the hop after hop k, where p and these are the rest of the way
pub record IsNext (pass : Passage) (k p : ℕ) (rest : List ℕ) : Type 0 where
  pub below : suc k < hop_count pass
  pub hop : p ≡ hop_at pass (suc k)
  pub rest_is : drop (suc k + 1) pass.hops ≡ rest

pub next_hop : (pass : Passage) (k p : ℕ) (rest : List ℕ) → drop (k + 1) pass.hops ≡ p ∷ rest → IsNext pass k p rest
next_hop pass k p rest d =
    let more : k + 1 < length pass.hops = more_left pass.hops k p rest d in
    let below : suc k < hop_count pass = omega arith in
    let q : p ∷ rest ≡ hop_at pass (suc k) ∷ drop (suc k + 1) pass.hops = sym d ∙ rest_at pass k below in
    record {
      below = below;
      hop = first_same p (hop_at pass (suc k)) rest (drop (suc k + 1) pass.hops) q;
      rest_is = sym (rest_same p (hop_at pass (suc k)) rest (drop (suc k + 1) pass.hops) q);
    }

-- the BEGIN_REQ of x on a hop, at this time at most
pub record IsBegunBy (h : List Event) (x : TxnId) (o : ℕ) (t : ℕ) : Type 0 where
  pub event : Event
  pub known : Among h event
  pub is : IsPhase x o BeginReq event
  pub least : event.time ≤ t

module _ (w : World) (slots : ℕ → ℕ) (issued : List Entry → TxnId → ℕ) (h : List Event) (pr : Given w slots issued h) where
  pub begin_same : (x : TxnId) (o : ℕ) (f g : Event) → Among h f → IsPhase x o BeginReq f → Among h g → IsPhase x o BeginReq g → f ≡ g
  begin_same x o f g m p n q =
      once_same (IsPhase x o BeginReq) (at (Hop o) h) f g (λ before e after r i. pr.one_begin o before e after r x i)
      (among_at (Hop o) h f m p.call.object) p (among_at (Hop o) h g n q.call.object) q

  -- an own call before another call of x
  pub own_phase : (before after : List Event) (e : Event) → h ≡ before ++ e ∷ after → (x : TxnId) (o : ℕ) (p : Phase) (a : TlmSync) → IsCall x o p a e
      → (f : Event) → Among before f → (i : IsOwn x o f) → CameAs p i.phase i.answer
  own_phase before after e q x o p a c f m i =
      came_before p i.phase i.answer (sayings x o before) (came w slots issued h pr before after e q x o p a c).0 (said_in x o before f i.phase i.answer m i.call)

  -- two calls of x on a hop: the earlier has at most the time of the later
  own_le : (x : TxnId) (o : ℕ) (f g : Event) → Precedes h f g → IsOwn x o f → IsOwn x o g → f.time ≤ g.time
  own_le x o f g r i j =
      let s = step w slots issued h pr r.place.before r.place.after g r.place.is x o j.phase j.answer j.call in
      s.after_own f (among_at (Hop o) r.place.before f r.known i.call.object) (subst (λ (y : TxnId). IsOwn y o f) (sym j.call.txn) i)

  -- a BEGIN_REQ that brought the response is the only call before END_RESP
  pub answered_begin : (x : TxnId) (o : ℕ) (g : Event) → Among h g → BringsResponse x o g → (f : Event) → Among h f → (i : IsOwn x o f) → ¬ ((i.phase ≡ EndReq) ⊎ (i.phase ≡ BeginResp))
  answered_begin x o g m ans f n i q =
      let s = among_split h f n in
      let c = came w slots issued h pr s.before s.after f s.is x o i.phase i.answer i.call in
      let b = held i.phase (sayings x o s.before) c.0 q in
      let u = in_said x o s.before BeginReq b.answer b.said in
      let same : g ≡ u.event = begin_same x o g u.event m (record { answer = ans.answer; call = ans.call }) (among_whole h s.before s.after f u.event s.is u.known) (record { answer = b.answer; call = u.is }) in
      let v = subst (λ (e : Event). IsCall x o BeginReq b.answer e) (sym same) u.is in
      b.held (subst IsByReturn (answer_of ans.answer b.answer (sym ans.call.what ∙ v.what)) ans.brings)

  -- before a BEGIN_RESP there is a BEGIN_REQ
  begun_before : (x : TxnId) (o : ℕ) (g : Event) → Among h g → IsPhase x o BeginResp g → IsBegunBy h x o g.time
  begun_before x o g m i =
      let s = among_split h g m in
      let b = held BeginResp (sayings x o s.before) (came w slots issued h pr s.before s.after g s.is x o BeginResp i.answer i.call).0 (inr refl) in
      let u = in_said x o s.before BeginReq b.answer b.said in
      record {
        event = u.event;
        known = among_whole h s.before s.after g u.event s.is u.known;
        is = record { answer = b.answer; call = u.is };
        least = own_le x o u.event g (record { place = s; known = u.known }) (record { phase = BeginReq; answer = b.answer; call = u.is }) (record { phase = BeginResp; answer = i.answer; call = i.call });
      }

  -- the BEGIN_REQ on a hop has at most the time of that on the next
  begin_le : (x : TxnId) (pass : Passage) → w.passage x ≡ Some pass → (k : ℕ) → suc k < hop_count pass → (f g : Event) → Among h f → IsPhase x (hop_at pass k) BeginReq f → Among h g → IsPhase x (hop_at pass (suc k)) BeginReq g → f.time ≤ g.time
  begin_le x pass is k below f g m i n j =
      let s = among_split h g n in
      let d = backed_at w slots issued h pr s.before s.after g s.is x (hop_at pass (suc k)) BeginReq j.answer j.call pass is (suc k) below refl in
      let p = d.time.is_number in
      let same : f ≡ p.is_req.event = begin_same x (hop_at pass k) f p.is_req.event m i (among_whole h s.before s.after g p.is_req.event s.is p.is_req.known) p.is_req.is in
      let t : f.time ≡ p.is_req.event.time = ap (λ (y : Event). y.time) same in
      let u : p.is_req.event.time ≡ p.req = p.is_req.time in
      let v : d.time.number ≡ later p.req (w.hop (hop_at pass k)).latency = p.sum in
      let z : f.time ≤ greatest_time = pr.times f m in
      let y : d.time.number ≤ g.time = at_least w (Among s.before) x pass (suc k) BeginReq g.time d.time in
      omega arith

  -- where the response of x is there on a hop, its BEGIN_REQ there has at most this time
  begin_up : (x : TxnId) (pass : Passage) → w.passage x ≡ Some pass → (rest : List ℕ) (k : ℕ) → drop (k + 1) pass.hops ≡ rest → (t : ℕ) → UpFrom w (Among h) x (hop_at pass k) rest t
      → (f : Event) → Among h f → IsPhase x (hop_at pass k) BeginReq f → f.time ≤ t
  begin_up x pass is [] k d t u f m i =
      let same : f ≡ u.is_req.event = begin_same x (hop_at pass k) f u.is_req.event m i u.is_req.known u.is_req.is in
      let a : f.time ≡ u.is_req.event.time = ap (λ (y : Event). y.time) same in
      let b : u.is_req.event.time ≡ u.req = u.is_req.time in
      let c : t ≡ later u.req (w.hop (hop_at pass k)).latency = u.sum in
      let z : f.time ≤ greatest_time = pr.times f m in
      omega arith
  begin_up x pass is (p ∷ rest) k d t (inl g) f m i =
      let n = next_hop pass k p rest d in
      let b = begun_before x (hop_at pass (suc k)) g.event g.known (subst (λ (o : ℕ). IsPhase x o BeginResp g.event) n.hop g.is) in
      let a : f.time ≤ b.event.time = begin_le x pass is k n.below f b.event m i b.known b.is in
      let c : b.event.time ≤ g.event.time = b.least in
      let e : g.event.time ≡ t = g.time in
      omega arith
  begin_up x pass is (p ∷ rest) k d t (inr g) f m i =
      let n = next_hop pass k p rest d in
      let r : IsPhase x (hop_at pass (suc k)) BeginReq g.0.event = record { answer = g.0.is.answer; call = subst (λ (o : ℕ). IsCall x o BeginReq g.0.is.answer g.0.event) n.hop g.0.is.call } in
      let a : f.time ≤ g.0.event.time = begin_le x pass is k n.below f g.0.event m i g.0.known r in
      let b : g.0.event.time ≤ t = begin_up x pass is rest (suc k) n.rest_is t (subst (λ (o : ℕ). UpFrom w (Among h) x o rest t) n.hop g.1) g.0.event g.0.known r in
      omega arith

  -- an own call before END_RESP has at most the time rsp
  own_rsp : (before after : List Event) (e : Event) → h ≡ before ++ e ∷ after → (x : TxnId) (pass : Passage) → w.passage x ≡ Some pass → (k : ℕ) → (a : TlmSync) → IsCall x (hop_at pass k) EndResp a e
      → (f : Event) → Among before f → IsOwn x (hop_at pass k) f → (rest : List ℕ) → drop (k + 1) pass.hops ≡ rest → (r : ℕ) → RspFrom w (Among h) x (hop_at pass k) rest r → f.time ≤ r
  own_rsp before after e q x pass is k a c f m i rest d r (inl g) =
      elim (among_order h f g.event n g.known) [
        | inl s ↦ (let t : f.time ≡ g.event.time = ap (λ (y : Event). y.time) s in let u : g.event.time ≡ r = g.time in omega arith)
        | inr s ↦ elim s [
          | inl s ↦ (let t : f.time ≤ g.event.time = own_le x (hop_at pass k) f g.event s i (own_of g.is) in let u : g.event.time ≡ r = g.time in omega arith)
          | inr s ↦ absurd (late i.phase i.answer i.call (own_phase before after e q x (hop_at pass k) EndResp a c f m i) s)
        ]
      ]
    where
      n : Among h f
      n = among_whole h before after e f q m

      own_of : {p : Phase} {y : Event} → IsPhase x (hop_at pass k) p y → IsOwn x (hop_at pass k) y
      own_of {p} j = record { phase = p; answer = j.answer; call = j.call }

      late : (p : Phase) (b : TlmSync) → IsCall x (hop_at pass k) p b f → CameAs EndResp p b → Precedes h g.event f → ⊥
      late p b j u s = tell p (own_phase s.place.before s.place.after f s.place.is x (hop_at pass k) p b j g.event s.known (own_of g.is)) u
        where
          tell : (p : Phase) → CameAs p BeginResp g.is.answer → CameAs EndResp p b → ⊥
          tell BeginReq v u = v
          tell EndReq v u = cc
          tell BeginResp (inl v) u = cc
          tell BeginResp (inr v) u = cc
          tell EndResp v (inl u) = cc
          tell EndResp v (inr (inl u)) = cc
          tell EndResp v (inr (inr u)) = cc
  own_rsp before after e q x pass is k a c f m i rest d r (inr g) =
      elim (own_phase before after e q x (hop_at pass k) EndResp a c f m i) [
        | inl s ↦ begin_up x pass is rest k d r g.1 f n (record { answer = i.answer; call = subst (λ (p : Phase). IsCall x (hop_at pass k) p i.answer f) s i.call })
        | inr s ↦ absurd (answered_begin x (hop_at pass k) g.0.event g.0.known g.0.is f n i s)
      ]
    where
      n : Among h f
      n = among_whole h before after e f q m

  among_more : (before after : List Event) (e : Event) → h ≡ before ++ e ∷ after → (f : Event) → Among before f → Among h f
  among_more before after e q f m = among_whole h before after e f q m

  -- a call that ends a request by its mark ends it by the log
  ends_in_log : (b after : List Event) (f : Event) → h ≡ b ++ f ∷ after → (o : ℕ) (p : Phase) (a : TlmSync) → IsCall f.txn o p a f → EndsRequestMarked f.number p a → ends_request o (at (Hop o) b) f.txn p a ≡ true
  unfolding calls call_of
  ends_in_log b after f q o EndReq a c r = refl
  ends_in_log b after f q o BeginReq Accepted c r = absurd r
  ends_in_log b after f q o BeginReq (Updated p) c r = refl
  ends_in_log b after f q o BeginReq Completed c r = refl
  ends_in_log b after f q o EndResp a c r = absurd r
  ends_in_log b after f q o BeginResp a c r = ap is_requested (sayings-at f.txn o b ∙ requested (sayings f.txn o b) (came w slots issued h pr b after f q f.txn o BeginResp a c).0 marked)
    where
      marked : fold request_by false (calls (sayings f.txn o b)) ≡ true
      marked = subst (λ (l : List _). fold request_by false l ≡ true) (calls_at f.txn o b) (pr.marks b f after q o a c r)

      wrong : {X : Type 0} → false ≡ true → X
      wrong m = cc

      requested : (l : List Saying) → OneOf (before_call BeginResp) l → fold request_by false (calls l) ≡ true → l ≡ says BeginReq Accepted ∷ []
      requested l (inl m) n = m
      requested l (inr (inl m)) n = wrong (subst (λ (k : List Saying). fold request_by false (calls k) ≡ true) m n)
      requested l (inr (inr (inl m))) n = wrong (subst (λ (k : List Saying). fold request_by false (calls k) ≡ true) m n)
      requested l (inr (inr (inr m))) n = absurd m

  module _ (before after : List Event) (e : Event) (q : h ≡ before ++ e ∷ after) (x : TxnId) (pass : Passage) (is : w.passage x ≡ Some pass) (k : ℕ) (below : k < hop_count pass) where
    timed_begin_req : (a : TlmSync) → IsCall x (hop_at pass k) BeginReq a e → CallTimed w before x pass (hop_at pass k) BeginReq e.time
    timed_begin_req a c =
        let o = hop_at pass k in
        let b = backed_at w slots issued h pr before after e q x o BeginReq a c pass is k below refl in
        record {
          hop = k;
          below = below;
          place = refl;
          number = b.time.number;
          is_number = b.time.is_number;
          time = (
              let low : b.time.number ≤ e.time = at_least w (Among before) x pass k BeginReq e.time b.time in
              let ends : hop_request_end (hop_log o before) ≡ request_end o (at (Hop o) before) = pr.request_ends o before (e ∷ after) q in
              let last : request_end o (at (Hop o) before) ≤ e.time = (step w slots issued h pr before after e q x o BeginReq a c).after_requests refl in
              elim b.time.time [
                | inl r ↦ omega arith
                | inr r ↦ elim r.1.is [
                  | inl i ↦ absurd (own_phase before after e q x o BeginReq a c r.1.event r.1.known i)
                  | inr d ↦ (
                      let s = among_split before r.1.event r.1.known in
                      let top : r.1.event.time ≤ request_end o (at (Hop o) before) =
                      last_is_greatest w o (at (Hop o) h) (λ f m. (from_at (Hop o) h f m).mine) (hop_model w slots issued h pr o)
                      (at (Hop o) before) (e ∷ at (Hop o) after) (at-split (Hop o) h before after e q c.object)
                      (at (Hop o) s.before) (at (Hop o) s.after) r.1.event d.phase d.answer (at-split (Hop o) before s.before s.after r.1.event s.is d.call.object)
                      d.call.what (ends_in_log s.before (s.after ++ e ∷ after) r.1.event (earlier h before after e r.1.event q s) o d.phase d.answer d.call d.ends) in
                      let same : r.1.event.time ≡ e.time = r.1.time in
                      let above : b.time.number < e.time = r.0 in
                      omega arith)
                ]
              ]);
        }

    timed_begin_resp : (a : TlmSync) → IsCall x (hop_at pass k) BeginResp a e → CallTimed w before x pass (hop_at pass k) BeginResp e.time
    timed_begin_resp a c =
        let o = hop_at pass k in
        let b = backed_at w slots issued h pr before after e q x o BeginResp a c pass is k below refl in
        let s = step w slots issued h pr before after e q x o BeginResp a c in
        record {
          hop = k;
          below = below;
          place = refl;
          number = b.time.number;
          is_number = b.time.is_number;
          time = record {
            least = at_least w (Among before) x pass k BeginResp e.time b.time;
            after_all = λ f m r. elim r [
              | inl i ↦ s.after_own f (among_at (Hop o) before f m i.call.object) (subst (λ (y : TxnId). IsOwn y o f) (sym c.txn) i)
              | inr d ↦ s.after_responses refl f (among_at (Hop o) before f m d.call.object) d
            ];
            reached = elim b.time.time [ inl r ↦ inl r | inr r ↦ inr r.1 ];
          };
        }

    -- an own delay of END_REQ comes before the number
    late_end_req : (a : TlmSync) → IsCall x (hop_at pass k) EndReq a e → (f : Event) → Among before f → IsPhase x (hop_at pass k) BeginReq f → (m : Bool) → (w.hop (hop_at pass k)).to_memory ≡ m
        → (n : ℕ) → ReqIs w (Among before) x (served_hop m pass k) n → f.time ≤ n
    late_end_req a c f known i true mem n r =
        let same : f ≡ r.event = begin_same x (hop_at pass k) f r.event (among_more before after e q f known) i (among_more before after e q r.event r.known) r.is in
        let t : f.time ≡ r.event.time = ap (λ (y : Event). y.time) same in
        let u : r.event.time ≡ n = r.time in
        omega arith
    late_end_req a c f known i false mem n r =
        let b = backed_at w slots issued h pr before after e q x (hop_at pass k) EndReq a c pass is k below refl in
        let ahead : suc k < hop_count pass = not_last k (hop_count pass) below (leads_on (nat_eq (k + 1) (hop_count pass)) (w.hop (hop_at pass k)).to_memory (w.hop (hop_at pass k)).req b.sequence mem) in
        let j : IsPhase x (hop_at pass (suc k)) BeginReq r.event = subst (λ (m : ℕ). IsPhase x (hop_at pass m) BeginReq r.event) (add-one k) r.is in
        let y : f.time ≤ r.event.time = begin_le x pass is k ahead f r.event (among_more before after e q f known) i (among_more before after e q r.event r.known) j in
        let g : r.event.time ≡ n = r.time in
        omega arith

    timed_end_req : (a : TlmSync) → IsCall x (hop_at pass k) EndReq a e → CallTimed w before x pass (hop_at pass k) EndReq e.time
    timed_end_req a c =
        let o = hop_at pass k in
        let b = backed_at w slots issued h pr before after e q x o EndReq a c pass is k below refl in
        record {
          hop = k;
          below = below;
          place = refl;
          number = b.time.number;
          is_number = b.time.is_number;
          time = elim b.time.time [
            | inl r ↦ r
            | inr r ↦ elim r.1.is [
              | inl i ↦ (
                  let p : i.phase ≡ BeginReq = own_phase before after e q x o EndReq a c r.1.event r.1.known i in
                  let j : IsPhase x o BeginReq r.1.event = record { answer = i.answer; call = subst (λ (d : Phase). IsCall x o d i.answer r.1.event) p i.call } in
                  let l : r.1.event.time ≤ b.time.number = late_end_req a c r.1.event r.1.known j (w.hop o).to_memory refl b.time.number b.time.is_number in
                  let t : r.1.event.time ≡ e.time = r.1.time in
                  let u : b.time.number < e.time = r.0 in
                  absurd (omega arith))
              | inr d ↦ absurd d
            ]
          ];
        }

  module _ (before after : List Event) (e : Event) (q : h ≡ before ++ e ∷ after) (x : TxnId) (pass : Passage) (is : w.passage x ≡ Some pass) where
    -- rsp of the hop before the one on which END_RESP stands, or of hop 0
    late_end_resp : (k : ℕ) → k < hop_count pass → (a : TlmSync) → IsCall x (hop_at pass k) EndResp a e → (f : Event) → Among before f → IsOwn x (hop_at pass k) f
        → (n : ℕ) → NumberOf w (Among before) x pass k EndResp n → f.time ≤ n
    late_end_resp zero below a c f m i n r =
        own_rsp before after e q x pass is zero a c f m i (drop (0 + 1) pass.hops) refl n (rsp_more w (Among before) (Among h) (among_more before after e q) x (hop_at pass 0) (drop (0 + 1) pass.hops) n r)
    late_end_resp (suc j) below a c f m i n (inr r) =
        own_rsp before after e q x pass is (suc j) a c f m i (drop (suc j + 1) pass.hops) refl n
        (rsp_more w (Among before) (Among h) (among_more before after e q) x (hop_at pass (suc j)) (drop (suc j + 1) pass.hops) n
        (subst (λ (l : List ℕ). UpFrom w (Among before) x (hop_at pass j) l n) (rest_at pass j below) r.1))
    late_end_resp (suc j) below a c f m i n (inl r) =
        let s = among_split h r.event (among_more before after e q r.event r.known) in
        let d = backed_at w slots issued h pr s.before s.after r.event s.is x (hop_at pass j) BeginResp r.is.answer r.is.call pass is j (omega arith) refl in
        let u : RspFrom w (Among s.before) x (hop_at pass (suc j)) (drop (suc j + 1) pass.hops) d.time.number = subst (λ (l : List ℕ). UpFrom w (Among s.before) x (hop_at pass j) l d.time.number) (rest_at pass j below) d.time.is_number in
        let v : f.time ≤ d.time.number = own_rsp before after e q x pass is (suc j) a c f m i (drop (suc j + 1) pass.hops) refl d.time.number
        (rsp_more w (Among s.before) (Among h) (among_more s.before s.after r.event s.is) x (hop_at pass (suc j)) (drop (suc j + 1) pass.hops) d.time.number u) in
        let y : d.time.number ≤ r.event.time = at_least w (Among s.before) x pass j BeginResp r.event.time d.time in
        let g : r.event.time ≡ n = r.time in
        omega arith

    timed_end_resp : (k : ℕ) → k < hop_count pass → (a : TlmSync) → IsCall x (hop_at pass k) EndResp a e → CallTimed w before x pass (hop_at pass k) EndResp e.time
    timed_end_resp k below a c =
        let o = hop_at pass k in
        let b = backed_at w slots issued h pr before after e q x o EndResp a c pass is k below refl in
        record {
          hop = k;
          below = below;
          place = refl;
          number = b.time.number;
          is_number = b.time.is_number;
          time = elim b.time.time [
            | inl r ↦ r
            | inr r ↦ elim r.1.is [
              | inl i ↦ (
                  let l : r.1.event.time ≤ b.time.number = late_end_resp k below a c r.1.event r.1.known i b.time.number b.time.is_number in
                  let t : r.1.event.time ≡ e.time = r.1.time in
                  let u : b.time.number < e.time = r.0 in
                  absurd (omega arith))
              | inr d ↦ absurd d
            ]
          ];
        }

    timed_call : (k : ℕ) → k < hop_count pass → (p : Phase) (a : TlmSync) → IsCall x (hop_at pass k) p a e → CallTimed w before x pass (hop_at pass k) p e.time
    timed_call k below BeginReq a c = timed_begin_req before after e q x pass is k below a c
    timed_call k below EndReq a c = timed_end_req before after e q x pass is k below a c
    timed_call k below BeginResp a c = timed_begin_resp before after e q x pass is k below a c
    timed_call k below EndResp a c = timed_end_resp k below a c

  timed_by : (before after : List Event) (e : Event) → h ≡ before ++ e ∷ after → (f : Option Passage) → w.passage e.txn ≡ f → (d : ObjectNo) → e.object ≡ d → (v : What) → e.what ≡ v
      → BackedBy w (Among before) e.txn f d e.time e.number v → TimedBy w issued before e.txn f d e.time e.number v
  timed_by before after e q (Some pass) is (Hop o) d (Call p a) v b =
      let c : IsCall e.txn (hop_at pass b.hop) p a e = record { object = d ∙ ap Hop (sym b.place); txn = refl; what = v } in
      subst (λ (n : ℕ). CallTimed w before e.txn pass n p e.time) b.place (timed_call before after e q e.txn pass is b.hop b.below p a c)
  timed_by before after e q (Some pass) is (Pool i) d (Take s) v b = pr.takes before e after q e.txn (record { object = d ∙ ap Pool b; txn = refl; slot = s; what = v })
  timed_by before after e q (Some pass) is (Pool i) d (Acquire s) v b = b.1.time
  timed_by before after e q (Some pass) is (Pool i) d (Release s freed) v b = record { hop = released_hop e.number; below = b.1.below; ended = b.1.ended; time = b.1.time }
  timed_by before after e q (Some pass) is (Memory m) d (Accessed way access status got) v b = b.time
  timed_by before after e q None is (Hop o) d (Call p a) v b = absurd b
  timed_by before after e q None is (Pool i) d (Take s) v b = absurd b
  timed_by before after e q None is (Pool i) d (Acquire s) v b = absurd b
  timed_by before after e q None is (Pool i) d (Release s freed) v b = absurd b
  timed_by before after e q _ is _ d _ v b = tt

  pub times : IsTimed w issued h
  times = each_from _ h (λ before e after q. timed_by before after e q (w.passage e.txn) refl e.object refl e.what refl (pr.backed before e after q))
