-- An access whose payload is back in its pool is done on each of its hops.
use Rattle.std.proofs.Common.{◌≡◌, ℕ, zero, suc, pred, ◌+◌, ◌-◌, ◌<◌, ◌≤◌, List, [], ◌∷◌, ◌++◌, length, drop, length-drop, Some, true, refl, ap, sym, ◌∙◌, arith, subst, ◌⊎◌, inl, inr}
use Rattle.tlm_types.specs.declared.words.Phase.TheVariants.{BeginReq, BeginResp, EndResp}
use Rattle.tlm_types.specs.declared.entry.Entry.{Entry}
use Rattle.tlm_types.specs.declared.words.TxnId.{TxnId}
use Rattle.tlm_types.specs.declared.words.ReqMode.{ReqMode}
use Rattle.tlm_types.specs.declared.words.ReqMode.TheVariants.{Accept, Short, EndReq as AtOnce, BeginResp as WithResponse, Complete}
use Rattle.tlm_types.specs.declared.words.RespMode.{RespMode}
use Rattle.tlm_types.specs.declared.words.RespMode.TheVariants.{Accept as Accepts, EndResp as Ends, Complete as Completes}
use Rattle.flow_model.specs.Backed.{ReleaseBacked}
use Rattle.flow_model.specs.Events.{Event, Among, Finds, IsPhase, IsAcquire, IsReleased, hop_log}
use Rattle.flow_model.specs.Numbers.{IsEnding, IsEnder, UpFrom, UpIs, RspIs, EndIs, released_hop}
use Rattle.flow_model.specs.Points.{IsFreed}
use Rattle.base_phases.specs.Sequences.{Call, IsSequence}
use Rattle.flow_model.specs.Calls.{calls_of}
use Rattle.std.proofs.lemmas.List.Elements.{filter_map-append}
use Rattle.flow_model.specs.World.{World, Passage, hop_count, hop_at, row_of}
use Rattle.flow_model.specs.Ending.{IsDone}
use Rattle.flow_model.proofs.Forms.{Saying, says, sayings, rows, IsPrefix, IsPrefixOf, Given, IsOneOf, eleven, AtSplits, said}
use Rattle.flow_model.proofs.Freed.{released_before, own_released, ended_before}
use Rattle.flow_model.proofs.More.{end_more, rsp_more, up_more}
use Rattle.flow_model.proofs.Reading.{backed_release}
use Rattle.flow_model.proofs.Sayings.{In, said_in, prefix_of_front}
use Rattle.flow_model.proofs.Splits.{Split, among_split, among_whole}
use Rattle.flow_model.proofs.Steps.{backed_at, proper}
use Rattle.flow_model.proofs.CallLists.{all_calls, calls_at, one_to, rows_are, whole_says}
use Rattle.flow_model.proofs.Table.{table}
use Rattle.flow_model.proofs.Times.{next_hop}

append_nil : (l : List Event) → l ++ [] ≡ l
append_nil [] = refl
append_nil (x ∷ l) = ap (λ (m : List Event). x ∷ m) (append_nil l)

some_same : {X : Type 0} (a b : X) → Some a ≡ Some b → a ≡ b
some_same a b q = cc

-- only the last of these says ends a sequence
abbrev pub EndsLast : List Saying → Type 0
EndsLast [] = Unit {0}
EndsLast (s ∷ []) = Unit {0}
EndsLast (s ∷ t ∷ l) = (¬ IsEnding s.phase s.answer) × EndsLast (t ∷ l)

whole_by : (cs s : List Saying) (e : Saying) → EndsLast s → IsPrefix cs s → In cs e → IsEnding e.phase e.answer → cs ≡ s
whole_by [] s e l p i z = absurd i
whole_by (c ∷ cs) [] e l p i z = absurd p
whole_by (c ∷ []) (d ∷ []) e l p i z = ap (λ (u : Saying). u ∷ []) p.0
whole_by (c ∷ f ∷ cs) (d ∷ []) e l p i z = absurd p.1
whole_by (c ∷ cs) (d ∷ t ∷ s) e l p (inl q) z =
    absurd (l.0 (subst (λ (u : Saying). IsEnding u.phase u.answer) (sym q ∙ p.0) z))
whole_by (c ∷ cs) (d ∷ t ∷ s) e l p (inr i) z =
    let r : cs ≡ t ∷ s = whole_by cs (t ∷ s) e l.1 p.1 i z in
    λ j. p.0 j ∷ r j

abbrev pub AllEndLast : List (List Saying) → Type 0
AllEndLast [] = Unit {0}
AllEndLast (s ∷ ss) = EndsLast s × AllEndLast ss

pub whole_of : (ss : List (List Saying)) (cs : List Saying) (e : Saying) → AllEndLast ss → IsPrefixOf ss cs → In cs e → IsEnding e.phase e.answer → IsOneOf ss cs
whole_of [] cs e l p i z = p
whole_of (s ∷ ss) cs e l (inl p) i z = inl (whole_by cs s e l.0 p i z)
whole_of (s ∷ ss) cs e l (inr p) i z = inr (whole_of ss cs e l.1 p i z)

rows_end_last : (row : ReqMode) (resp : RespMode) → AllEndLast (rows row resp)
rows_end_last Complete r = (tt, tt)
rows_end_last WithResponse Accepts = ((λ z. z, tt), ((λ z. z, (λ z. z, tt)), tt))
rows_end_last WithResponse Ends = ((λ z. z, tt), ((λ z. z, tt), tt))
rows_end_last WithResponse Completes = ((λ z. z, tt), ((λ z. z, tt), tt))
rows_end_last AtOnce Accepts = ((λ z. z, (λ z. z, tt)), tt)
rows_end_last AtOnce Ends = ((λ z. z, tt), tt)
rows_end_last AtOnce Completes = ((λ z. z, tt), tt)
rows_end_last Accept Accepts = ((λ z. z, (λ z. z, (λ z. z, tt))), tt)
rows_end_last Accept Ends = ((λ z. z, (λ z. z, tt)), tt)
rows_end_last Accept Completes = ((λ z. z, (λ z. z, tt)), tt)
rows_end_last Short Accepts = ((λ z. z, (λ z. z, tt)), tt)
rows_end_last Short Ends = ((λ z. z, tt), tt)
rows_end_last Short Completes = ((λ z. z, tt), tt)

module _ (w : World) (slots : ℕ → ℕ) (issued : List Entry → TxnId → ℕ) (h : List Event) (pr : Given w slots issued h) (x : TxnId) (pass : Passage) (is : w.passage x ≡ Some pass) where
  -- what a BEGIN_RESP is told of the response
  up_before : (k : ℕ) → k < hop_count pass → (e : Event) → Among h e → IsPhase x (hop_at pass k) BeginResp e → (t : ℕ) × UpIs w (Among h) x pass k t
  up_before k below e m i =
      let s = among_split h e m in
      let b = backed_at w slots issued h pr s.before s.after e s.is x (hop_at pass k) BeginResp i.answer i.call pass is k below refl in
      (b.time.number, up_more w (Among s.before) (Among h) (λ f n. among_whole h s.before s.after e f s.is n) x (hop_at pass k) (drop (k + 1) pass.hops) b.time.number b.time.is_number)

  -- where the response of x is there on a hop, the BEGIN_REQ of the last hop stands
  last_of_up : (rest : List ℕ) (k : ℕ) → drop (k + 1) pass.hops ≡ rest → k < hop_count pass → (t : ℕ) → UpFrom w (Among h) x (hop_at pass k) rest t → (m : ℕ) → suc m ≡ hop_count pass → Finds (Among h) (IsPhase x (hop_at pass m) BeginReq)
  last_of_up [] k d below t u m r =
      let l : length (drop (k + 1) pass.hops) ≡ length pass.hops - (k + 1) = length-drop (k + 1) pass.hops in
      let n : length (drop (k + 1) pass.hops) ≡ 0 = ap length d in
      let same : k ≡ m = omega arith in
      subst (λ (j : ℕ). Finds (Among h) (IsPhase x (hop_at pass j) BeginReq)) same (record { event = u.is_req.event; known = u.is_req.known; is = u.is_req.is })
  last_of_up (p ∷ rest) k d below t (inl g) m r =
      let n = next_hop pass k p rest d in
      let u = up_before (suc k) n.below g.event g.known (subst (λ (o : ℕ). IsPhase x o BeginResp g.event) n.hop g.is) in
      last_of_up rest (suc k) n.rest_is n.below u.0 (subst (λ (l : List ℕ). UpFrom w (Among h) x (hop_at pass (suc k)) l u.0) n.rest_is u.1) m r
  last_of_up (p ∷ rest) k d below t (inr g) m r =
      let n = next_hop pass k p rest d in
      last_of_up rest (suc k) n.rest_is n.below t (subst (λ (o : ℕ). UpFrom w (Among h) x o rest t) n.hop g.1) m r

  last_of_rsp : (k : ℕ) → k < hop_count pass → (t : ℕ) → RspIs w (Among h) x pass k t → (m : ℕ) → suc m ≡ hop_count pass → Finds (Among h) (IsPhase x (hop_at pass m) BeginReq)
  last_of_rsp k below t (inl g) m r =
      let u = up_before k below g.event g.known g.is in
      last_of_up (drop (k + 1) pass.hops) k refl below u.0 u.1 m r
  last_of_rsp k below t (inr g) m r = last_of_up (drop (k + 1) pass.hops) k refl below t g.1 m r

  -- and where x has ended on a hop
  last_of_end_resp : (k : ℕ) → k < hop_count pass → (e : Event) → Among h e → IsPhase x (hop_at pass k) EndResp e → (m : ℕ) → suc m ≡ hop_count pass → Finds (Among h) (IsPhase x (hop_at pass m) BeginReq)
  last_of_end_resp zero below e n i m r =
      let s = among_split h e n in
      let b = backed_at w slots issued h pr s.before s.after e s.is x (hop_at pass 0) EndResp i.answer i.call pass is 0 below refl in
      last_of_rsp 0 below b.time.number (rsp_more w (Among s.before) (Among h) (λ f n. among_whole h s.before s.after e f s.is n) x (hop_at pass 0) (drop (0 + 1) pass.hops) b.time.number b.time.is_number) m r
  last_of_end_resp (suc k) below e n i m r =
      let s = among_split h e n in
      let b = backed_at w slots issued h pr s.before s.after e s.is x (hop_at pass (suc k)) EndResp i.answer i.call pass is (suc k) below refl in
      last_of_rsp k (omega arith) b.time.number (rsp_more w (Among s.before) (Among h) (λ f n. among_whole h s.before s.after e f s.is n) x (hop_at pass k) (drop (k + 1) pass.hops) b.time.number b.time.is_number) m r

  last_of_end : (k : ℕ) → k < hop_count pass → (t : ℕ) → EndIs w (Among h) x pass k t → (m : ℕ) → suc m ≡ hop_count pass → Finds (Among h) (IsPhase x (hop_at pass m) BeginReq)
  last_of_end k below t (inl f) m r = last_of_rsp k below t f.1 m r
  last_of_end k below t (inr f) m r = elim f.is.1 [
    | inl i ↦ last_of_rsp k below f.event.time (inl (record { event = f.event; known = f.known; is = i; time = refl })) m r
    | inr i ↦ last_of_end_resp k below f.event f.known i m r
  ]

  -- with the BEGIN_REQ of the last hop stand those of all hops
  begin_before : (k : ℕ) → suc k < hop_count pass → Finds (Among h) (IsPhase x (hop_at pass (suc k)) BeginReq) → Finds (Among h) (IsPhase x (hop_at pass k) BeginReq)
  begin_before k below f =
      let s = among_split h f.event f.known in
      let g = (backed_at w slots issued h pr s.before s.after f.event s.is x (hop_at pass (suc k)) BeginReq f.is.answer f.is.call pass is (suc k) below refl).time.is_number.is_req in
      record { event = g.event; known = among_whole h s.before s.after f.event g.event s.is g.known; is = g.is }

  begin_below : (m k : ℕ) → m < hop_count pass → k ≤ m → Finds (Among h) (IsPhase x (hop_at pass m) BeginReq) → Finds (Among h) (IsPhase x (hop_at pass k) BeginReq)
  begin_below zero k below l f = let same : 0 ≡ k = omega arith in subst (λ (j : ℕ). Finds (Among h) (IsPhase x (hop_at pass j) BeginReq)) same f
  begin_below (suc m) k below l f = elim (le_case k m l) [
    | inl r ↦ begin_below m k (omega arith) r (begin_before m below f)
    | inr q ↦ subst (λ (j : ℕ). Finds (Among h) (IsPhase x (hop_at pass j) BeginReq)) q f
  ]
    where
      le_case : (k m : ℕ) → k ≤ suc m → (k ≤ m) ⊎ (suc m ≡ k)
      le_case k m l = grind arith

  acquire_of_begin : (k : ℕ) → k < hop_count pass → Finds (Among h) (IsPhase x (hop_at pass k) BeginReq) → Finds (Among h) (IsAcquire x k)
  acquire_of_begin k below f =
      let s = among_split h f.event f.known in
      let g = (backed_at w slots issued h pr s.before s.after f.event s.is x (hop_at pass k) BeginReq f.is.answer f.is.call pass is k below refl).order.acquired in
      record { event = g.event; known = among_whole h s.before s.after f.event g.event s.is g.known; is = g.is }

  module _ (f : Finds (Among h) (IsFreed x)) where
    place : Split h f.event
    place = among_split h f.event f.known

    whole_list : h ≡ h ++ []
    whole_list = sym (append_nil h)

    -- the hop of the freed Release has ended
    last : ReleaseBacked w (Among place.before) x pass f.is.number f.event.time
    unfolding place
    last =
        let s = place in
        let b = backed_release w (Among s.before) x f.is.number true f.event (pr.backed s.before f.event s.after s.is) f.is.release in
        let same : b.passage ≡ pass = some_same b.passage pass (sym b.is ∙ is) in
        subst (λ (g : Passage). ReleaseBacked w (Among s.before) x g f.is.number f.event.time) same b.release

    known : (e : Event) → Among place.before e → Among h e
    unfolding place
    known e m = among_whole h place.before place.after f.event e place.is m

    each_begin : (k : ℕ) → k < hop_count pass → Finds (Among h) (IsPhase x (hop_at pass k) BeginReq)
    each_begin k below =
        let o = released_hop f.is.number in
        let low : o < hop_count pass = last.below in
        let top = last_of_end o low f.event.time (end_more w (Among place.before) (Among h) known x pass o f.event.time last.time) (pred (hop_count pass)) (omega arith) in
        begin_below (pred (hop_count pass)) k (omega arith) (omega arith) top

    each_acquire : (k : ℕ) → k < hop_count pass → Finds (Among h) (IsAcquire x k)
    each_acquire k below = acquire_of_begin k below (each_begin k below)

    each_end : (k : ℕ) → k < hop_count pass → Finds (Among h) (IsEnder x (hop_at pass k))
    each_end k below = ended_before w slots issued h pr h [] whole_list x pass is k (each_acquire k below) f

    each_release : (k : ℕ) → (k < hop_count pass) ⊎ (k ≡ 15) → Finds (Among h) (IsReleased x k)
    each_release k (inl below) = released_before w slots issued h pr h [] whole_list x k (each_acquire k below) f
    each_release k (inr q) = own_released w slots issued h pr h [] whole_list x k q f

    done : IsDone w h x pass
    done = record {
      whole = λ k below. (
          let e = each_end k below in
          let row = row_of w pass k in
          let resp = (w.hop (hop_at pass k)).resp in
          let one = whole_of (rows row resp) (sayings x (hop_at pass k) h) (says e.is.phase e.is.answer)
          (rows_end_last row resp) (table w slots issued h pr x pass is k below)
          (said_in x (hop_at pass k) h e.event e.is.phase e.is.answer e.known e.is.call) e.is.ends in
          subst (λ (l : List (List Call)). Among l (calls_of x (hop_log (hop_at pass k) h))) (sym (rows_are row resp))
          (subst (λ (l : List Call). Among (all_calls (rows row resp)) l) (sym (calls_at x (hop_at pass k) h)) (one_to (rows row resp) (sayings x (hop_at pass k) h) one)));
      acquired = each_acquire;
      released = each_release;
      release_times = λ k e m r. (
          let s = among_split h e m in
          let b = backed_release w (Among s.before) x k r.freed e (pr.backed s.before e s.after s.is) r.release in
          let same : b.passage ≡ pass = some_same b.passage pass (sym b.is ∙ is) in
          end_more w (Among s.before) (Among h) (λ f n. among_whole h s.before s.after e f s.is n) x pass (released_hop k) e.time
          (subst (λ (g : Passage). EndIs w (Among s.before) x g (released_hop k) e.time) same b.release.time));
      served = λ t. (let g = last.served t in record { event = g.event; known = known g.event g.known; is = g.is });
    }

pub ending : (w : World) (slots : ℕ → ℕ) (issued : List Entry → TxnId → ℕ) (h : List Event) → Given w slots issued h →
    (x : TxnId) (pass : Passage) → w.passage x ≡ Some pass → Finds (Among h) (IsFreed x) → IsDone w h x pass
ending w slots issued h pr x pass is f = done w slots issued h pr x pass is f

eleven_end_last : AllEndLast eleven
eleven_end_last = ((tt), ((λ z. z, tt), ((λ z. z, (λ z. z, tt)), ((λ z. z, tt), ((λ z. z, tt), ((λ z. z, (λ z. z, (λ z. z, tt))), ((λ z. z, (λ z. z, tt)), ((λ z. z, (λ z. z, tt)), ((λ z. z, (λ z. z, tt)), ((λ z. z, tt), ((λ z. z, tt), tt)))))))))))

module _ (w : World) (slots : ℕ → ℕ) (issued : List Entry → TxnId → ℕ) (h : List Event) (pr : Given w slots issued h) where
  -- an END_RESP on a later hop stands after the whole sequence on the hop before
  pub in_turn : AtSplits (λ before e. (x : TxnId) (pass : Passage) → w.passage x ≡ Some pass → (k : ℕ) → k + 1 < hop_count pass → IsPhase x (hop_at pass (k + 1)) EndResp e → IsSequence (calls_of x (hop_log (hop_at pass k) before))) h
  in_turn before e after q x pass is k below i =
      let b = backed_at w slots issued h pr before after e q x (hop_at pass (k + 1)) EndResp i.answer i.call pass is (k + 1) below refl in
      let f = b.order.ended k refl in
      let o = hop_at pass k in
      let split : sayings x o h ≡ sayings x o before ++ sayings x o (e ∷ after) = ap (sayings x o) q ∙ filter_map-append (said x o) before (e ∷ after) in
      let p : IsPrefixOf eleven (sayings x o before) = prefix_of_front eleven (sayings x o before) (sayings x o (e ∷ after)) (subst (λ (l : List Saying). IsPrefixOf eleven l) split (proper w slots issued h pr x o)) in
      let one = whole_of eleven (sayings x o before) (says f.is.phase f.is.answer) eleven_end_last p (said_in x o before f.event f.is.phase f.is.answer f.known f.is.call) f.is.ends in
      subst IsSequence (sym (calls_at x o before)) (whole_says (sayings x o before) one)
