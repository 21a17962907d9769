-- What holds of a history of events holds of its entries, with the references numbered by the order of the Acquires.
use Rattle.std.proofs.Common.{◌≡◌, ℕ, ◌+◌, ◌<◌, ◌≤◌, List, [], ◌∷◌, ◌++◌, max, Option, Some, None, refl, ap, sym, ◌∙◌, subst, ◌⊎◌, inl, inr, append_assoc}
use Rattle.std.proofs.lemmas.List.{map-append}
use Rattle.tlm_types.specs.declared.words.ObjectNo.{ObjectNo}
use Rattle.tlm_types.specs.declared.words.ObjectNo.TheVariants.{Memory, Hop, Pool}
use Rattle.tlm_types.specs.declared.words.Phase.{Phase}
use Rattle.tlm_types.specs.declared.words.Phase.TheVariants.{BeginReq, EndReq, BeginResp, EndResp}
use Rattle.tlm_types.specs.declared.words.TlmSync.{TlmSync}
use Rattle.tlm_types.specs.declared.words.TxnId.{TxnId}
use Rattle.tlm_types.specs.declared.entry.Entry.{Entry}
use Rattle.tlm_types.specs.declared.entry.What.{What}
use Rattle.tlm_types.specs.declared.entry.What.TheVariants.{Access as Accessed, Call, Take, Acquire, Release}
use Rattle.tlm_model.specs.Each.{EachFrom}
use Rattle.tlm_model.specs.History.{entries_at}
use Rattle.base_phases.specs.Sequences.{IsSequence}
use Rattle.flow_model.specs.ByRules.{request_end}
use Rattle.flow_model.specs.Calls.{calls_of}
use Rattle.flow_model.specs.World.{World, Passage, hop_count, hop_at}
use Rattle.flow_model.specs.Events.{Event, Among, Finds, IsAcquire, IsOwn, IsPhase, acquires, entries, hop_log, number_in, numbered, numbered_from}
use Rattle.flow_model.specs.Backed.{AcquireAfter, EndsResponse}
use Rattle.flow_model.specs.Numbers.{ArrIs}
use Rattle.flow_model.specs.Points.{EndsInTurn, InOrderBy, IsFreed, IsFreedLast, IsInOrder, IsLatest, IsTimed, IsWork, TimeIs, TimedBy}
use Rattle.flow_model.proofs.Each.{at_each}
use Rattle.flow_model.proofs.Forms.{AtSplits}
use Rattle.flow_model.proofs.Likeness.{IsKind, Like, Same, access_like, acquire_like, after_like, arr_like, either_kind, end_like, ender_kind, ends_response_kind, finds_like, finds_at_like, access_kind, number_like, own_kind, phase_kind, req_like}

-- an entry after these, as an event
abbrev pub mark : List Entry → Entry → Event
mark before d = record { entry = d; number = number_in before d.txn d.what }

append_nil : {X : Type 0} (l : List X) → l ++ [] ≡ l
append_nil [] = refl
append_nil (x ∷ l) = ap (λ (m : List _). x ∷ m) (append_nil l)

pub entries_numbered : (before l : List Entry) → entries (numbered_from before l) ≡ l
entries_numbered before [] = refl
entries_numbered before (d ∷ l) = ap (λ (m : List Entry). d ∷ m) (entries_numbered (before ++ d ∷ []) l)

numbered_push : (before l : List Entry) (d : Entry) → numbered_from before (l ++ d ∷ []) ≡ numbered_from before l ++ mark (before ++ l) d ∷ []
numbered_push before [] d = ap (λ (m : List Entry). mark m d ∷ []) (sym (append_nil before))
numbered_push before (c ∷ l) d =
    ap (λ (m : List Event). mark before c ∷ m)
    (numbered_push (before ++ c ∷ []) l d ∙ ap (λ (m : List Entry). numbered_from (before ++ c ∷ []) l ++ mark m d ∷ []) (append_assoc before (c ∷ []) l))

entries_push : (b : List Event) (e : Event) → entries (b ++ e ∷ []) ≡ entries b ++ e.entry ∷ []
entries_push b e = map-append (λ (f : Event). f.entry) b (e ∷ [])

-- what holds of each marked entry
each_marked : (P : List Event → Event → Type 0) (h b rest : List Event) → h ≡ b ++ rest
    → AtSplits (λ before e. P (numbered (entries before)) (mark (entries before) e.entry)) h → EachFrom P (numbered (entries b)) (numbered_from (entries b) (entries rest))
each_marked P h b [] q f = tt
each_marked P h b (e ∷ rest) q f =
    let more : numbered (entries (b ++ e ∷ [])) ≡ numbered (entries b) ++ mark (entries b) e.entry ∷ [] =
    ap numbered (entries_push b e) ∙ numbered_push [] (entries b) e.entry in
    let onward = each_marked P h (b ++ e ∷ []) rest (q ∙ sym (append_assoc b (e ∷ []) rest)) f in (
      f b e rest q,
      subst (λ (l : List Event). EachFrom P l (numbered_from (entries b ++ e.entry ∷ []) (entries rest))) more
          (subst (λ (m : List Entry). EachFrom P (numbered (entries (b ++ e ∷ []))) (numbered_from m (entries rest))) (entries_push b e) onward),
    )

pub marked : (P : List Event → Event → Type 0) (h : List Event) → AtSplits (λ before e. P (numbered (entries before)) (mark (entries before) e.entry)) h → EachFrom P [] (numbered (entries h))
marked P h f = each_marked P h [] h refl f

-- an entry of the numbered list is that of an event
record Origin (l : List Event) (f : Event) : Type 0 where
  event : Event
  known : Among l event
  entry : event.entry ≡ f.entry

origin_from : (b : List Entry) (l : List Event) (f : Event) → Among (numbered_from b (entries l)) f → Origin l f
origin_from b [] f m = absurd m
origin_from b (e ∷ l) f (inl q) = record { event = e; known = inl refl; entry = ap (λ (d : Event). d.entry) q }
origin_from b (e ∷ l) f (inr m) = let o = origin_from (b ++ e.entry ∷ []) l f m in record { event = o.event; known = inr o.known; entry = o.entry }

abbrev Counted : List Event → Event → Type 0
Counted before e = (x : TxnId) (n : ℕ) → IsAcquire x n e → n ≡ acquires x (entries_at (Pool x.initiator) (entries before))

marked_number : (before : List Event) (e : Event) → Counted before e → (slot : ℕ) → e.what ≡ Acquire slot → e.object ≡ Pool e.txn.initiator → number_in (entries before) e.txn e.what ≡ e.number
marked_number before e c slot v o =
    ap (number_in (entries before) e.txn) v ∙ sym (c e.txn e.number (record { object = o; txn = refl; number = refl; slot = slot; what = v }))

like_from : (l b rest : List Event) → l ≡ b ++ rest → AtSplits Counted l → (e : Event) → Among rest e → Like (Among (numbered_from (entries b) (entries rest))) e
like_from l b [] q c e m = absurd m
like_from l b (f ∷ rest) q c e (inl r) = record {
  event = mark (entries b) f.entry;
  known = inl refl;
  same = record {
    entry = ap (λ (d : Event). d.entry) r;
    number = λ slot v o. here slot v o ∙ ap (λ (d : Event). d.number) r;
  };
}
  where
    here : (slot : ℕ) → e.what ≡ Acquire slot → e.object ≡ Pool e.txn.initiator → number_in (entries b) f.txn f.what ≡ f.number
    here slot v o =
        marked_number b f (c b f rest q) slot (ap (λ (d : Event). d.what) r ∙ v)
        (ap (λ (d : Event). d.object) r ∙ (o ∙ ap (λ (d : Event). Pool d.txn.initiator) (sym r)))
like_from l b (f ∷ rest) q c e (inr m) =
    let k = like_from l (b ++ f ∷ []) rest (q ∙ sym (append_assoc b (f ∷ []) rest)) c e m in
    let known : Among (numbered_from (entries b ++ f.entry ∷ []) (entries rest)) k.event = subst (λ (d : List Entry). Among (numbered_from d (entries rest)) k.event) (entries_push b f) k.known in
    record { event = k.event; known = inr known; same = k.same }

call_no_acquire : (p : Phase) (a : TlmSync) (slot : ℕ) → Call p a ≡ Acquire slot → ⊥
call_no_acquire p a slot q = cc

either_of : (x : TxnId) (o : ℕ) (e f : Event) → Same e f → IsOwn x o e ⊎ EndsResponse o e → IsOwn x o f ⊎ EndsResponse o f
unfolding IsKind
either_of x o e f s c = either_kind _ _ (own_kind x o) (ends_response_kind o) e f s c

module _ (w : World) (issued : List Entry → TxnId → ℕ) (h : List Event) (counts : AtSplits Counted h) where
  counts_before : (before rest : List Event) → h ≡ before ++ rest → AtSplits Counted before
  counts_before before rest q b e a r = counts b e (a ++ rest) (q ∙ (ap (λ (l : List Event). l ++ rest) r ∙ append_assoc b (e ∷ a) rest))

  module _ (before after : List Event) (e : Event) (q : h ≡ before ++ e ∷ after) where
    K : Event → Type 0
    K = Among before

    L : Event → Type 0
    L = Among (numbered (entries before))

    like : (f : Event) → Among before f → Like (Among (numbered (entries before))) f
    like f m = like_from before [] before refl (counts_before before (e ∷ after) q) f m

    number : (slot : ℕ) → e.what ≡ Acquire slot → e.object ≡ Pool e.txn.initiator → number_in (entries before) e.txn e.what ≡ e.number
    number slot v o = marked_number before e (counts before e after q) slot v o

    order_by : (f : Option Passage) (o : ObjectNo) → e.object ≡ o → (v : What) → e.what ≡ v → InOrderBy w before e.txn f o e.number v → InOrderBy w (numbered (entries before)) e.txn f o (number_in (entries before) e.txn e.what) v
    order_by (Some pass) (Hop o) d (Call p a) v b = record {
      hop = b.hop;
      below = b.below;
      place = b.place;
      order = after_like w (Among before) (Among (numbered (entries before))) like e.txn pass b.hop p b.order;
      begun = λ r j s. finds_like w (Among before) (Among (numbered (entries before))) like e.txn _ (phase_kind e.txn (hop_at pass j) BeginReq) (b.begun r j s);
    }
    order_by (Some pass) (Pool i) d (Take s) v b = b
    order_by (Some pass) (Pool i) d (Acquire s) v b =
        subst (λ (n : ℕ). (i ≡ e.txn.initiator) × (n < hop_count pass) × AcquireAfter w (Among (numbered (entries before))) e.txn pass n) (sym (number s v (d ∙ ap Pool b.0)))
        (b.0, b.1, acquire_like w (Among before) (Among (numbered (entries before))) like e.txn pass e.number b.2)
    order_by (Some pass) (Pool i) d (Release s freed) v b = (b.0, record { served = λ r. finds_like w (Among before) (Among (numbered (entries before))) like e.txn _ (access_kind e.txn) (b.1.served r) })
    order_by (Some pass) (Memory m) d (Accessed way access status got) v b = access_like w (Among before) (Among (numbered (entries before))) like e.txn pass b
    order_by None (Hop o) d (Call p a) v b = b
    order_by None (Pool i) d (Take s) v b = b
    order_by None (Pool i) d (Acquire s) v b = b
    order_by None (Pool i) d (Release s freed) v b = b
    order_by _ _ d _ v b = tt

    -- the times
    log_same : (o : ℕ) → hop_log o (numbered (entries before)) ≡ hop_log o before
    log_same o = ap (entries_at (Hop o)) (entries_numbered [] (entries before))

    latest : (x : TxnId) (o : ℕ) (number t : ℕ) → IsLatest before (λ f. IsOwn x o f ⊎ EndsResponse o f) number t → IsLatest (numbered (entries before)) (λ f. IsOwn x o f ⊎ EndsResponse o f) number t
    latest x o number t r = record {
      least = r.least;
      after_all = λ f m i. all f (origin_from [] before f m) i;
      reached = elim r.reached [ inl s ↦ inl s | inr s ↦ inr (finds_at_like w (Among before) (Among (numbered (entries before))) like x _ (either_kind _ _ (own_kind x o) (ends_response_kind o)) t s) ];
    }
      where
        all : (f : Event) → Origin before f → IsOwn x o f ⊎ EndsResponse o f → f.time ≤ t
        all f g i = subst (λ (n : ℕ). n ≤ t) (ap (λ (d : Entry). d.time) g.entry) (r.after_all g.event g.known (either_back i))
          where
            back : Same f g.event
            back = record { entry = g.entry; number = λ slot v o. absurd (silent i slot v) }
              where
                silent : IsOwn x o f ⊎ EndsResponse o f → (slot : ℕ) → f.what ≡ Acquire slot → ⊥
                silent (inl c) slot v = call_no_acquire c.phase c.answer slot (sym c.call.what ∙ v)
                silent (inr c) slot v = call_no_acquire c.phase c.answer slot (sym c.call.what ∙ v)

            either_back : IsOwn x o f ⊎ EndsResponse o f → IsOwn x o g.event ⊎ EndsResponse o g.event
            either_back c = either_of x o f g.event back c

    time_by : (x : TxnId) (o : ℕ) (p : Phase) (number t : ℕ) → TimeIs before x o p number t → TimeIs (numbered (entries before)) x o p number t
    time_by x o BeginReq number t r = subst (λ (l : List Entry). t ≡ max number (request_end l)) (sym (log_same o)) r
    time_by x o EndReq number t r = r
    time_by x o BeginResp number t r = latest x o number t r
    time_by x o EndResp number t r = r

    timed_by : (f : Option Passage) (o : ObjectNo) → e.object ≡ o → (v : What) → e.what ≡ v → TimedBy w issued before e.txn f o e.time e.number v → (n : ℕ) → ((slot : ℕ) → v ≡ Acquire slot → (i : ℕ) → o ≡ Pool i → n ≡ e.number)
        → TimedBy w issued (numbered (entries before)) e.txn f o e.time n v
    timed_by (Some pass) (Hop o) d (Call p a) v b n same = record {
      hop = b.hop;
      below = b.below;
      place = b.place;
      number = b.number;
      is_number = number_like w (Among before) (Among (numbered (entries before))) like e.txn pass b.hop p b.number b.is_number;
      time = time_by e.txn o p b.number e.time b.time;
    }
    timed_by (Some pass) (Pool i) d (Take s) v b n same = subst (λ (l : List Entry). e.time ≡ issued l e.txn) (sym (entries_numbered [] (entries before))) b
    timed_by (Some pass) (Pool i) d (Acquire s) v b n same =
        subst (λ (m : ℕ). ArrIs w (Among (numbered (entries before))) e.txn pass m e.time) (sym (same s refl i refl))
        (arr_like w (Among before) (Among (numbered (entries before))) like e.txn pass e.number e.time b)
    timed_by (Some pass) (Pool i) d (Release s freed) v b n same = record {
      hop = b.hop;
      below = b.below;
      ended = finds_like w (Among before) (Among (numbered (entries before))) like e.txn _ (ender_kind e.txn (hop_at pass b.hop)) b.ended;
      time = end_like w (Among before) (Among (numbered (entries before))) like e.txn pass b.hop e.time b.time;
    }
    timed_by (Some pass) (Memory m) d (Accessed way access status got) v b n same = λ k q. req_like w (Among before) (Among (numbered (entries before))) like e.txn (hop_at pass k) e.time (b k q)
    timed_by _ _ d _ v b n same = tt

    -- the freed Release
    freed_back : (x : TxnId) → Finds (Among (numbered (entries before))) (IsFreed x) → Finds (Among before) (IsFreed x)
    freed_back x f = go (origin_from [] before f.event f.known)
      where
        go : Origin before f.event → Finds (Among before) (IsFreed x)
        go g = record {
          event = g.event;
          known = g.known;
          is = record {
            number = g.event.number;
            release = record {
              object = ap (λ (d : Entry). d.object) g.entry ∙ f.is.release.object;
              txn = ap (λ (d : Entry). d.txn) g.entry ∙ f.is.release.txn;
              number = refl;
              slot = f.is.release.slot;
              what = ap (λ (d : Entry). d.what) g.entry ∙ f.is.release.what;
            };
          };
        }

    -- the marked entry is of the kinds of its event
    work_back : (x : TxnId) → IsWork x (mark (entries before) e.entry) → IsWork x e
    work_back x i = record { is = elim i.is [ inl c ↦ inl (c.0, record { phase = c.1.phase; answer = c.1.answer; call = record { object = c.1.call.object; txn = c.1.call.txn; what = c.1.call.what } }) | inr c ↦ inr (record { memory = c.memory; object = c.object; txn = c.txn; way = c.way; access = c.access; status = c.status; got = c.got; what = c.what }) ] }

    phase_back : (x : TxnId) (o : ℕ) (p : Phase) → IsPhase x o p (mark (entries before) e.entry) → IsPhase x o p e
    phase_back x o p i = record { answer = i.answer; call = record { object = i.call.object; txn = i.call.txn; what = i.call.what } }

  pub orders : IsInOrder w h → IsInOrder w (numbered (entries h))
  orders f = marked _ h (λ before e after q. order_by before after e q (w.passage e.txn) e.object refl e.what refl (at_each _ h f before e after q))

  pub freed_last : IsFreedLast h → IsFreedLast (numbered (entries h))
  freed_last f = marked _ h (λ before e after q x i g. at_each _ h f before e after q x (work_back before after e q x i) (freed_back before after e q x g))

  pub in_turn : EndsInTurn w h → EndsInTurn w (numbered (entries h))
  in_turn f = marked _ h (λ before e after q x pass is k below i.
      subst (λ (l : List Entry). IsSequence (calls_of x l)) (sym (log_same before after e q (hop_at pass k)))
      (at_each _ h f before e after q x pass is k below (phase_back before after e q x (hop_at pass (k + 1)) EndResp i)))

  -- an Acquire with a time is at the pool of its initiator, by the orders
  at_own_pool : (before : List Event) (e : Event) (f : Option Passage) (o : ObjectNo) (n : ℕ) (v : What) → InOrderBy w before e.txn f o n v → (slot : ℕ) → v ≡ Acquire slot → (i : ℕ) → o ≡ Pool i → i ≡ e.txn.initiator
  at_own_pool before e (Some pass) (Pool j) n (Acquire s) b slot q i r = cc
  at_own_pool before e None (Pool j) n (Acquire s) b slot q i r = absurd b
  at_own_pool before e _ _ n _ b slot q i r = cc

  pub times : IsInOrder w h → IsTimed w issued h → IsTimed w issued (numbered (entries h))
  times g f = marked _ h (λ before e after q.
      timed_by before after e q (w.passage e.txn) e.object refl e.what refl (at_each _ h f before e after q) (number_in (entries before) e.txn e.what)
      (λ slot v i o. number before after e q slot v (o ∙ ap Pool (at_own_pool before e (w.passage e.txn) e.object e.number e.what (at_each _ h g before e after q) slot v i o))))
