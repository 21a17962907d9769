-- An access that its initiator has driven, and whose references are released, has ended on each of its hops.
use Rattle.std.proofs.Common.{◌≡◌, ℕ, suc, ◌<◌, List, [], ◌∷◌, length, Some, None, Bool, true, false, cond, ◌||◌, nat_eq, refl, sym, ◌∙◌, subst, inl, inr, arith, get_or}
use Rattle.std.specs.Prelude.{◌==◌}
use Rattle.std.specs.List.{list_any}
use Rattle.std.proofs.lemmas.Bool.{eqb-true}
use Rattle.tlm_types.specs.declared.words.ObjectNo.TheVariants.{Pool}
use Rattle.tlm_types.specs.declared.words.Phase.TheVariants.{BeginReq, EndReq, BeginResp}
use Rattle.tlm_types.specs.declared.words.TlmSync.{TlmSync}
use Rattle.tlm_types.specs.declared.words.TlmSync.TheVariants.{Accepted, Updated, Completed}
use Rattle.tlm_types.specs.declared.words.ReqMode.{ReqMode}
use Rattle.tlm_types.specs.declared.words.ReqMode.TheVariants as Req
use Rattle.tlm_types.specs.declared.words.RespMode.{RespMode}
use Rattle.tlm_types.specs.declared.words.TxnId.{TxnId}
use Rattle.tlm_types.specs.declared.entry.What.{What}
use Rattle.tlm_types.specs.declared.entry.What.TheVariants.{Acquire}
use Rattle.tlm_model.specs.Each.{AtEach}
use Rattle.base_phases.specs.Sequences.{Call}
use Rattle.flow_model.specs.Table.{sequences_of}
use Rattle.flow_model.specs.World.{World, Passage, IsWorld, hop_at, hop_count, row_of}
use Rattle.flow_model.specs.Backed.{IsBacked}
use Rattle.flow_model.specs.Events.{Among, Event, Finds, IsAcquire, IsCall, IsRelease, IsTake, at}
use Rattle.flow_model.specs.Numbers.{IsEnder, released_hop}
use Rattle.flow_model.specs.Pools.{IsPoolLog, PoolStepBy, slots_after}
use Rattle.flow_model.specs.Slots.{no_slots}
use Rattle.flow_model.proofs.Each.{at_each}
use Rattle.flow_model.proofs.Lives.{AcquireOf, ReleaseOf}
use Rattle.flow_model.proofs.More.{is_backed_more}
use Rattle.flow_model.proofs.Reading.{backed_call, backed_release}
use Rattle.flow_model.proofs.Splits.{among_at, among_split, among_whole, from_at}
use Rattle.flow_model.specs.Called.{HasCalled}
use Rattle.joined_traffic.proofs.PoolEnds.{all_released}

-- a list of hops that has hop o has it at a place
pub record PassesAt (hops : List ℕ) (o : ℕ) : Type 0 where
  pub hop : ℕ
  pub below : hop < length hops
  pub is : get_or hops hop 0 ≡ o

pub passes_at : (hops : List ℕ) (o : ℕ) → list_any (λ k. k == o) hops ≡ true → PassesAt hops o
passes_at [] o q = cc
passes_at (k ∷ hops) o q = go (nat_eq k o) refl (λ r. passes_at hops o r) q
  where
    go : (b : Bool) → nat_eq k o ≡ b → (list_any (λ j. j == o) hops ≡ true → PassesAt hops o) → (b || list_any (λ j. j == o) hops) ≡ true → PassesAt (k ∷ hops) o
    go true r rest q = record { hop = 0; below = omega arith; is = eqb-true k o r }
    go false r rest q = let at = rest q in record { hop = suc at.hop; below = (let b : at.hop < length hops = at.below in omega arith); is = at.is }

-- each sequence of the table begins with BEGIN_REQ
record Begun (s : List Call) : Type 0 where
  answer : TlmSync
  among : Among s (BeginReq, answer)

begun : (row : ReqMode) (resp : RespMode) (s : List Call) → Among (sequences_of row resp) s → Begun s
begun Req.Accept resp s (inl q) = record { answer = Accepted; among = subst (λ (l : List Call). Among l (BeginReq, Accepted)) q (inl refl) }
begun Req.Accept resp s (inr z) = absurd z
begun Req.Short resp s (inl q) = record { answer = Accepted; among = subst (λ (l : List Call). Among l (BeginReq, Accepted)) q (inl refl) }
begun Req.Short resp s (inr z) = absurd z
begun Req.EndReq resp s (inl q) = record { answer = Updated EndReq; among = subst (λ (l : List Call). Among l (BeginReq, Updated EndReq)) q (inl refl) }
begun Req.EndReq resp s (inr z) = absurd z
begun Req.BeginResp resp s (inl q) = record { answer = Updated BeginResp; among = subst (λ (l : List Call). Among l (BeginReq, Updated BeginResp)) q (inl refl) }
begun Req.BeginResp resp s (inr (inl q)) = record { answer = Updated EndReq; among = subst (λ (l : List Call). Among l (BeginReq, Updated EndReq)) q (inl refl) }
begun Req.BeginResp resp s (inr (inr z)) = absurd z
begun Req.Complete resp s (inl q) = record { answer = Completed; among = subst (λ (l : List Call). Among l (BeginReq, Completed)) q (inl refl) }
begun Req.Complete resp s (inr z) = absurd z

some_passage : (a b : Passage) → Some a ≡ Some b → a ≡ b
some_passage a b q = cc

-- the number of an Acquire in a pool's log is less than 15
few_acquired : (slots : ℕ) (log : List Event) → IsPoolLog slots log → (x : TxnId) (n : ℕ) (e : Event) → Among log e → AcquireOf x n e → n < 15
few_acquired slots log steps x n e m a =
    let s = among_split log e m in
    let step : PoolStepBy slots (slots_after no_slots s.before) e.txn e.number (Acquire a.slot) =
    subst (λ (v : What). PoolStepBy slots (slots_after no_slots s.before) e.txn e.number v) a.what (at_each (λ before f. PoolStepBy slots (slots_after no_slots before) f.txn f.number f.what) log steps s.before e s.after s.is) in
    subst (λ (k : ℕ). k < 15) a.number step.few

module _ (w : World) (slots : ℕ → ℕ) (h : List Event) (world : IsWorld w) (backed : AtEach (λ before e. IsBacked w (Among before) e) h)
    (pools : (i : ℕ) → IsPoolLog (slots i) (at (Pool i) h)) (free : (i slot : ℕ) → slots_after no_slots (at (Pool i) h) slot ≡ None) where
  -- the whole history backs each of its entries
  pub backed_in : (e : Event) → Among h e → IsBacked w (Among h) e
  backed_in e m =
      let s = among_split h e m in
      is_backed_more w (Among s.before) (Among h) (λ f n. among_whole h s.before s.after e f s.is n) e (at_each (λ before f. IsBacked w (Among before) f) h backed s.before e s.after s.is)

  -- the access was acquired for each hop on which it has begun
  acquired_at : (x : TxnId) (pass : Passage) → w.passage x ≡ Some pass → (k : ℕ) → k < hop_count pass → (a : TlmSync) (e : Event) → Among h e → IsCall x (hop_at pass k) BeginReq a e → Finds (Among h) (IsAcquire x k)
  acquired_at x pass is k below a e m c =
      let b = backed_call w (Among h) x (hop_at pass k) BeginReq a e (backed_in e m) c in
      let same : pass ≡ b.passage = some_passage pass b.passage (sym is ∙ b.is) in
      let hop_below : b.call.hop < hop_count pass = subst (λ (q : Passage). b.call.hop < hop_count q) (sym same) b.call.below in
      let place : hop_at pass b.call.hop ≡ hop_at pass k = subst (λ (q : Passage). hop_at q b.call.hop ≡ hop_at pass k) (sym same) b.call.place in
      let number : b.call.hop ≡ k = (world.passages x pass is).distinct b.call.hop k hop_below below place in
      subst (λ (j : ℕ). Finds (Among h) (IsAcquire x j)) number b.call.order.acquired

  -- the events of the pool are those of the history
  in_pool : (x : TxnId) (k : ℕ) → Finds (Among h) (IsAcquire x k) → Finds (Among (at (Pool x.initiator) h)) (AcquireOf x k)
  in_pool x k f = record {
    event = f.event;
    known = among_at (Pool x.initiator) h f.event f.known f.is.object;
    is = record { txn = f.is.txn; number = f.is.number; slot = f.is.slot; what = f.is.what };
  }

  record Released (x : TxnId) (n : ℕ) (e : Event) : Type 0 where
    pub freed : Bool
    pub is : IsRelease x n freed e

  from_pool : (x : TxnId) (n : ℕ) → Finds (Among (at (Pool x.initiator) h)) (ReleaseOf x n) → Finds (Among h) (Released x n)
  from_pool x n f =
      let o = from_at (Pool x.initiator) h f.event f.known in
      record { event = f.event; known = o.among; is = record { freed = f.is.freed; is = record { object = o.mine; txn = f.is.txn; number = f.is.number; slot = f.is.slot; what = f.is.what } } }

  number_itself : (k : ℕ) → k < 15 → released_hop k ≡ k
  number_itself k few = go (nat_eq k 15) refl
    where
      go : (b : Bool) → nat_eq k 15 ≡ b → cond b 0 k ≡ k
      go true q = let r : k ≡ 15 = eqb-true k 15 q in absurd (omega arith)
      go false q = refl

  -- it has this Acquire, whose number is less than 15, and the Release of it
  pub record HasReference (x : TxnId) (k : ℕ) : Type 0 where
    pub acquired : Finds (Among (at (Pool x.initiator) h)) (AcquireOf x k)
    pub few : k < 15
    pub released : Finds (Among (at (Pool x.initiator) h)) (ReleaseOf x k)

  pub reference : (x : TxnId) (pass : Passage) → w.passage x ≡ Some pass → (k n : ℕ) → k < hop_count pass → HasCalled w (Among h) x pass k n → HasReference x k
  reference x pass is k n below called =
      let first = begun (row_of w pass k) (w.hop (hop_at pass k)).resp called.sequence called.given in
      let begin = called.known BeginReq first.answer first.among (λ q. cc) in
      let acquire = in_pool x k (acquired_at x pass is k below first.answer begin.event begin.known begin.is) in
      record {
        acquired = acquire;
        few = few_acquired (slots x.initiator) (at (Pool x.initiator) h) (pools x.initiator) x k acquire.event acquire.known acquire.is;
        released = all_released (slots x.initiator) (at (Pool x.initiator) h) (pools x.initiator) (free x.initiator) x k (record { event = acquire.event; known = acquire.known; is = inl acquire.is });
      }

  -- and the Release of the reference of its initiator
  pub own_released : (x : TxnId) → Finds (Among h) (IsTake x) → Finds (Among (at (Pool x.initiator) h)) (ReleaseOf x 15)
  own_released x t = all_released (slots x.initiator) (at (Pool x.initiator) h) (pools x.initiator) (free x.initiator) x 15 (record {
    event = t.event;
    known = among_at (Pool x.initiator) h t.event t.known t.is.object;
    is = inr (record { txn = t.is.txn; slot = t.is.slot; what = t.is.what }, refl);
  })

  ended_by : (x : TxnId) (pass : Passage) → w.passage x ≡ Some pass → (k : ℕ) (freed : Bool) (e : Event) → Among h e → IsRelease x k freed e → Finds (Among h) (IsEnder x (hop_at pass (released_hop k)))
  ended_by x pass is k freed e m r =
      let b = backed_release w (Among h) x k freed e (backed_in e m) r in
      subst (λ (q : Passage). Finds (Among h) (IsEnder x (hop_at q (released_hop k)))) (some_passage b.passage pass (sym b.is ∙ is)) b.release.ended

  -- and has ended there
  pub ended_at : (x : TxnId) (pass : Passage) → w.passage x ≡ Some pass → (k n : ℕ) → k < hop_count pass → HasCalled w (Among h) x pass k n → Finds (Among h) (IsEnder x (hop_at pass k))
  ended_at x pass is k n below called =
      let r = reference x pass is k n below called in
      let release = from_pool x k r.released in
      subst (λ (j : ℕ). Finds (Among h) (IsEnder x (hop_at pass j))) (number_itself k r.few)
      (ended_by x pass is k release.is.freed release.event release.known release.is.is)
