-- A list with more entries backs no less.
use Rattle.std.proofs.Common.{ℕ, zero, suc, ◌+◌, List, [], ◌∷◌, drop, Option, Some, None, inl, inr}
use Rattle.tlm_types.specs.declared.words.ObjectNo.{ObjectNo}
use Rattle.tlm_types.specs.declared.words.ObjectNo.TheVariants.{Memory, Hop, Pool}
use Rattle.tlm_types.specs.declared.words.Phase.{Phase}
use Rattle.tlm_types.specs.declared.words.Phase.TheVariants.{BeginReq, EndReq, BeginResp, EndResp}
use Rattle.tlm_types.specs.declared.words.TxnId.{TxnId}
use Rattle.tlm_types.specs.declared.entry.What.{What}
use Rattle.tlm_types.specs.declared.entry.What.TheVariants.{Access as Accessed, Call, Take, Acquire, Release}
use Rattle.flow_model.specs.Backed.{CallAfter, TimeBacked, SequenceBacked, BackedBy, IsBacked}
use Rattle.flow_model.specs.Events.{Event, Finds, FindsAt}
use Rattle.flow_model.specs.Numbers.{Past, ArrIs, UpFrom, RspFrom, EndIs, NumberOf}
use Rattle.flow_model.specs.World.{World, Passage, hop_at}

module _ (w : World) (K L : Event → Type 0) (more : (e : Event) → K e → L e) (x : TxnId) where
  pub finds_more : (P : Event → Type 0) → Finds K P → Finds L P
  finds_more P f = record { event = f.event; known = more f.event f.known; is = f.is }

  pub finds_at_more : (P : Event → Type 0) (t : ℕ) → FindsAt K P t → FindsAt L P t
  finds_at_more P t f = record { event = f.event; known = more f.event f.known; is = f.is; time = f.time }

  past_more : (o t : ℕ) → Past w K x o t → Past w L x o t
  past_more o t p = record { req = p.req; is_req = finds_at_more _ p.req p.is_req; sum = p.sum }

  arr_more : (pass : Passage) (k t : ℕ) → ArrIs w K x pass k t → ArrIs w L x pass k t
  arr_more pass zero t a = finds_at_more _ t a
  arr_more pass (suc k) t a = past_more (hop_at pass k) t a

  pub up_more : (o : ℕ) (rest : List ℕ) (t : ℕ) → UpFrom w K x o rest t → UpFrom w L x o rest t
  up_more o [] t u = past_more o t u
  up_more o (p ∷ rest) t (inl f) = inl (finds_at_more _ t f)
  up_more o (p ∷ rest) t (inr f) = inr (finds_more _ f.0, up_more p rest t f.1)

  pub rsp_more : (o : ℕ) (rest : List ℕ) (t : ℕ) → RspFrom w K x o rest t → RspFrom w L x o rest t
  rsp_more o rest t (inl f) = inl (finds_at_more _ t f)
  rsp_more o rest t (inr f) = inr (finds_more _ f.0, up_more o rest t f.1)

  pub end_more : (pass : Passage) (k t : ℕ) → EndIs w K x pass k t → EndIs w L x pass k t
  end_more pass k t (inl f) = inl (finds_more _ f.0, rsp_more (hop_at pass k) (drop (k + 1) pass.hops) t f.1)
  end_more pass k t (inr f) = inr (finds_at_more _ t f)

  number_more : (pass : Passage) (k : ℕ) (p : Phase) (t : ℕ) → NumberOf w K x pass k p t → NumberOf w L x pass k p t
  number_more pass k BeginReq t n = arr_more pass k t n
  number_more pass k EndReq t n = finds_at_more _ t n
  number_more pass k BeginResp t n = up_more (hop_at pass k) (drop (k + 1) pass.hops) t n
  number_more pass zero EndResp t n = rsp_more (hop_at pass 0) (drop (0 + 1) pass.hops) t n
  number_more pass (suc k) EndResp t n = rsp_more (hop_at pass k) (drop (k + 1) pass.hops) t n

  after_more : (pass : Passage) (k : ℕ) (p : Phase) → CallAfter w K x pass k p → CallAfter w L x pass k p
  after_more pass k BeginReq a = record { taken = finds_more _ a.taken; acquired = finds_more _ a.acquired }
  after_more pass k EndReq a = record { taken = finds_more _ a.taken; passed = λ r. finds_more _ (a.passed r) }
  after_more pass k BeginResp a = record { taken = finds_more _ a.taken; served = λ r. finds_more _ (a.served r); answered = λ r. finds_more _ (a.answered r) }
  after_more pass k EndResp a = record { taken = finds_more _ a.taken; ended = λ j r. finds_more _ (a.ended j r) }

  time_more : (pass : Passage) (k : ℕ) (p : Phase) (t : ℕ) → TimeBacked w K x pass k p t → TimeBacked w L x pass k p t
  time_more pass k p t b = record {
    number = b.number;
    is_number = number_more pass k p b.number b.is_number;
    time = elim b.time [ inl q ↦ inl q | inr q ↦ inr (q.0, finds_at_more _ t q.1) ];
  }

  sequence_more : (pass : Passage) (k : ℕ) (p : Phase) → SequenceBacked w K x pass k p → SequenceBacked w L x pass k p
  sequence_more pass k BeginReq s = s
  sequence_more pass k EndReq s = s
  sequence_more pass k BeginResp s = λ r. finds_more _ (s r)
  sequence_more pass k EndResp s = s

  backed_more : (f : Option Passage) (o : ObjectNo) (t n : ℕ) (v : What) → BackedBy w K x f o t n v → BackedBy w L x f o t n v
  backed_more (Some pass) (Hop o) t n (Call p a) b = record {
    hop = b.hop;
    below = b.below;
    place = b.place;
    order = after_more pass b.hop p b.order;
    time = time_more pass b.hop p t b.time;
    sequence = sequence_more pass b.hop p b.sequence;
  }
  backed_more (Some pass) (Pool i) t n (Take s) b = b
  backed_more (Some pass) (Pool i) t n (Acquire s) b = (
    b.0,
    record {
      below = b.1.below;
      order = record { begun = λ j q. finds_more _ (b.1.order.begun j q) };
      time = arr_more pass n t b.1.time;
    },
  )
  backed_more (Some pass) (Pool i) t n (Release s freed) b = (
    b.0,
    record {
      below = b.1.below;
      ended = finds_more _ b.1.ended;
      time = end_more pass _ t b.1.time;
      served = λ r. finds_more _ (b.1.served r);
    },
  )
  backed_more (Some pass) (Memory m) t n (Accessed way access status got) b = record {
    order = record { taken = finds_more _ b.order.taken; begun = λ k q. finds_more _ (b.order.begun k q) };
    time = λ k q. finds_at_more _ t (b.time k q);
  }
  backed_more None (Hop o) t n (Call p a) b = b
  backed_more None (Pool i) t n (Take s) b = b
  backed_more None (Pool i) t n (Acquire s) b = b
  backed_more None (Pool i) t n (Release s freed) b = b
  backed_more _ _ t n _ b = tt

pub is_backed_more : (w : World) (K L : Event → Type 0) → ((e : Event) → K e → L e) → (e : Event) → IsBacked w K e → IsBacked w L e
is_backed_more w K L more e b = backed_more w K L more e.txn (w.passage e.txn) e.object e.time e.number e.what b
