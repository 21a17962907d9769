-- The run by hand leaves the records.
use Rattle.std.proofs.Common.{◌≡◌, ℕ, zero, suc, ◌+◌, ◌<◌, ◌≤◌, [], ◌∷◌, Some, None, Bool, true, false, nat_eq, IsTrue, MatchOption, refl, ap, sym, ◌∙◌, arith, subst, inl, inr, lit<}
use Rattle.std.specs.Prelude.{codes, length, slice_get}
use Rattle.std.proofs.lemmas.Bool.Decides.{nat_tests}
use Rattle.view_lists.specs.Lists.{Has, Within}
use Rattle.view_lists.proofs.Members.{has_none, has_one}
use Rattle.tlm_types.specs.declared.words.ObjectNo.{ObjectNo}
use Rattle.tlm_types.specs.declared.words.ObjectNo.TheVariants.{Memory, Hop, Pool}
use Rattle.tlm_types.specs.declared.words.Phase.TheVariants.{BeginReq}
use Rattle.tlm_types.specs.declared.words.TlmSync.TheVariants.{Completed}
use Rattle.tlm_types.specs.declared.words.ReqMode.TheVariants as Req
use Rattle.tlm_types.specs.declared.words.RespMode.TheVariants as Resp
use Rattle.tlm_types.specs.declared.words.TxnId.{TxnId}
use Rattle.tlm_types.specs.declared.entry.Entry.{Entry}
use Rattle.tlm_model.specs.Plan.{Plan, Initiator, initiators_of}
use Rattle.tlm_model.specs.Requests.{is_txn, requests_of}
use Rattle.flow_model.specs.World.{Passage}
use Rattle.flow_model.specs.Events.{Among, FindsAt, IsTake, at, entries}
use Rattle.tlm_model.specs.declared.platform.Style.TheVariants.{FourPhase}
use Rattle.tlm_model.specs.declared.platform.Target.TheVariants.{Memory as at_memory}
use Rattle.flow_model.specs.Platform.{passage_of, world_of}
use Rattle.flow_model.specs.Pools.{slots_after}
use Rattle.flow_model.specs.Slots.{no_slots}
use Rattle.route_plan.specs.Planned.{planned_at, share_of}
use Rattle.route_plan.specs.Counted.{share_at}
use Rattle.flow_check.specs.Worked.{completing, lone, written}
use Rattle.flow_model.proofs.Sayings.{same_txn}
use Rattle.flow_check.proofs.WorkedHistories.{completing_works}
use Rattle.good_history.specs.Joined.{HasLogs}
use Rattle.flow_model.specs.Called.{HasCalled}
use Rattle.joined_traffic.specs.Driven.{IsDriven, spent_at}
use Rattle.joined_traffic.specs.Ended.{HasFinished, HasSpent, HaveLeft}
use Rattle.joined_traffic.specs.Issued.{HasIssued, HasWaited, IsIssued, IsMadeFor, issued_at}
use Rattle.part_tests.specs.Worked.{CompletingHasEnded, at_once, ends_at, ends_by, one_call, three_left, written_once}

abbrev plan : Plan
plan = lone Req.Complete Resp.Accept

memories : HasLogs plan.platform (entries completing)
unfolding lone completing
memories zero = ((refl, refl), tt)
memories (suc m) = let elsewhere : nat_eq 0 (suc m) ≡ false = grind (arith, nat_tests) in rw elsewhere refl

free : (i slot : ℕ) → slots_after no_slots (at (Pool i) completing) slot ≡ None
unfolding completing
free zero slot = go (nat_eq slot 0) refl
  where
    go : (b : Bool) → nat_eq slot 0 ≡ b → slots_after no_slots (at (Pool 0) completing) slot ≡ None
    go true q = rw q refl
    go false q = rw q refl
free (suc i) slot = let elsewhere : nat_eq 0 (suc i) ≡ false = grind (arith, nat_tests) in rw elsewhere refl

spent : (o : ObjectNo) → HasSpent plan completing three_left o
unfolding lone completing planned_at share_of
spent (Hop zero) = lit< tt
spent (Hop (suc o)) = let elsewhere : nat_eq 0 (suc o) ≡ false = grind (arith, nat_tests) in rw elsewhere (omega arith)
spent (Pool zero) = lit< tt
spent (Pool (suc i)) = let elsewhere : nat_eq 0 (suc i) ≡ false = grind (arith, nat_tests) in rw elsewhere (omega arith)
spent (Memory zero) = lit< tt
spent (Memory (suc m)) = let elsewhere : nat_eq 0 (suc m) ≡ false = grind (arith, nat_tests) in rw elsewhere (omega arith)

paid_same : (o : ObjectNo) → spent_at plan one_call (written_once 0) 0 o + three_left 0 o ≡ share_at plan 0 o
unfolding lone share_of
paid_same (Hop zero) = refl
paid_same (Hop (suc o)) = let elsewhere : nat_eq 0 (suc o) ≡ false = grind (arith, nat_tests) in rw elsewhere refl
paid_same (Pool zero) = refl
paid_same (Pool (suc i)) = let elsewhere : nat_eq 0 (suc i) ≡ false = grind (arith, nat_tests) in rw elsewhere refl
paid_same (Memory zero) = refl
paid_same (Memory (suc m)) = let elsewhere : nat_eq 0 (suc m) ≡ false = grind (arith, nat_tests) in rw elsewhere refl

paid : (o : ObjectNo) → share_at plan 0 o ≤ spent_at plan one_call (written_once 0) 0 o + three_left 0 o
paid o = let q = paid_same o in omega arith

abbrev first : TxnId
first = record { initiator = 0; seq = 0 }

-- there is one access
one_access : (i s : ℕ) (pass : Passage) → passage_of plan (record { initiator = i; seq = s }) ≡ Some pass → (first ≡ record { initiator = i; seq = s }) × (record { hops = 0 ∷ []; routed = true } ≡ pass)
unfolding lone
one_access zero zero pass q = (refl, some_passage _ pass q)
  where
    some_passage : (a b : Passage) → Some a ≡ Some b → a ≡ b
    some_passage a b q = cc
one_access zero (suc s) pass q = cc
one_access (suc i) s pass q = cc

called : HasCalled (world_of plan) (Among completing) first (record { hops = 0 ∷ []; routed = true }) 0 1
unfolding lone completing
called = record {
  sequence = (BeginReq, Completed) ∷ [];
  given = inl refl;
  long = refl;
  known = λ phase answer m other. elim m [
    | inl q ↦ record {
      event = _;
      known = inr (inr (inl refl));
      is = record { object = refl; txn = refl; what = ap (λ (c : _). Rattle.tlm_types.specs.declared.entry.What.TheVariants.Call c.0 c.1) q };
    }
    | inr z ↦ absurd z
  ];
}

taken : FindsAt (Among completing) (IsTake first) 0
unfolding completing
taken = record { event = _; known = inl refl; is = record { object = refl; txn = refl; slot = 0; what = refl }; time = refl }

driven : (x : TxnId) (pass : Passage) → passage_of plan x ≡ Some pass → x.initiator ≡ 0 → IsDriven (world_of plan) (Among completing) x pass (at_once x) (one_call x)
driven x pass is own =
    let one = one_access x.initiator x.seq pass is in
    subst (λ (y : TxnId). IsDriven (world_of plan) (Among completing) y pass 0 (λ o. 1)) one.0
    (subst (λ (q : Passage). IsDriven (world_of plan) (Among completing) first q 0 (λ o. 1)) one.1 here)
  where
    calls : (k : ℕ) → k < 1 → HasCalled (world_of plan) (Among completing) first (record { hops = 0 ∷ []; routed = true }) k 1
    calls zero less = called
    calls (suc k) less = absurd (omega arith)

    here : IsDriven (world_of plan) (Among completing) first (record { hops = 0 ∷ []; routed = true }) 0 (λ o. 1)
    here = record { taken = taken; called = calls }

only : Entry
only = (written 3 0).entry

within : Within (written_once 0) (entries completing)
unfolding completing
within e has = subst (λ (f : Entry). Has (entries completing) f) (has_one ((written 3 0).entry) e has) (3, refl)

abbrev dma : Initiator
dma = record { number = 0; row = record { name = codes "dma"; style = FourPhase; script = codes "a.txt"; bind = at_memory 0; pool = 4; response = Resp.Accept }; script = Rattle.flow_check.specs.Worked.write_at 0 }

finished : (k : ℕ) → k < length (initiators_of plan) → HasFinished plan completing at_once one_call k (written_once k) (three_left k)
unfolding lone
finished zero less = record {
  initiator = dma;
  at = refl;
  paid = record {
    within = within;
    distinct = ((λ has. has_none ((written 3 0).entry) has), tt);
    own = λ e has. ap (λ (f : Entry). f.txn.initiator) (sym (has_one ((written 3 0).entry) e has));
    paid = paid;
  };
  by_style = inl (
    refl,
    record {
      driven = driven;
      once = λ e f has also same first second. sym (has_one ((written 3 0).entry) e has) ∙ has_one ((written 3 0).entry) f also;
      routed = λ x pass e is has same. subst (λ (q : Passage). IsTrue q.routed) (one_access x.initiator x.seq pass is).1 refl;
    },
  );
}
finished (suc k) less = absurd (omega arith)

have_left : HaveLeft plan completing three_left
have_left =
    let pr = completing_works.premises in
    record {
      numbered = completing_works.good.sound.requests.numbered;
      times = pr.times;
      backed = pr.backed;
      hops = pr.hops;
      marks = λ o once. pr.marks o;
      pools = λ i. record { log = pr.pools i; free = free i };
      memories = memories;
      spent = spent;
    }

some_initiator : (a b : Initiator) → Some a ≡ Some b → a ≡ b
some_initiator a b q = cc

the_one : (n : ℕ) (i : Initiator) → slice_get (initiators_of plan) n ≡ Some i → dma ≡ i
unfolding lone
the_one zero i q = some_initiator _ i q
the_one (suc n) i q = cc

has_passage : passage_of plan first ≡ Some (record { hops = 0 ∷ []; routed = true })
unfolding lone
has_passage = refl

no_passage : (x : TxnId) → first ≡ x → passage_of plan x ≡ None → ⊥
no_passage x same none = clash (record { hops = 0 ∷ []; routed = true }) (sym has_passage ∙ (ap (passage_of plan) same ∙ none))
  where
    clash : (pass : Passage) → Some pass ≡ None → ⊥
    clash pass q = cc

-- it has waited for nothing
waited : (n : ℕ) → HasWaited plan completing dma (written_once 0) ends_at 0 n
waited n = record { answered = λ r m less routed. absurd (omega arith); ended = λ r pass m less is. absurd (omega arith) }

issued_first : IsIssued plan completing dma (written_once 0) ends_at first
unfolding lone
issued_first = record { request = _; asked = refl; access = _; transport = refl; take = record { event = taken.event; known = taken.known; is = taken.is }; waited = waited taken.event.position }

time_first : at_once first ≡ issued_at ends_at dma 0
unfolding lone
time_first = refl

has_issued : HasIssued plan completing at_once ends_at dma (written_once 0)
unfolding lone
has_issued = record {
  ended = refl;
  served = λ e has. subst (λ (f : Entry). MatchOption (slice_get (requests_of plan.platform dma (written_once 0)) f.txn.seq) ⊥ (λ r. IsMadeFor plan dma f r)) (has_one ((written 3 0).entry) e has) (record { entry = (refl, refl); way = refl; memory = 0; stands = refl; place = tt });
  accesses = λ x pass is own. subst (IsIssued plan completing dma (written_once 0) ends_at) (one_access x.initiator x.seq pass is).0 issued_first;
  times = λ x pass is own. subst (λ (y : TxnId). at_once y ≡ issued_at ends_at dma y.seq) (one_access x.initiator x.seq pass is).0 time_first;
  reads = λ e r has none asked. absurd (no_passage e.txn (ap (λ (f : Entry). f.txn) (has_one ((written 3 0).entry) e has)) none);
}

no_ends : (x : TxnId) → passage_of plan x ≡ None → ends_at x ≡ 0
no_ends x none = go (is_txn 0 0 x) refl
  where
    go : (b : Bool) → is_txn 0 0 x ≡ b → ends_by b ≡ 0
    go true q = absurd (no_passage x (sym (same_txn first x q)) none)
    go false q = refl

pub completing_has_ended : CompletingHasEnded
completing_has_ended = record {
  ended = record { objects = have_left; initiators = finished };
  issued = record {
    initiators = λ i at style. subst (λ (j : Initiator). HasIssued plan completing at_once ends_at j (written_once j.number)) (the_one i.number i at) has_issued;
    no_ends = no_ends;
  };
}
