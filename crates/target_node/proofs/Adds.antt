-- What the moves of a memory add.
use Rattle.std.proofs.Common.{◌≡◌, ℕ, suc, Bool, true, false, List, Option, Some, None, inl, inr, refl, sym, ap, subst, ◌∙◌}
use Rattle.std.specs.Prelude.{if◌then◌else◌}
use Rattle.atomic_table.specs.Seated.{TableId}
use Rattle.view_lists.specs.Lists.{Within}
use Rattle.one_history.specs.declared.entry.Entry.{Entry}
use Rattle.one_history.specs.declared.view.Frame.{Frame}
use Rattle.one_history.specs.declared.view.View.{View}
use Rattle.one_history.specs.Lists.{StandBelow}
use Rattle.tlm_types.specs.declared.entry.Content.{Content}
use Rattle.tlm_types.specs.declared.words.TxnId.{TxnId}
use Rattle.tlm_model.specs.declared.platform.Target.TheVariants.{Memory}
use Rattle.tlm_model.specs.Plan.{Plan}
use Rattle.flow_model.specs.World.{Passage}
use Rattle.flow_model.specs.Platform.{passage_of}
use Rattle.plat_net.specs.Places.{LeadsTo, hop_place, memory_place}
use Rattle.node_hops.specs.Laws.{IsNewOf}
use Rattle.node_hops.specs.Steps.{AddsAt, AddsOf, HasNew, IsByNode}
use Rattle.node_hops.specs.declared.node.OneStep.{OneStep}
use Rattle.node_hops.specs.declared.node.OneStep.TheVariants.{Made}
use Rattle.node_hops.proofs.News.{new_after, new_at, new_by, new_of}
use Rattle.target_node.specs.Node.{HasSent, HasServedFirst, HasTakenIn, HasTried, SendsNot, TakesOne, TakesSome}
use Rattle.target_node.specs.declared.items.MemoryResponse.{MemoryResponse}
use Rattle.target_node.specs.declared.node.TargetNode.{TargetNode}

pub not_both : false ≡ true → ⊥
not_both q = cc

module _ (p : Plan) (m : ℕ) (note back : View Content Plan) (below : StandBelow note.known note.seen) where
  -- an entry on a hop to a memory is one by it
  pub on_hop : (hop : ℕ) → LeadsTo p.platform hop (Memory m) → AddsAt (hop_place p hop) note back → HasNew (IsByNode p (Memory m)) note.known back.known
  on_hop hop leads a = new_by (λ (e : Entry Content). e.object ≡ hop_place p hop) (IsByNode p (Memory m)) note.known back.known (λ e is. IsByNode.OnHop hop leads is) (new_at (hop_place p hop) note back below a)

  -- so is an access of a four-phase initiator that it serves
  pub on_memory : (x : TxnId) (pass : Passage) → passage_of p x ≡ Some pass → AddsOf (memory_place p m) x note back → HasNew (IsByNode p (Memory m)) note.known back.known
  on_memory x pass passes a =
      new_by (IsNewOf (memory_place p m) x) (IsByNode p (Memory m)) note.known back.known
      (λ e is. IsByNode.Serves (record { memory = m; serves = refl; object = is.object; pass = pass; passes = ap (passage_of p) is.txn ∙ passes }))
      (new_of (memory_place p m) x note back below a)

module _ (frame : Frame Plan) (tokens : TableId) where
  -- a move keeps the number of the memory and its mode
  pub record IsSame (old new : TargetNode) : Type 0 where
    pub memory : new.memory ≡ old.memory
    pub accepts : new.accepts ≡ old.accepts

  same_by : (old new : TargetNode) → new ≡ old → IsSame old new
  same_by old new q = record { memory = ap (λ (t : TargetNode). t.memory) q; accepts = ap (λ (t : TargetNode). t.accepts) q }

  not_sent_same : (old new : TargetNode) (was is : View Content Plan) → SendsNot frame tokens old new was is → IsSame old new
  not_sent_same old new was is n = go old.held refl
    where
      go : (o : Option MemoryResponse) → old.held ≡ o → IsSame old new
      go None q = let none = n.none q in same_by old new none.0
      go (Some r) q = let s = n.refused r q in record { memory = ap (λ (t : TargetNode). t.memory) s.2; accepts = ap (λ (t : TargetNode). t.accepts) s.2 }

  pub sent_same : (old new : TargetNode) (was is : View Content Plan) (b : Bool) → HasSent frame tokens old new was is b → IsSame old new
  sent_same old new was is true s = record { memory = ap (λ (t : TargetNode). t.memory) s.gone; accepts = ap (λ (t : TargetNode). t.accepts) s.gone }
  sent_same old new was is false s = not_sent_same old new was is s

  pub taken_same : (old new : TargetNode) (was is : View Content Plan) (b : Bool) → HasTakenIn frame tokens old new was is b → IsSame old new
  taken_same old new was is true s = record { memory = ap (λ (t : TargetNode). t.memory) s.queued; accepts = ap (λ (t : TargetNode). t.accepts) s.queued }
  taken_same old new was is false s = same_by old new s.same

  pub served_same : (old new : TargetNode) (was is : View Content Plan) (b : Bool) → HasServedFirst frame tokens old new was is b → IsSame old new
  served_same old new was is true s = record { memory = ap (λ (t : TargetNode). t.memory) s.queued; accepts = ap (λ (t : TargetNode). t.accepts) s.queued }
  served_same old new was is false s = same_by old new s.1

  pub same_on : (old mid new : TargetNode) → IsSame old mid → IsSame mid new → IsSame old new
  same_on old mid new a b = record { memory = b.memory ∙ a.memory; accepts = b.accepts ∙ a.accepts }

  -- an entry by the memory after it moved is one by the memory before
  pub new_since : (old mid : TargetNode) (was now is : List (Entry Content)) → IsSame old mid → Within was now → HasNew (IsByNode frame.world (Memory mid.memory)) now is → HasNew (IsByNode frame.world (Memory old.memory)) was is
  new_since old mid was now is same w n = new_after (IsByNode frame.world (Memory old.memory)) was now is w (subst (λ (m : ℕ). HasNew (IsByNode frame.world (Memory m)) now is) same.memory n)

  -- what a try came to that took a request in
  pub tried_taken : (old new : TargetNode) (was is : View Content Plan) (b : Bool) (r : Option OneStep) → r ≡ (if b then Some Made else None) → old.accepts ≡ b → (old.accepts ≡ true → HasNew (IsByNode frame.world (Memory old.memory)) was.known is.known) → TakesOne frame tokens old new was is → HasTried frame tokens old new was is r
  tried_taken old new was is true r q mode made takes = subst (λ (o : Option OneStep). HasTried frame tokens old new was is o) (sym q) (inr (inl (mode, takes)), made mode)
  tried_taken old new was is false r q mode made takes = subst (λ (o : Option OneStep). HasTried frame tokens old new was is o) (sym q) (mode, takes)

  -- one request more was taken in
  pub takes_more : (n : ℕ) (old mid new : TargetNode) (was now is : View Content Plan) → TakesSome frame tokens n old mid was now → (mid.accepts ≡ false) × TakesOne frame tokens mid new now is → TakesSome frame tokens (suc n) old new was is
  takes_more n old mid new was now is some one = (mid, now, some, one.0, one.1)
