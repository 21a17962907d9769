-- What the premises say at one call of an access on one of its hops.
use Rattle.std.proofs.Common.{◌≡◌, ℕ, ◌<◌, List, [], ◌∷◌, ◌++◌, Some, sym, ◌∙◌, subst, append_assoc}
use Rattle.tlm_types.specs.declared.words.ObjectNo.TheVariants.{Hop}
use Rattle.tlm_types.specs.declared.words.Phase.{Phase}
use Rattle.tlm_types.specs.declared.words.TlmSync.{TlmSync}
use Rattle.tlm_types.specs.declared.entry.Entry.{Entry}
use Rattle.tlm_types.specs.declared.words.TxnId.{TxnId}
use Rattle.tlm_types.specs.declared.entry.What.TheVariants.{Call}
use Rattle.flow_model.specs.Backed.{CallBacked, CallAfter, TimeBacked, SequenceBacked}
use Rattle.flow_model.specs.Events.{Event, Among, IsCall, at}
use Rattle.flow_model.specs.World.{World, Passage, hop_count, hop_at, IsPassage}
use Rattle.flow_model.proofs.Forms.{Saying, says, sayings, eleven, IsPrefixOf, HopModel, HopStep, CallStep, Given}
use Rattle.flow_model.proofs.Nodes.{OneOf, before_call, Answers, next_call}
use Rattle.flow_model.proofs.Reading.{backed_call}
use Rattle.flow_model.proofs.Sayings.{sayings-at, sayings-split, prefix_of_front}
use Rattle.flow_model.proofs.Splits.{at_log}

-- the backing of a call on hop k
pub record BackedAt (w : World) (K : Event → Type 0) (x : TxnId) (pass : Passage) (k : ℕ) (p : Phase) (t : ℕ) : Type 0 where
  pub order : CallAfter w K x pass k p
  pub time : TimeBacked w K x pass k p t
  pub sequence : SequenceBacked w K x pass k p

some_same : {X : Type 0} (a b : X) → Some a ≡ Some b → a ≡ b
some_same a b q = cc

phase_same : (p q : Phase) (a b : TlmSync) → Call p a ≡ Call q b → p ≡ q
phase_same p q a b r = cc

answer_same : (p q : Phase) (a b : TlmSync) → Call p a ≡ Call q b → a ≡ b
answer_same p q a b r = cc

pub at_hop : (w : World) (K : Event → Type 0) (x : TxnId) (pass : Passage) (o t : ℕ) (p : Phase) → IsPassage pass → CallBacked w K x pass o t p → (k : ℕ) → k < hop_count pass → hop_at pass k ≡ o → BackedAt w K x pass k p t
at_hop w K x pass o t p good b k below place =
    subst (λ (j : ℕ). BackedAt w K x pass j p t) (good.distinct b.hop k b.below below (b.place ∙ sym place)) (record { order = b.order; time = b.time; sequence = b.sequence })

module _ (w : World) (slots : ℕ → ℕ) (issued : List Entry → TxnId → ℕ) (h : List Event) (pr : Given w slots issued h) where
  pub hop_model : (o : ℕ) → HopModel w o (at (Hop o) h)
  hop_model o = pr.hops o

  pub proper : (x : TxnId) (o : ℕ) → IsPrefixOf eleven (sayings x o h)
  proper x o = subst (λ (l : List Saying). IsPrefixOf eleven l) (sayings-at x o h) ((hop_model o).proper x)

  -- a call of x in the history: its place, the hop's step there, and its backing
  module _ (before after : List Event) (e : Event) (q : h ≡ before ++ e ∷ after) (x : TxnId) (o : ℕ) (p : Phase) (a : TlmSync) (c : IsCall x o p a e) where
    pub step : CallStep w o (at (Hop o) before) e p a
    step =
        let s = at_log (HopStep w o) (Hop o) h before after e (hop_model o).steps q c.object in
        let r : Call s.phase s.answer ≡ Call p a = sym s.what ∙ c.what in
        subst (λ (b : TlmSync). CallStep w o (at (Hop o) before) e p b) (answer_same s.phase p s.answer a r)
        (subst (λ (d : Phase). CallStep w o (at (Hop o) before) e d s.answer) (phase_same s.phase p s.answer a r) s.step)

    -- what x said on the hop before
    pub came : OneOf (before_call p) (sayings x o before) × Answers p a
    came =
        let whole : sayings x o h ≡ (sayings x o before ++ says p a ∷ []) ++ sayings x o after = sayings-split x o h before after e p a q c ∙ sym (append_assoc (sayings x o before) (says p a ∷ []) (sayings x o after)) in
        next_call (sayings x o before) p a (prefix_of_front eleven (sayings x o before ++ says p a ∷ []) (sayings x o after) (subst (λ (l : List Saying). IsPrefixOf eleven l) whole (proper x o)))

    pub backed_at : (pass : Passage) → w.passage x ≡ Some pass → (k : ℕ) → k < hop_count pass → hop_at pass k ≡ o → BackedAt w (Among before) x pass k p e.time
    backed_at pass is k below place =
        let b = backed_call w (Among before) x o p a e (pr.backed before e after q) c in
        let same : b.passage ≡ pass = some_same b.passage pass (sym b.is ∙ is) in
        at_hop w (Among before) x pass o e.time p (pr.world.passages x pass is) (subst (λ (g : Passage). CallBacked w (Among before) x g o e.time p) same b.call) k below place
