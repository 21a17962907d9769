-- The slots of the entries of pools are below the number of the pool's slots.
use Rattle.std.proofs.Common.{◌≡◌, ℕ, ◌<◌, ◌≤◌, Bool, true, false, cond, List, [], ◌∷◌, ◌++◌, Option, Some, None, refl, sym, subst, ◌∙◌, ⊎_elim, arith}
use Rattle.std.specs.Prelude.{MatchOption, slice_get, if◌then◌else◌, ◌==◌}
use Rattle.std.specs.List.{AllByRecursion, filter}
use Rattle.std.proofs.lemmas.Bool.{cases_lt, ne_eqb}
use Rattle.tlm_types.specs.declared.words.ObjectNo.TheVariants.{Pool}
use Rattle.tlm_types.specs.declared.words.TxnId.{TxnId}
use Rattle.tlm_types.specs.declared.entry.Entry.{Entry}
use Rattle.tlm_types.specs.declared.entry.What.{What}
use Rattle.tlm_types.specs.declared.entry.What.TheVariants.{Take, Acquire, Release}
use Rattle.tlm_model.specs.declared.platform.InitiatorRow.{InitiatorRow}
use Rattle.tlm_model.specs.Each.{EachFrom}
use Rattle.tlm_model.specs.History.{entries_at, is_object}
use Rattle.tlm_model.specs.Plan.{Plan}
use Rattle.flow_model.specs.Counts.{CountStep, Counted, Counts, KeepsCounts, counts_after, counts_by, one_less, one_more}
use Rattle.flow_model.specs.Slots.{no_slots, put}
use Rattle.flow_model.specs.Traffic.{slots_by, slots_of}
use Rattle.platform_model.specs.Bounded.{IsBounded, IsBoundedInitiator}
use Rattle.trace_print.proofs.GoodNames.{all_got}

-- the slot of a pool's entry is below this number
abbrev pub IsSlotBelow : ℕ → What → Type 0
IsSlotBelow n (Take k) = k < n
IsSlotBelow n (Acquire k) = k < n
IsSlotBelow n (Release k f) = k < n
IsSlotBelow n w = Unit {0}

-- no slot from this number on is live
abbrev AreBelow : ℕ → Counts → Type 0
AreBelow n s = (k : ℕ) → n ≤ k → s k ≡ None

counts-push : (s : Counts) (before : List Entry) (e : Entry) → counts_after s (before ++ e ∷ []) ≡ counts_by (counts_after s before) e.txn e.what
counts-push s [] e = refl
counts-push s (d ∷ before) e = counts-push (counts_by s d.txn d.what) before e

put-below : (n : ℕ) (s : Counts) (k : ℕ) (o : Option Counted) → AreBelow n s → k < n → AreBelow n (put s k o)
put-below n s k o below few j past = go (j == k) (ne_eqb j k (λ e. omega (arith, e, few, past)))
  where
    go : (b : Bool) → b ≡ false → (if b then o else s j) ≡ None
    go true q = cc
    go false q = below j past

module _ (n : ℕ) where
  -- a slot that is live
  live-below : (s : Counts) (k : ℕ) (Q : Counted → Type 0) → AreBelow n s → MatchOption (s k) ⊥ Q → k < n
  live-below s k Q below live = ⊎_elim (λ (few : k < n). few) (λ (past : n ≤ k). absurd (subst (λ (o : Option Counted). MatchOption o ⊥ Q) (below k past) live)) (cases_lt k n)

  step-below : (s : Counts) (x : TxnId) (w : What) → AreBelow n s → CountStep n s x w → IsSlotBelow n w × AreBelow n (counts_by s x w)
  step-below s x (Take k) below step = let few = step.below in (few, put-below n s k (Some (record { txn = x; count = 1 })) below few)
  step-below s x (Acquire k) below step = let few = live-below s k (λ c. c.txn ≡ x) below step in (few, put-below n s k (one_more (s k)) below few)
  step-below s x (Release k f) below step = let few = live-below s k (λ c. (c.txn ≡ x) × (f ≡ (c.count == 1))) below step in (few, put-below n s k (one_less (s k)) below few)
  step-below s x w below step = absurd step

  slots-from : (before log : List Entry) → AreBelow n (counts_after no_slots before) → EachFrom (λ before e. CountStep n (counts_after no_slots before) e.txn e.what) before log → AllByRecursion (λ (e : Entry). IsSlotBelow n e.what) log
  slots-from before [] below steps = tt
  slots-from before (e ∷ log) below steps =
      let one = step-below (counts_after no_slots before) e.txn e.what below steps.0 in
      (one.0, slots-from (before ++ e ∷ []) log (subst (AreBelow n) (sym (counts-push no_slots before e)) one.1) steps.1)

-- what holds of those that are picked
unpicked : {X : Type 0} (P : X → Type 0) (test : X → Bool) (xs : List X) → AllByRecursion P (filter test xs) → AllByRecursion (λ x. test x ≡ true → P x) xs
unpicked P test [] all = tt
unpicked P test (x ∷ xs) all = go (λ r. unpicked P test xs r) (test x) refl all
  where
    go : (AllByRecursion P (filter test xs) → AllByRecursion (λ x. test x ≡ true → P x) xs) → (b : Bool) → test x ≡ b → AllByRecursion P (cond b (x ∷ filter test xs) (filter test xs)) → (test x ≡ true → P x) × AllByRecursion (λ x. test x ≡ true → P x) xs
    go rest true q all = ((λ _. all.0), rest all.1)
    go rest false q all = ((λ h. (let wrong : false ≡ true = sym q ∙ h in cc)), rest all)

each-of : {X : Type 0} (P : ℕ → X → Type 0) (xs : List X) → ((i : ℕ) → AllByRecursion (P i) xs) → AllByRecursion (λ x. (i : ℕ) → P i x) xs
each-of P [] f = tt
each-of P (x ∷ xs) f = ((λ i. (f i).0), each-of P xs (λ i. (f i).1))

-- each entry of a pool has a slot of it
abbrev pub HasSlot : Plan → Entry → Type 0
HasSlot p e = (i : ℕ) → is_object (Pool i) e.object ≡ true → IsSlotBelow (slots_of p i) e.what

pub have-slots : (p : Plan) (h : List Entry) → ((i : ℕ) → KeepsCounts (slots_of p i) (entries_at (Pool i) h)) → AllByRecursion (HasSlot p) h
have-slots p h counts =
    each-of (λ i (e : Entry). is_object (Pool i) e.object ≡ true → IsSlotBelow (slots_of p i) e.what) h
    (λ i. unpicked (λ (e : Entry). IsSlotBelow (slots_of p i) e.what) (λ (e : Entry). is_object (Pool i) e.object) h (slots-from (slots_of p i) [] (entries_at (Pool i) h) (λ k past. refl) (counts i)))

-- a pool has few slots
pub few-slots : (p : Plan) → IsBounded p.platform → (i : ℕ) → slots_of p i ≤ 16
few-slots p bounded i = go (slice_get p.platform.initiators i) refl
  where
    go : (o : Option InitiatorRow) → slice_get p.platform.initiators i ≡ o → slots_by o ≤ 16
    go None at = omega arith
    go (Some row) at = let r = all_got (IsBoundedInitiator p.platform) p.platform.initiators bounded.initiators i row at in omega (arith, r.slots)
