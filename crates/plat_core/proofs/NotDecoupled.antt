-- Entries that no blocking or direct initiator makes: those of ports, routers and memories.
use Rattle.std.proofs.Common.{◌≡◌, ◌⊎◌, ℕ, suc, ◌+◌, Bool, true, false, ◌&&◌, not, cond, List, [], ◌∷◌, get_or, Option, Some, None, refl, sym, ap, subst, ◌∙◌, inl, inr, ⊎_elim, arith}
use Rattle.std.specs.Prelude.{slice_get}
use Rattle.std.specs.List.{position_or_len}
use Rattle.one_history.specs.declared.entry.Entry.{Entry as HistoryEntry}
use Rattle.tlm_types.specs.declared.entry.Content.{Content}
use Rattle.tlm_types.specs.declared.words.ObjectNo.{ObjectNo}
use Rattle.tlm_types.specs.declared.words.ObjectNo.TheVariants.{Memory, Hop, Pool}
use Rattle.tlm_model.specs.declared.platform.Style.{Style}
use Rattle.tlm_model.specs.declared.platform.Style.TheVariants.{Blocking, Direct, FourPhase}
use Rattle.tlm_model.specs.declared.platform.Target.{Target}
use Rattle.tlm_model.specs.History.{is_object}
use Rattle.tlm_model.specs.Plan.{Plan, Initiator, initiators_of}
use Rattle.flow_model.specs.World.{Passage}
use Rattle.flow_model.specs.Platform.{addresses_of, passage_by, passage_to}
use Rattle.cargo_model.specs.Known.{event_of, object_number, objects_of}
use Rattle.node_hops.specs.Steps.{Accesses, IsByNode, IsByPort, OfOwnPool, OfPool, OnHop, OnOwnHop, Serves}
use Rattle.plat_core.specs.Rounds.{is_decoupled, is_decoupled_entry, is_decoupled_one, is_memory}

-- what stands at the place of a number is that object, or stands for an object that isn't there
found_at : (test : ObjectNo → Bool) (xs : List ObjectNo) (d : ObjectNo) → (get_or xs (position_or_len test xs) d ≡ d) ⊎ (test (get_or xs (position_or_len test xs) d) ≡ true)
found_at test [] d = inl refl
found_at test (x ∷ xs) d = by (found_at test xs d) (test x) refl
  where
    by : (get_or xs (position_or_len test xs) d ≡ d) ⊎ (test (get_or xs (position_or_len test xs) d) ≡ true) → (b : Bool) → test x ≡ b → (get_or (x ∷ xs) (position_or_len test (x ∷ xs)) d ≡ d) ⊎ (test (get_or (x ∷ xs) (position_or_len test (x ∷ xs)) d) ≡ true)
    by rest true is =
        let here : get_or (x ∷ xs) (position_or_len test (x ∷ xs)) d ≡ x = ap (λ (b : Bool). get_or (x ∷ xs) (cond (not b) (1 + position_or_len test xs) 0) d) is in
        inr (ap test here ∙ is)
    by rest false is =
        let next : get_or (x ∷ xs) (position_or_len test (x ∷ xs)) d ≡ get_or xs (position_or_len test xs) d =
        ap (λ (b : Bool). get_or (x ∷ xs) (cond (not b) (1 + position_or_len test xs) 0) d) is ∙ ap (λ (k : ℕ). get_or (x ∷ xs) k d) (one_on (position_or_len test xs)) in
        subst (λ (o : ObjectNo). (o ≡ d) ⊎ (test o ≡ true)) (sym next) rest
      where
        one_on : (k : ℕ) → 1 + k ≡ suc k
        one_on k = omega arith

no_memory : (o x : ObjectNo) → is_memory o ≡ false → is_object o x ≡ true → is_memory x ≡ false
no_memory (Memory m) x is same = cc
no_memory (Hop h) (Memory m) is same = cc
no_memory (Hop h) (Hop g) is same = refl
no_memory (Hop h) (Pool n) is same = refl
no_memory (Pool i) (Memory m) is same = cc
no_memory (Pool i) (Hop g) is same = refl
no_memory (Pool i) (Pool n) is same = refl

module _ (p : Plan) (e : HistoryEntry Content) where
  -- at an object that is no memory
  pub elsewhere : (o : ObjectNo) → is_memory o ≡ false → e.object ≡ object_number p.platform o → is_decoupled_entry p (event_of p.platform e).entry ≡ false
  elsewhere o is at =
      let object : ObjectNo = get_or (objects_of p.platform) (object_number p.platform o) (Hop 0) in
      let none : is_memory object ≡ false =
      ⊎_elim
      (λ (missing : object ≡ Hop 0). ap is_memory missing)
      (λ (found : is_object o object ≡ true). no_memory o object is found)
      (found_at (is_object o) (objects_of p.platform) (Hop 0)) in
      ap (λ (k : ℕ). is_memory (get_or (objects_of p.platform) k (Hop 0)) && is_decoupled_one (slice_get (initiators_of p) e.content.txn.initiator)) at
      ∙ ap (λ (b : Bool). b && is_decoupled_one (slice_get (initiators_of p) e.content.txn.initiator)) none

  -- of an initiator that takes part in no round
  pub of_other : is_decoupled_one (slice_get (initiators_of p) e.content.txn.initiator) ≡ false → is_decoupled_entry p (event_of p.platform e).entry ≡ false
  of_other is = ap (λ (b : Bool). is_memory (event_of p.platform e).entry.object && b) is ∙ and_false (is_memory (event_of p.platform e).entry.object)
    where
      and_false : (b : Bool) → b && false ≡ false
      and_false true = refl
      and_false false = refl

  -- only four-phase accesses have a passage
  passing : (o : Option Initiator) (s : ℕ) (pass : Passage) → passage_by p.platform o s ≡ Some pass → is_decoupled_one o ≡ false
  passing None s pass is = refl
  passing (Some i) s pass is = by i.row.style (slice_get (addresses_of i.script) s) refl is
    where
      by : (style : Style) (address : Option (Option ℕ)) → i.row.style ≡ style → passage_to p.platform i style address ≡ Some pass → is_decoupled_one (Some i) ≡ false
      by Blocking address same to = cc
      by Direct address same to = cc
      by FourPhase address same to = ap (λ (x : Style). is_decoupled_one (Some (record i { row = record i.row { style = x } }))) same

  pub not_by_node : (to : Target) → IsByNode p to e → is_decoupled_entry p (event_of p.platform e).entry ≡ false
  not_by_node to (OnHop hop calls at) = elsewhere (Hop hop) refl at
  not_by_node to (Serves served) = of_other (passing (slice_get (initiators_of p) e.content.txn.initiator) e.content.txn.seq served.pass served.passes)
  not_by_node to (OfPool i there at) = elsewhere (Pool i) refl at

  pub not_by_port : (n : ℕ) (i : Initiator) → slice_get (initiators_of p) n ≡ Some i → i.row.style ≡ FourPhase → IsByPort p n e → is_decoupled_entry p (event_of p.platform e).entry ≡ false
  not_by_port n i is style (OnOwnHop at) = elsewhere (Hop n) refl at
  not_by_port n i is style (OfOwnPool at) = elsewhere (Pool n) refl at
  not_by_port n i is style (Accesses access) = of_other (ap (λ (k : ℕ). is_decoupled_one (slice_get (initiators_of p) k)) access.own ∙ (ap is_decoupled_one is ∙ ap is_decoupled style))
