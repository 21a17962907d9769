-- The Take of each life stands in the log, at the position that its slot has.
use Rattle.std.proofs.Common.{◌≡◌, ◌⊎◌, ℕ, ◌==◌, Bool, true, false, cond, List, [], ◌∷◌, Option, Some, None, refl, sym, ap, ◌∙◌, subst, inl, inr}
use Rattle.std.proofs.lemmas.Bool.{cond-true, cond-false, eqb-true}
use Rattle.tlm_types.specs.declared.words.ObjectNo.TheVariants.{Pool as pool_number}
use Rattle.tlm_types.specs.declared.words.TxnId.{TxnId}
use Rattle.tlm_types.specs.declared.entry.What.{What}
use Rattle.tlm_types.specs.declared.entry.What.TheVariants.{Access, Granted, Invalidated, Closed, Call, Take, Acquire, Release}
use Rattle.flow_model.specs.Events.{Among, Event, Finds}
use Rattle.flow_model.specs.Pools.{Life, Slots, fewer, more, slots_after, slots_by}
use Rattle.flow_model.specs.Slots.{no_slots}
use Rattle.numbered_log.proofs.Ordered.{among_has, each_has, one_entry}
use Rattle.payload_pool.specs.Slots.{slot_place}
use Rattle.payload_pool.specs.Lives.{no_takes, takes_after, takes_by}
use Rattle.payload_pool.specs.Pool.{Follows, PoolView}
use Rattle.payload_pool.specs.Calls.{is_out}
use Rattle.payload_pool.specs.Laws.{IsTakeBy, NamesTransaction}
use Rattle.payload_pool.proofs.Held.{held}

-- the slot was taken for x, at this position
record Took (k : ℕ) (x : TxnId) (p : ℕ) (e : Event) : Type 0 where
  pub txn : e.txn ≡ x
  pub place : e.position ≡ p
  pub what : e.what ≡ Take k

-- the life is of x
record IsOf (o : Option Life) (x : TxnId) : Type 0 where
  pub life : Life
  pub is : o ≡ Some life
  pub txn : life.txn ≡ x

-- the slot is live with x since this position
record Lives (s : Slots) (at : ℕ → ℕ) (k : ℕ) (x : TxnId) (p : ℕ) : Type 0 where
  pub of : IsOf (s k) x
  pub since : at k ≡ p

abbrev txn_or : TxnId → Option Life → TxnId
txn_or x None = x
txn_or x (Some l) = l.txn

of_taken : (y x : TxnId) → IsOf (Some (record { txn = y; acquired = 0; released = [] })) x → y ≡ x
of_taken y x o = ap (txn_or y) o.is ∙ o.txn

of_more : (o : Option Life) (x : TxnId) → IsOf (more o) x → IsOf o x
of_more None x h = let e = h.is in cc
of_more (Some l) x h = record { life = l; is = refl; txn = ap (txn_or l.txn) h.is ∙ h.txn }

of_fewer : (o : Option Life) (n : ℕ) (freed : Bool) (x : TxnId) → IsOf (fewer o n freed) x → IsOf o x
of_fewer None n freed x h = let e = h.is in cc
of_fewer (Some l) n true x h = let e = h.is in cc
of_fewer (Some l) n false x h = record { life = l; is = refl; txn = ap (txn_or l.txn) h.is ∙ h.txn }

-- a slot was live before an entry, or the entry is its Take
module _ (s : Slots) (at : ℕ → ℕ) (e : Event) (k : ℕ) (x : TxnId) (p : ℕ) where
  at_take : (j : ℕ) → e.what ≡ Take j → (b : Bool) → (k == j) ≡ b → Lives (slots_by s e.txn e.number (Take j)) (takes_by at e.position (Take j)) k x p → Lives s at k x p ⊎ Took k x p e
  at_take j q true t l =
      inr (record {
        txn = of_taken e.txn x (subst (λ (o : Option Life). IsOf o x) (cond-true (k == j) _ (s k) t) l.of);
        place = sym (cond-true (k == j) e.position (at k) t) ∙ l.since;
        what = q ∙ ap Take (sym (eqb-true k j t));
      })
  at_take j q false t l =
      inl (record {
        of = subst (λ (o : Option Life). IsOf o x) (cond-false (k == j) _ (s k) t) l.of;
        since = sym (cond-false (k == j) e.position (at k) t) ∙ l.since;
      })

  -- an entry that only counts at slot j
  at_count : (j : ℕ) (next : Option Life) → (IsOf next x → IsOf (s j) x) → (b : Bool) → (k == j) ≡ b → IsOf (cond (k == j) next (s k)) x → IsOf (s k) x
  at_count j next back true t h = subst (λ (i : ℕ). IsOf (s i) x) (sym (eqb-true k j t)) (back (subst (λ (o : Option Life). IsOf o x) (cond-true (k == j) next (s k) t) h))
  at_count j next back false t h = subst (λ (o : Option Life). IsOf o x) (cond-false (k == j) next (s k) t) h

  at_entry : (w : What) → e.what ≡ w → Lives (slots_by s e.txn e.number w) (takes_by at e.position w) k x p → Lives s at k x p ⊎ Took k x p e
  at_entry (Take j) q l = at_take j q (k == j) refl l
  at_entry (Acquire j) q l = inl (record { of = at_count j (more (s j)) (of_more (s j) x) (k == j) refl l.of; since = l.since })
  at_entry (Release j freed) q l = inl (record { of = at_count j (fewer (s j) e.number freed) (of_fewer (s j) e.number freed x) (k == j) refl l.of; since = l.since })
  at_entry (Access way access status got) q l = inl l
  at_entry (Granted g f t o) q l = inl l
  at_entry (Invalidated f t) q l = inl l
  at_entry (Closed g) q l = inl l
  at_entry (Call phase answer) q l = inl l

taken_from : (s : Slots) (at : ℕ → ℕ) (es : List Event) (k : ℕ) (x : TxnId) (p : ℕ) → Lives (slots_after s es) (takes_after at es) k x p → Lives s at k x p ⊎ Finds (Among es) (Took k x p)
taken_from s at [] k x p l = inl l
taken_from s at (e ∷ es) k x p l =
    elim (taken_from (slots_by s e.txn e.number e.what) (takes_by at e.position e.what) es k x p l) [
      | inl b ↦ elim (at_entry s at e k x p e.what refl b) [
        | inl was ↦ inl was
        | inr took ↦ inr (record { event = e; known = inl refl; is = took })
      ]
      | inr f ↦ inr (record { event = f.event; known = inr f.known; is = f.is })
    ]

taken : (es : List Event) (k : ℕ) (x : TxnId) (p : ℕ) → Lives (slots_after no_slots es) (takes_after no_takes es) k x p → Finds (Among es) (Took k x p)
taken es k x p l =
    elim (taken_from no_slots no_takes es k x p l) [
      | inl was ↦ let e = was.of.is in cc
      | inr f ↦ f
    ]

pub names_transaction : (v : PoolView) (name : ℕ) → Follows v → is_out v name ≡ true → NamesTransaction v name
names_transaction v name f out =
    let k = slot_place name v.slots in
    let h = held v name f.log out in
    let t = taken v.log.events k h.life.txn (takes_after no_takes v.log.events k) (record { of = record { life = h.life; is = h.is; txn = refl }; since = refl }) in
    let has = among_has v.log.events t.event t.known in
    let is : IsTakeBy v name t.event = record {
      object = each_has (λ (y : Event). y.object ≡ pool_number v.initiator) v.log.events f.own t.event has;
      txn = h.txn ∙ sym t.is.txn;
      place = t.is.place ∙ h.position;
      what = t.is.what;
    } in
    record {
      held = h;
      taken = record { event = t.event; known = t.known; is = is };
      one = λ e there at. subst (IsTakeBy v name) (one_entry v.log.events f.log.ordered t.event e has there (is.place ∙ sym at)) is;
    }
