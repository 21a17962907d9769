-- The gates that a memory keeps stay those of its log.
use Rattle.std.proofs.Common.{◌≡◌, ℕ, ◌+◌, ◌-◌, ◌<◌, ◌≤◌, ◌&&◌, ◌||◌, Bool, true, false, not, cond, IsTrue, List, [], ◌∷◌, ◌++◌, length, set, refl, sym, ap, ◌∙◌, subst, ⊎_elim, arith, length-set}
use Rattle.std.specs.Prelude.{replicate, slice_set, slice_index_or, nat_le, nat_lt}
use Rattle.std.specs.List.{list_any}
use Rattle.std.proofs.lemmas.Bool.{cases_eq, cases_Bool, eq-eqb, ne_eqb}
use Rattle.std.proofs.lemmas.List.{length-replicate, get_or-replicate, get_or-set_same, get_or-set_other}
use Rattle.std.proofs.lemmas.List.Folds.{list_any-append}
use Rattle.tlm_types.specs.declared.words.Kind.{Kind}
use Rattle.tlm_types.specs.declared.words.MemoryTraits.{MemoryTraits}
use Rattle.tlm_types.specs.declared.entry.Entry.{Entry}
use Rattle.tlm_types.specs.declared.entry.Head.{Head}
use Rattle.tlm_types.specs.declared.entry.What.TheVariants.{Granted, Closed}
use Rattle.tlm_types.specs.Entries.{entry_at}
use Rattle.region_object.specs.declared.gates.Gate.{Gate}
use Rattle.region_object.specs.declared.gates.Gate.TheVariants.{Fresh, Given, Shut}
use Rattle.region_object.specs.Gates.{GatesView, was_given, IsGate, HoldsGates}
use Rattle.region_object.specs.Grants.{gives, closes, is_grant, is_given, is_closed, grants_in, overlaps, gives_over}

or-false : (b : Bool) → (b || false) ≡ b
or-false true = refl
or-false false = refl

given_more : (g : ℕ) (log : List Entry) (e : Entry) → is_given g (log ++ e ∷ []) ≡ (is_given g log || gives g e.what)
given_more g log e = list_any-append (λ x. gives g x.what) log (e ∷ []) ∙ ap (λ b. is_given g log || b) (or-false (gives g e.what))

closed_more : (g : ℕ) (log : List Entry) (e : Entry) → is_closed g (log ++ e ∷ []) ≡ (is_closed g log || closes g e.what)
closed_more g log e = list_any-append (λ x. closes g x.what) log (e ∷ []) ∙ ap (λ b. is_closed g log || b) (or-false (closes g e.what))

over_more : (g low high before : ℕ) (log : List Entry) (e : Entry) → list_any (gives_over g low high before) (log ++ e ∷ []) ≡ (list_any (gives_over g low high before) log || gives_over g low high before e)
over_more g low high before log e = list_any-append (gives_over g low high before) log (e ∷ []) ∙ ap (λ b. list_any (gives_over g low high before) log || b) (or-false (gives_over g low high before e))

grants_more : (log : List Entry) (e : Entry) → grants_in (log ++ e ∷ []) ≡ grants_in log + cond (is_grant e.what) 1 0
grants_more [] e = omega arith
grants_more (x ∷ xs) e = let more = grants_more xs e in omega arith

-- Boolean facts
or_no : (a b : Bool) → b ≡ false → (a || b) ≡ a
or_no true b is = refl
or_no false b is = is

or_yes : (a b : Bool) → b ≡ true → (a || b) ≡ true
or_yes true b is = refl
or_yes false b is = is

and_no : (a b : Bool) → a ≡ false → (a && b) ≡ false
and_no true b is = absurd (cc (is))
and_no false b is = refl

and_true : (b : Bool) → (b && true) ≡ b
and_true true = refl
and_true false = refl

left_no : (a b : Bool) → (a && not b) ≡ false → b ≡ false → a ≡ false
left_no true true is closed = closed
left_no true false is closed = is
left_no false b is closed = refl

or_left : (a b : Bool) → IsTrue a → IsTrue (a || b)
or_left true b is = refl
or_left false b is = absurd (cc (is))

given_stays : (g : ℕ) (log : List Entry) (e : Entry) → IsTrue (is_given g log) → IsTrue (is_given g (log ++ e ∷ []))
given_stays g log e is = subst IsTrue (sym (given_more g log e)) (or_left (is_given g log) (gives g e.what) is)

fresh_is : (x : Gate) → was_given x ≡ false → x ≡ Fresh
fresh_is Fresh is = refl
fresh_is (Given p) is = absurd (cc (is))
fresh_is Shut is = absurd (cc (is))

-- an entry that neither gives nor closes a gate leaves it as it was
pub gate_quiet : (m : MemoryTraits) (log : List Entry) (e : Entry) (g : ℕ) (x : Gate) → gives g e.what ≡ false → closes g e.what ≡ false → IsGate m log g x → IsGate m (log ++ e ∷ []) g x
gate_quiet m log e g x ng nc is = record {
  given = given_more g log e ∙ or_no (is_given g log) (gives g e.what) ng ∙ is.given;
  closed = closed_more g log e ∙ or_no (is_closed g log) (closes g e.what) nc ∙ is.closed;
  open_ = λ low high before.
      let over : list_any (gives_over g low high before) (log ++ e ∷ []) ≡ list_any (gives_over g low high before) log = over_more g low high before log e ∙ or_no (list_any (gives_over g low high before) log) (gives_over g low high before e) (and_no (gives g e.what) (nat_lt e.position before && overlaps low high e.what) ng) in
      let shut : is_closed g (log ++ e ∷ []) ≡ is_closed g log = closed_more g log e ∙ or_no (is_closed g log) (closes g e.what) nc in
      ap (λ (b : Bool). b && not (is_closed g (log ++ e ∷ []))) over ∙ ap (λ (b : Bool). list_any (gives_over g low high before) log && not b) shut ∙ is.open_ low high before;
}

module _ (m : MemoryTraits) (v : GatesView) (log : List Entry) (h : HoldsGates m v log) where
  -- an entry that is neither a grant nor a closing
  pub holds_quiet : (e : Entry) → is_grant e.what ≡ false → ((g : ℕ) → (gives g e.what ≡ false) × (closes g e.what ≡ false)) → HoldsGates m v (log ++ e ∷ [])
  holds_quiet e none quiet = record {
    long = h.long;
    named = h.named;
    count = h.count ∙ (let more = grants_more log e in let no : cond {A = ℕ} (is_grant e.what) 1 0 ≡ 0 = ap (λ (b : Bool). cond {A = ℕ} b 1 0) none in omega arith);
    each = λ k x below. gate_quiet m log e (v.first + k) (slice_index_or v.gates k x) (quiet (v.first + k)).0 (quiet (v.first + k)).1 (h.each k x below);
    few = h.few;
    within = λ g is. h.within g (subst IsTrue (given_more g log e ∙ or_no (is_given g log) (gives g e.what) (quiet g).0) is);
    closings = λ g is. given_stays g log e (h.closings g (subst IsTrue (closed_more g log e ∙ or_no (is_closed g log) (closes g e.what) (quiet g).1) is));
  }

  -- the next gate was never given, and never closed
  next_fresh : (x : Gate) → v.given < length v.gates → (is_given (v.first + v.given) log ≡ false) × (slice_index_or v.gates v.given x ≡ Fresh)
  next_fresh x left =
      let g = v.first + v.given in
      let no : is_given g log ≡ false = ⊎_elim (λ (yes' : is_given g log ≡ true). let w = h.within g yes' in absurd (omega arith)) (λ (n : is_given g log ≡ false). n) (cases_Bool (is_given g log)) in
      (no, fresh_is (slice_index_or v.gates v.given x) (sym (h.each v.given x left).given ∙ no))

  -- a grant of the next gate
  pub holds_given : (head : Head) (kind : Kind) → v.given < length v.gates
      → let e : Entry = entry_at head (Granted (v.first + v.given) 0 (m.size - 1) kind) in
      HoldsGates m (record { first = v.first; gates = slice_set v.gates v.given (Given head.position); given = v.given + 1 }) (log ++ e ∷ [])
  holds_given head kind left = record {
    long = length-set v.gates v.given (Given head.position) ∙ h.long;
    named = h.named;
    count = let more = grants_more log e in let c = h.count in omega arith;
    each = λ k x below. ⊎_elim
        (λ (same : k ≡ v.given). subst (λ (y : Gate). IsGate m (log ++ e ∷ []) (v.first + k) y) (sym (ap (λ (n : ℕ). slice_index_or (set v.gates v.given (Given head.position)) n x) same ∙ get_or-set_same v.gates v.given (Given head.position) x left))
        (subst (λ (n : ℕ). IsGate m (log ++ e ∷ []) (v.first + n) (Given head.position)) (sym same) new))
        (λ (else : k ≡ v.given → ⊥). subst (λ (y : Gate). IsGate m (log ++ e ∷ []) (v.first + k) y) (sym (get_or-set_other v.gates v.given k (Given head.position) x else))
        (gate_quiet m log e (v.first + k) (slice_index_or v.gates k x) (ne_eqb (v.first + v.given) (v.first + k) (λ q. else (omega arith))) refl (h.each k x (let l = length-set v.gates v.given (Given head.position) in omega arith))))
        (cases_eq k v.given);
    few = let l = h.long in omega arith;
    within = λ g is. by_given g (is_given g log) refl (subst IsTrue (given_more g log e) is);
    closings = λ g is. given_stays g log e (h.closings g (subst IsTrue (closed_more g log e ∙ or_no (is_closed g log) (closes g e.what) refl) is));
  }
    where
      e : Entry
      e = entry_at head (Granted (v.first + v.given) 0 (m.size - 1) kind)

      g0 : ℕ
      g0 = v.first + v.given

      old : IsGate m log g0 Fresh
      old = subst (λ (x : Gate). IsGate m log g0 x) (next_fresh Fresh left).1 (h.each v.given Fresh left)

      is_e : gives g0 e.what ≡ true
      is_e = eq-eqb g0 g0 refl

      new : IsGate m (log ++ e ∷ []) g0 (Given head.position)
      new = record {
        given = given_more g0 log e ∙ or_yes (is_given g0 log) (gives g0 e.what) is_e;
        closed = closed_more g0 log e ∙ or_no (is_closed g0 log) (closes g0 e.what) refl ∙ old.closed;
        open_ = λ low high before.
            let none : list_any (gives_over g0 low high before) log ≡ false = left_no (list_any (gives_over g0 low high before) log) (is_closed g0 log) (old.open_ low high before) old.closed in
            let over : list_any (gives_over g0 low high before) (log ++ e ∷ []) ≡ gives_over g0 low high before e = over_more g0 low high before log e ∙ ap (λ (b : Bool). b || gives_over g0 low high before e) none in
            let shut : is_closed g0 (log ++ e ∷ []) ≡ false = closed_more g0 log e ∙ or_no (is_closed g0 log) (closes g0 e.what) refl ∙ old.closed in
            ap (λ (b : Bool). b && not (is_closed g0 (log ++ e ∷ []))) over ∙ ap (λ (b : Bool). gives_over g0 low high before e && not b) shut ∙ ap (λ (b : Bool). (b && (nat_lt head.position before && (nat_le 0 high && nat_le low (m.size - 1)))) && true) is_e ∙ and_true (nat_lt head.position before && (nat_le 0 high && nat_le low (m.size - 1)));
      }

      by_given : (g : ℕ) (b : Bool) → is_given g log ≡ b → IsTrue (b || gives g e.what) → (v.first ≤ g) × (g < v.first + (v.given + 1))
      by_given g true is yes' = let w = h.within g is in (w.0, omega arith)
      by_given g false is yes' = ⊎_elim (λ (same : g0 ≡ g). (omega arith, omega arith)) (λ (else : g0 ≡ g → ⊥). let no = ne_eqb g0 g else in absurd (cc (no, yes'))) (cases_eq g0 g)

  -- a closing of a gate that was given
  pub holds_shut : (head : Head) (gate : ℕ) → IsTrue (is_given gate log)
      → let e : Entry = entry_at head (Closed gate) in
      HoldsGates m (record { first = v.first; gates = slice_set v.gates (gate - v.first) Shut; given = v.given }) (log ++ e ∷ [])
  holds_shut head gate given = record {
    long = length-set v.gates place Shut ∙ h.long;
    named = h.named;
    count = let more = grants_more log e in let c = h.count in omega arith;
    each = λ k x below. ⊎_elim
        (λ (same : k ≡ place). subst (λ (y : Gate). IsGate m (log ++ e ∷ []) (v.first + k) y) (sym (ap (λ (n : ℕ). slice_index_or (set v.gates place Shut) n x) same ∙ get_or-set_same v.gates place Shut x (let l = length-set v.gates place Shut in omega arith)))
        (subst (λ (n : ℕ). IsGate m (log ++ e ∷ []) n Shut) (let w = h.within gate given in omega arith) new))
        (λ (else : k ≡ place → ⊥). subst (λ (y : Gate). IsGate m (log ++ e ∷ []) (v.first + k) y) (sym (get_or-set_other v.gates place k Shut x else))
        (gate_quiet m log e (v.first + k) (slice_index_or v.gates k x) refl (ne_eqb gate (v.first + k) (λ q. else (let w = h.within gate given in omega arith))) (h.each k x (let l = length-set v.gates place Shut in omega arith))))
        (cases_eq k place);
    few = h.few;
    within = λ g is. h.within g (subst IsTrue (given_more g log e ∙ or_no (is_given g log) (gives g e.what) refl) is);
    closings = λ g is. by_closed g (is_closed g log) refl (subst IsTrue (closed_more g log e) is);
  }
    where
      e : Entry
      e = entry_at head (Closed gate)

      place : ℕ
      place = gate - v.first

      by_closed : (g : ℕ) (b : Bool) → is_closed g log ≡ b → IsTrue (b || closes g e.what) → IsTrue (is_given g (log ++ e ∷ []))
      by_closed g true is yes' = given_stays g log e (h.closings g is)
      by_closed g false is yes' = ⊎_elim (λ (same : gate ≡ g). given_stays g log e (subst (λ (n : ℕ). IsTrue (is_given n log)) same given)) (λ (else : gate ≡ g → ⊥). let no = ne_eqb gate g else in absurd (cc (no, yes'))) (cases_eq gate g)

      shut : is_closed gate (log ++ e ∷ []) ≡ true
      shut = closed_more gate log e ∙ or_yes (is_closed gate log) (closes gate e.what) (eq-eqb gate gate refl)

      and_false : (b : Bool) → (b && false) ≡ false
      and_false true = refl
      and_false false = refl

      new : IsGate m (log ++ e ∷ []) gate Shut
      new = record {
        given = given_more gate log e ∙ or_no (is_given gate log) (gives gate e.what) refl ∙ given;
        closed = shut;
        open_ = λ low high before. ap (λ (b : Bool). list_any (gives_over gate low high before) (log ++ e ∷ []) && not b) shut ∙ and_false (list_any (gives_over gate low high before) (log ++ e ∷ []));
      }

-- a memory without entries
pub holds_fresh : (m : MemoryTraits) (first : ℕ) → first + m.gates < 4294967296 → HoldsGates m (record { first = first; gates = replicate m.gates Fresh; given = 0 }) []
holds_fresh m first named = record {
  long = length-replicate m.gates Fresh;
  named = named;
  count = refl;
  each = λ k x below. subst (λ (y : Gate). IsGate m [] (first + k) y) (sym (get_or-replicate m.gates k Fresh x (let l = length-replicate m.gates Fresh in omega arith))) (record { given = refl; closed = refl; open_ = λ low high before. refl });
  few = omega arith;
  within = λ g is. absurd (cc (is));
  closings = λ g is. absurd (cc (is));
}
