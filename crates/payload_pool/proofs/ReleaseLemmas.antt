-- A Release that is looked up in a log.
use Rattle.std.proofs.Common.{◌≡◌, ℕ, zero, suc, ◌+◌, ◌<◌, ◌⊎◌, Bool, true, List, [], ◌∷◌, length, map, get_or, Option, Some, None, refl, ap, sym, subst, ◌∙◌, inl, inr, arith}
use Rattle.std.specs.Prelude.{IsSomeAnd, slice_get}
use Rattle.std.specs.Option.{option_and_then, option_map}
use Rattle.std.proofs.lemmas.Option.{get_or_from_slice_get, slice_get-map, slice_get_within}
use Rattle.tlm_types.specs.declared.entry.Entry.{Entry}
use Rattle.tlm_types.specs.declared.entry.Head.{Head}
use Rattle.tlm_types.specs.declared.entry.What.{What}
use Rattle.tlm_types.specs.declared.entry.What.TheVariants.{Access, Granted, Invalidated, Closed, Call, Take, Acquire, Release}
use Rattle.tlm_types.specs.declared.words.TxnId.{TxnId}
use Rattle.tlm_types.specs.Entries.{head_of, plain_of, read_at}
use Rattle.flow_model.specs.Events.{Among, Event, Finds, IsReleased, entries}
use Rattle.payload_pool.specs.Released.{IsReleaseRead, was_release}

-- what stands at a place stands among all
pub among_got : (es : List Event) (i : ℕ) (e : Event) → slice_get es i ≡ Some e → Among es e
among_got [] i e q = cc
among_got (x ∷ es) zero e q = inl (same x e q)
  where
    same : (x e : Event) → Some x ≡ Some e → x ≡ e
    same x e q = cc
among_got (x ∷ es) (suc i) e q = inr (among_got es i e q)

-- and stands at a place
pub place_among : (es : List Event) (e : Event) → Among es e → (i : ℕ) × (slice_get es i ≡ Some e)
place_among [] e m = absurd m
place_among (x ∷ es) e (inl q) = (0, ap (λ (y : Event). Some y) q)
place_among (x ∷ es) e (inr m) = let t = place_among es e m in (suc t.0, t.1)

-- where none of the first n is one, and there are no more, none is
pub none_among : (P : Event → Type 0) (es : List Event) (n : ℕ) → length es ≡ n → ((i : ℕ) → i < n → IsSomeAnd (slice_get es i) P → ⊥) → Finds (Among es) P → ⊥
none_among P es n long none f =
    let at = place_among es f.event f.known in
    none at.0 (let less = slice_get_within es at.0 f.event at.1 in omega arith) (subst (λ (o : Option Event). IsSomeAnd o P) (sym at.1) f.is)

pub one_among : (P : Event → Type 0) (es : List Event) (i : ℕ) → IsSomeAnd (slice_get es i) P → Finds (Among es) P
one_among P es i some = by (slice_get es i) refl some
  where
    by : (o : Option Event) → slice_get es i ≡ o → IsSomeAnd o P → Finds (Among es) P
    by None q none = absurd none
    by (Some e) q is = record { event = e; known = among_got es i e q; is = is }

there : (es : List Event) (i : ℕ) → i < length es → (e : Event) × (slice_get es i ≡ Some e)
there [] i less = absurd (omega arith)
there (x ∷ es) zero less = (x, refl)
there (x ∷ es) (suc i) less = there es i (omega arith)

one_value : {A : Type 0} (x y : A) → Some x ≡ Some y → x ≡ y
one_value x y q = cc

-- what was read of a Release
read_release : (w : What) → was_release (plain_of w) ≡ true → (slot : ℕ) × (freed : Bool) × (w ≡ Release slot freed)
read_release (Release slot freed) is = (slot, freed, refl)
read_release (Access way access status got) is = cc
read_release (Granted gate first last kind) is = cc
read_release (Invalidated first last) is = cc
read_release (Closed gate) is = cc
read_release (Call phase answer) is = cc
read_release (Take slot) is = cc
read_release (Acquire slot) is = cc

-- The entry at a place is the Release of x with this number exactly where what was read there says so.
module _ (es : List Event) (at : ℕ) (head : Head) (what : Option What) (number : ℕ) (x : TxnId) (wanted : ℕ) (below : at < length es) (d : ℕ)
    (head_is : option_map head_of (slice_get (entries es) at) ≡ Some head) (what_is : what ≡ read_at plain_of (entries es) at) (number_is : number ≡ get_or (map (λ (e : Event). e.number) es) at d) where
  record Here : Type 0 where
    event : Event
    is : slice_get es at ≡ Some event
    head_same : head_of event.entry ≡ head
    what_same : what ≡ plain_of event.what
    number_same : number ≡ event.number

  here : Here
  here =
      let t = there es at below in
      let stands : slice_get (entries es) at ≡ Some t.0.entry = slice_get-map (λ (e : Event). e.entry) es at ∙ ap (option_map (λ (e : Event). e.entry)) t.1 in
      record {
        event = t.0;
        is = t.1;
        head_same = one_value (head_of t.0.entry) head (sym (ap (option_map head_of) stands) ∙ head_is);
        what_same = what_is ∙ ap (option_and_then (λ (e : Entry). plain_of e.what)) stands;
        number_same = number_is ∙ get_or_from_slice_get (map (λ (e : Event). e.number) es) at t.0.number d (slice_get-map (λ (e : Event). e.number) es at ∙ ap (option_map (λ (e : Event). e.number)) t.1);
      }

  pub read_is : IsReleaseRead head what number x wanted → IsSomeAnd (slice_get es at) (IsReleased x wanted)
  read_is r =
      let t = here in
      let w = read_release t.event.what (subst (λ (o : Option What). was_release o ≡ true) t.what_same r.3) in
      subst (λ (o : Option Event). IsSomeAnd o (IsReleased x wanted)) (sym t.is) (record {
        freed = w.1;
        release = record {
          object = ap (λ (y : Head). y.object) t.head_same ∙ r.0;
          txn = ap (λ (y : Head). y.txn) t.head_same ∙ r.1;
          number = sym t.number_same ∙ r.2;
          slot = w.0;
          what = w.2;
        };
      })

  pub is_read : IsSomeAnd (slice_get es at) (IsReleased x wanted) → IsReleaseRead head what number x wanted
  is_read some =
      let t = here in
      let r = subst (λ (o : Option Event). IsSomeAnd o (IsReleased x wanted)) t.is some in (
        ap (λ (y : Head). y.object) (sym t.head_same) ∙ r.release.object,
        ap (λ (y : Head). y.txn) (sym t.head_same) ∙ r.release.txn,
        t.number_same ∙ r.release.number,
        ap was_release (t.what_same ∙ ap plain_of r.release.what),
      )

-- one more isn't one
pub none_more : (P : Event → Type 0) (es : List Event) (n : ℕ) → ((i : ℕ) → i < n → IsSomeAnd (slice_get es i) P → ⊥) → (IsSomeAnd (slice_get es n) P → ⊥) → (i : ℕ) → i < n + 1 → IsSomeAnd (slice_get es i) P → ⊥
none_more P es n none here i less = by (less_or_same i n less)
  where
    less_or_same : (i n : ℕ) → i < n + 1 → (i < n) ⊎ (i ≡ n)
    less_or_same i n less = grind arith

    by : (i < n) ⊎ (i ≡ n) → IsSomeAnd (slice_get es i) P → ⊥
    by (inl below) = none i below
    by (inr same) = subst (λ (k : ℕ). IsSomeAnd (slice_get es k) P → ⊥) (sym same) here
