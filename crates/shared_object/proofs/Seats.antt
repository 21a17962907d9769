-- What a seat knows after a step.
use Rattle.std.proofs.Common.{◌≡◌, ℕ, ◌+◌, ◌<◌, ◌≤◌, true, Option, Some, None, ◌==◌, List, [], ◌∷◌, ◌++◌, map, refl, sym, ap, ◌∙◌, subst, ⊎_elim, arith, append-nil}
use Rattle.std.specs.Prelude.{MatchOption, IfSome}
use Rattle.std.specs.List.{sum_by}
use Rattle.std.proofs.lemmas.Bool.{cond-true, eq-eqb}
use Rattle.std.proofs.lemmas.List.Sums.{sum_by-cons, sum_by-append}
use Rattle.atomic_table.specs.Seated.{TableId}
use Rattle.view_lists.specs.Lists.{Has, Within}
use Rattle.view_lists.proofs.Members.{has_left, has_right, has_either, has_one, has_map}
use Rattle.view_lists.proofs.Keys.{of_key-within, of_key-has, of_key-key}
use Rattle.one_history.specs.declared.entry.Entry.{Entry}
use Rattle.one_history.specs.declared.view.Frame.{Frame}
use Rattle.one_history.specs.declared.view.View.{View}
use Rattle.one_history.specs.declared.entry.Sign.{Sign}
use Rattle.one_history.specs.declared.entry.Sign.TheVariants.{Plain, Granted, Direct, Invalidated, Closed}
use Rattle.one_history.specs.declared.view.Owned.{Owned}
use Rattle.one_history.specs.declared.view.Stay.{Stay}
use Rattle.one_history.specs.Held.{Held}
use Rattle.one_history.specs.Gates.{stay_at, inside_at, stays_of, IsGateOf, IsRevoked}
use Rattle.one_history.specs.Lists.{object_of, entries_at}
use Rattle.one_history.specs.Moves.{number_of, own_of, first_number, first_own, KnowsOwn, IsAtGate, MayDraw, joined, one_gone, unstay}
use Rattle.tlm_types.specs.declared.entry.Content.{Content}
use Rattle.shared_object.specs.Written.{Written, NamesOwnGate, wrote, placed, written, written_at}
use Rattle.shared_object.specs.Standing.{HasGates, IsSeat, IsDrawn}
use Rattle.shared_object.specs.Steps.{IsNoteAt, left_if, addition}
use Rattle.shared_object.proofs.Gates.{own_gate}

module _ {A : Type 0} where
  pub within_both : (xs ys zs : List A) → Within xs ys → Within (xs ++ zs) (ys ++ zs)
  within_both xs ys zs h x has = ⊎_elim (λ (a : Has xs x). has_left ys zs x (h x a)) (λ (b : Has zs x). has_right ys zs x b) (has_either xs zs x has)

module _ {A B : Type 0} (f : A → B) where
  pub map_one : (xs : List A) (x : A) → map f (xs ++ x ∷ []) ≡ map f xs ++ f x ∷ []
  map_one [] x = refl
  map_one (y ∷ ys) x = ap (λ (l : List B). f y ∷ l) (map_one ys x)

module _ {G : Type 0} where
  -- what is known of the object is among what it has written
  pub knows_entries : (number : ℕ) (entries : List Written) (j : View Content G) (known : List (Entry Content)) → number_of j ≡ number → own_of j ≡ map (placed number) entries → KnowsOwn j → Within known j.known → Within (written_at number known) entries
  knows_entries number entries j known numbered own mine among x has =
      let m = has_map written (entries_at number known) x has in
      let a = m.0 in
      let key : a.object ≡ number = of_key-key object_of number known a m.1 in
      let there : Has (entries_at a.object j.known) a = of_key-has object_of j.known a (among a (of_key-within object_of number known a m.1)) in
      let here : Has (own_of j) a = mine.among a (subst (λ (n : ℕ). Has (entries_at n j.known) a) (key ∙ sym numbered) there) in
      let q = has_map (placed number) entries a (subst (λ (l : List (Entry Content)). Has l a) own here) in
      let is : q.0 ≡ x = ap written q.2 ∙ m.2 in
      subst (λ (w : Written). Has entries w) is q.1

  -- a seat after it left a gate, if it did
  pub record LeftSame (v u : View Content G) : Type 0 where
    pub frame : u.frame ≡ v.frame
    pub notes : u.notes ≡ v.notes
    pub seen : u.seen ≡ v.seen
    pub known : u.known ≡ v.known
    pub looks : u.looks ≡ v.looks
    pub objects : u.objects ≡ v.objects
    pub void : u.void ≡ v.void
    pub drained : u.drained ≡ v.drained

  pub left_same : (gate : Option ℕ) (v : View Content G) → LeftSame v (left_if gate v)
  left_same None v = record { frame = refl; notes = refl; seen = refl; known = refl; looks = refl; objects = refl; void = refl; drained = refl }
  left_same (Some gate) v = record { frame = refl; notes = refl; seen = refl; known = refl; looks = refl; objects = refl; void = refl; drained = refl }

  pub at_table : (table : TableId) (note : Held Content G) (gate : Option ℕ) → IsNoteAt table gate note → IsNoteAt table gate (record { table = table; knows = note.knows })
  at_table table n None note = record { of = refl; one = note.one; outside = note.outside }
  at_table table n (Some gate) note = record { of = refl; one = note.one; inside = note.inside }

  pub stands_for_one : (table : TableId) (note : Held Content G) (gate : Option ℕ) → IsNoteAt table gate note → note.knows.notes ≡ 1
  stands_for_one table n None note = note.one
  stands_for_one table n (Some gate) note = note.one

  pub left_outside : (table : TableId) (gate : Option ℕ) (w d : View Content G) → IsNoteAt table gate (record { table = table; knows = w }) → d.stays ≡ w.stays → (left_if gate d).stays ≡ []
  left_outside table None w d note same = same ∙ note.outside
  left_outside table (Some gate) w d note same = ap (unstay gate) (same ∙ note.inside) ∙ cond-true (gate == gate) [] (record { gate = gate; inside = true } ∷ []) (eq-eqb gate gate refl)

  -- the seat that took in a note has the note's stay
  pub has_stay : (table : TableId) (gate : Option ℕ) (w d : View Content G) → IsNoteAt table gate (record { table = table; knows = w }) → d.stays ≡ w.stays → IfSome gate (λ g. 1 ≤ stays_of g d)
  has_stay table None w d note same = tt
  has_stay table (Some gate) w d note same =
      let q = sum_by-cons (stay_at gate) (record { gate = gate; inside = true }) [] in
      let one : stay_at gate (record { gate = gate; inside = true }) ≡ 1 = cond-true (gate == gate) 1 0 (eq-eqb gate gate refl) in
      let r = ap (λ (l : List Stay). sum_by (stay_at gate) l) (same ∙ note.inside) in
      omega arith

  -- a seat may draw an entry that names a gate of its object
  pub may_draw : (frame : Frame G) (v : View Content G) (gates : ℕ × ℕ) (sign : Sign) → HasGates frame (number_of v) gates → NamesOwnGate gates sign → IsAtGate v sign → MayDraw frame v sign
  may_draw frame v gates Plain has names at = (tt, at)
  may_draw frame v gates (Granted gate first last) has names at = (own_gate frame (number_of v) gate gates has names, at)
  may_draw frame v gates (Direct gate) has names at = (tt, at)
  may_draw frame v gates (Invalidated first last) has names at = (tt, at)
  may_draw frame v gates (Closed gate) has names at = (own_gate frame (number_of v) gate gates has names, at)

  -- the seat after it took in a note, and drew or not
  pub record Grew (number : ℕ) (after : List Written) (v w d : View Content G) : Type 0 where
    pub framed : d.frame ≡ v.frame
    pub notes : d.notes ≡ v.notes + w.notes
    pub looks : d.looks ≡ v.looks ++ w.looks
    pub numbered : number_of d ≡ number
    pub own : own_of d ≡ map (placed number) after
    pub knows : Within (own_of d) d.known
    pub seat_knew : Within v.known d.known
    pub note_knew : Within w.known d.known
    pub below : (x : Written) → Has after x → x.position < d.seen
    pub stays : d.stays ≡ v.stays ++ w.stays
    pub void : d.void ≡ v.void ++ w.void
    pub drained : d.drained ≡ v.drained ++ w.drained

  module _ (table : TableId) (frame : Frame G) (number : ℕ) (before : List Written) (s : Held Content G) (w j d : View Content G) (content : Content) (seat : IsSeat table frame number before s) (took : j ≡ joined s.knows w) (numbered : number_of j ≡ number) (own : own_of j ≡ own_of s.knows) where
    pub joined_grew : Grew number before s.knows w j
    joined_grew = record {
      framed = ap (λ (u : View Content G). u.frame) took;
      notes = ap (λ (u : View Content G). u.notes) took;
      looks = ap (λ (u : View Content G). u.looks) took;
      numbered = numbered;
      own = own ∙ seat.own;
      knows = λ x has. subst (λ (l : List (Entry Content)). Has l x) known (has_left s.knows.known w.known x (seat.knows x (subst (λ (l : List (Entry Content)). Has l x) own has)));
      seat_knew = λ x has. subst (λ (l : List (Entry Content)). Has l x) known (has_left s.knows.known w.known x has);
      note_knew = λ x has. subst (λ (l : List (Entry Content)). Has l x) known (has_right s.knows.known w.known x has);
      below = λ x has. let q = seat.below x has in let m = ap (λ (u : View Content G). u.seen) took in omega arith;
      stays = ap (λ (u : View Content G). u.stays) took;
      void = ap (λ (u : View Content G). u.void) took;
      drained = ap (λ (u : View Content G). u.drained) took;
    }
      where
        known : s.knows.known ++ w.known ≡ j.known
        known = sym (ap (λ (u : View Content G). u.known) took)

    drawn_grew : (p : ℕ) → IsDrawn content p j d → number_of d ≡ number_of j → Grew number (before ++ wrote p content ∷ []) s.knows w d
    drawn_grew p r same =
        let g = joined_grew in
        let e = placed number (wrote p content) in
        let is : placed (number_of j) (wrote p content) ≡ e = ap (λ (n : ℕ). placed n (wrote p content)) numbered in
        let known : j.known ++ e ∷ [] ≡ d.known = ap (λ (x : Entry Content). j.known ++ x ∷ []) (sym is) ∙ sym (ap (λ (u : View Content G). u.known) r.is) in
        let own_d : own_of d ≡ own_of j ++ e ∷ [] = r.own ∙ ap (λ (x : Entry Content). own_of j ++ x ∷ []) is in
        let seen : d.seen ≡ p + 1 = ap (λ (u : View Content G). u.seen) r.is in
        record {
          framed = ap (λ (u : View Content G). u.frame) r.is ∙ g.framed;
          notes = ap (λ (u : View Content G). u.notes) r.is ∙ g.notes;
          looks = ap (λ (u : View Content G). u.looks) r.is ∙ g.looks;
          numbered = same ∙ numbered;
          own = own_d ∙ ap (λ (l : List (Entry Content)). l ++ e ∷ []) g.own ∙ sym (map_one (placed number) before (wrote p content));
          knows = λ x has. subst (λ (l : List (Entry Content)). Has l x) known (within_both (own_of j) j.known (e ∷ []) g.knows x (subst (λ (l : List (Entry Content)). Has l x) own_d has));
          seat_knew = λ x has. subst (λ (l : List (Entry Content)). Has l x) known (has_left j.known (e ∷ []) x (g.seat_knew x has));
          note_knew = λ x has. subst (λ (l : List (Entry Content)). Has l x) known (has_left j.known (e ∷ []) x (g.note_knew x has));
          below = λ x has. ⊎_elim
              (λ (old : Has before x). let q = g.below x old in let a = r.after in omega arith)
              (λ (new : Has (wrote p content ∷ []) x). let q : p ≡ x.position = ap (λ (y : Written). y.position) (has_one (wrote p content) x new) in omega arith)
              (has_either before (wrote p content ∷ []) x has);
          stays = ap (λ (u : View Content G). u.stays) r.is ∙ g.stays;
          void = ap (λ (u : View Content G). u.void) r.is ∙ g.void;
          drained = ap (λ (u : View Content G). u.drained) r.is ∙ g.drained;
        }

    -- in both cases
    pub grew : (position : Option ℕ) → MatchOption position (d ≡ j) (λ p. IsDrawn content p j d) → number_of d ≡ number_of j → Grew number (before ++ addition position content) s.knows w d
    grew None is same = subst (λ (l : List Written). Grew number l s.knows w d) (sym (append-nil before)) (subst (λ (u : View Content G). Grew number before s.knows w u) (sym is) joined_grew)
    grew (Some p) is same = drawn_grew p is same

    -- the position is past all that was written and all that the note had seen
    pub past : (position : Option ℕ) → MatchOption position (d ≡ j) (λ p. IsDrawn content p j d) → IfSome position (λ p. (x : Written) → Has before x → x.position < p)
    past None is = tt
    past (Some p) is = λ x has. let q = joined_grew.below x has in let a = is.after in omega arith

    pub low : (position : Option ℕ) → MatchOption position (d ≡ j) (λ p. IsDrawn content p j d) → IfSome position (λ p. p < 1000000)
    low None is = tt
    low (Some p) is = is.under

    pub late : (position : Option ℕ) → MatchOption position (d ≡ j) (λ p. IsDrawn content p j d) → IfSome position (λ p. (w.seen ≤ p) × (p < d.seen))
    late None is = tt
    late (Some p) is =
        let m = ap (λ (u : View Content G). u.seen) took in
        let a = is.after in
        let e = ap (λ (u : View Content G). u.seen) is.is in
        (omega arith, omega arith)

    -- all that the seat knows stands below what it has seen
    pub stands_below : KnowsOwn j → (position : Option ℕ) → MatchOption position (d ≡ j) (λ p. IsDrawn content p j d) → (e : Entry Content) → Has d.known e → e.position < d.seen
    stands_below mine None is e has = subst (λ (u : View Content G). e.position < u.seen) (sym is) (mine.below e (subst (λ (u : View Content G). Has u.known e) is has))
    stands_below mine (Some p) is e has =
        let x = placed (number_of j) (wrote p content) in
        let a = is.after in
        let n : d.seen ≡ p + 1 = ap (λ (u : View Content G). u.seen) is.is in
        ⊎_elim
        (λ (old : Has j.known e). let q = mine.below e old in omega arith)
        (λ (new : Has (x ∷ []) e). let q : p ≡ e.position = ap (λ (y : Entry Content). y.position) (has_one x e new) in omega arith)
        (has_either j.known (x ∷ []) e (subst (λ (l : List (Entry Content)). Has l e) (ap (λ (u : View Content G). u.known) is.is) has))

    -- the seat after it left the gate that the note was inside, if there is one, and after a note was copied from it
    pub copied_seat : (after : List Written) (t : Held Content G) (gate : Option ℕ) → Grew number after s.knows w d → IsNoteAt table gate (record { table = table; knows = w }) → t.table ≡ table → t.knows ≡ one_gone (left_if gate d) → IsSeat table frame number after t
    copied_seat after t gate g note of is =
        let l = left_same gate d in
        record {
          of = of;
          framed = ap (λ (u : View Content G). u.frame) is ∙ l.frame ∙ g.framed ∙ seat.framed;
          numbered = ap number_of is ∙ ap first_number l.objects ∙ g.numbered;
          own = ap own_of is ∙ ap first_own l.objects ∙ g.own;
          idle = let n = ap (λ (u : View Content G). u.notes) is in let m = l.notes in let a = g.notes in let b = seat.idle in let one = stands_for_one table (record { table = table; knows = w }) gate note in omega arith;
          unlooked = ap (λ (u : View Content G). u.looks) is;
          outside = ap (λ (u : View Content G). u.stays) is ∙ left_outside table gate w d note (g.stays ∙ ap (λ (x : List Stay). x ++ w.stays) seat.outside);
          knows = subst (λ (u : View Content G). Within (own_of u) u.known) (sym is) (subst (λ (k : List (Entry Content)). Within (own_of (left_if gate d)) k) (sym l.known) (subst (λ (o : List (Owned Content)). Within (first_own o) d.known) (sym l.objects) g.knows));
          below = λ x has. let q = g.below x has in let m = l.seen in let n = ap (λ (u : View Content G). u.seen) is in omega arith;
        }

    -- what was written shows why a gate of the object is void to the note
    pub shows : KnowsOwn j → (gate : ℕ) → Has w.void gate → IsGateOf frame number gate → IsRevoked (map (placed number) before) gate
    shows mine gate has of =
        let g = joined_grew in
        subst (λ (l : List (Entry Content)). IsRevoked l gate) g.own
        (mine.void frame gate (g.framed ∙ seat.framed) (subst (λ (l : List ℕ). Has l gate) (sym g.void) (has_right s.knows.void w.void gate has)) (subst (λ (n : ℕ). IsGateOf frame n gate) (sym numbered) of))

    -- where the note is at a gate as an entry needs it, the seat is
    pub at_gate : (sign : Sign) → IsAtGate w sign → IsAtGate j sign
    at_gate Plain at = tt
    at_gate (Granted gate first last) at = tt
    at_gate (Direct gate) at =
        let q = sum_by-append (inside_at gate) s.knows.stays w.stays in
        let r = ap (λ (l : List Stay). sum_by (inside_at gate) l) joined_grew.stays in
        omega arith
    at_gate (Invalidated first last) at = tt
    at_gate (Closed gate) at = subst (λ (l : List ℕ). Has l gate) (sym joined_grew.drained) (has_right s.knows.drained w.drained gate at)
