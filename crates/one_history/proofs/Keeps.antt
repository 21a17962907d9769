-- Each step keeps the rule.
use Rattle.std.proofs.Common.{◌≡◌, ◌≢◌, ℕ, zero, suc, ◌+◌, ◌%◌, ◌^◌, ◌<◌, ◌≤◌, ◌==◌, true, false, cond, List, [], ◌∷◌, ◌++◌, length, set, take, sum, Some, None, refl, sym, ap, ◌∙◌, subst, ⊎_elim, arith, length-append, length-set}
use Rattle.std.specs.Prelude.{slice_index, slice_index_or, slice_set}
use Rattle.std.proofs.lemmas.List.Sums.{sum_by-cons}
use Rattle.std.proofs.lemmas.List.{take-append-le}
use Rattle.std.proofs.lemmas.List.{get_or-set_other}
use Rattle.std.proofs.Math.Seq.{take-append_seam}
use Rattle.std.proofs.lemmas.Bool.{cases_eq, cond-true, cond-false, eq-eqb, ne_eqb}
use mathlib.Core.Option.{some, none, some-ne-none, some-injective}
use lib.ListN.{get_elem?}
use Rattle.atomic_table.specs.Table.{State, Me, step, Splits, Joins, opening}
use Rattle.atomic_table.proofs.Lists.{at_set, at_longer, at_last, set_here, set_else}
use Rattle.one_history.specs.declared.entry.Entry.{Entry}
use Rattle.one_history.specs.declared.entry.Sign.TheVariants.{Granted}
use Rattle.one_history.specs.declared.view.Frame.{Frame}
use Rattle.one_history.specs.declared.view.Owned.{Owned}
use Rattle.one_history.specs.declared.view.View.{View}
use Rattle.view_lists.specs.Lists.{Has, Within}
use Rattle.one_history.specs.Lists.{object_of, entries_at}
use Rattle.one_history.specs.Rule.{spent_view, first_view, Fits, Seated, HasLog}
use Rattle.one_history.specs.Gates.{NoneAfterClosed, NamesOwn, IsGateOf, IsRevoked}
use Rattle.one_history.specs.Closing.{Learned, AreBacked, ArePlanned}
use Rattle.one_history.specs.Moves.{made_of, first_number, first_own, with_own, number_of, own_of, KnowsOwn, drawn, learnt, one_less, one_gone, copied, parted, one_more, blank_seat, joined}
use Rattle.one_history.proofs.Owners.{gate_owner}
use Rattle.view_lists.proofs.Places.{at_short, at_end}
use Rattle.view_lists.proofs.Members.{has_left, has_right, has_either, has_one, has_none, has_map, has_mapped}
use Rattle.view_lists.proofs.Totals.{total_put, total_end}
use Rattle.view_lists.proofs.Keys.{of_key-same, of_key-other, of_key-within, of_key-has, of_key-key, within_planned}

set_word : (ws : List ℕ) (n : ℕ) → 0 < length ws → slice_index (slice_set ws 0 n) 0 ≡ n
set_word [] n h = absurd (omega arith)
set_word (x ∷ xs) n h = refl

set_longer : (ws : List ℕ) (k n : ℕ) → 0 < length ws → 0 < length (slice_set ws k n)
set_longer ws k n h = let q = length-set ws k n in omega arith

module _ {E : Type 0} where
  -- a list of one
  alone : (xs : List (Owned E)) → length xs ≡ 1 → xs ≡ record { number = first_number xs; own = first_own xs } ∷ []
  alone [] h = absurd (omega arith)
  alone (x ∷ []) h = refl
  alone (x ∷ y ∷ ys) h = absurd (omega arith)

  longer_at : (o : ℕ) (log : List (Entry E)) (e : Entry E) (bound : ℕ) → length (entries_at o log) ≤ bound → (e.object ≡ o → length (entries_at o log) < bound) → length (entries_at o (log ++ e ∷ [])) ≤ bound
  longer_at o log e bound h room =
      ⊎_elim
      (λ (is : e.object ≡ o). let r = room is in subst (λ (l : List (Entry E)). length l ≤ bound) (sym (of_key-same object_of o log e is)) (omega (arith, length-append (entries_at o log) (e ∷ []))))
      (λ (no : e.object ≡ o → ⊥). subst (λ (l : List (Entry E)). length l ≤ bound) (sym (of_key-other object_of o log e no)) h)
      (cases_eq e.object o)

module _ {E : Type 0} where
  number_kept : (e : Entry E) (x : Owned E) → (with_own e x).number ≡ x.number
  number_kept e x = elim (e.object == x.number) as (λ b. (cond b (record { number = x.number; own = x.own ++ e ∷ [] }) x).number ≡ x.number) [ true ↦ refl | false ↦ refl ]

module _ {E G : Type 0} where
  -- one view changes, and keeps its objects
  seated_put : (views : List (View E G)) (id : ℕ) (v w : View E G) (place : ℕ → ℕ) (o : ℕ) → get_elem? views id ≡ some v → ((x : Owned E) → Has v.objects x → (y : Owned E) × Has w.objects y × (y.number ≡ x.number)) → Seated views place o → Seated (set views id w) place o
  seated_put views id v w place o mine to h =
      ⊎_elim
      (λ (is : place o ≡ id).
      let same : h.0 ≡ v = some-injective h.0 v (sym h.2 ∙ ap (λ (i : ℕ). get_elem? views i) is ∙ mine) in
      let t = to h.1 (subst (λ (u : View E G). Has u.objects h.1) same h.3) in
      (w, t.0, subst (λ (i : ℕ). get_elem? (set views id w) i ≡ some w) (sym is) (set_here views id w (at_short views id v mine)), t.1, t.2 ∙ h.4))
      (λ (no : place o ≡ id → ⊥). (h.0, h.1, set_else views id (place o) w no ∙ h.2, h.3, h.4))
      (cases_eq (place o) id)

  seated_more : (views : List (View E G)) (w : View E G) (place : ℕ → ℕ) (o : ℕ) → Seated views place o → Seated (views ++ w ∷ []) place o
  seated_more views w place o h = (h.0, h.1, at_longer views (w ∷ []) (place o) h.0 h.2, h.3, h.4)

module _ {E G : Type 0} (backs : G → List (Entry E) → Entry E → Type 0) (key : Frame G) where
  -- the log grows by an entry of an object whose seat is elsewhere
  module _ (log : List (Entry E)) (place : ℕ → ℕ) (counter made : ℕ) (e : Entry E) where
    fits_longer : (j : ℕ) (v : View E G) → ((place e.object ≡ j) → ⊥) → Fits key log place counter made j v → Fits key (log ++ e ∷ []) place counter made j v
    fits_longer j v apart f = record {
      framed = f.framed;
      spent = f.spent;
      seen = let h = f.seen in omega (arith, length-append log (e ∷ []));
      known = λ x h. ((f.known x h).0, at_longer log (e ∷ []) x.position x (f.known x h).1);
      owns = λ x h. let o = f.owns x h in (o.0, o.1, o.2 ∙ sym (of_key-other object_of x.number log e (λ is. apart (ap place is ∙ o.0))), o.3);
      counts = f.counts;
    }

    -- the seat that draws it
    fits_drawn : (id : ℕ) (v : View E G) → place e.object ≡ id → e.position ≡ length log → Fits key log place counter made id v → (v.frame ≡ None → ⊥) → Fits key (log ++ e ∷ []) place counter made id (drawn v e)
    fits_drawn id v here last f alive = record {
      framed = f.framed;
      spent = λ n. absurd (alive n);
      seen = omega (arith, length-append log (e ∷ []));
      known = λ x h. ⊎_elim
          (λ (old : Has v.known x). let k = f.known x old in let s = f.seen in (omega arith, at_longer log (e ∷ []) x.position x k.1))
          (λ (new : Has (e ∷ []) x). subst (λ (y : Entry E). (y.position < e.position + 1) × (get_elem? (log ++ e ∷ []) y.position ≡ some y)) (has_one e x new) (omega arith, at_last log e e.position (sym last)))
          (has_either v.known (e ∷ []) x h);
      owns = λ x h.
          let m = has_map (with_own e) v.objects x h in
          let o = f.owns m.0 m.1 in
          subst (λ (y : Owned E). (place y.number ≡ id) × (y.number < made) × (y.own ≡ entries_at y.number (log ++ e ∷ [])) × Within y.own (v.known ++ e ∷ [])) m.2 (one m.0 o);
      counts = f.counts;
    }
      where
        one : (y : Owned E) → (place y.number ≡ id) × (y.number < made) × (y.own ≡ entries_at y.number log) × Within y.own v.known → (place (with_own e y).number ≡ id) × ((with_own e y).number < made) × ((with_own e y).own ≡ entries_at (with_own e y).number (log ++ e ∷ [])) × Within (with_own e y).own (v.known ++ e ∷ [])
        one y o =
            ⊎_elim
            (λ (is : e.object ≡ y.number).
            let z : Owned E = record { number = y.number; own = y.own ++ e ∷ [] } in
            subst (λ (w : Owned E). (place w.number ≡ id) × (w.number < made) × (w.own ≡ entries_at w.number (log ++ e ∷ [])) × Within w.own (v.known ++ e ∷ [])) (sym (cond-true (e.object == y.number) z y (eq-eqb e.object y.number is)))
            (o.0, o.1, ap (λ l. l ++ e ∷ []) o.2 ∙ sym (of_key-same object_of y.number log e is), λ x h. ⊎_elim (λ (a : Has y.own x). has_left v.known (e ∷ []) x (o.3 x a)) (λ (b : Has (e ∷ []) x). has_right v.known (e ∷ []) x b) (has_either y.own (e ∷ []) x h)))
            (λ (no : e.object ≡ y.number → ⊥).
            let z : Owned E = record { number = y.number; own = y.own ++ e ∷ [] } in
            subst (λ (w : Owned E). (place w.number ≡ id) × (w.number < made) × (w.own ≡ entries_at w.number (log ++ e ∷ [])) × Within w.own (v.known ++ e ∷ [])) (sym (cond-false (e.object == y.number) z y (ne_eqb e.object y.number no)))
            (o.0, o.1, o.2 ∙ sym (of_key-other object_of y.number log e no), λ x h. has_left v.known (e ∷ []) x (o.3 x h)))
            (cases_eq e.object y.number)

  module _ (grows : (world : G) (xs ys : List (Entry E)) (e : Entry E) → Within xs ys → backs world xs e → backs world ys e) where
    -- a view's known entries stand in the log
    known_within : (log : List (Entry E)) (place : ℕ → ℕ) (counter made i : ℕ) (v : View E G) → Fits key log place counter made i v → Within v.known log
    known_within log place counter made i v f x h = let k = f.known x h in (x.position, k.1)

    -- what a seat knows of its object is among its own entries, and where a gate of its object is void to it, they show why
    pub knows_own : (log : List (Entry E)) (place : ℕ → ℕ) (counter made i : ℕ) (v : View E G) → length v.objects ≡ 1
        → ((p : ℕ) (e : Entry E) → get_elem? log p ≡ some e → NamesOwn key e.object e.sign) → ((g : ℕ) → Has v.void g → IsRevoked log g)
        → Fits key log place counter made i v → KnowsOwn v
    knows_own log place counter made i v one names void f = record { below = λ e has. (f.known e has).0; among = among; void = shows }
      where
        own : own_of v ≡ entries_at (number_of v) log
        own =
            let here : Has v.objects (record { number = first_number v.objects; own = first_own v.objects }) = (0, subst (λ (l : List (Owned E)). get_elem? l 0 ≡ some (record { number = first_number v.objects; own = first_own v.objects })) (sym (alone v.objects one)) refl) in
            (f.owns _ here).2

        shows : (frame : Frame G) (g : ℕ) → v.frame ≡ Some frame → Has v.void g → IsGateOf frame (number_of v) g → IsRevoked (own_of v) g
        shows frame g is has of =
            let r = void g has in
            let granted : NamesOwn key r.grant.object (Granted g r.first r.last) = subst (NamesOwn key r.grant.object) r.is_grant (names r.has_grant.0 r.grant r.has_grant.1) in
            let same : r.grant.object ≡ number_of v = gate_owner key r.grant.object (number_of v) g granted (subst (λ (k : Frame G). IsGateOf k (number_of v) g) (f.framed frame is) of) in
            let to : (e : Entry E) → Has log e → e.object ≡ number_of v → Has (own_of v) e = λ e in_log at. subst (λ (l : List (Entry E)). Has l e) (sym own) (subst (λ (n : ℕ). Has (entries_at n log) e) at (of_key-has object_of log e in_log)) in
            record {
              grant = r.grant;
              cut = r.cut;
              first = r.first;
              last = r.last;
              from = r.from;
              to = r.to;
              has_grant = to r.grant r.has_grant same;
              has_cut = to r.cut r.has_cut (sym r.object ∙ same);
              is_grant = r.is_grant;
              is_cut = r.is_cut;
              later = r.later;
              object = r.object;
              meet = r.meet;
            }

        among : Within (entries_at (number_of v) v.known) (own_of v)
        among x h =
            let o = number_of v in
            let here : Has v.objects (record { number = first_number v.objects; own = first_own v.objects }) = (0, subst (λ (l : List (Owned E)). get_elem? l 0 ≡ some (record { number = first_number v.objects; own = first_own v.objects })) (sym (alone v.objects one)) refl) in
            let own : own_of v ≡ entries_at o log = (f.owns _ here).2 in
            let is : x.object ≡ o = of_key-key object_of o v.known x h in
            let k = f.known x (of_key-within object_of o v.known x h) in
            subst (λ (l : List (Entry E)). Has l x) (sym own) (subst (λ (n : ℕ). Has (entries_at n log) x) is (of_key-has object_of log x (x.position, k.1)))

    -- a seat draws an entry
    pub kept_draws : (log : List (Entry E)) (st : State ℕ (View E G)) (h : HasLog backs key log st) (id : ℕ) (v : View E G) → get_elem? st.views id ≡ some v → (e : Entry E) → e.position ≡ slice_index st.words 0 → e.object ≡ number_of v
        → length v.objects ≡ 1 → length (own_of v) < slice_index_or key.planned (number_of v) 0 → sum key.planned ≤ 1000000 → backs key.world v.known e
        → HasLog backs key (log ++ e ∷ []) (record { words = slice_set st.words 0 ((slice_index st.words 0 + 1) % 2 ^ 64); homes = st.homes; views = slice_set st.views id (drawn v e) }) × (slice_index st.words 0 < 1000000)
    kept_draws log st h id v mine e at of one room few backed =
        let n = slice_index st.words 0 in
        let fits = h.fits id v mine in
        let here : Has v.objects (record { number = first_number v.objects; own = first_own v.objects }) = (0, subst (λ (l : List (Owned E)). get_elem? l 0 ≡ some (record { number = first_number v.objects; own = first_own v.objects })) (sym (alone v.objects one)) refl) in
        let owns = fits.owns _ here in
        let less : length (entries_at (number_of v) log) < slice_index_or key.planned (number_of v) 0 = subst (λ (l : List (Entry E)). length l < slice_index_or key.planned (number_of v) 0) owns.2 room in
        let planned : (o : ℕ) → length (entries_at o (log ++ e ∷ [])) ≤ slice_index_or key.planned o 0 = λ o. longer_at o log e (slice_index_or key.planned o 0) (h.planned o) (λ is. subst (λ k. length (entries_at k log) < slice_index_or key.planned k 0) (sym of ∙ is) less) in
        let all : length (log ++ e ∷ []) ≤ sum key.planned = within_planned object_of key.planned (log ++ e ∷ []) planned in
        let len = length-append log (e ∷ []) in
        let count = h.count in
        let below : n < 1000000 = omega arith in
        let last : e.position ≡ length log = at ∙ count in
        let home : h.place e.object ≡ id = ap h.place of ∙ owns.0 in
        let dead : v.frame ≡ None → ⊥ = λ none. let q : length v.objects ≡ 0 = ap (λ (u : View E G). length u.objects) (fits.spent none) in omega arith in
        let w = drawn v e in (
          record {
            place = h.place;
            counter = h.counter;
            made = h.made;
            words = set_longer st.words 0 ((n + 1) % 2 ^ 64) h.words;
            count = set_word st.words ((n + 1) % 2 ^ 64) h.words ∙ omega (arith);
            numbered = λ p x is. ⊎_elim (λ (old : get_elem? log p ≡ some x). h.numbered p x old) (λ (new : (p ≡ length log) × (e ≡ x)). ap (λ (y : Entry E). y.position) (sym new.1) ∙ last ∙ sym new.0) (at_end log e x p is);
            backed = λ p x is. ⊎_elim
                (λ (old : get_elem? log p ≡ some x). let q = at_short log p x old in subst (λ (l : List (Entry E)). backs key.world l x) (sym (take-append-le p log (e ∷ []) (omega arith))) (h.backed p x old))
                (λ (new : (p ≡ length log) × (e ≡ x)). subst (λ (l : List (Entry E)). backs key.world l x) (sym (take-append_seam log (e ∷ [])) ∙ ap (λ k. take k (log ++ e ∷ [])) (sym new.0))
                (subst (λ (y : Entry E). backs key.world log y) new.1 (grows key.world v.known log e (known_within log h.place h.counter h.made id v fits) backed)))
                (at_end log e x p is);
            planned = planned;
            unmade = λ o not. of_key-other object_of o log e (λ is. let q = owns.1 in omega arith) ∙ h.unmade o not;
            homes = λ o less. seated_put st.views id v w h.place o mine (λ x has. (with_own e x, has_mapped (with_own e) v.objects x has, number_kept e x)) (h.homes o less);
            fits = λ j u is. ⊎_elim
                (λ (same : (j ≡ id) × (w ≡ u)). subst (λ (y : ℕ × View E G). Fits key (log ++ e ∷ []) h.place h.counter h.made y.0 y.1) (λ i. (sym same.0 i, same.1 i)) (fits_drawn log h.place h.counter h.made e id v home last fits dead))
                (λ (else : (j ≢ id) × (get_elem? st.views j ≡ some u)). fits_longer log h.place h.counter h.made e j u (λ q. else.0 (sym q ∙ home)) (h.fits j u else.1))
                (at_set st.views id j w u is);
            notes = let q = total_put (λ (u : View E G). u.notes) st.views id v w mine in let r = h.notes in omega arith;
          },
          below,
        )

-- one view's part of the rule does not change
module _ {E G : Type 0} (backs : G → List (Entry E) → Entry E → Type 0) (key : Frame G) where
  -- the log stays, and two views take the place of one
  module _ (log : List (Entry E)) (st : State ℕ (View E G)) (h : HasLog backs key log st) (id : ℕ) (v left right : View E G) (mine : get_elem? st.views id ≡ some v) (place : ℕ → ℕ) (counter made : ℕ) where
    kept_split : ((j : ℕ) (u : View E G) → j ≢ id → get_elem? st.views j ≡ some u → Fits key log place counter made j u) → Fits key log place counter made id left → Fits key log place counter made (length st.views) right
        → ((o : ℕ) → made ≤ o → entries_at o log ≡ []) → ((o : ℕ) → o < made → Seated (slice_set st.views id left ++ right ∷ []) place o)
        → left.notes + right.notes ≡ v.notes → HasLog backs key log (record { words = st.words; homes = st.homes; views = slice_set st.views id left ++ right ∷ [] })
    kept_split others l r unmade homes notes = record {
      place = place;
      counter = counter;
      made = made;
      words = h.words;
      count = h.count;
      numbered = h.numbered;
      backed = h.backed;
      planned = h.planned;
      unmade = unmade;
      homes = homes;
      fits = λ j u is. ⊎_elim
          (λ (old : get_elem? (slice_set st.views id left) j ≡ some u). ⊎_elim
          (λ (same : (j ≡ id) × (left ≡ u)). subst (λ (y : ℕ × View E G). Fits key log place counter made y.0 y.1) (λ i. (sym same.0 i, same.1 i)) l)
          (λ (else : (j ≢ id) × (get_elem? st.views j ≡ some u)). others j u else.0 else.1)
          (at_set st.views id j left u old))
          (λ (new : (j ≡ length (slice_set st.views id left)) × (right ≡ u)). subst (λ (y : ℕ × View E G). Fits key log place counter made y.0 y.1) (λ i. (sym (new.0 ∙ length-set st.views id left) i, new.1 i)) r)
          (at_end (slice_set st.views id left) right u j is);
      notes =
          let q = total_put (λ (u : View E G). u.notes) st.views id v left mine in
          let t = total_end (λ (u : View E G). u.notes) (set st.views id left) right in
          let r = h.notes in
          omega arith;
    }

  -- a view that stands for a note, owns an object or counts is not spent
  alive : (log : List (Entry E)) (place : ℕ → ℕ) (counter made i : ℕ) (v : View E G) → Fits key log place counter made i v → 1 ≤ v.notes + length v.objects → v.frame ≡ None → ⊥
  alive log place counter made i v f stands gone =
      let n : v.notes ≡ 0 = ap (λ (u : View E G). u.notes) (f.spent gone) in
      let o : length v.objects ≡ 0 = ap (λ (u : View E G). length u.objects) (f.spent gone) in
      omega arith

  -- a view that knows no more and owns nothing
  fits_note : (log : List (Entry E)) (place : ℕ → ℕ) (counter made i j : ℕ) (v w : View E G) → Fits key log place counter made i v → (v.frame ≡ None → ⊥) → w.frame ≡ v.frame → w.seen ≡ v.seen → w.known ≡ v.known → w.objects ≡ [] → w.counts ≡ None → Fits key log place counter made j w
  fits_note log place counter made i j v w f lives frame seen known objects counts = record {
    framed = λ g is. f.framed g (sym frame ∙ is);
    spent = λ none. absurd (lives (sym frame ∙ none));
    seen = let q = f.seen in omega arith;
    known = λ e h. let q = f.known e (subst (λ l. Has l e) known h) in (omega arith, q.1);
    owns = λ x h. absurd (has_none x (subst (λ l. Has l x) objects h));
    counts = λ n is. absurd (cc (counts, is));
  }

  -- the same view, but for its notes and looks
  fits_again : (log : List (Entry E)) (place : ℕ → ℕ) (counter made i : ℕ) (v w : View E G) → Fits key log place counter made i v → (v.frame ≡ None → ⊥) → w.frame ≡ v.frame → w.seen ≡ v.seen → w.known ≡ v.known → w.objects ≡ v.objects → w.counts ≡ v.counts → Fits key log place counter made i w
  fits_again log place counter made i v w f lives frame seen known objects counts = record {
    framed = λ g is. f.framed g (sym frame ∙ is);
    spent = λ none. absurd (lives (sym frame ∙ none));
    seen = let q = f.seen in omega arith;
    known = λ e h. let q = f.known e (subst (λ l. Has l e) known h) in (omega arith, q.1);
    owns = λ x h. let q = f.owns x (subst (λ l. Has l x) objects h) in (q.0, q.1, q.2, λ e own. subst (λ l. Has l e) (sym known) (q.3 e own));
    counts = λ n is. f.counts n (sym counts ∙ is);
  }

  pub kept_copies : (log : List (Entry E)) (id n : ℕ) (v : View E G) → 1 ≤ v.notes → Splits (HasLog backs key log) id v (one_gone v) (copied n v)
  kept_copies log id n v stands st h mine =
      let f = h.fits id v mine in
      let lives = alive log h.place h.counter h.made id v f (omega arith) in
      kept_split log st h id v (one_gone v) (copied n v) mine h.place h.counter h.made (λ j u ne is. h.fits j u is)
      (fits_again log h.place h.counter h.made id v (one_gone v) f lives refl refl refl refl refl)
      (fits_note log h.place h.counter h.made id (length st.views) v (copied n v) f lives refl refl refl refl refl)
      h.unmade
      (λ o less. seated_more (set st.views id (one_gone v)) (copied n v) h.place o (seated_put st.views id v (one_gone v) h.place o mine (λ x has. (x, has, refl)) (h.homes o less)))
      (omega arith)

  pub kept_parts : (log : List (Entry E)) (id : ℕ) (v : View E G) → 1 ≤ v.notes → Splits (HasLog backs key log) id v (one_less v) (parted v)
  kept_parts log id v stands st h mine =
      let f = h.fits id v mine in
      let lives = alive log h.place h.counter h.made id v f (omega arith) in
      kept_split log st h id v (one_less v) (parted v) mine h.place h.counter h.made (λ j u ne is. h.fits j u is)
      (fits_again log h.place h.counter h.made id v (one_less v) f lives refl refl refl refl refl)
      (fits_note log h.place h.counter h.made id (length st.views) v (parted v) f lives refl refl refl refl refl)
      h.unmade
      (λ o less. seated_more (set st.views id (one_less v)) (parted v) h.place o (seated_put st.views id v (one_less v) h.place o mine (λ x has. (x, has, refl)) (h.homes o less)))
      (omega arith)

  -- the seat of the next object
  pub kept_makes : (log : List (Entry E)) (id n : ℕ) (v : View E G) → v.counts ≡ Some n → 1 ≤ v.notes → Splits (HasLog backs key log) id v (one_more v) (blank_seat v)
  kept_makes log id n v counts stands st h mine =
      let f = h.fits id v mine in
      let lives = alive log h.place h.counter h.made id v f (omega arith) in
      let m : made_of v.counts ≡ h.made = ap made_of counts ∙ (f.counts n counts).1 in
      let place : ℕ → ℕ = λ o. cond (o == h.made) (length st.views) (h.place o) in
      let kept_place : (o : ℕ) → o < h.made → place o ≡ h.place o = λ o less. cond-false (o == h.made) (length st.views) (h.place o) (ne_eqb o h.made (λ is. omega arith)) in
      let owns : (j : ℕ) (u : View E G) → Fits key log h.place h.counter h.made j u → (x : Owned E) → Has u.objects x → (place x.number ≡ j) × (x.number < h.made + 1) × (x.own ≡ entries_at x.number log) × Within x.own u.known =
      λ j u q x has. let o = q.owns x has in (kept_place x.number o.1 ∙ o.0, omega arith, o.2, o.3) in
      let blank : Owned E = record { number = h.made; own = [] } in
      let new : Owned E = record { number = made_of v.counts; own = [] } in
      let is_new : new ≡ blank = ap (λ (k : ℕ). record { number = k; own = [] }) m in
      let here : place h.made ≡ length st.views = cond-true (h.made == h.made) (length st.views) (h.place h.made) (eq-eqb h.made h.made refl) in
      kept_split log st h id v (one_more v) (blank_seat v) mine place h.counter (h.made + 1)
      (λ j u ne is. let q = h.fits j u is in record { framed = q.framed; spent = q.spent; seen = q.seen; known = q.known; owns = owns j u q; counts = λ k c. absurd (ne ((q.counts k c).0 ∙ sym (f.counts n counts).0)) })
      (record { framed = f.framed; spent = λ none. absurd (lives none); seen = f.seen; known = f.known; owns = owns id v f; counts = λ k c. ((f.counts n counts).0, (let t : made_of v.counts + 1 ≡ k = (cc) in omega arith)) })
      (record {
        framed = f.framed;
        spent = λ none. absurd (lives none);
        seen = omega arith;
        known = λ e has. absurd (has_none e has);
        owns = λ x has. subst (λ (y : Owned E). (place y.number ≡ length st.views) × (y.number < h.made + 1) × (y.own ≡ entries_at y.number log) × Within y.own []) (sym is_new ∙ has_one new x has) (here, omega arith, sym (h.unmade h.made (omega arith)), λ e q. q);
        counts = λ k c. absurd (cc (c));
      })
      (λ o not. h.unmade o (omega arith))
      (λ o less. ⊎_elim
      (λ (is : o ≡ h.made). (blank_seat v, new, subst (λ (i : ℕ). get_elem? (set st.views id (one_more v) ++ blank_seat v ∷ []) i ≡ some (blank_seat v)) (sym here ∙ ap place (sym is)) (at_last (set st.views id (one_more v)) (blank_seat v) (length st.views) (length-set st.views id (one_more v))), (0, refl), m ∙ sym is))
      (λ (no : o ≡ h.made → ⊥).
      let low : o < h.made = omega arith in
      subst (λ (i : ℕ). (u : View E G) × (x : Owned E) × (get_elem? (set st.views id (one_more v) ++ blank_seat v ∷ []) i ≡ some u) × Has u.objects x × (x.number ≡ o)) (sym (kept_place o low)) (seated_more (set st.views id (one_more v)) (blank_seat v) h.place o (seated_put st.views id v (one_more v) h.place o mine (λ x has. (x, has, refl)) (h.homes o low))))
      (cases_eq o h.made))
      (omega arith)

  fits_spent : (log : List (Entry E)) (place : ℕ → ℕ) (counter made i : ℕ) → Fits key log place counter made i spent_view
  fits_spent log place counter made i = record { framed = λ f is. absurd (cc (is)); spent = λ gone. refl; seen = omega arith; known = λ e has. absurd (has_none e has); owns = λ x has. absurd (has_none x has); counts = λ n is. absurd (cc (is)) }

  module _ (log : List (Entry E)) (place : ℕ → ℕ) (counter made id other : ℕ) (apart : other ≡ id → ⊥) where
    moved : ℕ → ℕ
    moved o = cond (place o == other) id (place o)

    moved_there : (o : ℕ) → place o ≡ other → moved o ≡ id
    unfolding moved
    moved_there o is = cond-true (place o == other) id (place o) (eq-eqb (place o) other is)

    moved_else : (o : ℕ) → (place o ≡ other → ⊥) → moved o ≡ place o
    unfolding moved
    moved_else o not = cond-false (place o == other) id (place o) (ne_eqb (place o) other not)

    fits_moved : (j : ℕ) (u : View E G) → j ≢ other → Fits key log place counter made j u → Fits key log moved counter made j u
    fits_moved j u ne f = record { framed = f.framed; spent = f.spent; seen = f.seen; known = f.known; owns = λ x has. let q = f.owns x has in (moved_else x.number (λ is. ne (sym q.0 ∙ is)) ∙ q.0, q.1, q.2, q.3); counts = f.counts }

    fits_joined : (v w : View E G) → Fits key log place counter made id v → Fits key log place counter made other w → (v.frame ≡ None → ⊥) → Fits key log moved counter made id (joined v w)
    fits_joined v w f g lives = record {
      framed = f.framed;
      spent = λ gone. absurd (lives gone);
      seen = let a = f.seen in let b = g.seen in omega arith;
      known = λ e has. ⊎_elim
          (λ (a : Has v.known e). let q = f.known e a in (omega arith, q.1))
          (λ (b : Has w.known e). let q = g.known e b in (omega arith, q.1))
          (has_either v.known w.known e has);
      owns = λ x has. ⊎_elim
          (λ (a : Has v.objects x). let q = f.owns x a in (moved_else x.number (λ is. apart (sym is ∙ q.0)) ∙ q.0, q.1, q.2, λ e own. has_left v.known w.known e (q.3 e own)))
          (λ (b : Has w.objects x). let q = g.owns x b in (moved_there x.number q.0, q.1, q.2, λ e own. has_right v.known w.known e (q.3 e own)))
          (has_either v.objects w.objects x has);
      counts = f.counts;
    }

    seated_moved : (views : List (View E G)) (v w : View E G) (o : ℕ) → get_elem? views id ≡ some v → get_elem? views other ≡ some w → Seated views place o → Seated (set (set views id (joined v w)) other spent_view) moved o
    seated_moved views v w o mine theirs h =
        ⊎_elim
        (λ (is : place o ≡ other).
        let same : h.0 ≡ w = some-injective h.0 w (sym h.2 ∙ ap (λ (i : ℕ). get_elem? views i) is ∙ theirs) in
        (joined v w, h.1, at_id (moved_there o is), has_right v.objects w.objects h.1 (subst (λ (u : View E G). Has u.objects h.1) same h.3), h.4))
        (λ (no : place o ≡ other → ⊥). ⊎_elim
        (λ (is : place o ≡ id).
        let same : h.0 ≡ v = some-injective h.0 v (sym h.2 ∙ ap (λ (i : ℕ). get_elem? views i) is ∙ mine) in
        (joined v w, h.1, at_id (moved_else o no ∙ is), has_left v.objects w.objects h.1 (subst (λ (u : View E G). Has u.objects h.1) same h.3), h.4))
        (λ (not : place o ≡ id → ⊥). (h.0, h.1, ap (λ (i : ℕ). get_elem? (set (set views id (joined v w)) other spent_view) i) (moved_else o no) ∙ set_else (set views id (joined v w)) other (place o) spent_view no ∙ set_else views id (place o) (joined v w) not ∙ h.2, h.3, h.4))
        (cases_eq (place o) id))
        (cases_eq (place o) other)
      where
        at_id : moved o ≡ id → get_elem? (set (set views id (joined v w)) other spent_view) (moved o) ≡ some (joined v w)
        at_id is = ap (λ (i : ℕ). get_elem? (set (set views id (joined v w)) other spent_view) i) is ∙ set_else (set views id (joined v w)) other id spent_view (λ q. apart (sym q)) ∙ set_here views id (joined v w) (at_short views id v mine)

  -- a seat takes in a note, or another seat
  pub kept_joins : (log : List (Entry E)) (id other : ℕ) (v w : View E G) → 1 ≤ v.notes + length v.objects → Joins (HasLog backs key log) id v other w (joined v w) spent_view
  kept_joins log id other v w stands st h mine apart at_other =
      let both = joined v w in
      let theirs : get_elem? st.views other ≡ some w = sym (set_else st.views id other both apart) ∙ at_other in
      let f = h.fits id v mine in
      let g = h.fits other w theirs in
      let lives = alive log h.place h.counter h.made id v f stands in
      let place = moved log h.place h.counter h.made id other apart in
      record {
        place = place;
        counter = h.counter;
        made = h.made;
        words = h.words;
        count = h.count;
        numbered = h.numbered;
        backed = h.backed;
        planned = h.planned;
        unmade = h.unmade;
        homes = λ o less. seated_moved log h.place h.counter h.made id other apart st.views v w o mine theirs (h.homes o less);
        fits = λ j u is. ⊎_elim
            (λ (same : (j ≡ other) × (spent_view ≡ u)). subst (λ (y : ℕ × View E G). Fits key log place h.counter h.made y.0 y.1) (λ i. (sym same.0 i, same.1 i)) (fits_spent log place h.counter h.made other))
            (λ (else : (j ≢ other) × (get_elem? (set st.views id both) j ≡ some u)). ⊎_elim
            (λ (same : (j ≡ id) × (both ≡ u)). subst (λ (y : ℕ × View E G). Fits key log place h.counter h.made y.0 y.1) (λ i. (sym same.0 i, same.1 i)) (fits_joined log h.place h.counter h.made id other apart v w f g lives))
            (λ (more : (j ≢ id) × (get_elem? st.views j ≡ some u)). fits_moved log h.place h.counter h.made id other apart j u else.0 (h.fits j u more.1))
            (at_set st.views id j both u else.1))
            (at_set (set st.views id both) other j spent_view u is);
        notes =
            let q = total_put (λ (u : View E G). u.notes) st.views id v both mine in
            let t = total_put (λ (u : View E G). u.notes) (set st.views id both) other w spent_view at_other in
            let r = h.notes in
            omega arith;
      }

  pub kept_opens : (gates : List ℕ) → HasLog backs key [] (opening (0 ∷ gates) [] (first_view key))
  kept_opens gates = record {
    place = λ o. 0;
    counter = 0;
    made = 0;
    words = omega arith;
    count = refl;
    numbered = λ p e is. absurd (some-ne-none e (sym is));
    backed = λ p e is. absurd (some-ne-none e (sym is));
    planned = λ o. omega arith;
    unmade = λ o less. refl;
    homes = λ o less. absurd (omega arith);
    fits = λ i v is. first i v is;
    notes = omega (arith, sum_by-cons (λ (u : View E G). u.notes) (first_view key) []);
  }
    where
      first : (i : ℕ) (v : View E G) → get_elem? (first_view key ∷ []) i ≡ some v → Fits key [] (λ o. 0) 0 0 i v
      first zero v is = subst (λ (u : View E G). Fits key [] (λ o. 0) 0 0 0 u) (some-injective _ _ is) (record { framed = λ f e. (cc (e)); spent = λ gone. absurd (cc (gone)); seen = omega arith; known = λ e has. absurd (has_none e has); owns = λ x has. absurd (has_none x has); counts = λ n e. (refl, (cc (e))) })
      first (suc i) v is = absurd (some-ne-none v (sym is))

  -- a seat looks at the whole history
  pub kept_learns : (log : List (Entry E)) (slots id : ℕ) (me : Me ℕ (View E G)) → 1 ≤ me.0.notes + length me.0.objects → NoneAfterClosed log → (st : State ℕ (View E G)) → HasLog backs key log st → get_elem? st.views id ≡ some me.0
      → HasLog backs key log (record { words = slice_set st.words 0 (slice_index st.words 0); homes = st.homes; views = slice_set st.views id (learnt me.0 log) }) × Learned backs (step slots 0 0 0 none) me (slice_index st.words 0) (learnt me.0 log, me.1)
  kept_learns log slots id me stands last st h mine =
      let v = me.0 in
      let n = slice_index st.words 0 in
      let f = h.fits id v mine in
      let lives = alive log h.place h.counter h.made id v f stands in
      let w = learnt v log in
      let framed : (k : Frame G) → v.frame ≡ Some k → key ≡ k = λ k is. sym (f.framed k is) in (
        record {
          place = h.place;
          counter = h.counter;
          made = h.made;
          words = set_longer st.words 0 n h.words;
          count = set_word st.words n h.words ∙ h.count;
          numbered = h.numbered;
          backed = h.backed;
          planned = h.planned;
          unmade = h.unmade;
          homes = λ o less. seated_put st.views id v w h.place o mine (λ x has. (x, has, refl)) (h.homes o less);
          fits = λ j u is. ⊎_elim
              (λ (same : (j ≡ id) × (w ≡ u)). subst (λ (y : ℕ × View E G). Fits key log h.place h.counter h.made y.0 y.1) (λ i. (sym same.0 i, same.1 i)) (record {
                framed = f.framed;
                spent = λ gone. absurd (lives gone);
                seen = omega arith;
                known = λ e has. let p = h.numbered has.0 e has.1 in (let q = at_short log has.0 e has.1 in omega arith, ap (λ (k : ℕ). get_elem? log k) p ∙ has.1);
                owns = λ x has. let q = f.owns x has in (q.0, q.1, q.2, λ e own. of_key-within object_of x.number log e (subst (λ (l : List (Entry E)). Has l e) q.2 own));
                counts = f.counts;
              }))
              (λ (else : (j ≢ id) × (get_elem? st.views j ≡ some u)). h.fits j u else.1)
              (at_set st.views id j w u is);
          notes = let q = total_put (λ (u : View E G). u.notes) st.views id v w mine in let r = h.notes in omega arith;
        },
        record {
          slots = refl;
          frame = refl;
          objects = refl;
          count = h.count;
          keeps = λ e has. (e.position, (f.known e has).1);
          numbered = h.numbered;
          owns = λ x has. (f.owns x has).2;
          backed = λ k is. subst (λ (q : Frame G). AreBacked backs q.world log) (framed k is) h.backed;
          planned = λ k is. subst (λ (q : Frame G). ArePlanned q log) (framed k is) h.planned;
          last = last;
          is = refl;
        },
      )

  -- a step on a gate's word
  module _ (log : List (Entry E)) (st : State ℕ (View E G)) (h : HasLog backs key log st) (id : ℕ) (v : View E G) (mine : get_elem? st.views id ≡ some v) where
    pub kept_gate : (g n : ℕ) (w : View E G) → 1 ≤ v.notes + length v.objects → w.frame ≡ v.frame → w.seen ≡ v.seen → w.known ≡ v.known → w.objects ≡ v.objects → w.counts ≡ v.counts → w.notes ≡ v.notes
        → HasLog backs key log (record { words = slice_set st.words (1 + g) n; homes = st.homes; views = slice_set st.views id w })
    kept_gate g n w stands frame seen known objects counts notes =
        let f = h.fits id v mine in
        let lives = alive log h.place h.counter h.made id v f stands in
        record {
          place = h.place;
          counter = h.counter;
          made = h.made;
          words = set_longer st.words (1 + g) n h.words;
          count = get_or-set_other st.words (1 + g) 0 n 0 (λ q. omega arith) ∙ h.count;
          numbered = h.numbered;
          backed = h.backed;
          planned = h.planned;
          unmade = h.unmade;
          homes = λ o less. seated_put st.views id v w h.place o mine (λ x has. (x, subst (λ l. Has l x) (sym objects) has, refl)) (h.homes o less);
          fits = λ j u is. ⊎_elim
              (λ (same : (j ≡ id) × (w ≡ u)). subst (λ (y : ℕ × View E G). Fits key log h.place h.counter h.made y.0 y.1) (λ i. (sym same.0 i, same.1 i)) (fits_again log h.place h.counter h.made id v w f lives frame seen known objects counts))
              (λ (else : (j ≢ id) × (get_elem? st.views j ≡ some u)). h.fits j u else.1)
              (at_set st.views id j w u is);
          notes = let q = total_put (λ (u : View E G). u.notes) st.views id v w mine in let r = h.notes in omega arith;
        }
