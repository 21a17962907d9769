-- The parts of the rule, from the rule.
use Rattle.std.proofs.Common.{◌≡◌, ℕ, zero, suc, ◌⊎◌, inl, inr, ◌+◌, ◌<◌, ◌≤◌, ◌==◌, Bool, true, false, List, [], ◌∷◌, length, refl, sym, ap, ◌∙◌, subst, ⊎_elim, arith}
use Rattle.std.specs.Prelude.{slice_index, slice_index_or, AllPairs}
use Rattle.std.specs.List.{sum_by}
use Rattle.std.proofs.lemmas.Bool.{cases_lt}
use Rattle.std.proofs.lemmas.List.Kept.{AllPairs-filter}
use mathlib.Core.Option.{some, some-injective}
use lib.ListN.{get_elem?}
use Rattle.atomic_table.specs.Table.{State}
use Rattle.view_lists.specs.Lists.{Has, Within}
use Rattle.view_lists.proofs.Places.{at_short}
use Rattle.view_lists.proofs.Members.{has_none}
use Rattle.view_lists.proofs.Keys.{of_key-has, of_key-key}
use Rattle.one_history.specs.declared.entry.Entry.{Entry}
use Rattle.one_history.specs.declared.view.Frame.{Frame}
use Rattle.one_history.specs.declared.view.Owned.{Owned}
use Rattle.one_history.specs.declared.view.View.{View}
use Rattle.one_history.specs.Lists.{object_of, entries_at}
use Rattle.one_history.specs.Gates.{top_bit, mark_word, total_gates, stays_of, inside_all, IsRevoked, IsShut, NamesOwn, KeepsGates}
use Rattle.one_history.specs.Rule.{HasLog}
use Rattle.one_history.specs.Parts.{IsBefore, Sits, Owns, StandsOnce, KnowsHistory, HasOneSeat, SharesNotes, MergesBacked, gate_word, HasMark, IsRevokedAt, CountsStays, MarksRevoked, KeepsShut, EndsDirect, IsKept}
use Rattle.one_history.proofs.GateKeeps.{total_le, stays_long}

module _ {A : Type 0} where
  -- something stands below the length
  some_at : (l : List A) (i : ℕ) → i < length l → (a : A) × (get_elem? l i ≡ some a)
  some_at [] i h = absurd (omega arith)
  some_at (x ∷ xs) zero h = (x, refl)
  some_at (x ∷ xs) (suc i) h = some_at xs i (omega arith)

  -- what a slice has there
  told_at : (l : List A) (i : ℕ) (d : A) → i < length l → get_elem? l i ≡ some (slice_index_or l i d)
  told_at [] i d h = absurd (omega arith)
  told_at (x ∷ xs) zero d h = refl
  told_at (x ∷ xs) (suc i) d h = told_at xs i d (omega arith)

module _ {E G : Type 0} (backs : G → List (Entry E) → Entry E → Type 0) (key : Frame G) (s : State ℕ (View E G)) (log : List (Entry E)) (h : HasLog backs key log s) where
  -- what the rule says of an object's seat
  sits : (i : ℕ) (x : Owned E) → Sits s.views i x → (h.place x.number ≡ i) × (x.number < h.made) × (x.own ≡ entries_at x.number log) × Within x.own log
  sits i x at =
      let f = h.fits i at.0 at.1 in
      let w = f.owns x at.2 in
      (w.0, w.1, w.2, λ e own. let k = f.known e (w.3 e own) in (e.position, k.1))

  -- an own entry stands in the log at its position
  in_log : (i o : ℕ) (e : Entry E) → Owns s.views i o e → (h.place o ≡ i) × (get_elem? log e.position ≡ some e) × (e.object ≡ o)
  in_log i o e own =
      let x = own.0 in
      let f = h.fits i own.1.0 own.1.1 in
      let w = sits i x own.1 in
      let has : Has (entries_at x.number log) e = subst (λ (l : List (Entry E)). Has l e) w.2 own.3 in
      (ap h.place (sym own.2) ∙ w.0, (f.known e ((f.owns x own.1.2).3 e own.3)).1, of_key-key object_of x.number log e has ∙ own.2)

  -- an entry of the log is an object's own
  owned_in : (p : ℕ) (e : Entry E) → get_elem? log p ≡ some e → Owns s.views (h.place e.object) e.object e
  owned_in p e is =
      let among = of_key-has object_of log e (p, is) in
      let made : e.object < h.made = ⊎_elim (λ (y : e.object < h.made). y) (λ (n : h.made ≤ e.object). absurd (has_none e (subst (λ (l : List (Entry E)). Has l e) (h.unmade e.object n) among))) (cases_lt e.object h.made) in
      let u = h.homes e.object made in
      let w = (h.fits (h.place e.object) u.0 u.2).owns u.1 u.3 in
      (u.1, (u.0, u.2, u.3), u.4, subst (λ (l : List (Entry E)). Has l e) (sym (w.2 ∙ ap (λ (o : ℕ). entries_at o log) u.4)) among)

  -- the entries of the log rise, and so do those of one object
  rises : AllPairs IsBefore log
  rises = λ i j d less long.
      let a = h.numbered i (slice_index_or log i d) (told_at log i d (omega arith)) in
      let b = h.numbered j (slice_index_or log j d) (told_at log j d long) in
      omega arith

  own_rise : (o : ℕ) → AllPairs IsBefore (entries_at o log)
  own_rise o = AllPairs-filter IsBefore (λ (e : Entry E). object_of e == o) log rises

  pub stands_once : StandsOnce (slice_index s.words 0) s.views
  stands_once = record {
    one = λ p less.
        let e = some_at log p (let q = h.count in omega arith) in
        (h.place e.0.object, e.0.object, e.0, owned_in p e.0 e.1, h.numbered p e.0 e.1);
    below = λ i o e own. let w = in_log i o e own in let q = at_short log e.position e w.1 in let r = h.count in omega arith;
    same = λ i j o q d e a b is.
        let x = in_log i o d a in
        let y = in_log j q e b in
        let eq : d ≡ e = some-injective d e (sym x.1 ∙ ap (λ (n : ℕ). get_elem? log n) is ∙ y.1) in
        let obj : o ≡ q = sym x.2 ∙ ap (λ (z : Entry E). z.object) eq ∙ y.2 in
        (sym x.0 ∙ ap h.place obj ∙ y.0, obj, eq);
  }

  pub knows_history : KnowsHistory (slice_index s.words 0) s.views
  knows_history = record {
    seen = λ i v at. let q = (h.fits i v at).seen in let r = h.count in omega arith;
    known = λ i v e at has. let k = (h.fits i v at).known e has in (k.0, h.place e.object, owned_in e.position e k.1);
  }

  pub has_one_seat : KeepsGates key log s → HasOneSeat key s.views
  has_one_seat gated = record {
    one = λ i j x y a b is.
        let v = sits i x a in
        let w = sits j y b in
        (sym v.0 ∙ ap h.place is ∙ w.0, v.2 ∙ ap (λ (o : ℕ). entries_at o log) is ∙ sym w.2);
    own = λ i o e own. (in_log i o e own).2;
    rising = λ i x at. subst (λ (l : List (Entry E)). AllPairs IsBefore l) (sym (sits i x at).2) (own_rise x.number);
    known = λ i v x at has. ((h.fits i v at).owns x has).3;
    gates = λ i o e own. let w = in_log i o e own in subst (λ (n : ℕ). NamesOwn key n e.sign) w.2 (gated.own e.position e w.1);
    planned = λ i x at. subst (λ (l : List (Entry E)). length l ≤ slice_index_or key.planned x.number 0) (sym (sits i x at).2) (h.planned x.number);
    counter = λ i j m n v w at there a b. ((h.fits i v at).counts m a).0 ∙ sym ((h.fits j w there).counts n b).0;
    below = λ i j n v x at is b. let q = ((h.fits i v at).counts n is).1 in let r = (sits j x b).1 in omega arith;
  }

  pub shares_notes : SharesNotes key s.views
  shares_notes = record {
    total = h.notes;
    spent = λ i v at gone. (h.fits i v at).spent gone;
    framed = λ i v f at is. (h.fits i v at).framed f is;
  }

  pub merges_backed : MergesBacked backs key (slice_index s.words 0) s.views
  merges_backed = record {
    log = log;
    long = sym h.count;
    numbered = h.numbered;
    own = λ i x at. (sits i x at).2;
    whole = λ e has. (h.place e.object, owned_in has.0 e has.1);
    backed = h.backed;
  }

  module _ (gated : KeepsGates key log s) where
    stays_few : (g : ℕ) → sum_by (stays_of g) s.views < 4294967296
    stays_few g =
        let q = total_le (stays_of g) (λ (u : View E G). u.notes) s.views (λ i u at. let b = (gated.each i u at).few in let c = stays_long g u.stays in omega arith) in
        let n = h.notes in
        let l = gated.notes in
        omega arith

    word_by : (g : ℕ) (m : Bool) → g < total_gates key → gated.mark g ≡ m → gate_word s g ≡ mark_word m + sum_by (stays_of g) s.views
    word_by g m here is = gated.word g here ∙ ap (λ (b : Bool). mark_word b + sum_by (stays_of g) s.views) is

    pub counts_stays : CountsStays key s
    counts_stays = record {
      word = λ g here. by_mark g here (gated.mark g) refl;
      below = λ g. let f = stays_few g in omega arith;
      few = λ i v at. (gated.each i v at).few;
    }
      where
        by_mark : (g : ℕ) → g < total_gates key → (m : Bool) → gated.mark g ≡ m → (gate_word s g ≡ sum_by (stays_of g) s.views) ⊎ (gate_word s g ≡ top_bit + sum_by (stays_of g) s.views)
        by_mark g here true is = inr (word_by g true here is)
        by_mark g here false is = inl (let w = word_by g false here is in omega arith)

    -- the object whose own entries have the grant has the invalidation too
    revoked_at : (g : ℕ) → IsRevoked log g → IsRevokedAt s.views g
    revoked_at g r =
        let o = r.grant.object in
        let own = owned_in r.has_grant.0 r.grant r.has_grant.1 in
        let x = own.0 in
        let is : x.own ≡ entries_at o log = (sits (h.place o) x own.1).2 ∙ ap (λ (n : ℕ). entries_at n log) own.2 in
        let cut : Has (entries_at o log) r.cut = subst (λ (n : ℕ). Has (entries_at n log) r.cut) (sym r.object) (of_key-has object_of log r.cut r.has_cut) in (
          h.place o,
          x,
          own.1,
          record {
            grant = r.grant;
            cut = r.cut;
            first = r.first;
            last = r.last;
            from = r.from;
            to = r.to;
            has_grant = own.3;
            has_cut = subst (λ (l : List (Entry E)). Has l r.cut) (sym is) cut;
            is_grant = r.is_grant;
            is_cut = r.is_cut;
            later = r.later;
            object = r.object;
            meet = r.meet;
          },
        )

    is_marked : (g : ℕ) (m : Bool) → g < total_gates key → HasMark s g → gated.mark g ≡ m → gated.mark g ≡ true
    is_marked g true here high is = is
    is_marked g false here high is = let w = word_by g false here is in let f = stays_few g in absurd (omega arith)

    pub marks_revoked : MarksRevoked key s
    marks_revoked = record {
      marked = λ g here high. revoked_at g (gated.ends.marked g (is_marked g (gated.mark g) here high refl));
      void = λ g i v at has. revoked_at g ((gated.each i v at).void g has);
    }

    shut : (g : ℕ) → g < total_gates key → IsShut gated.mark (inside_all s.views) g → HasMark s g × (inside_all s.views g ≡ 0)
    shut g here is = ((let w = word_by g true here is.marked in omega arith), is.empty)

    pub keeps_shut : KeepsShut key s
    keeps_shut = record {
      drained = λ g i v here at has. shut g here ((gated.each i v at).drained g has);
      closed = λ g i o e here own is. shut g here (gated.ends.closed e.position e (in_log i o e own).1 g is);
    }

    pub ends_direct : EndsDirect s.views
    ends_direct = λ g i j o q d c a b is_d is_c. gated.ends.last c.position d.position c d (in_log j q c b).1 (in_log i o d a).1 g is_c is_d

    pub is_kept : IsKept backs key s
    is_kept = record {
      drawn = stands_once;
      seen = knows_history;
      seated = has_one_seat gated;
      counted = counts_stays;
      marked = marks_revoked;
      drained = keeps_shut;
      revoked = ends_direct;
      spent = shares_notes;
      backed = merges_backed;
    }
