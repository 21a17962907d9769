-- The rule of the gates, kept by each step.
use Rattle.std.proofs.Common.{◌≡◌, ◌≢◌, ℕ, zero, suc, ◌+◌, ◌-◌, ◌%◌, ◌^◌, ◌<◌, ◌≤◌, ◌==◌, Bool, true, false, cond, List, [], ◌∷◌, ◌++◌, length, set, replicate, refl, sym, ap, ◌∙◌, subst, ⊎_elim, arith, length-append, length-set}
use Rattle.std.specs.Prelude.{slice_index, slice_set, bit_or}
use Rattle.std.specs.List.{sum_by}
use Rattle.std.proofs.lemmas.List.Sums.{sum_by-cons, sum_by-append}
use Rattle.std.proofs.lemmas.Bool.{cases_eq, cases_Bool, cond-true, cond-false, cond_both, eq-eqb, ne_eqb, lt-ltb, le-ltb, false≢true}
use Rattle.std.proofs.lemmas.Nat.{or_block}
use Rattle.std.specs.Int.Bits.{or_zero_r}
use Rattle.std.proofs.lemmas.List.{length-replicate, get_or-replicate, get_or-set_same, get_or-set_other}
use Rattle.std.proofs.lemmas.List.Sums.{sum_by-le-sum_by}
use lib.Dec.{ltb}
use mathlib.Core.Option.{some, some-ne-none, some-injective}
use lib.ListN.{get_elem?}
use Rattle.atomic_table.specs.Table.{State, opening}
use Rattle.atomic_table.proofs.Lists.{at_set}
use Rattle.one_history.specs.declared.entry.Entry.{Entry}
use Rattle.one_history.specs.declared.entry.Sign.TheVariants.{Direct, Closed}
use Rattle.one_history.specs.declared.view.Frame.{Frame}
use Rattle.one_history.specs.declared.view.Stay.{Stay}
use Rattle.one_history.specs.declared.view.View.{View}
use Rattle.view_lists.specs.Lists.{Has, Within}
use Rattle.one_history.specs.Gates.{stay_at, inside_at, stays_of, inside_of, inside_all, total_gates, mark_word, IsRevoked, IsShut, NamesOwn, Behaves, Ends, KeepsGates}
use Rattle.one_history.specs.Rule.{spent_view, first_view}
use Rattle.one_history.specs.Moves.{number_of, MayDraw, drawn, joined, unstay, entered, away, left, voided, drained_at, learnt}
use Rattle.view_lists.proofs.Places.{at_short, at_end}
use Rattle.view_lists.proofs.Members.{has_left, has_either, has_one, has_none}
use Rattle.view_lists.proofs.Totals.{total_put, total_end, one_in}

module _ {E : Type 0} where
  revoked_longer : (log : List (Entry E)) (e : Entry E) (g : ℕ) → IsRevoked log g → IsRevoked (log ++ e ∷ []) g
  revoked_longer log e g r = record {
    grant = r.grant;
    cut = r.cut;
    first = r.first;
    last = r.last;
    from = r.from;
    to = r.to;
    has_grant = has_left log (e ∷ []) r.grant r.has_grant;
    has_cut = has_left log (e ∷ []) r.cut r.has_cut;
    is_grant = r.is_grant;
    is_cut = r.is_cut;
    later = r.later;
    object = r.object;
    meet = r.meet;
  }

shut_less : (mark : ℕ → Bool) (inside now : ℕ → ℕ) (g : ℕ) → now g ≤ inside g → IsShut mark inside g → IsShut mark now g
shut_less mark inside now g less s = record { marked = s.marked; empty = let q = s.empty in omega arith }

module _ {E : Type 0} where
  ends_less : (log : List (Entry E)) (mark : ℕ → Bool) (inside now : ℕ → ℕ) → ((g : ℕ) → now g ≤ inside g) → Ends log mark inside → Ends log mark now
  ends_less log mark inside now less b = record { marked = b.marked; closed = λ p e at g is. shut_less mark inside now g (less g) (b.closed p e at g is); last = b.last }

module _ {E G : Type 0} where
  behaves_less : (log : List (Entry E)) (mark : ℕ → Bool) (inside now : ℕ → ℕ) (v : View E G) → ((g : ℕ) → now g ≤ inside g) → Behaves log mark inside v → Behaves log mark now v
  behaves_less log mark inside now v less b = record { few = b.few; void = b.void; drained = λ g h. shut_less mark inside now g (less g) (b.drained g h) }

  each_put : (P : View E G → Type 0) (views : List (View E G)) (id : ℕ) (w : View E G) → P w → ((j : ℕ) (u : View E G) → get_elem? views j ≡ some u → P u) → (j : ℕ) (u : View E G) → get_elem? (set views id w) j ≡ some u → P u
  each_put P views id w mine others j u is = ⊎_elim (λ (same : (j ≡ id) × (w ≡ u)). subst P same.1 mine) (λ (else : (j ≢ id) × (get_elem? views j ≡ some u)). others j u else.1) (at_set views id j w u is)

  each_end : (P : View E G → Type 0) (views : List (View E G)) (w : View E G) → P w → ((j : ℕ) (u : View E G) → get_elem? views j ≡ some u → P u) → (j : ℕ) (u : View E G) → get_elem? (views ++ w ∷ []) j ≡ some u → P u
  each_end P views w mine others j u is = ⊎_elim (λ (old : get_elem? views j ≡ some u). others j u old) (λ (new : (j ≡ length views) × (w ≡ u)). subst P new.1 mine) (at_end views w u j is)

  -- what counts each view's stays
  stays_joined : (f : Stay → ℕ) (v w : View E G) → sum_by f (v.stays ++ w.stays) ≡ sum_by f v.stays + sum_by f w.stays
  stays_joined f v w = sum_by-append f v.stays w.stays

module _ {E G : Type 0} (key : Frame G) (log : List (Entry E)) (st : State ℕ (View E G)) (h : KeepsGates key log st) where
  -- the views change, and no gate's count
  gated_views : (views : List (View E G)) → ((g : ℕ) → sum_by (stays_of g) views ≡ sum_by (stays_of g) st.views) → ((g : ℕ) → inside_all views g ≡ inside_all st.views g) → ((j : ℕ) (u : View E G) → get_elem? views j ≡ some u → Behaves log h.mark (inside_all st.views) u) → KeepsGates key log (record { words = st.words; homes = st.homes; views = views })
  gated_views views stays inside each = record {
    mark = h.mark;
    many = h.many;
    notes = h.notes;
    word = λ g less. h.word g less ∙ ap (λ (n : ℕ). mark_word (h.mark g) + n) (sym (stays g));
    own = h.own;
    each = λ j u is. behaves_less log h.mark (inside_all st.views) (inside_all views) u (λ g. let q = inside g in omega arith) (each j u is);
    ends = ends_less log h.mark (inside_all st.views) (inside_all views) (λ g. let q = inside g in omega arith) h.ends;
  }

  module _ (id : ℕ) (v : View E G) (mine : get_elem? st.views id ≡ some v) where
    -- two views take the place of one, and the second has no stay
    pub gated_split : (left right : View E G) → left.stays ≡ v.stays → right.stays ≡ [] → length v.stays ≤ left.notes → Within left.void v.void → Within left.drained v.drained → Within right.void v.void → Within right.drained v.drained → KeepsGates key log (record { words = st.words; homes = st.homes; views = slice_set st.views id left ++ right ∷ [] })
    gated_split left right same bare few lv ld rv rd =
        gated_views (slice_set st.views id left ++ right ∷ [])
        (λ g. total (stays_of g) (ap (λ l. sum_by (stay_at g) l) same) (ap (λ l. sum_by (stay_at g) l) bare))
        (λ g. total (inside_of g) (ap (λ l. sum_by (inside_at g) l) same) (ap (λ l. sum_by (inside_at g) l) bare))
        (each_end (Behaves log h.mark (inside_all st.views)) (set st.views id left) right
        (record { few = let q = ap length bare in omega arith; void = λ g x. b.void g (rv g x); drained = λ g x. b.drained g (rd g x) })
        (each_put (Behaves log h.mark (inside_all st.views)) st.views id left (record { few = let q = ap length same in omega arith; void = λ g x. b.void g (lv g x); drained = λ g x. b.drained g (ld g x) }) h.each))
      where
        b : Behaves log h.mark (inside_all st.views) v
        b = h.each id v mine

        total : (f : View E G → ℕ) → f left ≡ f v → f right ≡ 0 → sum_by f (set st.views id left ++ right ∷ []) ≡ sum_by f st.views
        total f l r = let q = total_put f st.views id v left mine in let t = total_end f (set st.views id left) right in omega arith

    -- a seat takes in another view
    pub gated_joins : (other : ℕ) (w : View E G) → get_elem? (set st.views id (joined v w)) other ≡ some w → get_elem? st.views other ≡ some w → KeepsGates key log (record { words = st.words; homes = st.homes; views = slice_set (slice_set st.views id (joined v w)) other spent_view })
    gated_joins other w there was =
        gated_views (set (set st.views id (joined v w)) other spent_view)
        (λ g. total (stays_of g) (stays_joined (stay_at g) v w) refl)
        (λ g. total (inside_of g) (stays_joined (inside_at g) v w) refl)
        (each_put (Behaves log h.mark (inside_all st.views)) (set st.views id (joined v w)) other spent_view
        (record { few = omega arith; void = λ g x. absurd (has_none g x); drained = λ g x. absurd (has_none g x) })
        (each_put (Behaves log h.mark (inside_all st.views)) st.views id (joined v w)
        (record {
          few = let p = b.few in let q = o.few in omega (arith, length-append v.stays w.stays);
          void = λ g x. ⊎_elim (λ (y : Has v.void g). b.void g y) (λ (y : Has w.void g). o.void g y) (has_either v.void w.void g x);
          drained = λ g x. ⊎_elim (λ (y : Has v.drained g). b.drained g y) (λ (y : Has w.drained g). o.drained g y) (has_either v.drained w.drained g x);
        })
        h.each))
      where
        b : Behaves log h.mark (inside_all st.views) v
        b = h.each id v mine

        o : Behaves log h.mark (inside_all st.views) w
        o = h.each other w was

        total : (f : View E G → ℕ) → f (joined v w) ≡ f v + f w → f spent_view ≡ 0 → sum_by f (set (set st.views id (joined v w)) other spent_view) ≡ sum_by f st.views
        total f j s = let q = total_put f st.views id v (joined v w) mine in let t = total_put f (set st.views id (joined v w)) other w spent_view there in omega arith

-- a total of smaller terms
pub total_le : {A : Type 0} (f g : A → ℕ) (l : List A) → ((i : ℕ) (x : A) → get_elem? l i ≡ some x → f x ≤ g x) → sum_by f l ≤ sum_by g l
total_le f g [] h = omega arith
total_le f g (x ∷ xs) h = let a = h 0 x refl in let b = total_le f g xs (λ i y e. h (suc i) y e) in omega (arith, sum_by-cons f x xs, sum_by-cons g x xs)

pub stays_long : (g : ℕ) (l : List Stay) → sum_by (stay_at g) l ≤ length l
stays_long g [] = omega arith
stays_long g (x ∷ xs) = let q = stays_long g xs in let r : stay_at g x ≤ 1 = elim (x.gate == g) as (λ b. cond b 1 0 ≤ 1) [ true ↦ omega arith | false ↦ omega arith ] in omega (arith, sum_by-cons (stay_at g) x xs)

inside_few : (g : ℕ) (x : Stay) → inside_at g x ≤ stay_at g x
inside_few g x = elim (x.gate == g) as (λ b. cond b (cond x.inside 1 0) 0 ≤ cond b 1 0) [ true ↦ elim x.inside as (λ b. cond b 1 0 ≤ 1) [ true ↦ omega arith | false ↦ omega arith ] | false ↦ omega arith ]

inside_fewer : {E G : Type 0} (g : ℕ) (v : View E G) → inside_of g v ≤ stays_of g v
inside_fewer g v = sum_by-le-sum_by (inside_at g) (stay_at g) v.stays (inside_few g)

unstay_same : (g : ℕ) (l : List Stay) → 1 ≤ sum_by (stay_at g) l → (sum_by (stay_at g) (unstay g l) + 1 ≡ sum_by (stay_at g) l) × (length (unstay g l) + 1 ≡ length l)
unstay_same g [] h = absurd (omega arith)
unstay_same g (x ∷ xs) h =
    let c = sum_by-cons (stay_at g) x xs in
    ⊎_elim
    (λ (is : x.gate ≡ g).
    let t = eq-eqb x.gate g is in
    let e : unstay g (x ∷ xs) ≡ xs = cond-true (x.gate == g) xs (x ∷ unstay g xs) t in
    let one : stay_at g x ≡ 1 = cond-true (x.gate == g) 1 0 t in
    ((let q = ap (λ l. sum_by (stay_at g) l) e in omega arith), (let q = ap length e in omega arith)))
    (λ (not : x.gate ≡ g → ⊥).
    let t = ne_eqb x.gate g not in
    let e : unstay g (x ∷ xs) ≡ x ∷ unstay g xs = cond-false (x.gate == g) xs (x ∷ unstay g xs) t in
    let zero' : stay_at g x ≡ 0 = cond-false (x.gate == g) 1 0 t in
    let r = unstay_same g xs (omega arith) in
    ((let q = ap (λ l. sum_by (stay_at g) l) e in omega (arith, r.0, sum_by-cons (stay_at g) x (unstay g xs))), (let q = ap length e in omega (arith, r.1))))
    (cases_eq x.gate g)

unstay_other : (g k : ℕ) → (k ≡ g → ⊥) → (l : List Stay) → sum_by (stay_at k) (unstay g l) ≡ sum_by (stay_at k) l
unstay_other g k ne [] = refl
unstay_other g k ne (x ∷ xs) =
    let c = sum_by-cons (stay_at k) x xs in
    ⊎_elim
    (λ (is : x.gate ≡ g).
    let e : unstay g (x ∷ xs) ≡ xs = cond-true (x.gate == g) xs (x ∷ unstay g xs) (eq-eqb x.gate g is) in
    let none : stay_at k x ≡ 0 = cond-false (x.gate == k) 1 0 (ne_eqb x.gate k (λ q. ne (sym q ∙ is))) in
    let q = ap (λ l. sum_by (stay_at k) l) e in omega arith)
    (λ (not : x.gate ≡ g → ⊥).
    let e : unstay g (x ∷ xs) ≡ x ∷ unstay g xs = cond-false (x.gate == g) xs (x ∷ unstay g xs) (ne_eqb x.gate g not) in
    let r = unstay_other g k ne xs in
    let q = ap (λ l. sum_by (stay_at k) l) e in omega (arith, sum_by-cons (stay_at k) x (unstay g xs)))
    (cases_eq x.gate g)

unstay_inside : (g k : ℕ) (l : List Stay) → sum_by (inside_at k) (unstay g l) ≤ sum_by (inside_at k) l
unstay_inside g k [] = omega arith
unstay_inside g k (x ∷ xs) =
    let c = sum_by-cons (inside_at k) x xs in
    let r = unstay_inside g k xs in
    ⊎_elim
    (λ (is : x.gate ≡ g).
    let e : unstay g (x ∷ xs) ≡ xs = cond-true (x.gate == g) xs (x ∷ unstay g xs) (eq-eqb x.gate g is) in
    let q = ap (λ l. sum_by (inside_at k) l) e in omega arith)
    (λ (not : x.gate ≡ g → ⊥).
    let e : unstay g (x ∷ xs) ≡ x ∷ unstay g xs = cond-false (x.gate == g) xs (x ∷ unstay g xs) (ne_eqb x.gate g not) in
    let q = ap (λ l. sum_by (inside_at k) l) e in omega (arith, sum_by-cons (inside_at k) x (unstay g xs)))
    (cases_eq x.gate g)

-- setting the top bit
top : (m : Bool) (k : ℕ) → k < 2 ^ 63 → bit_or (mark_word m + k) 9223372036854775808 ≡ 9223372036854775808 + k
top true k h = ap (λ (n : ℕ). bit_or n 9223372036854775808) (refl) ∙ or_block 63 1 1 k 0 h (omega arith) ∙ ap (λ (n : ℕ). 9223372036854775808 + n) (or_zero_r k)
top false k h = ap (λ (n : ℕ). bit_or n 9223372036854775808) (omega arith) ∙ or_block 63 0 1 k 0 h (omega arith) ∙ ap (λ (n : ℕ). 9223372036854775808 + n) (or_zero_r k)

module _ {E G : Type 0} (key : Frame G) (log : List (Entry E)) (st : State ℕ (View E G)) (h : KeepsGates key log st) (id : ℕ) (v : View E G) (mine : get_elem? st.views id ≡ some v) (g : ℕ) (here : g < total_gates key) where
  -- one gate's word and one view change
  gated_gate : (n : ℕ) (w : View E G) (mark : ℕ → Bool)
      → n ≡ mark_word (mark g) + sum_by (stays_of g) (set st.views id w)
      → ((k : ℕ) → (k ≡ g → ⊥) → (mark k ≡ h.mark k) × (stays_of k w ≡ stays_of k v))
      → ((k : ℕ) → IsShut h.mark (inside_all st.views) k → IsShut mark (inside_all (set st.views id w)) k)
      → ((k : ℕ) → mark k ≡ true → IsRevoked log k)
      → Behaves log mark (inside_all (set st.views id w)) w
      → KeepsGates key log (record { words = slice_set st.words (1 + g) n; homes = st.homes; views = slice_set st.views id w })
  gated_gate n w mark is others keep revoked good = record {
    mark = mark;
    many = length-set st.words (1 + g) n ∙ h.many;
    notes = h.notes;
    word = λ k less. ⊎_elim
        (λ (same : k ≡ g). subst (λ (j : ℕ). slice_index (set st.words (1 + g) n) (1 + j) ≡ mark_word (mark j) + sum_by (stays_of j) (set st.views id w)) (sym same) (get_or-set_same st.words (1 + g) n 0 (let q = h.many in omega arith) ∙ is))
        (λ (not : k ≡ g → ⊥).
        let o = others k not in
        let q = total_put (stays_of k) st.views id v w mine in
        let r = o.1 in
        get_or-set_other st.words (1 + g) (1 + k) n 0 (λ e. not (omega arith)) ∙ h.word k less ∙ (ap (λ (b : Bool). mark_word b + sum_by (stays_of k) st.views) (sym o.0) ∙ ap (λ (m : ℕ). mark_word (mark k) + m) (omega arith)))
        (cases_eq k g);
    each = each_put (Behaves log mark (inside_all (set st.views id w))) st.views id w good (λ j u at. let b = h.each j u at in record { few = b.few; void = b.void; drained = λ k x. keep k (b.drained k x) });
    own = h.own;
    ends = record { marked = revoked; closed = λ p e at k x. keep k (h.ends.closed p e at k x); last = h.ends.last };
  }

  the_word : slice_index st.words (1 + g) ≡ mark_word (h.mark g) + sum_by (stays_of g) st.views
  the_word = h.word g here

  inside_put : (w : View E G) (k : ℕ) → inside_of k w ≤ inside_of k v → inside_all (set st.views id w) k ≤ inside_all st.views k
  inside_put w k less = let q = total_put (inside_of k) st.views id v w mine in omega arith

  keep_less : (w : View E G) → ((k : ℕ) → inside_of k w ≤ inside_of k v) → (k : ℕ) → IsShut h.mark (inside_all st.views) k → IsShut h.mark (inside_all (set st.views id w)) k
  keep_less w less k s = shut_less h.mark (inside_all st.views) (inside_all (set st.views id w)) k (inside_put w k (less k)) s

  total_few : sum_by (λ u. u.notes) st.views ≡ key.notes → sum_by (stays_of g) st.views ≤ key.notes
  total_few notes = let q = total_le (stays_of g) (λ (u : View E G). u.notes) st.views (λ i u at. let b = (h.each i u at).few in let c = stays_long g u.stays in omega arith) in omega arith

  -- a note enters: inside, or turned away where the gate is marked
  pub gated_enters : sum_by (λ u. u.notes) st.views ≡ key.notes → v.stays ≡ [] → 1 ≤ v.notes
      → let n : ℕ = slice_index st.words (1 + g) in let w : View E G = cond (ltb n 9223372036854775808) (entered g v) (away g v) in
      KeepsGates key log (record { words = slice_set st.words (1 + g) ((n + 1) % 2 ^ 64); homes = st.homes; views = slice_set st.views id w })
  gated_enters notes bare stands =
      let f = few in
      let l = limit in
      ⊎_elim
      (λ (yes' : h.mark g ≡ true).
      let word : n ≡ 9223372036854775808 + t = the_word ∙ ap (λ (b : Bool). mark_word b + t) yes' in
      let is : cond (ltb n 9223372036854775808) (entered g v) (away g v) ≡ away g v = cond-false (ltb n 9223372036854775808) (entered g v) (away g v) (le-ltb n 9223372036854775808 (omega arith)) in
      subst Goal (sym is) (gated_gate ((n + 1) % 2 ^ 64) (away g v) h.mark
      (let q = total_put (stays_of g) st.views id v (away g v) mine in let r = more false in (omega arith ∙ ap (λ (b : Bool). mark_word b + sum_by (stays_of g) (set st.views id (away g v))) (sym yes')))
      (λ k ne. (refl, less k false ne))
      (keep_less (away g v) (λ k. out k))
      h.ends.marked
      (record {
        few = let q = ap length bare in omega arith;
        void = λ k x. ⊎_elim (λ (new : Has (g ∷ []) k). subst (IsRevoked log) (has_one g k new) (h.ends.marked g yes')) (λ (old : Has v.void k). b.void k old) (has_either (g ∷ []) v.void k x);
        drained = λ k x. keep_less (away g v) (λ i. out i) k (b.drained k x);
      })))
      (λ (not : h.mark g ≡ false).
      let word : n ≡ t = the_word ∙ ap (λ (b : Bool). mark_word b + t) not ∙ omega arith in
      let is : cond (ltb n 9223372036854775808) (entered g v) (away g v) ≡ entered g v = cond-true (ltb n 9223372036854775808) (entered g v) (away g v) (lt-ltb n 9223372036854775808 (omega arith)) in
      let keep : (k : ℕ) → IsShut h.mark (inside_all st.views) k → IsShut h.mark (inside_all (set st.views id (entered g v))) k = λ k s. ⊎_elim
      (λ (same : k ≡ g). absurd (false≢true (sym not ∙ ap h.mark (sym same) ∙ s.marked)))
      (λ (ne : k ≡ g → ⊥). shut_less h.mark (inside_all st.views) (inside_all (set st.views id (entered g v))) k (inside_put (entered g v) k (in_else k ne)) s)
      (cases_eq k g) in
      subst Goal (sym is) (gated_gate ((n + 1) % 2 ^ 64) (entered g v) h.mark
      (let q = total_put (stays_of g) st.views id v (entered g v) mine in let r = more true in (omega arith ∙ ap (λ (b : Bool). mark_word b + sum_by (stays_of g) (set st.views id (entered g v))) (sym not)))
      (λ k ne. (refl, less k true ne))
      keep
      h.ends.marked
      (record { few = let q = ap length bare in omega arith; void = b.void; drained = λ k x. keep k (b.drained k x) })))
      (cases_Bool (h.mark g))
    where
      n : ℕ
      n = slice_index st.words (1 + g)

      t : ℕ
      t = sum_by (stays_of g) st.views

      b : Behaves log h.mark (inside_all st.views) v
      b = h.each id v mine

      Goal : View E G → Type 0
      Goal w = KeepsGates key log (record { words = slice_set st.words (1 + g) ((n + 1) % 2 ^ 64); homes = st.homes; views = slice_set st.views id w })

      few : t ≤ key.notes
      few = total_few notes

      limit : key.notes < 4294967296
      limit = h.notes

      more : (i : Bool) → sum_by (stay_at g) (record { gate = g; inside = i } ∷ v.stays) ≡ 1 + stays_of g v
      more i = sum_by-cons (stay_at g) (record { gate = g; inside = i }) v.stays ∙ ap (λ (k : ℕ). k + stays_of g v) (cond-true (g == g) 1 0 (eq-eqb g g refl))

      less : (k : ℕ) (i : Bool) → (k ≡ g → ⊥) → sum_by (stay_at k) (record { gate = g; inside = i } ∷ v.stays) ≡ stays_of k v
      less k i ne = sum_by-cons (stay_at k) (record { gate = g; inside = i }) v.stays ∙ ap (λ (m : ℕ). m + stays_of k v) (cond-false (g == k) 1 0 (ne_eqb g k (λ q. ne (sym q)))) ∙ omega arith

      out : (k : ℕ) → sum_by (inside_at k) (record { gate = g; inside = false } ∷ v.stays) ≤ inside_of k v
      out k = let q = sum_by-cons (inside_at k) (record { gate = g; inside = false }) v.stays in let r : inside_at k (record { gate = g; inside = false }) ≡ 0 = elim (g == k) as (λ (b : Bool). ◌≡◌ {A = ℕ} (cond b 0 0) 0) [ true ↦ refl | false ↦ refl ] in omega arith

      in_else : (k : ℕ) → (k ≡ g → ⊥) → sum_by (inside_at k) (record { gate = g; inside = true } ∷ v.stays) ≤ inside_of k v
      in_else k ne = let q = sum_by-cons (inside_at k) (record { gate = g; inside = true }) v.stays in let r : inside_at k (record { gate = g; inside = true }) ≡ 0 = cond-false (g == k) 1 0 (ne_eqb g k (λ e. ne (sym e))) in omega arith

  -- a stay ends
  pub gated_leaves : sum_by (λ u. u.notes) st.views ≡ key.notes → 1 ≤ stays_of g v
      → KeepsGates key log (record { words = slice_set st.words (1 + g) ((slice_index st.words (1 + g) + (2 ^ 64 - 1)) % 2 ^ 64); homes = st.homes; views = slice_set st.views id (left g v) })
  gated_leaves notes stay =
      let n = slice_index st.words (1 + g) in
      let t = sum_by (stays_of g) st.views in
      let b = h.each id v mine in
      let few = total_few notes in
      let limit = h.notes in
      let u = unstay_same g v.stays stay in
      let one = one_in (stays_of g) st.views id v mine in
      let q = total_put (stays_of g) st.views id v (left g v) mine in
      let m : mark_word (h.mark g) ≤ 9223372036854775808 = elim (h.mark g) as (λ x. mark_word x ≤ 9223372036854775808) [ true ↦ omega arith | false ↦ omega arith ] in
      let word = the_word in
      let u0 = u.0 in
      let u1 = u.1 in
      let bf = b.few in
      let keep = keep_less (left g v) (λ k. unstay_inside g k v.stays) in
      gated_gate ((n + (2 ^ 64 - 1)) % 2 ^ 64) (left g v) h.mark (omega arith) (λ k ne. (refl, unstay_other g k ne v.stays)) keep h.ends.marked
      (record { few = omega arith; void = b.void; drained = λ k x. keep k (b.drained k x) })

  -- a gate is marked
  pub gated_marks : sum_by (λ u. u.notes) st.views ≡ key.notes → IsRevoked log g
      → KeepsGates key log (record { words = slice_set st.words (1 + g) (bit_or (slice_index st.words (1 + g)) 9223372036854775808); homes = st.homes; views = slice_set st.views id (voided g v) })
  gated_marks notes revoked =
      gated_gate (bit_or n 9223372036854775808) (voided g v) mark
      (ap (λ (k : ℕ). bit_or k 9223372036854775808) the_word ∙ top (h.mark g) t (let f = total_few notes in let l = h.notes in omega arith) ∙ (let q = total_put (stays_of g) st.views id v (voided g v) mine in let m : mark_word (mark g) ≡ 9223372036854775808 = ap mark_word marked_here in omega arith))
      (λ k ne. (cond-false (k == g) true (h.mark k) (ne_eqb k g ne), refl))
      keep
      (λ k is. ⊎_elim (λ (same : k ≡ g). subst (IsRevoked log) (sym same) revoked) (λ (ne : k ≡ g → ⊥). h.ends.marked k (sym (cond-false (k == g) true (h.mark k) (ne_eqb k g ne)) ∙ is)) (cases_eq k g))
      (record {
        few = b.few;
        void = λ k x. ⊎_elim (λ (new : Has (g ∷ []) k). subst (IsRevoked log) (has_one g k new) revoked) (λ (old : Has v.void k). b.void k old) (has_either (g ∷ []) v.void k x);
        drained = λ k x. keep k (b.drained k x);
      })
    where
      n : ℕ
      n = slice_index st.words (1 + g)

      t : ℕ
      t = sum_by (stays_of g) st.views

      b : Behaves log h.mark (inside_all st.views) v
      b = h.each id v mine

      mark : ℕ → Bool
      mark k = cond (k == g) true (h.mark k)

      marked_here : mark g ≡ true
      marked_here = cond-true (g == g) true (h.mark g) (eq-eqb g g refl)

      keep : (k : ℕ) → IsShut h.mark (inside_all st.views) k → IsShut mark (inside_all (set st.views id (voided g v))) k
      keep k s = let q = inside_put (voided g v) k (omega arith) in let e = s.empty in record { marked = cond_both (k == g) true (h.mark k) (λ x. x ≡ true) (λ _. refl) (λ _. s.marked); empty = omega arith }

  -- a look finds the mark alone
  pub gated_drains : sum_by (λ u. u.notes) st.views ≡ key.notes
      → let n : ℕ = slice_index st.words (1 + g) in
      KeepsGates key log (record { words = slice_set st.words (1 + g) n; homes = st.homes; views = slice_set st.views id (cond (n == 9223372036854775808) (drained_at g v) v) })
  gated_drains notes =
      ⊎_elim
      (λ (is : n ≡ 9223372036854775808).
      let shut : IsShut h.mark (inside_all st.views) g = record { marked = only (h.mark g) refl is; empty = let q = total_le (inside_of g) (stays_of g) st.views (λ i u at. inside_fewer g u) in let z = zero_left (h.mark g) refl is in omega arith } in
      let keep = keep_less (drained_at g v) (λ k. omega arith) in
      subst Goal (sym (cond-true (n == 9223372036854775808) (drained_at g v) v (eq-eqb n 9223372036854775808 is)))
      (gated_gate n (drained_at g v) h.mark (let q = total_put (stays_of g) st.views id v (drained_at g v) mine in let w = the_word in omega arith) (λ k ne. (refl, refl)) keep h.ends.marked
      (record { few = b.few; void = b.void; drained = λ k x. ⊎_elim (λ (new : Has (g ∷ []) k). subst (IsShut h.mark (inside_all (set st.views id (drained_at g v)))) (has_one g k new) (keep g shut)) (λ (old : Has v.drained k). keep k (b.drained k old)) (has_either (g ∷ []) v.drained k x) })))
      (λ (not : n ≡ 9223372036854775808 → ⊥).
      let keep = keep_less v (λ k. omega arith) in
      subst Goal (sym (cond-false (n == 9223372036854775808) (drained_at g v) v (ne_eqb n 9223372036854775808 not)))
      (gated_gate n v h.mark (let q = total_put (stays_of g) st.views id v v mine in let w = the_word in omega arith) (λ k ne. (refl, refl)) keep h.ends.marked
      (record { few = b.few; void = b.void; drained = λ k x. keep k (b.drained k x) })))
      (cases_eq n 9223372036854775808)
    where
      n : ℕ
      n = slice_index st.words (1 + g)

      t : ℕ
      t = sum_by (stays_of g) st.views

      b : Behaves log h.mark (inside_all st.views) v
      b = h.each id v mine

      Goal : View E G → Type 0
      Goal w = KeepsGates key log (record { words = slice_set st.words (1 + g) n; homes = st.homes; views = slice_set st.views id w })

      only : (m : Bool) → h.mark g ≡ m → n ≡ 9223372036854775808 → h.mark g ≡ true
      only true e is = e
      only false e is = let w = the_word ∙ ap (λ (x : Bool). mark_word x + t) e in let f = total_few notes in let l = h.notes in absurd (omega arith)

      zero_left : (m : Bool) → h.mark g ≡ m → n ≡ 9223372036854775808 → t ≡ 0
      zero_left true e is = let w = the_word ∙ ap (λ (x : Bool). mark_word x + t) e in omega arith
      zero_left false e is = let w = the_word ∙ ap (λ (x : Bool). mark_word x + t) e in let f = total_few notes in let l = h.notes in absurd (omega arith)

module _ {E G : Type 0} (key : Frame G) (log : List (Entry E)) (st : State ℕ (View E G)) (h : KeepsGates key log st) (id : ℕ) (v : View E G) (mine : get_elem? st.views id ≡ some v) where
  -- a seat draws an entry
  pub gated_draws : (e : Entry E) (n : ℕ) → e.object ≡ number_of v → MayDraw key v e.sign
      → KeepsGates key (log ++ e ∷ []) (record { words = slice_set st.words 0 n; homes = st.homes; views = slice_set st.views id (drawn v e) })
  gated_draws e n of may = record {
    mark = h.mark;
    many = length-set st.words 0 n ∙ h.many;
    notes = h.notes;
    word = λ g less. get_or-set_other st.words 0 (1 + g) n 0 (λ q. omega arith) ∙ h.word g less ∙ ap (λ (m : ℕ). mark_word (h.mark g) + m) (sym (same (stays_of g) refl));
    each = each_put (Behaves (log ++ e ∷ []) h.mark now) st.views id (drawn v e) (let q = behaves v (h.each id v mine) in record { few = q.few; void = q.void; drained = q.drained }) (λ j u at. behaves u (h.each j u at));
    own = λ p x at. ⊎_elim (λ (old : get_elem? log p ≡ some x). h.own p x old) (λ (new : (p ≡ length log) × (e ≡ x)). subst (λ (y : Entry E). NamesOwn key y.object y.sign) new.1 (subst (λ (o : ℕ). NamesOwn key o e.sign) (sym of) may.0)) (at_end log e x p at);
    ends = record {
      marked = λ g is. revoked_longer log e g (h.ends.marked g is);
      closed = λ p x at g is. ⊎_elim (λ (old : get_elem? log p ≡ some x). shut g (h.ends.closed p x old g is)) (λ (new : (p ≡ length log) × (e ≡ x)). shut g ((h.each id v mine).drained g (closed g (ap (λ (y : Entry E). y.sign) new.1 ∙ is)))) (at_end log e x p at);
      last = λ p q a b at_a at_b g is_a is_b. ⊎_elim
          (λ (old : get_elem? log p ≡ some a). ⊎_elim
          (λ (older : get_elem? log q ≡ some b). h.ends.last p q a b old older g is_a is_b)
          (λ (new : (q ≡ length log) × (e ≡ b)).
          let z = (h.ends.closed p a old g is_a).empty in
          let o = one_in (inside_of g) st.views id v mine in
          let d = direct g (ap (λ (y : Entry E). y.sign) new.1 ∙ is_b) in
          absurd (omega arith))
          (at_end log e b q at_b))
          (λ (new : (p ≡ length log) × (e ≡ a)). ⊎_elim
          (λ (older : get_elem? log q ≡ some b). let s = at_short log q b older in let p' = new.0 in omega arith)
          (λ (newer : (q ≡ length log) × (e ≡ b)). let c : Closed g ≡ Direct g = sym is_a ∙ ap (λ (y : Entry E). y.sign) (sym new.1 ∙ newer.1) ∙ is_b in absurd (cc (c)))
          (at_end log e b q at_b))
          (at_end log e a p at_a);
    };
  }
    where
      direct : (g : ℕ) → e.sign ≡ Direct g → 1 ≤ inside_of g v
      direct g is = (subst (MayDraw key v) is may).1

      closed : (g : ℕ) → e.sign ≡ Closed g → Has v.drained g
      closed g is = (subst (MayDraw key v) is may).1

      now : ℕ → ℕ
      now = inside_all (set st.views id (drawn v e))

      same : (f : View E G → ℕ) → f (drawn v e) ≡ f v → sum_by f (set st.views id (drawn v e)) ≡ sum_by f st.views
      same f is = let q = total_put f st.views id v (drawn v e) mine in omega arith

      shut : (g : ℕ) → IsShut h.mark (inside_all st.views) g → IsShut h.mark now g
      shut g s = shut_less h.mark (inside_all st.views) now g (let q = same (inside_of g) refl in omega arith) s

      behaves : (u : View E G) → Behaves log h.mark (inside_all st.views) u → Behaves (log ++ e ∷ []) h.mark now u
      behaves u b = record { few = b.few; void = λ g x. revoked_longer log e g (b.void g x); drained = λ g x. shut g (b.drained g x) }

  -- a seat learns the log
  pub gated_learns : KeepsGates key log (record { words = slice_set st.words 0 (slice_index st.words 0); homes = st.homes; views = slice_set st.views id (learnt v log) })
  gated_learns = record {
    mark = h.mark;
    many = length-set st.words 0 (slice_index st.words 0) ∙ h.many;
    notes = h.notes;
    word = λ g less. get_or-set_other st.words 0 (1 + g) (slice_index st.words 0) 0 (λ q. omega arith) ∙ h.word g less ∙ ap (λ (m : ℕ). mark_word (h.mark g) + m) (sym (same (stays_of g) refl));
    each = each_put (Behaves log h.mark now) st.views id (learnt v log) (let q = behaves v (h.each id v mine) in record { few = q.few; void = q.void; drained = q.drained }) (λ j u at. behaves u (h.each j u at));
    own = h.own;
    ends = ends_less log h.mark (inside_all st.views) now (λ g. let q = same (inside_of g) refl in omega arith) h.ends;
  }
    where
      now : ℕ → ℕ
      now = inside_all (set st.views id (learnt v log))

      same : (f : View E G → ℕ) → f (learnt v log) ≡ f v → sum_by f (set st.views id (learnt v log)) ≡ sum_by f st.views
      same f is = let q = total_put f st.views id v (learnt v log) mine in omega arith

      behaves : (u : View E G) → Behaves log h.mark (inside_all st.views) u → Behaves log h.mark now u
      behaves u b = behaves_less log h.mark (inside_all st.views) now u (λ g. let q = same (inside_of g) refl in omega arith) b

module _ {E G : Type 0} (key : Frame G) (limit : key.notes < 4294967296) where
  pub gated_opens : KeepsGates {E = E} key [] (opening (0 ∷ replicate (total_gates key) 0) [] (first_view key))
  gated_opens = record {
    mark = λ g. false;
    many = (let q : length (replicate {A = ℕ} (total_gates key) 0) ≡ total_gates key = length-replicate (total_gates key) 0 in omega arith);
    notes = limit;
    word = λ g less. let e : 1 + g ≡ suc g = omega arith in ap (λ (k : ℕ). slice_index (0 ∷ replicate (total_gates key) 0) k) e ∙ get_or-replicate {A = ℕ} (total_gates key) g 0 0 less;
    each = first;
    own = λ p e is. absurd (some-ne-none e (sym is));
    ends = record { marked = λ g is. absurd (false≢true is); closed = λ p e at g is. absurd (some-ne-none e (sym at)); last = λ p q a b at_a at_b g is_a is_b. absurd (some-ne-none a (sym at_a)) };
  }
    where
      first : (i : ℕ) (v : View E G) → get_elem? (first_view key ∷ []) i ≡ some v → Behaves [] (λ g. false) (inside_all (first_view {E = E} key ∷ [])) v
      first zero v is = subst (Behaves [] (λ g. false) (inside_all (first_view {E = E} key ∷ []))) (some-injective _ _ is) (record { few = omega arith; void = λ g x. absurd (has_none g x); drained = λ g x. absurd (has_none g x) })
      first (suc i) v is = absurd (some-ne-none v (sym is))
