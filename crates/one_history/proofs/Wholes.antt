-- Each step keeps the whole rule.
use Rattle.std.proofs.Common.{◌≡◌, ℕ, ◌+◌, ◌-◌, ◌%◌, ◌^◌, ◌<◌, ◌≤◌, ◌==◌, true, false, cond, List, [], ◌∷◌, ◌++◌, length, replicate, sum, Some, refl, sym, ap, ◌∙◌, subst, ⊎_elim, arith}
use Rattle.std.specs.Prelude.{slice_index, slice_index_or, slice_set, bit_or}
use Rattle.std.proofs.lemmas.List.{set-get_or}
use lib.Dec.{ltb}
use mathlib.Core.Option.{some, none}
use lib.ListN.{get_elem?}
use Rattle.atomic_table.specs.Table.{State, Me, step, keeps, Allows, Splits, Joins, opening}
use Rattle.atomic_table.proofs.Lists.{set_else, set_again}
use Rattle.one_history.specs.declared.entry.Entry.{Entry}
use Rattle.one_history.specs.declared.entry.Sign.{Sign}
use Rattle.one_history.specs.declared.view.Frame.{Frame}
use Rattle.one_history.specs.declared.view.View.{View}
use Rattle.view_lists.specs.Lists.{Has, Within}
use Rattle.view_lists.proofs.Members.{has_none}
use Rattle.one_history.specs.Gates.{IsRevoked, total_gates, stays_of}
use Rattle.one_history.specs.Rule.{spent_view, first_view, HasLog, IsOneLog}
use Rattle.one_history.specs.Closing.{Learned}
use Rattle.one_history.specs.Moves.{entry, number_of, own_of, KnowsOwn, MayDraw, SawInvalidated, Recalled, drawn, Drew, one_less, one_gone, copied, parted, one_more, blank_seat, joined, learnt, entered, away, left, voided, drained_at, Came, Left, Marked, Watched}
use Rattle.one_history.proofs.Keeps.{knows_own, kept_draws, kept_copies, kept_parts, kept_makes, kept_joins, kept_learns, kept_opens, kept_gate}
use Rattle.one_history.proofs.GateKeeps.{gated_split, gated_joins, gated_enters, gated_leaves, gated_marks, gated_drains, gated_draws, gated_learns, gated_opens}

module _ {E G : Type 0} (backs : G → List (Entry E) → Entry E → Type 0) (key : Frame G) where
  module _ (grows : (world : G) (xs ys : List (Entry E)) (e : Entry E) → Within xs ys → backs world xs e → backs world ys e) where
    -- what a seat knows of its object is among its own entries
    mine_of : (st : State ℕ (View E G)) (h : IsOneLog backs key st) (id : ℕ) (v : View E G) → get_elem? st.views id ≡ some v → length v.objects ≡ 1 → KnowsOwn v
    mine_of st h id v mine one = knows_own backs key grows h.log h.counted.place h.counted.counter h.counted.made id v one h.gated.own (h.gated.each id v mine).void (h.counted.fits id v mine)

    -- a seat looks at what it knows of its object
    pub recalls : (slots id : ℕ) (me : Me ℕ (View E G)) → length me.0.objects ≡ 1 → Allows (IsOneLog backs key) slots id me 0 (λ n. n) (Recalled (step slots 0 0 0 none) me)
    recalls slots id me one st h homes mine wide = (
      me.0,
      keeps,
      tt,
      subst (λ (s : State ℕ (View E G)). IsOneLog backs key s) (λ i. record { words = sym (set-get_or st.words 0 0) i; homes = st.homes; views = sym (set_again st.views id me.0 mine) i }) h,
      (refl, mine_of st h id me.0 mine one),
    )

    pub draws : (slots id : ℕ) (me : Me ℕ (View E G)) (c : E) (s : Sign) → length me.0.objects ≡ 1 → length (own_of me.0) < slice_index_or key.planned (number_of me.0) 0 → sum key.planned ≤ 1000000
        → ((p : ℕ) → me.0.seen ≤ p → KnowsOwn me.0 → backs key.world me.0.known (entry p (number_of me.0) s c)) → (KnowsOwn me.0 → MayDraw key me.0 s)
        → Allows (IsOneLog backs key) slots id me 0 (λ n. (n + 1) % 2 ^ 64) (Drew c s (step slots 0 1 0 none) me)
    draws slots id me c s one room few backed may st h homes mine wide =
        let n = slice_index st.words 0 in
        let e = entry n (number_of me.0) s c in
        let seen : me.0.seen ≤ n = let q = (h.counted.fits id me.0 mine).seen in let r = h.counted.count in omega arith in
        let own = mine_of st h id me.0 mine one in
        let k = kept_draws backs key grows h.log st h.counted id me.0 mine e refl refl one room few (backed n seen own) in
        (drawn me.0 e, keeps, tt, record { log = h.log ++ e ∷ []; counted = k.0; gated = gated_draws key h.log st h.gated id me.0 mine e ((n + 1) % 2 ^ 64) refl (may own) }, (refl, k.1, seen, refl, own))

  pub enters : (slots id g : ℕ) (me : Me ℕ (View E G)) → g < total_gates key → me.0.stays ≡ [] → 1 ≤ me.0.notes → Allows (IsOneLog backs key) slots id me (1 + g) (λ n. (n + 1) % 2 ^ 64) (Came (step slots (1 + g) 1 0 none) me)
  enters slots id g me here bare stands st h homes mine wide =
      let n = slice_index st.words (1 + g) in
      let v = me.0 in
      let w : View E G = cond (ltb n 9223372036854775808) (entered g v) (away g v) in
      let k : HasLog backs key h.log (record { words = slice_set st.words (1 + g) ((n + 1) % 2 ^ 64); homes = st.homes; views = slice_set st.views id w }) =
      elim (ltb n 9223372036854775808) as (λ b. HasLog backs key h.log (record { words = slice_set st.words (1 + g) ((n + 1) % 2 ^ 64); homes = st.homes; views = slice_set st.views id (cond b (entered g v) (away g v)) })) [
        | true ↦ kept_gate backs key h.log st h.counted id v mine g ((n + 1) % 2 ^ 64) (entered g v) (omega arith) refl refl refl refl refl refl
        | false ↦ kept_gate backs key h.log st h.counted id v mine g ((n + 1) % 2 ^ 64) (away g v) (omega arith) refl refl refl refl refl refl
      ] in
      let back : (1 + g) - 1 ≡ g = omega arith in
      (w, keeps, tt, record { log = h.log; counted = k; gated = gated_enters key h.log st h.gated id v mine g here h.counted.notes bare stands }, (refl, ap (λ (i : ℕ). cond (ltb n 9223372036854775808) (entered i v) (away i v)) (sym back)))

  pub leaves : (slots id g : ℕ) (me : Me ℕ (View E G)) → g < total_gates key → 1 ≤ stays_of g me.0 → 1 ≤ me.0.notes + length me.0.objects → Allows (IsOneLog backs key) slots id me (1 + g) (λ n. (n + (2 ^ 64 - 1)) % 2 ^ 64) (Left (step slots (1 + g) 1 0 none) me)
  leaves slots id g me here stay stands st h homes mine wide =
      let n = slice_index st.words (1 + g) in
      let back : (1 + g) - 1 ≡ g = omega arith in
      (left g me.0, keeps, tt, record { log = h.log; counted = kept_gate backs key h.log st h.counted id me.0 mine g ((n + (2 ^ 64 - 1)) % 2 ^ 64) (left g me.0) stands refl refl refl refl refl refl; gated = gated_leaves key h.log st h.gated id me.0 mine g here h.counted.notes stay }, (refl, ap (λ (i : ℕ). left i me.0) (sym back)))

  pub marks : (slots id g : ℕ) (me : Me ℕ (View E G)) → g < total_gates key → SawInvalidated me.0 g → 1 ≤ me.0.notes + length me.0.objects → Allows (IsOneLog backs key) slots id me (1 + g) (λ n. bit_or n 9223372036854775808) (Marked (step slots (1 + g) 9223372036854775808 0 none) me)
  marks slots id g me here why stands st h homes mine wide =
      let n = slice_index st.words (1 + g) in
      let back : (1 + g) - 1 ≡ g = omega arith in
      let revoked : IsRevoked h.log g = ⊎_elim (λ (r : IsRevoked me.0.known g). let f = h.counted.fits id me.0 mine in record { grant = r.grant; cut = r.cut; first = r.first; last = r.last; from = r.from; to = r.to; has_grant = (r.grant.position, (f.known r.grant r.has_grant).1); has_cut = (r.cut.position, (f.known r.cut r.has_cut).1); is_grant = r.is_grant; is_cut = r.is_cut; later = r.later; object = r.object; meet = r.meet }) (λ (x : Has me.0.void g). (h.gated.each id me.0 mine).void g x) why in
      (voided g me.0, keeps, tt, record { log = h.log; counted = kept_gate backs key h.log st h.counted id me.0 mine g (bit_or n 9223372036854775808) (voided g me.0) stands refl refl refl refl refl refl; gated = gated_marks key h.log st h.gated id me.0 mine g here h.counted.notes revoked }, (refl, ap (λ (i : ℕ). voided i me.0) (sym back)))

  pub drains : (slots id g : ℕ) (me : Me ℕ (View E G)) → g < total_gates key → 1 ≤ me.0.notes + length me.0.objects → Allows (IsOneLog backs key) slots id me (1 + g) (λ n. n) (Watched (step slots (1 + g) 0 0 none) me)
  drains slots id g me here stands st h homes mine wide =
      let n = slice_index st.words (1 + g) in
      let v = me.0 in
      let w : View E G = cond (n == 9223372036854775808) (drained_at g v) v in
      let k : HasLog backs key h.log (record { words = slice_set st.words (1 + g) n; homes = st.homes; views = slice_set st.views id w }) =
      elim (n == 9223372036854775808) as (λ b. HasLog backs key h.log (record { words = slice_set st.words (1 + g) n; homes = st.homes; views = slice_set st.views id (cond b (drained_at g v) v) })) [
        | true ↦ kept_gate backs key h.log st h.counted id v mine g n (drained_at g v) stands refl refl refl refl refl refl
        | false ↦ kept_gate backs key h.log st h.counted id v mine g n v stands refl refl refl refl refl refl
      ] in
      let back : (1 + g) - 1 ≡ g = omega arith in
      (w, keeps, tt, record { log = h.log; counted = k; gated = gated_drains key h.log st h.gated id v mine g here h.counted.notes }, (refl, ap (λ (i : ℕ). cond (n == 9223372036854775808) (drained_at i v) v) (sym back)))

  pub copies : (id n : ℕ) (v : View E G) → length v.stays + 1 ≤ v.notes → Splits (IsOneLog backs key) id v (one_gone v) (copied n v)
  copies id n v stands st h mine =
      record { log = h.log; counted = kept_copies backs key h.log id n v (omega arith) st h.counted mine; gated = gated_split key h.log st h.gated id v mine (one_gone v) (copied n v) refl refl (omega arith) (λ x y. y) (λ x y. y) (λ x y. y) (λ x y. y) }

  pub parts : (id : ℕ) (v : View E G) → length v.stays + 1 ≤ v.notes → Splits (IsOneLog backs key) id v (one_less v) (parted v)
  parts id v stands st h mine =
      record { log = h.log; counted = kept_parts backs key h.log id v (omega arith) st h.counted mine; gated = gated_split key h.log st h.gated id v mine (one_less v) (parted v) refl refl (omega arith) (λ x y. y) (λ x y. y) (λ x y. y) (λ x y. y) }

  pub makes : (id n : ℕ) (v : View E G) → v.counts ≡ Some n → 1 ≤ v.notes → Splits (IsOneLog backs key) id v (one_more v) (blank_seat v)
  makes id n v counts stands st h mine =
      record { log = h.log; counted = kept_makes backs key h.log id n v counts stands st h.counted mine; gated = gated_split key h.log st h.gated id v mine (one_more v) (blank_seat v) refl refl ((h.gated.each id v mine).few) (λ x y. y) (λ x y. y) (λ x y. absurd (has_none x y)) (λ x y. absurd (has_none x y)) }

  pub joins : (id other : ℕ) (v w : View E G) → 1 ≤ v.notes + length v.objects → Joins (IsOneLog backs key) id v other w (joined v w) spent_view
  joins id other v w stands st h mine apart there =
      record { log = h.log; counted = kept_joins backs key h.log id other v w stands st h.counted mine apart there; gated = gated_joins key h.log st h.gated id v mine other w there (sym (set_else st.views id other (joined v w) apart) ∙ there) }

  pub learns : (slots id : ℕ) (me : Me ℕ (View E G)) → 1 ≤ me.0.notes + length me.0.objects → Allows (IsOneLog backs key) slots id me 0 (λ n. n) (Learned backs (step slots 0 0 0 none) me)
  learns slots id me stands st h homes mine wide =
      let k = kept_learns backs key h.log slots id me stands h.gated.ends.last st h.counted mine in
      (learnt me.0 h.log, keeps, tt, record { log = h.log; counted = k.0; gated = gated_learns key h.log st h.gated id me.0 mine }, k.1)

  pub opens : key.notes < 4294967296 → IsOneLog backs key (opening (0 ∷ replicate (total_gates key) 0) [] (first_view key))
  opens limit = record { log = []; counted = kept_opens backs key (replicate (total_gates key) 0); gated = gated_opens key limit }
