-- A step for all transactions, one after another.
use Rattle.std.proofs.Common.{◌≡◌, ℕ, zero, suc, ◌+◌, ◌<◌, ◌≤◌, Bool, true, false, List, [], ◌∷◌, ◌++◌, length, map, take, drop, Option, Some, None, refl, sym, ap, subst, ◌∙◌, inl, inr, append_assoc, length-append, arith}
use Rattle.std.specs.Prelude.{IsSomeAnd, ◌||◌}
use Rattle.std.proofs.lemmas.List.{map-append, append-nil}
use Rattle.view_lists.specs.Lists.{Within}
use Rattle.one_history.specs.declared.view.Frame.{Frame}
use Rattle.one_history.specs.declared.view.View.{View}
use Rattle.tlm_types.specs.declared.entry.Content.{Content}
use Rattle.tlm_model.specs.Plan.{Plan}
use Rattle.router_node.specs.Node.{MovesAt, Sweeps, left, vain_steps}
use Rattle.router_node.specs.Stages.{ComesBy, HasStepped, Standing, standing, vain}
use Rattle.router_node.specs.declared.stage.Stage.{Stage}
use Rattle.router_node.specs.declared.stage.Step.{Step}
use Rattle.router_node.proofs.Places.{same_line}

-- flags
pub or_none : (a : Bool) → (a || false) ≡ a
or_none true = refl
or_none false = refl

pub or_next : (a b c : Bool) → ((a || b) || c) ≡ (a || (b || c))
or_next true b c = refl
or_next false b c = refl

pub first_not : (a b : Bool) → (a || b) ≡ false → a ≡ false
first_not true b q = cc
first_not false b q = refl

pub second_not : (a b : Bool) → (a || b) ≡ false → b ≡ false
second_not true b q = cc
second_not false b q = q

-- lists
one_on : (i : ℕ) → suc i ≡ i + 1
one_on i = omega arith

pub split_at : {A : Type 0} (xs : List A) (i : ℕ) → i < length xs → (x : A) × (drop i xs ≡ x ∷ drop (suc i) xs) × (take (suc i) xs ≡ take i xs ++ x ∷ [])
split_at [] i below = absurd (omega (arith, below))
split_at (x ∷ xs) zero below = (x, refl, refl)
split_at (x ∷ xs) (suc i) below = let r = split_at xs i (omega (arith, below)) in (r.0, r.1, ap (λ (l : List _). x ∷ l) r.2)

pub drop_past : {A : Type 0} (xs : List A) (i : ℕ) → (i < length xs → ⊥) → drop i xs ≡ []
drop_past [] zero past = refl
drop_past [] (suc i) past = refl
drop_past (x ∷ xs) zero past = absurd (past (omega arith))
drop_past (x ∷ xs) (suc i) past = drop_past xs i (λ l. past (omega (arith, l)))

pub take_past : {A : Type 0} (xs : List A) (i : ℕ) → (i < length xs → ⊥) → take i xs ≡ xs
take_past [] zero past = refl
take_past [] (suc i) past = refl
take_past (x ∷ xs) zero past = absurd (past (omega arith))
take_past (x ∷ xs) (suc i) past = ap (λ (l : List _). x ∷ l) (take_past xs i (λ l. past (omega (arith, l))))

pub few_left : (o : Option Stage) → length (left o) ≤ 1
few_left None = omega arith
few_left (Some s) = omega arith

-- one that wasn't moved stands where it stood
stood : (s : Stage) (o : Option Stage) → IsSomeAnd o (λ (t : Stage). standing t ≡ standing s) → map standing (left o) ≡ standing s ∷ []
stood s None h = absurd h
stood s (Some t) h = ap (λ (x : Standing). x ∷ []) h

-- looks were added
abbrev pub Grows : List (ℕ × ℕ) → List (ℕ × ℕ) → Type 0
Grows a b = (some : List (ℕ × ℕ)) × (b ≡ a ++ some)

pub grows_on : (a b c : List (ℕ × ℕ)) → Grows a b → Grows b c → Grows a c
grows_on a b c x y = (x.0 ++ y.0, y.1 ∙ (ap (λ (l : List (ℕ × ℕ)). l ++ y.0) x.1 ∙ append_assoc a x.0 y.0))

module _ (frame : Frame Plan) (hasty : Bool) (w : Step) where
  -- a step for one more
  sweeps_more : (ss rs : List Stage) (a b c : View Content Plan) (m did : Bool) (s : Stage) (o : Option Stage) → Sweeps frame hasty w ss rs a b m → Within b.known c.known → ComesBy frame hasty w s b c did o → Sweeps frame hasty w (ss ++ s ∷ []) (rs ++ left o) a c (m || did)
  sweeps_more [] rs a b c m did s o sw more st =
      (o, [], c, did, false, subst (λ (v : View Content Plan). ComesBy frame hasty w s v c did o) sw.1 st, (λ x has. has), (refl, refl, refl), ap (λ (l : List Stage). l ++ left o) sw.0 ∙ sym (append-nil (left o)), ap (λ (f : Bool). f || did) sw.2 ∙ sym (or_none did))
  sweeps_more (x ∷ ss) rs a b c m did s o sw more st =
      let r = sweeps_more ss sw.1 sw.2 b c sw.4 did s o sw.7 more st in
      (sw.0, sw.1 ++ left o, sw.2, sw.3, (sw.4 || did), sw.5, (λ e has. more e (sw.6 e has)), r, ap (λ (l : List Stage). l ++ left o) sw.8 ∙ append_assoc (left sw.0) sw.1 (left o), ap (λ (f : Bool). f || did) sw.9 ∙ or_next sw.3 sw.4 did)

  -- The step was made with the first i of these transactions: what is left of them stands in front, up to this place.
  pub record IsPartSwept (old : List Stage) (i at : ℕ) (now : List Stage) (was is : View Content Plan) (moved : Bool) : Type 0 where
    pub done : List Stage
    pub line : now ≡ done ++ drop i old
    pub place : at ≡ length done
    pub swept : Sweeps frame hasty w (take i old) done was is moved

  pub part_start : (old : List Stage) (was : View Content Plan) → IsPartSwept old 0 0 old was was false
  part_start old was = record { done = []; line = refl; place = refl; swept = (refl, refl, refl) }

  part_more : (old : List Stage) (i at next : ℕ) (now new : List Stage) (was mid is : View Content Plan) (moved did : Bool) → i < length old → IsPartSwept old i at now was mid moved → Within mid.known is.known → MovesAt frame hasty w at now new mid is next did → IsPartSwept old (i + 1) next new was is (moved || did)
  part_more old i at next now new was mid is moved did below p more m =
      let s = split_at old i below in
      let t = m.stands in
      let both : p.done ++ s.0 ∷ drop (suc i) old ≡ t.before ++ m.stage ∷ t.rest = sym (p.line ∙ ap (λ (l : List Stage). p.done ++ l) s.1) ∙ t.line in
      let same = same_line p.done t.before s.0 m.stage (drop (suc i) old) t.rest (sym p.place ∙ t.place) both in
      subst (λ (n : ℕ). IsPartSwept old n next new was is (moved || did)) (one_on i) (record {
        done = p.done ++ left m.after;
        line = m.line ∙ (ap (λ (l : List Stage). l ++ (left m.after ++ t.rest)) (sym same.before) ∙ (ap (λ (l : List Stage). p.done ++ (left m.after ++ l)) (sym same.rest) ∙ sym (append_assoc p.done (left m.after) (drop (suc i) old))));
        place = m.next_is ∙ (ap (λ (k : ℕ). k + length (left m.after)) p.place ∙ sym (length-append p.done (left m.after)));
        swept = subst (λ (l : List Stage). Sweeps frame hasty w l (p.done ++ left m.after) was is (moved || did)) (sym s.2) (sweeps_more (take i old) p.done was mid is moved did s.0 m.after p.swept more (subst (λ (x : Stage). ComesBy frame hasty w x mid is did m.after) (sym same.here) m.stepped));
      })

  pub part_next : (old : List Stage) (i at next : ℕ) (now new : List Stage) (was mid is : View Content Plan) (moved did flag : Bool) → flag ≡ (moved || did) → i < length old → IsPartSwept old i at now was mid moved → Within mid.known is.known → MovesAt frame hasty w at now new mid is next did → IsPartSwept old (i + 1) next new was is flag
  part_next old i at next now new was mid is moved did flag q below p more m = subst (λ (b : Bool). IsPartSwept old (i + 1) next new was is b) (sym q) (part_more old i at next now new was mid is moved did below p more m)

  pub part_here : (old : List Stage) (i at : ℕ) (now : List Stage) (was is : View Content Plan) (moved : Bool) → i < length old → IsPartSwept old i at now was is moved → at < length now
  part_here old i at now was is moved below p =
      let s = split_at old i below in
      let l : length now ≡ length p.done + suc (length (drop (suc i) old)) = ap (λ (l : List Stage). length l) (p.line ∙ ap (λ (l : List Stage). p.done ++ l) s.1) ∙ length-append p.done (s.0 ∷ drop (suc i) old) in
      let e = p.place in
      omega (arith, l, e)

  pub part_end : (old : List Stage) (i at : ℕ) (now : List Stage) (was is : View Content Plan) (moved : Bool) → (i < length old → ⊥) → IsPartSwept old i at now was is moved → Sweeps frame hasty w old now was is moved
  part_end old i at now was is moved past p =
      let line : now ≡ p.done = p.line ∙ (ap (λ (l : List Stage). p.done ++ l) (drop_past old i past) ∙ append-nil p.done) in
      subst (λ (l : List Stage). Sweeps frame hasty w old l was is moved) (sym line) (subst (λ (l : List Stage). Sweeps frame hasty w l p.done was is moved) (take_past old i past) p.swept)

  -- no more are held than before
  pub sweeps_few : (ss rs : List Stage) (was is : View Content Plan) (moved : Bool) → Sweeps frame hasty w ss rs was is moved → length rs ≤ length ss
  sweeps_few [] rs was is moved sw = let l : length rs ≡ 0 = ap (λ (l : List Stage). length l) sw.0 in omega (arith, l)
  sweeps_few (s ∷ ss) rs was is moved sw =
      let l : length rs ≡ length (left sw.0) + length sw.1 = ap (λ (l : List Stage). length l) sw.8 ∙ length-append (left sw.0) sw.1 in
      let f = few_left sw.0 in
      let r = sweeps_few ss sw.1 sw.2 is sw.4 sw.7 in
      omega (arith, l, f, r)

  -- a step that was made with every look
  made : (s : Stage) (a b : View Content Plan) (m : Bool) (o : Option Stage) → hasty ≡ false → ComesBy frame hasty w s a b m o → HasStepped frame w s a b m o
  made s a b m o exact (inl x) = x
  made s a b m o exact (inr x) = let q = x.0 in cc

  -- where none was moved, each stands where it stood, and the looks are in vain
  pub sweeps_vain : (ss rs : List Stage) (was is : View Content Plan) (moved : Bool) → hasty ≡ false → moved ≡ false → Sweeps frame hasty w ss rs was is moved → (map standing rs ≡ map standing ss) × (is.looks ≡ was.looks ++ vain_steps frame.world w (map standing ss))
  sweeps_vain [] rs was is moved exact off sw = (ap (λ (l : List Stage). map standing l) sw.0, ap (λ (v : View Content Plan). v.looks) sw.1 ∙ sym (append-nil was.looks))
  sweeps_vain (s ∷ ss) rs was is moved exact off sw =
      let none : (sw.3 || sw.4) ≡ false = sym sw.9 ∙ off in
      let st : HasStepped frame w s was sw.2 false sw.0 = made s was sw.2 false sw.0 exact (subst (λ (b : Bool). ComesBy frame hasty w s was sw.2 b sw.0) (first_not sw.3 sw.4 none) sw.5) in
      let r = sweeps_vain ss sw.1 sw.2 is sw.4 exact (second_not sw.3 sw.4 none) sw.7 in (
        ap (λ (l : List Stage). map standing l) sw.8 ∙ (map-append standing (left sw.0) sw.1 ∙ (ap (λ (l : List Standing). l ++ map standing sw.1) (stood s sw.0 st.0) ∙ ap (λ (l : List Standing). standing s ∷ l) r.0)),
        r.1 ∙ (ap (λ (l : List (ℕ × ℕ)). l ++ vain_steps frame.world w (map standing ss)) st.1 ∙ append_assoc was.looks (vain frame.world w (standing s)) (vain_steps frame.world w (map standing ss))),
      )

  still_one : (s : Stage) (a b : View Content Plan) (o : Option Stage) → ComesBy frame hasty w s a b false o → (map standing (left o) ≡ standing s ∷ []) × Grows a.looks b.looks
  still_one s a b o (inl x) = (stood s o x.0, (vain frame.world w (standing s), x.1))
  still_one s a b o (inr x) = (ap (λ (q : Option Stage). map standing (left q)) x.2, ([], ap (λ (v : View Content Plan). v.looks) x.3 ∙ sym (append-nil a.looks)))

  -- in haste too each stands where it stood
  pub sweeps_still : (ss rs : List Stage) (was is : View Content Plan) (moved : Bool) → moved ≡ false → Sweeps frame hasty w ss rs was is moved → (map standing rs ≡ map standing ss) × Grows was.looks is.looks
  sweeps_still [] rs was is moved off sw = (ap (λ (l : List Stage). map standing l) sw.0, ([], ap (λ (v : View Content Plan). v.looks) sw.1 ∙ sym (append-nil was.looks)))
  sweeps_still (s ∷ ss) rs was is moved off sw =
      let none : (sw.3 || sw.4) ≡ false = sym sw.9 ∙ off in
      let st = still_one s was sw.2 sw.0 (subst (λ (b : Bool). ComesBy frame hasty w s was sw.2 b sw.0) (first_not sw.3 sw.4 none) sw.5) in
      let r = sweeps_still ss sw.1 sw.2 is sw.4 (second_not sw.3 sw.4 none) sw.7 in (
        ap (λ (l : List Stage). map standing l) sw.8 ∙ (map-append standing (left sw.0) sw.1 ∙ (ap (λ (l : List Standing). l ++ map standing sw.1) st.0 ∙ ap (λ (l : List Standing). standing s ∷ l) r.0)),
        grows_on was.looks sw.2.looks is.looks st.1 r.1,
      )
