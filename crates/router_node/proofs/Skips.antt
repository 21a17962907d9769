-- A step for those transactions alone that it may move.
use Rattle.std.proofs.Common.{◌≡◌, ℕ, zero, suc, ◌+◌, ◌-◌, ◌<◌, ◌≤◌, Bool, true, false, List, [], ◌∷◌, ◌++◌, length, drop, Some, refl, sym, ap, subst, ◌∙◌, inr, length-append, arith}
use Rattle.std.specs.Prelude.{◌||◌}
use Rattle.view_lists.specs.Lists.{Within}
use Rattle.one_history.specs.declared.view.Frame.{Frame}
use Rattle.one_history.specs.declared.view.View.{View}
use Rattle.tlm_types.specs.declared.entry.Content.{Content}
use Rattle.tlm_model.specs.Plan.{Plan}
use Rattle.router_node.specs.Node.{MovesAt, Sweeps}
use Rattle.router_node.specs.declared.stage.Stage.{Stage}
use Rattle.router_node.specs.declared.stage.Step.{Step}
use Rattle.router_node.proofs.Moving.{in_haste, left_out}
use Rattle.router_node.proofs.Sweeps.{IsPartSwept, or_none, part_end, part_here, part_next, part_start, split_at}

-- lists
within_drop : {A : Type 0} (xs : List A) (i : ℕ) → 0 < length (drop i xs) → i < length xs
within_drop [] zero some = absurd (omega (arith, some))
within_drop [] (suc i) some = absurd (omega (arith, some))
within_drop (x ∷ xs) zero some = omega arith
within_drop (x ∷ xs) (suc i) some = let r = within_drop xs i some in omega (arith, r)

module _ (frame : Frame Plan) (hasty : Bool) (w : Step) where
  -- in haste all may be left out
  pub all_left_out : (ss : List Stage) (v : View Content Plan) → hasty ≡ true → Sweeps frame hasty w ss ss v v false
  all_left_out [] v in_a_hurry = (refl, refl, refl)
  all_left_out (s ∷ ss) v in_a_hurry = (Some s, ss, v, false, false, inr (in_a_hurry, refl, refl, refl), (λ x has. has), all_left_out ss v in_a_hurry, refl, refl)

  -- The step was made with so many of these transactions at least, or they were left out, up to this place.
  pub record IsSweptOn (old : List Stage) (k at : ℕ) (now : List Stage) (was is : View Content Plan) (moved : Bool) : Type 0 where
    pub past : ℕ
    pub far : k ≤ past
    pub part : IsPartSwept frame hasty w old past at now was is moved

  pub on_start : (old : List Stage) (was : View Content Plan) → IsSweptOn old 0 0 old was was false
  on_start old was = record { past = 0; far = omega arith; part = part_start frame hasty w old was }

  -- the place is one of the line, or its end
  count_now : (old : List Stage) (i at : ℕ) (now : List Stage) (was is : View Content Plan) (moved : Bool) → IsPartSwept frame hasty w old i at now was is moved → length now ≡ at + length (drop i old)
  count_now old i at now was is moved p =
      let l : length now ≡ length p.done + length (drop i old) = ap (λ (l : List Stage). length l) p.line ∙ length-append p.done (drop i old) in
      let e = p.place in
      omega (arith, l, e)

  pub on_within : (old : List Stage) (k at : ℕ) (now : List Stage) (was is : View Content Plan) (moved : Bool) → IsSweptOn old k at now was is moved → at ≤ length now
  on_within old k at now was is moved s = let l = count_now old s.past at now was is moved s.part in omega (arith, l)

  here : (old : List Stage) (i at : ℕ) (now : List Stage) (was is : View Content Plan) (moved : Bool) → at < length now → IsPartSwept frame hasty w old i at now was is moved → i < length old
  here old i at now was is moved there p = let l = count_now old i at now was is moved p in within_drop old i (omega (arith, l, there))

  -- one more is left out
  skip_one : (old : List Stage) (k at : ℕ) (now : List Stage) (was is : View Content Plan) (moved : Bool) → hasty ≡ true → at < length now → IsSweptOn old k at now was is moved → IsSweptOn old k (at + 1) now was is moved
  skip_one old k at now was is moved in_a_hurry there s =
      let p = s.part in
      let below = here old s.past at now was is moved there p in
      let one = split_at old s.past below in
      let moves : MovesAt frame hasty w at now now is is (at + 1) false = left_out frame hasty w at now one.0 is in_a_hurry (record { before = p.done; rest = drop (suc s.past) old; line = p.line ∙ ap (λ (l : List Stage). p.done ++ l) one.1; place = p.place }) in
      record {
        past = s.past + 1;
        far = let f = s.far in omega (arith, f);
        part = part_next frame hasty w old s.past at (at + 1) now now was is is moved false moved (sym (or_none moved)) below p (λ x has. has) moves;
      }

  skip_some : (n : ℕ) (old : List Stage) (k at next : ℕ) (now : List Stage) (was is : View Content Plan) (moved : Bool) → hasty ≡ true → next ≡ at + n → next ≤ length now → IsSweptOn old k at now was is moved → IsSweptOn old k next now was is moved
  skip_some zero old k at next now was is moved in_a_hurry q within s = subst (λ (n : ℕ). IsSweptOn old k n now was is moved) (omega (arith, q)) s
  skip_some (suc n) old k at next now was is moved in_a_hurry q within s = skip_some n old k (at + 1) next now was is moved in_a_hurry (omega (arith, q)) within (skip_one old k at now was is moved in_a_hurry (omega (arith, q, within)) s)

  on_by : (h : Bool) (old : List Stage) (k at next : ℕ) (now : List Stage) (was is : View Content Plan) (moved : Bool) → hasty ≡ h → at ≤ next → next ≤ length now → (h ≡ false → next ≡ at) → IsSweptOn old k at now was is moved → IsSweptOn old k next now was is moved
  on_by true old k at next now was is moved q on within each s = skip_some (next - at) old k at next now was is moved q (omega (arith, on)) within s
  on_by false old k at next now was is moved q on within each s = subst (λ (n : ℕ). IsSweptOn old k n now was is moved) (sym (each refl)) s

  -- those up to the next place are left out
  pub on_to : (old : List Stage) (k at next : ℕ) (now : List Stage) (was is : View Content Plan) (moved : Bool) → at ≤ next → next ≤ length now → (hasty ≡ false → next ≡ at) → IsSweptOn old k at now was is moved → IsSweptOn old k next now was is moved
  on_to old k at next now was is moved on within each s = on_by hasty old k at next now was is moved refl on within each s

  -- the step is made with the one there
  pub on_more : (old : List Stage) (k at next : ℕ) (now new : List Stage) (was mid is : View Content Plan) (moved did flag : Bool) → flag ≡ (moved || did) → at < length now → IsSweptOn old k at now was mid moved → Within mid.known is.known → MovesAt frame false w at now new mid is next did → IsSweptOn old (k + 1) next new was is flag
  on_more old k at next now new was mid is moved did flag q there s more m =
      let f = s.far in
      record {
        past = s.past + 1;
        far = omega (arith, f);
        part = part_next frame hasty w old s.past at next now new was mid is moved did flag q (here old s.past at now was mid moved there s.part) s.part more (in_haste frame hasty w at now new mid is next did m);
      }

  -- at the end it was made with all
  pub on_end : (old : List Stage) (k at : ℕ) (now : List Stage) (was is : View Content Plan) (moved : Bool) → (k < length old → ⊥) → IsSweptOn old k at now was is moved → Sweeps frame hasty w old now was is moved
  on_end old k at now was is moved past s = let f = s.far in part_end frame hasty w old s.past at now was is moved (λ l. past (omega (arith, f, l))) s.part

  pub none_left : (old : List Stage) (k at : ℕ) (now : List Stage) (was is : View Content Plan) (moved : Bool) → (at < length now → ⊥) → IsSweptOn old k at now was is moved → Sweeps frame hasty w old now was is moved
  none_left old k at now was is moved past s = part_end frame hasty w old s.past at now was is moved (λ l. past (part_here frame hasty w old s.past at now was is moved l s.part)) s.part
