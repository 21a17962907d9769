-- Lanes as the model sees them.
use Rattle.std.proofs.Common.{◌≡◌, suc, ◌≤◌, Bool, false, ◌||◌, List, [], ◌∷◌, ◌++◌, length, refl, sym, ap, ◌∙◌, arith, append_assoc}
use Rattle.std.specs.List.{list_any}
use Rattle.base_phases.specs.declared.phases.LaneState.{LaneState}
use Rattle.base_phases.specs.declared.phases.LaneState.TheVariants.{Free, Requested, Waiting, Responding}
use Rattle.flow_model.specs.Board.{Open, any_in}
use Rattle.hop_object.specs.declared.lane.Lane.{Lane}
use Rattle.hop_object.specs.Lanes.{open_by, opens}

module _ {T : Type 0} where
  pub opens-append : (xs ys : List (Lane T)) → opens (xs ++ ys) ≡ opens xs ++ opens ys
  opens-append [] ys = refl
  opens-append (x ∷ xs) ys = ap (λ (t : List Open). open_by x x.state ++ t) (opens-append xs ys) ∙ sym (append_assoc (open_by x x.state) (opens xs) (opens ys))

  -- a test that a free lane fails sees the same in both
  any-by : (p : LaneState → Bool) → p Free ≡ false → (x : Lane T) (s : LaneState) (os : List Open) → any_in p (open_by x s ++ os) ≡ p s || any_in p os
  any-by p none x Free os = ap (λ (b : Bool). b || any_in p os) (sym none)
  any-by p none x Requested os = refl
  any-by p none x Waiting os = refl
  any-by p none x Responding os = refl

  pub any-opens : (p : LaneState → Bool) → p Free ≡ false → (ls : List (Lane T)) → any_in p (opens ls) ≡ list_any (λ (l : Lane T). p l.state) ls
  any-opens p none [] = refl
  any-opens p none (x ∷ xs) = any-by p none x x.state (opens xs) ∙ ap (λ (b : Bool). p x.state || b) (any-opens p none xs)

  length-by : (x : Lane T) (s : LaneState) (os : List Open) → length (open_by x s ++ os) ≤ suc (length os)
  length-by x Free os = omega arith
  length-by x Requested os = omega arith
  length-by x Waiting os = omega arith
  length-by x Responding os = omega arith

  pub length-opens : (ls : List (Lane T)) → length (opens ls) ≤ length ls
  length-opens [] = omega arith
  length-opens (x ∷ xs) = let h = length-opens xs in let k = length-by x x.state (opens xs) in omega arith
