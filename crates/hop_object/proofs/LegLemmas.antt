-- A leg and its lane agree, and what is out of the book of the legs.
use Rattle.std.proofs.Common.{◌≡◌, ℕ, ◌+◌, ◌*◌, ◌<◌, ◌≤◌, ◌==◌, ◌&&◌, Bool, true, false, cond, [], ◌∷◌, Option, Some, None, refl, sym, ap, subst, ◌∙◌, arith, List}
use Rattle.std.specs.Prelude.{◌%◌, is_none}
use Rattle.std.specs.List.{count_by}
use Rattle.std.proofs.lemmas.Bool.{eqb-true}
use Rattle.base_phases.specs.declared.phases.LaneState.{LaneState}
use Rattle.base_phases.specs.declared.phases.LaneState.TheVariants.{Free, Requested, Waiting, Responding}
use Rattle.token_book.specs.Account.{Account, Slip, out_of, issued, retired}
use Rattle.token_book.proofs.Amounts.{out_of-put_out, out_of-struck_off}
use Rattle.hop_object.specs.declared.lane.Lane.{Lane}
use Rattle.hop_object.specs.States.{number_of_state}
use Rattle.hop_object.specs.Lanes.{leg_name, legs_out, has_leg, step_lane}
use Rattle.hop_object.specs.Hops.{leg_changed}

pub both : (a b : Bool) → a && b ≡ true → (a ≡ true) × (b ≡ true)
both true b e = (refl, e)
both false b e = cc

none_is : {X : Type 0} (o : Option X) → is_none o ≡ true → o ≡ None
none_is None e = refl
none_is (Some x) e = cc

state_is : (s : LaneState) (k : ℕ) → number_of_state s ≡ k → (t : LaneState) → number_of_state t ≡ k → s ≡ t
state_is Free k e Free f = refl
state_is Requested k e Requested f = refl
state_is Waiting k e Waiting f = refl
state_is Responding k e Responding f = refl
state_is s k e t f = absurd (omega arith)

pub small : (s : LaneState) → number_of_state s < 4
small Free = omega arith
small Requested = omega arith
small Waiting = omega arith
small Responding = omega arith

-- what is out of each name after one of a name was issued, or given back
pub out_issued : (n : ℕ) (b : Account) (m : ℕ) → out_of n (issued b m 1).out ≡ out_of n b.out + cond {A = ℕ} (m == n) 1 0
out_issued n b m = out_of-put_out 0 n m 1 b.out

pub out_retired : (n : ℕ) (b : Account) (t : Slip) → t.amount ≡ 1 → 1 ≤ out_of t.name b.out → out_of n (retired b t).out + cond {A = ℕ} (t.name == n) 1 0 ≡ out_of n b.out
out_retired n b t one was =
    let h = out_of-struck_off 0 n t.name t.amount b.out (omega arith) in
    ap (λ (k : ℕ). out_of n (retired b t).out + cond {A = ℕ} (t.name == n) k 0) (sym one) ∙ h

module _ {T : Type 0} where
  -- the lane of a leg carries nothing, and its name is the leg's
  pub leg_parts : (n : ℕ) (l : Lane T) → has_leg n l ≡ true → (l.item ≡ None) × (leg_name l ≡ n)
  leg_parts n l h = let b = both (is_none l.item) (leg_name l == n) h in (none_is l.item b.0, eqb-true (leg_name l) n b.1)

  -- a leg that was taken back was out, so a lane has it
  pub leg_is_out : (leg taken : Slip) (name : ℕ) (book : Account) (lanes : List (Lane T)) → name ≡ leg.name → taken ≡ leg → leg.amount ≡ 1 → taken.amount ≤ out_of taken.name book.out → ((n : ℕ) → out_of n book.out ≡ legs_out n lanes) → 1 ≤ legs_out name lanes
  leg_is_out leg taken name book lanes n is one was legs =
      let h : leg.amount ≤ out_of leg.name book.out = subst (λ (s : Slip). s.amount ≤ out_of s.name book.out) is was in
      let q = legs leg.name in
      subst (λ (k : ℕ). 1 ≤ legs_out k lanes) (sym n) (omega (arith, h, q, one))

  -- its state is that of the leg
  pub leg_state : (n : ℕ) (l : Lane T) (s : LaneState) → has_leg n l ≡ true → n % 4 ≡ number_of_state s → l.state ≡ s
  leg_state n l s h e =
      let is = (leg_parts n l h).1 in
      let a = small l.state in
      let b = small s in
      state_is l.state (number_of_state s) (omega arith) s refl

  -- a lane that carries nothing has one leg
  leg_count : (n m : ℕ) (l : Lane T) → has_leg m l ≡ true → cond {A = ℕ} (has_leg n l) 1 0 ≡ cond {A = ℕ} (m == n) 1 0
  leg_count n m l h = let p = leg_parts m l h in ap (λ (o : Option T). cond {A = ℕ} (is_none o && (leg_name l == n)) 1 0) p.0 ∙ ap (λ (k : ℕ). cond {A = ℕ} (k == n) 1 0) p.1

  -- the legs after one was given for the next
  pub legs_changed : (book : Account) (leg : Slip) (lane : Lane T) (state : LaneState) (last latest : ℕ) → leg.amount ≡ 1 → 1 ≤ out_of leg.name book.out → has_leg leg.name lane ≡ true → (n : ℕ) → out_of n (leg_changed book leg lane state).out + cond {A = ℕ} (has_leg n lane) 1 0 ≡ out_of n book.out + count_by (has_leg n) (step_lane lane state last latest None ∷ [])
  legs_changed book leg lane state last latest one was has n =
      let a = out_issued n (retired book leg) (4 * lane.position + number_of_state state) in
      let b = out_retired n book leg one was in
      let c = leg_count n leg.name lane has in
      omega arith

  -- the legs after one was given back
  pub legs_ended : (book : Account) (leg : Slip) (lane : Lane T) → leg.amount ≡ 1 → 1 ≤ out_of leg.name book.out → has_leg leg.name lane ≡ true → (n : ℕ) → out_of n (retired book leg).out + cond {A = ℕ} (has_leg n lane) 1 0 ≡ out_of n book.out
  legs_ended book leg lane one was has n =
      let b = out_retired n book leg one was in
      let c = leg_count n leg.name lane has in
      omega arith
