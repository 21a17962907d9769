-- Gates that are given in turn.
use Rattle.std.proofs.Common.{◌≡◌, ℕ, ◌+◌, ◌<◌, ◌≤◌, Bool, true, false, cond, ◌||◌, List, [], ◌∷◌, ◌++◌, refl, subst, arith}
use Rattle.std.specs.Prelude.{nat_lt}
use Rattle.std.proofs.lemmas.Bool.{eq-eqb, eqb-true, ltb-true, ltb-false, or_left, or_right}
use Rattle.tlm_types.specs.declared.entry.Entry.{Entry}
use Rattle.tlm_types.specs.declared.entry.What.{What}
use Rattle.tlm_types.specs.declared.entry.What.TheVariants.{Access as Accessed, Granted, Invalidated, Closed, Call, Take, Acquire, Release}
use Rattle.tlm_model.specs.Each.{EachFrom}
use Rattle.good_history.specs.Grants.{gives, is_given, is_grant}
use Rattle.joined_traffic.specs.GateLog.{GivesAsManyGates, GivesNoOtherGates, TakesNextGate, grants_in}

abbrev weight : What → ℕ
weight w = cond (is_grant w) 1 0

grants_in-push : (before : List Entry) (x : Entry) → grants_in (before ++ x ∷ []) ≡ grants_in before + weight x.what
grants_in-push [] x = omega arith
grants_in-push (y ∷ before) x = let t = grants_in-push before x in omega (arith, t)

-- a grant, or none
given_here : (g : ℕ) (w : What) → gives g w ≡ true → (first : ℕ) (before : List Entry) → TakesNextGate first before w → (g ≡ first + grants_in before) × (weight w ≡ 1)
given_here g (Granted gate f l k) is first before next = let same = eqb-true gate g is in (omega (arith, same, next), refl)
given_here g (Accessed way a s got) is first before next = cc
given_here g (Invalidated f l) is first before next = cc
given_here g (Closed gate) is first before next = cc
given_here g (Call c a) is first before next = cc
given_here g (Take s) is first before next = cc
given_here g (Acquire s) is first before next = cc
given_here g (Release s f) is first before next = cc

gives_next : (w : What) (first : ℕ) (before : List Entry) → TakesNextGate first before w → weight w ≡ 1 → gives (first + grants_in before) w ≡ true
gives_next (Granted gate f l k) first before next one = eq-eqb gate (first + grants_in before) next
gives_next (Accessed way a s got) first before next one = absurd (omega (arith, one))
gives_next (Invalidated f l) first before next one = absurd (omega (arith, one))
gives_next (Closed gate) first before next one = absurd (omega (arith, one))
gives_next (Call c a) first before next one = absurd (omega (arith, one))
gives_next (Take s) first before next one = absurd (omega (arith, one))
gives_next (Acquire s) first before next one = absurd (omega (arith, one))
gives_next (Release s f) first before next one = absurd (omega (arith, one))

one_at_most : (w : What) → weight w ≤ 1
one_at_most w = by_test (is_grant w)
  where
    by_test : (b : Bool) → cond {A = ℕ} b 1 0 ≤ 1
    by_test true = omega arith
    by_test false = omega arith

each_given : (first : ℕ) (before xs : List Entry) → EachFrom (λ before e. TakesNextGate first before e.what) before xs → (k : ℕ) → grants_in before ≤ k → k < grants_in before + grants_in xs → is_given (first + k) xs ≡ true
each_given first before [] each k from below = absurd (omega (arith, from, below))
each_given first before (x ∷ xs) each k from below = by_end (nat_lt k (grants_in (before ++ x ∷ []))) refl (λ later. each_given first (before ++ x ∷ []) xs each.1 k later (let t = grants_in-push before x in omega (arith, t, below)))
  where
    by_end : (b : Bool) → nat_lt k (grants_in (before ++ x ∷ [])) ≡ b → (grants_in (before ++ x ∷ []) ≤ k → is_given (first + k) xs ≡ true) → (gives (first + k) x.what || is_given (first + k) xs) ≡ true
    by_end true early more =
        let less = ltb-true k (grants_in (before ++ x ∷ [])) early in
        let t = grants_in-push before x in
        let most = one_at_most x.what in
        let one : weight x.what ≡ 1 = omega (arith, less, t, from, most) in
        let same : grants_in before ≡ k = omega (arith, less, t, from, most) in
        or_left (gives (first + k) x.what) (is_given (first + k) xs) (subst (λ (n : ℕ). gives (first + n) x.what ≡ true) same (gives_next x.what first before each.0 one))
    by_end false late more = or_right (gives (first + k) x.what) (is_given (first + k) xs) (more (ltb-false k (grants_in (before ++ x ∷ [])) late))

pub gives_as_many : GivesAsManyGates
gives_as_many first log turn k below = each_given first [] log turn k (omega arith) (omega (arith, below))

none_given : (first : ℕ) (before xs : List Entry) → EachFrom (λ before e. TakesNextGate first before e.what) before xs → (g : ℕ) → is_given g xs ≡ true → g < first + (grants_in before + grants_in xs)
none_given first before [] each g is = cc
none_given first before (x ∷ xs) each g is = by_first (gives g x.what) refl is (λ rest. none_given first (before ++ x ∷ []) xs each.1 g rest)
  where
    by_first : (b : Bool) → gives g x.what ≡ b → (b || is_given g xs) ≡ true → (is_given g xs ≡ true → g < first + (grants_in (before ++ x ∷ []) + grants_in xs)) → g < first + (grants_in before + (weight x.what + grants_in xs))
    by_first true here is more = let t = given_here g x.what here first before each.0 in let a = t.0 in let b = t.1 in omega (arith, a, b)
    by_first false there is more = let t = more is in let u = grants_in-push before x in omega (arith, t, u)

pub gives_no_other : GivesNoOtherGates
gives_no_other first log turn g is = let t = none_given first [] log turn g is in omega (arith, t)
