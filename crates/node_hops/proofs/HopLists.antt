-- The hops that lead to a component.
use Rattle.std.proofs.Common.{◌≡◌, ℕ, zero, suc, ◌+◌, ◌<◌, ◌≤◌, Bool, true, false, List, [], ◌∷◌, ◌++◌, length, cond, Option, Some, None, refl, ap, length-append, arith}
use Rattle.std.specs.List.{AllByRecursion}
use Rattle.std.specs.Prelude.{IsSomeAnd, slice_get}
use Rattle.std.proofs.lemmas.Bool.{eqb-true}
use Rattle.tlm_model.specs.declared.platform.Platform.{Platform}
use Rattle.tlm_model.specs.declared.platform.Target.{Target}
use Rattle.tlm_model.specs.declared.platform.Target.TheVariants.{Memory, Router}
use Rattle.tlm_model.specs.Plan.{Plan}
use Rattle.route_plan.specs.declared.ends.HopEnds.{HopEnds}
use Rattle.route_plan.specs.Routes.{ends_of}
use Rattle.route_plan.specs.Valid.{hop_count}
use Rattle.plat_net.specs.Places.{LeadsTo}
use Rattle.node_hops.specs.Hops.{IsHopTo, ends_lead, hops_below, hops_to, is_target, leads_to}

-- one more hop
pub hops_next : (p : Platform) (to : Target) (n : ℕ) → hops_below p to (n + 1) ≡ hops_below p to n ++ cond (leads_to p n to) (n ∷ []) []
hops_next p to n = ap (hops_below p to) (one_on n)
  where
    one_on : (n : ℕ) → n + 1 ≡ suc n
    one_on n = omega arith

-- after the last one there are all
pub hops_whole : (p : Platform) (to : Target) (n : ℕ) → n ≤ hop_count p → (n < hop_count p → ⊥) → hops_below p to n ≡ hops_to p to
hops_whole p to n below past = ap (hops_below p to) (same n (hop_count p) below past)
  where
    same : (n m : ℕ) → n ≤ m → (n < m → ⊥) → n ≡ m
    same n m below past = omega (arith, below, past)

-- a hop that leads there is one to it
lead : (p : Platform) (hop : ℕ) (to : Target) → leads_to p hop to ≡ true → LeadsTo p hop to
lead p hop to q = go (slice_get (ends_of p) hop) q
  where
    by : (one other : Target) → is_target one other ≡ true → one ≡ other
    by (Memory m) (Memory n) q = ap Memory (eqb-true m n q)
    by (Router r) (Router k) q = ap Router (eqb-true r k q)
    by (Memory m) (Router k) q = cc
    by (Router r) (Memory n) q = cc

    go : (o : Option HopEnds) → ends_lead o to ≡ true → IsSomeAnd o (λ (e : HopEnds). e.down ≡ to)
    go None q = cc
    go (Some e) q = by e.down to q

all_append : {A : Type 0} (P : A → Type 0) (xs ys : List A) → AllByRecursion P xs → AllByRecursion P ys → AllByRecursion P (xs ++ ys)
all_append P [] ys a b = b
all_append P (x ∷ xs) ys a b = (a.0, all_append P xs ys a.1 b)

-- each of these is a hop that leads there
below_lead : (p : Plan) (to : Target) (n : ℕ) → n ≤ hop_count p.platform → AllByRecursion (λ (h : ℕ). IsHopTo p to h) (hops_below p.platform to n)
below_lead p to zero below = tt
below_lead p to (suc n) below = all_append (λ (h : ℕ). IsHopTo p to h) (hops_below p.platform to n) (cond (leads_to p.platform n to) (n ∷ []) []) (below_lead p to n (omega (arith, below))) (one (leads_to p.platform n to) refl)
  where
    one : (b : Bool) → leads_to p.platform n to ≡ b → AllByRecursion (λ (h : ℕ). IsHopTo p to h) (cond b (n ∷ []) [])
    one true q = (record { there = omega (arith, below); leads = lead p.platform n to q }, tt)
    one false q = tt

pub all_lead : (p : Plan) (to : Target) → AllByRecursion (λ (h : ℕ). IsHopTo p to h) (hops_to p.platform to)
all_lead p to = below_lead p to (hop_count p.platform) (same (hop_count p.platform))
  where
    same : (n : ℕ) → n ≤ n
    same n = omega arith

-- there are no more than hops
pub few_lead : (p : Platform) (to : Target) (n : ℕ) → length (hops_below p to n) ≤ n
few_lead p to zero = omega arith
few_lead p to (suc n) =
    let rest = few_lead p to n in
    let l = length-append (hops_below p to n) (cond (leads_to p n to) (n ∷ []) []) in
    let o = one (leads_to p n to) n in
    omega (arith, rest, l, o)
  where
    one : (b : Bool) (n : ℕ) → length (cond b (n ∷ []) []) ≤ 1
    one true n = omega arith
    one false n = omega arith
