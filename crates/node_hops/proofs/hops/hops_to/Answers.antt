use Rattle.std.proofs.Common.{◌<◌, arith, rules, ap, sym, ◌∙◌, ◌++◌, List, ℕ, cond, [], ◌∷◌, length}
use Rattle.route_plan.specs.Valid.{hop_count}
use Rattle.plat_net.proofs.ObjectLemmas.{few_hops}
use Rattle.node_hops.specs.Hops.{leads_to}
use Rattle.node_hops.proofs.HopLists.{few_lead, hops_next, hops_whole}
use Rattle.node_hops.proofs.hops.hops_to.Goals as goal

pub overflow_add-hop : goal.overflow_add-hop
overflow_add-hop c =
    let few = few_hops c.args.plan.now.platform c.platform.ensures.valid.shape.bounded in
    let below : c.hops.hop < hop_count c.args.plan.now.platform = c.hop_ends.ensures.there.0 (search (rules, c.is_some.ensures, c.hops-test.true)) in
    omega (arith, few, below)

pub hops-preserved : goal.hops-preserved
hops-preserved c =
    let p = c.args.plan.now.platform in
    let here = cond (leads_to p c.hops.hop c.args.to) (c.hops.hop ∷ []) [] in
    let below : c.hops.hop < hop_count p = c.hop_ends.ensures.there.0 (search (rules, c.is_some.ensures, c.hops-test.true)) in
    record {
      hops_are = c.in_ok-push_leading.ensures ∙ (ap (λ (l : List ℕ). l ++ here) c.hops.invariant.hops_are ∙ sym (hops_next p c.args.to c.hops.hop));
      below = omega (arith, below);
    }

pub returns-clause-are : goal.returns-clause-are
returns-clause-are c =
    let p = c.args.plan.now.platform in
    let past : c.hops.hop < hop_count p → ⊥ = λ below. absurd (let some = c.hop_ends.ensures.there.1 below in search (rules, c.is_some.ensures, c.hops-test.false, some)) in
    c.hops.invariant.hops_are ∙ hops_whole p c.args.to c.hops.hop c.hops.invariant.below past

pub returns-clause-few : goal.returns-clause-few
returns-clause-few c =
    let p = c.args.plan.now.platform in
    let few = few_hops p c.platform.ensures.valid.shape.bounded in
    let at = ap (λ (l : List ℕ). length l) c.hops.invariant.hops_are in
    let l = few_lead p c.args.to c.hops.hop in
    let below = c.hops.invariant.below in
    omega (arith, few, at, l, below)
