use Rattle.std.proofs.Common.{◌≡◌, ℕ, ◌*◌, ◌∙◌, None, ap, arith, refl, length}
use Rattle.target_node.specs.declared.node.TargetNode.{TargetNode}
use Rattle.target_node.proofs.HopLists.{new_is}
use Rattle.target_node.proofs.node.TargetNode.new.Goals as goal

pub returns : goal.returns
returns g c =
    let p = c.plan-plan.result.now in
    let t : TargetNode = record { memory = c.args.memory; hops = c.in_ok-hops.hops; accepts = c.traits_of-traits.result.accepts; latency = c.traits_of-traits.result.latency; queue = c.in_ok-queue.queue; held = None } in
    let len : c.len.result ≡ length c.in_ok-hops.hops.items = omega (arith, c.len.ensures, c.in_ok-hops.hops.ok.0) in
    new_is g.N.Naming.frame g.N.Naming.tokens p t (c.traits_of-traits.result.lanes * c.len.result) (c.plan-plan.ensures.plan ∙ c.plan-plan.ensures.world) c.requires c.in_ok-hops.ensures.are c.traits_of-traits.ensures.accepts c.traits_of-traits.ensures.latency
    c.in_ok-queue.ensures (ap (λ (n : ℕ). c.traits_of-traits.result.lanes * n) len ∙ ap (λ (n : ℕ). n * length c.in_ok-hops.hops.items) c.traits_of-traits.ensures.lanes) refl
