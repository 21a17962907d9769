use Rattle.std.proofs.Common.{◌≡◌, ℕ, ◌*◌, ◌≤◌, ◌∙◌, None, ap, arith, refl, length}
use Rattle.std.specs.List.{range_with_len}
use Rattle.std.specs.Prelude.{vec_capacity}
use Rattle.tlm_model.specs.Route.{window_hop}
use Rattle.router_node.specs.Hops.{windows_of}
use Rattle.router_node.specs.declared.node.RouterNode.{RouterNode}
use Rattle.router_node.proofs.HopLists.{new_is}
use Rattle.router_node.proofs.node.RouterNode.new.Goals as goal

pub returns : goal.returns
returns g c =
    let p = c.plan-plan.result.now in
    let lanes = c.traits_of-traits.result.lanes in
    let r : RouterNode = record {
      router = c.args.router;
      first = c.first_window-first.result;
      accepts = c.traits_of-traits.result.accepts;
      latency = c.traits_of-traits.result.latency;
      above = c.in_ok-above.above;
      below = c.in_ok-below.below;
      held = c.in_ok-held.held;
      room = lanes * c.len.result;
      stray = None;
    } in
    let len : c.len.result ≡ length c.in_ok-above.above.items = omega (arith, c.len.ensures, c.in_ok-above.above.ok.0) in
    let below : c.in_ok-below.below.items ≡ windows_of p.platform c.args.router =
    c.in_ok-below.ensures ∙ (ap (λ (n : ℕ). range_with_len n c.count_of-count.result) c.first_window-first.ensures.first ∙ ap (λ (n : ℕ). range_with_len (window_hop p.platform c.args.router 0) n) c.count_of-count.ensures.count) in
    let room : lanes * c.len.result ≤ vec_capacity c.in_ok-held.held = omega (arith, c.in_ok-held.ensures.exact) in
    new_is g.N.Naming.frame g.N.Naming.tokens p r (c.plan-plan.ensures.plan ∙ c.plan-plan.ensures.world) c.requires c.first_window-first.ensures.first c.traits_of-traits.ensures.accepts c.traits_of-traits.ensures.latency c.in_ok-above.ensures.are below c.in_ok-held.ensures.items
    (ap (λ (n : ℕ). lanes * n) len ∙ ap (λ (n : ℕ). n * length c.in_ok-above.above.items) c.traits_of-traits.ensures.lanes) room refl
