use Rattle.std.proofs.Common.{◌≡◌, ◌+◌, ◌^◌, ◌<◌, List, ap, ◌∙◌, length, length-take, sum_by, take, arith}
use Rattle.tlm_model.specs.declared.platform.Platform.{Platform}
use Rattle.tlm_model.specs.declared.platform.RouterRow.{RouterRow}
use Rattle.route_plan.proofs.NumberLemmas.{hop_sum_fits, window_hop-le}
use Rattle.router_node.proofs.Sweeps.{take_past}
use Rattle.router_node.proofs.making.first_window.Goals as goal

pub overflow_add-hop : goal.overflow_add-hop
overflow_add-hop c =
    let fits : c.loop-row.hop + length c.as_slice-in-loop-row.result.now < 2 ^ 32 =
    hop_sum_fits c.args.plan.now.platform c.args.router c.loop-row.row-index c.loop-row.hop (length c.as_slice-in-loop-row.result.now) (take c.args.router c.as_slice-2.result.now) c.row-item.result c.platform-platform.ensures.valid.shape.bounded
    (ap (λ (l : List RouterRow). take c.args.router l) (c.as_slice-2.ensures ∙ ap (λ (x : Platform). x.routers) c.platform-platform.ensures.same)) c.loop-row-test.true c.row-item.is c.loop-row.invariant (ap length c.as_slice-in-loop-row.ensures) in
    omega (arith, fits)

pub returns-clause-small : goal.returns-clause-small
returns-clause-small c =
    let p = c.args.plan.now.platform in
    let r = c.args.router in
    let bounded = c.platform-platform.ensures.valid.shape.bounded in
    let earlier = take r c.as_slice-2.result.now in
    let all = take_past earlier c.loop-row.row-index (λ l. absurd (let t = c.loop-row-test.false in omega (arith, l, t))) in
    let rows : take r c.as_slice-2.result.now ≡ take r p.routers = ap (λ (l : List RouterRow). take r l) (c.as_slice-2.ensures ∙ ap (λ (x : Platform). x.routers) c.platform-platform.ensures.same) in
    let hop : c.loop-row.hop ≡ length p.initiators + sum_by (λ (row : RouterRow). length row.windows) (take r p.routers) = c.loop-row.invariant ∙ ap (λ (l : List RouterRow). length p.initiators + sum_by (λ (row : RouterRow). length row.windows) l) (all ∙ rows) in
    omega (arith, hop, window_hop-le p r bounded, length-take r p.routers, bounded.router_count)
