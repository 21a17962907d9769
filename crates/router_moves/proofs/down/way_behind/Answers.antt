use Rattle.std.proofs.Common.{◌≡◌, ℕ, ◌+◌, ◌<◌, ◌^◌, length, Some, None, sym, ◌∙◌, ap, subst, arith}
use Rattle.tlm_model.specs.Plan.{Plan}
use Rattle.tlm_model.specs.Route.{window_hop}
use Rattle.router_moves.specs.Items.{way_of}
use Rattle.router_moves.proofs.Windows.{decodes, decoded_fits, next_window, way_decoded}
use Rattle.router_moves.proofs.down.way_behind.Goals as goal

pub overflow_add-result : goal.overflow_add-result
overflow_add-result g c =
    let p = c.plan-plan.result.now in
    let same = c.plan-plan.ensures.plan in
    let first : c.args.first ≡ window_hop c.plan-plan.result.now.platform c.args.router 0 = subst (λ (q : Plan). c.args.first ≡ window_hop q.platform c.args.router 0) (sym same) c.requires.first in
    let below = subst (λ (q : Plan). c.args.router < length q.platform.routers) (sym same) c.requires.router in
    let fits : c.args.first + c.in-Some.port < 2 ^ 32 = subst (λ (n : ℕ). n + c.in-Some.port < 2 ^ 32) (sym first)
    (decoded_fits p c.args.router c.args.address c.in-Some.port c.in-Some.address c.windows.result.now c.platform.ensures.valid.shape.bounded below c.windows.ensures (sym c.decode.ensures ∙ c.in-Some.is)) in
    omega (arith, fits)

pub returns-in-Some : goal.returns-in-Some
returns-in-Some g c =
    let p = c.plan-plan.result.now in
    let same = c.plan-plan.ensures.plan in
    let first : c.args.first ≡ window_hop c.plan-plan.result.now.platform c.args.router 0 = subst (λ (q : Plan). c.args.first ≡ window_hop q.platform c.args.router 0) (sym same) c.requires.first in
    let below = subst (λ (q : Plan). c.args.router < length q.platform.routers) (sym same) c.requires.router in
    let is = sym c.decode.ensures ∙ c.in-Some.is in
    subst (λ (q : Plan). Some (record { hop = c.args.first + c.in-Some.port; address = c.in-Some.address }) ≡ way_of q c.args.router c.args.address) same
    (ap (λ (n : ℕ). Some (record { hop = n; address = c.in-Some.address })) (ap (λ (n : ℕ). n + c.in-Some.port) first ∙ next_window p.platform c.args.router c.in-Some.port)
    ∙ sym (decodes p c.args.router c.args.address c.windows.result.now below c.windows.ensures ∙ ap (way_decoded p.platform c.args.router) is))

pub returns-in-None : goal.returns-in-None
returns-in-None g c =
    let p = c.plan-plan.result.now in
    let same = c.plan-plan.ensures.plan in
    let below = subst (λ (q : Plan). c.args.router < length q.platform.routers) (sym same) c.requires.router in
    let is = sym c.decode.ensures ∙ c.in-None.is in
    subst (λ (q : Plan). None ≡ way_of q c.args.router c.args.address) same
    (sym (decodes p c.args.router c.args.address c.windows.result.now below c.windows.ensures ∙ ap (way_decoded p.platform c.args.router) is))
