use Rattle.std.proofs.Common.{◌≡◌, ◌+◌, ◌<◌, sym, ap, ◌∙◌, length, arith, slice_get, Some, None, option_map, refl}
use Rattle.std.proofs.lemmas.Option.{slice_get_within}
use Rattle.tlm_model.specs.Route.{window_hop, window_of}
use Rattle.route_plan.specs.Routes.{next_step}
use Rattle.route_plan.proofs.NumberLemmas.{seen_by}
use Rattle.route_plan.proofs.StepLemmas.{decoded_by_row, first_kept, hop_fits, length-first_hops, no_step, port_is_there, router_there, stepped}
use Rattle.route_plan.proofs.routes.Routes.next_step.Goals as goal

pub returns-in_err-port : goal.returns-in_err-port
returns-in_err-port c =
    let there : slice_get c.self.inside.platform.routers c.in-Router.number ≡ Some c.in_ok-row.row.now = router_there c.self.inside.platform c.as_slice.result.now c.in-Router.number c.in_ok-row.row.now c.as_slice.ensures c.in_ok-row.ensures.lookup.3.0 c.in_ok-row.ensures.lookup.1 in
    let none : None ≡ option_map (seen_by c.args.step.address) (window_of 0 c.in_ok-row.row.now.windows c.args.step.address) =
    sym c.in_err-port.was ∙ decoded_by_row c.self.inside.platform c.in-Router.number c.in_ok-row.row.now c.self.inside.windows.items c.index.result.now c.args.step.address c.decode.result there c.self.invariant.windows c.index.ensures c.decode.ensures in
    c.from_residual-in_err-port.ensures ∙ sym (no_step c.self.inside.platform c.args.step c.in-Router.number c.in_ok-row.row.now c.in-Router.is there none) ∙ ap (λ p. next_step p c.args.step) c.self.view_is

pub index-requires-2 : goal.index-requires-2
index-requires-2 c =
    let there : slice_get c.self.inside.platform.routers c.in-Router.number ≡ Some c.in_ok-row.row.now = router_there c.self.inside.platform c.as_slice.result.now c.in-Router.number c.in_ok-row.row.now c.as_slice.ensures c.in_ok-row.ensures.lookup.3.0 c.in_ok-row.ensures.lookup.1 in
    let below : c.in-Router.number < length c.self.inside.platform.routers = slice_get_within c.self.inside.platform.routers c.in-Router.number c.in_ok-row.row.now there in
    omega (arith, below, ap length c.self.invariant.hops, length-first_hops c.self.inside.platform)

pub overflow_add-result : goal.overflow_add-result
overflow_add-result c =
    let there : slice_get c.self.inside.platform.routers c.in-Router.number ≡ Some c.in_ok-row.row.now = router_there c.self.inside.platform c.as_slice.result.now c.in-Router.number c.in_ok-row.row.now c.as_slice.ensures c.in_ok-row.ensures.lookup.3.0 c.in_ok-row.ensures.lookup.1 in
    let seen : Some (c.in_ok-port.port, c.in_ok-port.address) ≡ option_map (seen_by c.args.step.address) (window_of 0 c.in_ok-row.row.now.windows c.args.step.address) =
    sym c.in_ok-port.was ∙ decoded_by_row c.self.inside.platform c.in-Router.number c.in_ok-row.row.now c.self.inside.windows.items c.index.result.now c.args.step.address c.decode.result there c.self.invariant.windows c.index.ensures c.decode.ensures in
    let below : c.in-Router.number < length c.self.inside.platform.routers = slice_get_within c.self.inside.platform.routers c.in-Router.number c.in_ok-row.row.now there in
    let first : c.index-2.result.now ≡ window_hop c.self.inside.platform c.in-Router.number 0 = first_kept c.self.inside.platform c.in-Router.number c.index-2.result.now c.self.inside.first_hops.items below c.self.invariant.hops c.index-2.ensures in
    let port = port_is_there c.in_ok-row.row.now.windows c.args.step.address c.in_ok-port.port c.in_ok-port.address seen in
    let fits = hop_fits c.self.inside.platform c.in-Router.number c.in_ok-port.port c.in_ok-row.row.now c.self.invariant.shape.bounded there port in
    omega (arith, first, fits)

pub bounds-as_slice-port : goal.bounds-as_slice-port
bounds-as_slice-port c =
    let there : slice_get c.self.inside.platform.routers c.in-Router.number ≡ Some c.in_ok-row.row.now = router_there c.self.inside.platform c.as_slice.result.now c.in-Router.number c.in_ok-row.row.now c.as_slice.ensures c.in_ok-row.ensures.lookup.3.0 c.in_ok-row.ensures.lookup.1 in
    let seen : Some (c.in_ok-port.port, c.in_ok-port.address) ≡ option_map (seen_by c.args.step.address) (window_of 0 c.in_ok-row.row.now.windows c.args.step.address) =
    sym c.in_ok-port.was ∙ decoded_by_row c.self.inside.platform c.in-Router.number c.in_ok-row.row.now c.self.inside.windows.items c.index.result.now c.args.step.address c.decode.result there c.self.invariant.windows c.index.ensures c.decode.ensures in
    let port : c.in_ok-port.port < length c.in_ok-row.row.now.windows = port_is_there c.in_ok-row.row.now.windows c.args.step.address c.in_ok-port.port c.in_ok-port.address seen in
    omega (arith, port, ap length c.as_slice-2.ensures)

pub returns : goal.returns
returns c =
    let there : slice_get c.self.inside.platform.routers c.in-Router.number ≡ Some c.in_ok-row.row.now = router_there c.self.inside.platform c.as_slice.result.now c.in-Router.number c.in_ok-row.row.now c.as_slice.ensures c.in_ok-row.ensures.lookup.3.0 c.in_ok-row.ensures.lookup.1 in
    let seen : Some (c.in_ok-port.port, c.in_ok-port.address) ≡ option_map (seen_by c.args.step.address) (window_of 0 c.in_ok-row.row.now.windows c.args.step.address) =
    sym c.in_ok-port.was ∙ decoded_by_row c.self.inside.platform c.in-Router.number c.in_ok-row.row.now c.self.inside.windows.items c.index.result.now c.args.step.address c.decode.result there c.self.invariant.windows c.index.ensures c.decode.ensures in
    let below : c.in-Router.number < length c.self.inside.platform.routers = slice_get_within c.self.inside.platform.routers c.in-Router.number c.in_ok-row.row.now there in
    let first : c.index-2.result.now ≡ window_hop c.self.inside.platform c.in-Router.number 0 = first_kept c.self.inside.platform c.in-Router.number c.index-2.result.now c.self.inside.first_hops.items below c.self.invariant.hops c.index-2.ensures in
    stepped c.self.inside.platform c.args.step c.in-Router.number c.in_ok-port.port c.in_ok-port.address c.index-2.result.now (c.index-2.result.now + c.in_ok-port.port) c.saturating_add.result c.in_ok-row.row.now c.as_slice-2.result.now _ c.in-Router.is there seen first refl c.as_slice-2.ensures c.saturating_add.ensures
    ∙ ap (λ p. next_step p c.args.step) c.self.view_is
