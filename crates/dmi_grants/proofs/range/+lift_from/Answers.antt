use Rattle.std.proofs.Common.{◌≡◌, ℕ, ◌<◌, length, Option, Some, None, sym, ap, ◌∙◌, arith}
use Rattle.std.specs.Prelude.{option_and_then}
use Rattle.std.proofs.lemmas.Option.{slice_get_within}
use Rattle.addr_router.specs.Windows.{cut_up}
use Rattle.platform_model.specs.Windows.{window_at}
use Rattle.tlm_model.specs.declared.platform.Platform.{Platform}
use Rattle.dmi_grants.proofs.Lifting.{decoded_at, kept_for, lifted_default, lifted_none, lifted_nowhere, lifted_through, not_decoded, one_window, router_at, up_by}
use Rattle.dmi_grants.proofs.range.+lift_from.Goals as goal

pub returns-then-left-eq0 : goal.returns-then-left-eq0
returns-then-left-eq0 t c = sym (lifted_none c.args.plan.now.platform c.args.target c.args.address c.args.left (c.args.first, c.args.last) c.if-left-eq0.true)

pub returns-in_default : goal.returns-in_default
returns-in_default t c = sym (lifted_default c.args.plan.now.platform c.args.target c.args.address c.args.left (c.args.first, c.args.last) (let n = c.if-left-eq0.false in omega arith) c.in_default.not-Router)

pub returns-in_err-port : goal.returns-in_err-port
returns-in_err-port t c =
    let p = c.args.plan.now.platform in
    let row = c.index-as_slice-router.result in
    let there = router_at p c.args.target c.in-Router.router c.as_slice.result.now row c.requires c.in-Router.is (c.as_slice.ensures ∙ ap (λ (q : Platform). q.routers) c.platform.ensures.same) c.index-as_slice-router.is in
    let kept = kept_for p c.in-Router.router row c.windows-windows.result.now there c.windows-windows.ensures in
    c.from_residual.ensures ∙ sym (lifted_nowhere p c.args.target c.in-Router.router c.args.address c.args.left row (c.args.first, c.args.last) (let n = c.if-left-eq0.false in omega arith) c.in-Router.is there
    (not_decoded row c.windows-windows.result.now c.args.address kept (sym c.decode.ensures ∙ c.in_err-port.was)))

pub bounds-as_slice-port : goal.bounds-as_slice-port
bounds-as_slice-port t c =
    let p = c.args.plan.now.platform in
    let row = c.index-as_slice-router.result in
    let there = router_at p c.args.target c.in-Router.router c.as_slice.result.now row c.requires c.in-Router.is (c.as_slice.ensures ∙ ap (λ (q : Platform). q.routers) c.platform.ensures.same) c.index-as_slice-router.is in
    let kept = kept_for p c.in-Router.router row c.windows-windows.result.now there c.windows-windows.ensures in
    let found = decoded_at row c.windows-windows.result.now c.args.address c.in_ok-port.port c.in_ok-port.seen kept (sym c.decode.ensures ∙ c.in_ok-port.was) in
    let below : c.in_ok-port.port < length row.windows = slice_get_within row.windows c.in_ok-port.port found.0.window found.1.at in
    omega (arith, below, ap length c.as_slice-2.ensures)

pub returns-in_err-low : goal.returns-in_err-low
returns-in_err-low t c =
    let p = c.args.plan.now.platform in
    let row = c.index-as_slice-router.result in
    let there = router_at p c.args.target c.in-Router.router c.as_slice.result.now row c.requires c.in-Router.is (c.as_slice.ensures ∙ ap (λ (q : Platform). q.routers) c.platform.ensures.same) c.index-as_slice-router.is in
    let kept = kept_for p c.in-Router.router row c.windows-windows.result.now there c.windows-windows.ensures in
    let found = decoded_at row c.windows-windows.result.now c.args.address c.in_ok-port.port c.in_ok-port.seen kept (sym c.decode.ensures ∙ c.in_ok-port.was) in
    let none : None ≡ c.lift_from.result = sym c.in_err-low.was in
    c.from_residual-in_err-low.ensures
    ∙ ap (λ (o : Option (ℕ × ℕ)). option_and_then (λ (x : ℕ × ℕ). cut_up (window_at found.0.index found.0.window) x.0 x.1) o) none
    ∙ lifted_through p c.args.target c.in-Router.router c.args.address c.args.left row found.0 (c.args.first, c.args.last) c.in_ok-port.port c.in_ok-port.seen c.as_slice-2.result.now _ c.lift_from.result (let n = c.if-left-eq0.false in omega arith) c.in-Router.is there found.1 c.as_slice-2.ensures c.lift_from.ensures

pub translate_up-requires : goal.translate_up-requires
translate_up-requires t c =
    let p = c.args.plan.now.platform in
    let row = c.index-as_slice-router.result in
    let there = router_at p c.args.target c.in-Router.router c.as_slice.result.now row c.requires c.in-Router.is (c.as_slice.ensures ∙ ap (λ (q : Platform). q.routers) c.platform.ensures.same) c.index-as_slice-router.is in
    let kept = kept_for p c.in-Router.router row c.windows-windows.result.now there c.windows-windows.ensures in
    let found = decoded_at row c.windows-windows.result.now c.args.address c.in_ok-port.port c.in_ok-port.seen kept (sym c.decode.ensures ∙ c.in_ok-port.was) in
    one_window c.each_row_has_its_window.ensures row c.windows-windows.result.now c.args.address c.in_ok-port.port c.in_ok-port.seen found.0 kept found.1

pub returns : goal.returns
returns t c =
    let p = c.args.plan.now.platform in
    let row = c.index-as_slice-router.result in
    let there = router_at p c.args.target c.in-Router.router c.as_slice.result.now row c.requires c.in-Router.is (c.as_slice.ensures ∙ ap (λ (q : Platform). q.routers) c.platform.ensures.same) c.index-as_slice-router.is in
    let kept = kept_for p c.in-Router.router row c.windows-windows.result.now there c.windows-windows.ensures in
    let found = decoded_at row c.windows-windows.result.now c.args.address c.in_ok-port.port c.in_ok-port.seen kept (sym c.decode.ensures ∙ c.in_ok-port.was) in
    let some : Some (c.in_ok-low.low, c.in_ok-low.high) ≡ c.lift_from.result = sym c.in_ok-low.was in
    c.translate_up.ensures
    ∙ up_by row c.windows-windows.result.now c.args.address c.in_ok-port.port c.in_ok-port.seen c.in_ok-low.low c.in_ok-low.high found.0 kept found.1
    ∙ ap (λ (o : Option (ℕ × ℕ)). option_and_then (λ (x : ℕ × ℕ). cut_up (window_at found.0.index found.0.window) x.0 x.1) o) some
    ∙ lifted_through p c.args.target c.in-Router.router c.args.address c.args.left row found.0 (c.args.first, c.args.last) c.in_ok-port.port c.in_ok-port.seen c.as_slice-2.result.now _ c.lift_from.result (let n = c.if-left-eq0.false in omega arith) c.in-Router.is there found.1 c.as_slice-2.ensures c.lift_from.ensures
