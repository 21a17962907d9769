use Rattle.std.proofs.Common.{◌≡◌, ℕ, ◌<◌, List, length, get_or, Some, ap, sym, subst, ◌∙◌, arith}
use Rattle.std.specs.Prelude.{slice_get, IsTrue}
use Rattle.std.proofs.lemmas.Option.{get_or_from_slice_get}
use Rattle.tlm_model.specs.declared.platform.Platform.{Platform}
use Rattle.tlm_model.specs.declared.platform.RouterRow.{RouterRow}
use Rattle.tlm_model.specs.declared.platform.Target.TheVariants.{Router}
use Rattle.tlm_model.specs.declared.platform.WindowRow.{WindowRow}
use Rattle.platform_model.specs.Bounded.{IsBoundedRouter, is_there}
use Rattle.plat_build.proofs.HopLemmas.{next_router, window_next}
use Rattle.plat_net.proofs.Lookups.{get_at, row_at, short_at}
use Rattle.plat_build.proofs.hops.push_windows.Goals as goal

pub push_hop-requires-clause-next : goal.push_hop-requires-clause-next
push_hop-requires-clause-next g c =
    let p = c.args.plan.now.platform in
    let r = c.args.router in
    let row = c.index-as_slice-router.result in
    let rows = c.as_slice.ensures ∙ ap (λ (x : Platform). x.routers) c.platform.ensures.same in
    let below : r < length c.as_slice.result.now = omega (arith, ap length rows, c.requires.router) in
    let at : slice_get p.routers r ≡ Some row = row_at c.as_slice.result.now p.routers r row rows below c.index-as_slice-router.is in
    let windows : c.as_slice-window-items.result.now ≡ row.windows = c.as_slice-window-items.ensures ∙ ap (λ (x : RouterRow). x.windows) (sym c.index-as_slice-router.is) in
    let k = c.loop-window.window-index in
    let none : WindowRow = record { first = 0; last = 0; to = Router 0; base = 0 } in
    let window : WindowRow = get_or c.as_slice-window-items.result.now k none in
    let in_windows : k < length c.as_slice-window-items.result.now = c.loop-window-test.true in
    let here : slice_get row.windows k ≡ Some window = ap (λ (l : List WindowRow). slice_get l k) (sym windows) ∙ get_at c.as_slice-window-items.result.now k none in_windows in
    let router : IsBoundedRouter p row = subst (IsBoundedRouter p) (get_or_from_slice_get p.routers r row row at) (c.platform.ensures.valid.shape.bounded.routers r row (short_at p.routers r row at)) in
    let there : IsTrue (is_there p window.to) = subst (λ (v : WindowRow). IsTrue (is_there p v.to)) (get_or_from_slice_get row.windows k window window here) (router.targets k window (short_at row.windows k window here)) in
    window_next p r k (length c.loop-window.hops.items) row window at here c.loop-window.invariant.first there
