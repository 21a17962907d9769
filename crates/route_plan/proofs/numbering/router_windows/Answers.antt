use Rattle.std.proofs.Common.{◌≡◌, subst, sym}
use Rattle.addr_router.specs.Windows.{IsValid}
use Rattle.route_plan.specs.Routes.{numbered_windows}
use Rattle.route_plan.proofs.NumberLemmas.{kept_windows, numbered_are_valid}
use Rattle.route_plan.proofs.numbering.router_windows.Goals as goal

pub unwrap-requires : goal.unwrap-requires
unwrap-requires c =
    let same : c.in_ok-windows.windows.items ≡ numbered_windows c.args.router.now = kept_windows c.args.router.now c.as_slice.result.now c.in_ok-windows.windows.items c.as_slice.ensures c.in_ok-windows.ensures in
    c.new.ensures.valid.1 (subst IsValid (sym same) (numbered_are_valid c.args.router.now c.requires.valid))
