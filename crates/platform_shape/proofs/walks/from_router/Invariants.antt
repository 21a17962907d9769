use Rattle.std.proofs.Common.{◌≡◌, ◌+◌, take, sum_by}
use Rattle.tlm_model.specs.declared.platform.Target.TheVariants.{Router}
use Rattle.platform_shape.specs.Walks.{standing, few, walks_of}
use Rattle.platform_shape.proofs.walks.from_router.Given as goal

abbrev pub invariant-loop-window : goal.invariant-loop-window
invariant-loop-window l =
    l.count ≡ few (standing l.walks (l.windows + 1) (Router l.router) + sum_by (λ v. walks_of l.walks l.windows l.platform v.to) (take l.window-index l.leading))
