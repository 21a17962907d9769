-- What the routes of a platform keep in tables.
use Rattle.std.specs.Prelude.{◌≡◌, map}
use Rattle.platform_shape.specs.Shape.{IsShape}
use Rattle.route_plan.specs.declared.routes.Routes.TheInside.{Inside}
use Rattle.route_plan.specs.Routes.{ends_of, first_hops, numbered_windows}

pub record AreKept (r : Inside) : Type 0 where
  pub shape : IsShape r.platform
  pub windows : r.windows.items ≡ map numbered_windows r.platform.routers
  pub hops : r.first_hops.items ≡ first_hops r.platform
  pub ends : r.ends.items ≡ ends_of r.platform
