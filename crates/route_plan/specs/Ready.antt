-- What a plan keeps.
use Rattle.std.specs.Prelude.{◌≡◌}
use Rattle.route_plan.specs.declared.plans.Plan.TheInside.{Inside}
use Rattle.route_plan.specs.Shares.{shares_of, with_scripts}
use Rattle.route_plan.specs.Valid.{IsValid}

pub record IsReady (p : Inside) : Type 0 where
  -- the platform with its scripts is a valid plan
  pub valid : IsValid (with_scripts p.routes p.scripts)
  -- what each initiator may add is counted
  pub shares : p.shares ≡ shares_of (with_scripts p.routes p.scripts)
