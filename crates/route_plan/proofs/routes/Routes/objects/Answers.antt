use Rattle.std.proofs.Common.{length, ap, ◌∙◌, arith}
use Rattle.route_plan.specs.Places.{object_count}
use Rattle.route_plan.proofs.NumberLemmas.{length-ends_of}
use Rattle.route_plan.proofs.routes.Routes.objects.Goals as goal

pub returns : goal.returns
returns c =
    let p = c.self.inside.platform in
    omega (arith, ap length c.as_slice.ensures, ap length c.as_slice-2.ensures, c.len.ensures, ap length c.self.invariant.ends, length-ends_of p) ∙ ap object_count c.self.view_is
