use Rattle.std.proofs.Common.{◌≡◌, ◌+◌, length, sym, ap, ◌∙◌, arith}
use Rattle.tlm_types.specs.declared.words.ObjectNo.TheVariants.{Pool}
use Rattle.route_plan.specs.Places.{object_place}
use Rattle.route_plan.proofs.NumberLemmas.{length-ends_of}
use Rattle.route_plan.proofs.routes.Routes.place.Goals as goal

pub returns-in-Pool : goal.returns-in-Pool
returns-in-Pool c =
    let p = c.self.inside.platform in
    let sum : length c.as_slice-memories.result.now + c.len.result + c.in-Pool.initiator ≡ object_place p (Pool c.in-Pool.initiator) =
    omega (arith, ap length c.as_slice-memories.ensures, c.len.ensures, ap length c.self.invariant.ends, length-ends_of p) in
    sum ∙ ap (object_place p) (sym c.in-Pool.is) ∙ ap (λ p. object_place p c.args.object) c.self.view_is
