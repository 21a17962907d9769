use Rattle.std.proofs.Common.{◌∙◌, subst, sym}
use Rattle.std.proofs.lemmas.Result.{err_from_is_err_and}
use Rattle.tlm_model.specs.declared.platform.Platform.{Platform}
use Rattle.platform_model.specs.Bounded.{IsBounded}
use Rattle.plan_loads.proofs.LoneShape.{built_in_is_bounded, never_refused}
use Rattle.plan_loads.proofs.built_in.built_in.Goals as goal

pub shape-requires : goal.shape-requires
shape-requires c = subst (λ (p : Platform). IsBounded p) (sym c.in_ok-platform.ensures) (built_in_is_bounded c.args.file.now)

pub returns-in_err-shape-clause-fault : goal.returns-in_err-shape-clause-fault
returns-in_err-shape-clause-fault c =
    let p = err_from_is_err_and c.from_residual-in_err-shape.result c.from_residual-in_err-shape.ensures.1 in
    let fails = rw c.in_ok-platform.ensures at c.in_err-shape.ensures.checked in
    rw p.1 (p.2 ∙ never_refused c.args.file.now c.in_err-shape.field-0.0 fails)
