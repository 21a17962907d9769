use Rattle.std.proofs.Common.{◌≡◌, refl}
use Rattle.std.proofs.lemmas.Result.{err_from_is_err_and}
use Rattle.platform_shape.proofs.CopyLemmas.{copied_rows, copies_fail}
use Rattle.platform_shape.proofs.copies.copy_platform.Goals as goal

pub returns-in_err-initiators : goal.returns-in_err-initiators
returns-in_err-initiators c =
    let p = err_from_is_err_and c.from_residual.result c.from_residual.ensures.1 in
    rw (p.1, p.2) (copies_fail c.in_err-initiators.field-0.0 c.as_slice.result.now c.args.platform.now c.in_err-initiators.ensures.read)

pub returns-in_err-routers : goal.returns-in_err-routers
returns-in_err-routers c =
    let p = err_from_is_err_and c.from_residual-in_err-routers.result c.from_residual-in_err-routers.ensures.1 in
    rw (p.1, p.2) (copies_fail c.in_err-routers.field-0.0 c.as_slice-2.result.now c.args.platform.now c.in_err-routers.ensures.read)

pub returns-in_err-memories : goal.returns-in_err-memories
returns-in_err-memories c =
    let p = err_from_is_err_and c.from_residual-in_err-memories.result c.from_residual-in_err-memories.ensures.1 in
    rw (p.1, p.2) (copies_fail c.in_err-memories.field-0.0 c.as_slice-3.result.now c.args.platform.now c.in_err-memories.ensures.read)

pub returns : goal.returns
returns c =
    let i : c.in_ok-initiators.initiators ≡ c.args.platform.now.initiators = copied_rows c.as_slice.result.now c.in_ok-initiators.initiators c.args.platform.now.initiators c.in_ok-initiators.ensures.read c.as_slice.ensures in
    let r : c.in_ok-routers.routers ≡ c.args.platform.now.routers = copied_rows c.as_slice-2.result.now c.in_ok-routers.routers c.args.platform.now.routers c.in_ok-routers.ensures.read c.as_slice-2.ensures in
    let m : c.in_ok-memories.memories ≡ c.args.platform.now.memories = copied_rows c.as_slice-3.result.now c.in_ok-memories.memories c.args.platform.now.memories c.in_ok-memories.ensures.read c.as_slice-3.ensures in
    rw (i, r, m) refl
