use Rattle.std.proofs.Common.{codes}
use Rattle.std.proofs.lemmas.Result.{err_from_is_err_and}
use Rattle.plan_loads.proofs.Lines.{first-fails, second-fails, last-is}
use Rattle.plan_loads.proofs.tells.write_refused.Goals as goal

pub returns-in_err-write_three : goal.returns-in_err-write_three
returns-in_err-write_three g c =
    let p = err_from_is_err_and c.from_residual.result c.from_residual.ensures.1 in
    let first = rw c.as_bytes.ensures.value at c.in_err-write_three.ensures in
    rw p.1 (first-fails _ _ _ _ c.args.front.now c.args.first.now c.args.between.now c.args.second.now c.args.gap.now c.args.third.now (codes "\n") first)

pub returns-in_err-write_three-2 : goal.returns-in_err-write_three-2
returns-in_err-write_three-2 g c =
    let p = err_from_is_err_and c.from_residual-in_err-write_three-2.result c.from_residual-in_err-write_three-2.ensures.1 in
    let first = rw c.as_bytes.ensures.value at c.in_ok-write_three.ensures in
    let second = rw (c.as_bytes-2.ensures.value, c.as_bytes-3.ensures.value) at c.in_err-write_three-2.ensures in
    rw p.1 (second-fails _ _ _ _ _ _ c.args.front.now c.args.first.now c.args.between.now c.args.second.now c.args.gap.now c.args.third.now (codes "\n") first second)

pub returns : goal.returns
returns g c =
    let first = rw c.as_bytes.ensures.value at c.in_ok-write_three.ensures in
    let second = rw (c.as_bytes-2.ensures.value, c.as_bytes-3.ensures.value) at c.in_ok-write_three-2.ensures in
    last-is _ _ _ _ _ _ _ _ c.args.front.now c.args.first.now c.args.between.now c.args.second.now c.args.gap.now c.args.third.now (codes "\n") _ first second c.write.ensures
