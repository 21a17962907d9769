use Rattle.std.proofs.Common.{◌++◌}
use Rattle.std.proofs.lemmas.Result.{err_from_is_err_and}
use Rattle.trace_print.proofs.Writing.{writes-more, writes-part}
use Rattle.plan_loads.proofs.tells.write_three.Goals as goal

pub returns-in_err-write-2 : goal.returns-in_err-write-2
returns-in_err-write-2 g c =
    let p = err_from_is_err_and c.from_residual-in_err-write-2.result c.from_residual-in_err-write-2.ensures.1 in
    rw p.1 (writes-more _ _ _ _ _ _ c.args.first.now (c.args.second.now ++ c.args.third.now) _ c.in_ok-write.ensures (writes-part _ _ _ _ c.args.second.now c.args.third.now c.in_err-write-2.ensures))

pub returns : goal.returns
returns g c =
    writes-more _ _ _ _ _ _ c.args.first.now (c.args.second.now ++ c.args.third.now) _ c.in_ok-write.ensures
    (writes-more _ _ _ _ _ _ c.args.second.now c.args.third.now _ c.in_ok-write-2.ensures c.write-3.ensures)
