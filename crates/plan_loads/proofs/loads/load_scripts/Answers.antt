use Rattle.std.proofs.Common.{sym}
use Rattle.std.proofs.lemmas.Result.{err_from_is_err_and}
use Rattle.plan_loads.specs.declared.exit.Exit.TheVariants.{NoMemory}
use Rattle.plan_loads.proofs.Loading.{loading-more, loading-fails}
use Rattle.plan_loads.proofs.loads.load_scripts.Goals as goal

pub returns-in_err-script-clause-fault : goal.returns-in_err-script-clause-fault
returns-in_err-script-clause-fault g c =
    let p = err_from_is_err_and c.from_residual.result c.from_residual.ensures.1 in
    let fault = c.in_err-script.ensures.fault in
    rw (p.1, p.2)
    (loading-fails _ _ _ _ _ c.args.version c.args.rows.now c.loop-number.number c.loop-number.scripts.items c.index-rows-number.result _
    c.loop-number-test.true (sym c.index-rows-number.is) c.loop-number.invariant fault)

pub returns-in_err-push-clause-fault : goal.returns-in_err-push-clause-fault
returns-in_err-push-clause-fault g c =
    let p = err_from_is_err_and c.from_residual-in_err-push.result c.from_residual-in_err-push.ensures.1 in
    rw (p.1, p.2)
    (loading-fails _ _ _ (g.L.Library.faults c.loop-number.lib) _ c.args.version c.args.rows.now c.loop-number.number c.loop-number.scripts.items c.index-rows-number.result NoMemory
    c.loop-number-test.true (sym c.index-rows-number.is) c.loop-number.invariant tt)

pub loop-number-preserved : goal.loop-number-preserved
loop-number-preserved g c =
    let ok = c.in_ok-script.ensures in
    rw c.in_ok-push.ensures.items
    (loading-more _ _ _ _ _ _ c.args.version c.args.rows.now c.loop-number.number c.loop-number.scripts.items c.index-rows-number.result c.in_ok-script.script
    c.loop-number-test.true (sym c.index-rows-number.is) c.loop-number.invariant ok.same ok.later ok.script)
