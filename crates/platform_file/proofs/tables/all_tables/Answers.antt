use Rattle.platform_file.proofs.TableLoops.{tables_go_on, tables_end, tables_done, wants_memory}
use Rattle.platform_file.proofs.tables.all_tables.Goals as goal

pub loop-value-preserved : goal.loop-value-preserved
loop-value-preserved c =
    tables_go_on c.args.values.now c.loop-value.value-index c.value-item.result c.in-Some.table c.as_table.result c.loop-value.tables.items c.push.new.self.items _ c.loop-value-test.true c.value-item.is c.as_table.ensures c.in-Some.is c.in_ok-push.ensures.items c.loop-value.invariant

pub returns-in_default : goal.returns-in_default
returns-in_default c =
    tables_end c.args.values.now c.loop-value.value-index c.value-item.result c.as_table.result c.loop-value.tables.items _ c.loop-value-test.true c.value-item.is c.as_table.ensures c.in_default.is c.loop-value.invariant

pub returns-in_err-push : goal.returns-in_err-push
returns-in_err-push c = wants_memory _ _ _ c.from_residual.ensures.1

pub returns : goal.returns
returns c = tables_done c.args.values.now c.loop-value.value-index c.loop-value.tables.items _ c.loop-value-test.false c.loop-value.invariant
