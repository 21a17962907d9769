use Rattle.std.proofs.Common.{◌≡◌, length, Some, refl, arith}
use Rattle.std.specs.Prelude.{slice_get}
use Rattle.std.proofs.lemmas.Option.{slice_get_read}
use Rattle.trace_print.proofs.EndLemmas.{ends-all, ends-more}
use Rattle.trace_print.proofs.Putting.{puts-more, puts-nothing, puts-as}
use Rattle.trace_print.proofs.ends.put_initiators.Goals as goal

pub loop-number-init : goal.loop-number-init
loop-number-init g c = puts-nothing _

pub loop-number-preserved : goal.loop-number-preserved
loop-number-preserved g c =
    let row : slice_get c.args.rows.now c.loop-number.number ≡ Some c.index-rows-number.result = slice_get_read c.args.rows.now (length c.args.rows.now) c.loop-number.number c.index-rows-number.result refl (omega arith) c.index-rows-number.is in
    let end : slice_get c.args.ends.now c.loop-number.number ≡ Some c.index-ends-number.result = slice_get_read c.args.ends.now (length c.args.ends.now) c.loop-number.number c.index-ends-number.result refl (omega arith) c.index-ends-number.is in
    puts-as _ _ _ _ (puts-more _ _ _ _ _ c.loop-number.invariant c.put_initiator.ensures) (ends-more _ _ _ _ _ row end)

pub returns : goal.returns
returns g c = puts-as _ _ _ _ c.loop-number.invariant (ends-all _ _ _ (omega arith) c.requires)
