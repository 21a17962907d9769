use Rattle.std.proofs.Common.{◌≡◌, length, Some, refl, arith}
use Rattle.std.specs.Prelude.{slice_get}
use Rattle.std.proofs.lemmas.Option.{slice_get_read}
use Rattle.trace_print.proofs.StoreLemmas.{size-at, sizes-length, stores-all, stores-more}
use Rattle.trace_print.proofs.Putting.{puts-more, puts-nothing, puts-as}
use Rattle.trace_print.proofs.memories.put_memories.Goals as goal

pub loop-number-init : goal.loop-number-init
loop-number-init g c = puts-nothing _

pub bounds-stores-number : goal.bounds-stores-number
bounds-stores-number g c = omega (arith, sizes-length _ _ c.requires)

pub put_memory-requires : goal.put_memory-requires
put_memory-requires g c =
    let long = sizes-length _ _ c.requires in
    let row : slice_get c.args.rows.now c.loop-number.number ≡ Some c.index-rows-number.result = slice_get_read c.args.rows.now (length c.args.rows.now) c.loop-number.number c.index-rows-number.result refl (omega arith) c.index-rows-number.is in
    let bytes : slice_get c.args.stores.now c.loop-number.number ≡ Some c.index-stores-number.result = slice_get_read c.args.stores.now (length c.args.stores.now) c.loop-number.number c.index-stores-number.result refl (omega arith) c.index-stores-number.is in
    rw c.as_slice.ensures (size-at _ _ _ _ _ c.requires row bytes)

pub loop-number-preserved : goal.loop-number-preserved
loop-number-preserved g c =
    let long = sizes-length _ _ c.requires in
    let row : slice_get c.args.rows.now c.loop-number.number ≡ Some c.index-rows-number.result = slice_get_read c.args.rows.now (length c.args.rows.now) c.loop-number.number c.index-rows-number.result refl (omega arith) c.index-rows-number.is in
    let bytes : slice_get c.args.stores.now c.loop-number.number ≡ Some c.index-stores-number.result = slice_get_read c.args.stores.now (length c.args.stores.now) c.loop-number.number c.index-stores-number.result refl (omega arith) c.index-stores-number.is in
    let put = rw c.as_slice.ensures at c.put_memory.ensures in
    puts-as _ _ _ _ (puts-more _ _ _ _ _ c.loop-number.invariant put) (stores-more _ _ _ _ _ row bytes)

pub returns : goal.returns
returns g c = puts-as _ _ _ _ c.loop-number.invariant (stores-all _ _ _ (omega arith) c.requires)
