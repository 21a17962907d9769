use Rattle.std.proofs.Common.{◌≡◌, arith}
use Rattle.std.specs.Arc.{arc_value}
use Rattle.traffic_script.specs.Pieces.{written_out}
use Rattle.traffic_script.proofs.PlaceLemmas.{is_there, reached_next}
use Rattle.traffic_script.proofs.cursor.Cursor.advance.Goals as goal

pub next_place-self-inside-requires-clause-there : goal.next_place-self-inside-requires-clause-there
next_place-self-inside-requires-clause-there c =
    let pieces = (arc_value c.self.inside.pieces).items in
    let at = c.self.inside.place in
    let r = c.self.invariant in
    let e : c.as_slice.result.now ≡ pieces = rw c.deref.ensures at c.as_slice.ensures.value in
    rw e (is_there pieces at.piece at.rounds at.operation (written_out pieces) c.self.inside.done r.rest (omega (arith, r.counted)))

pub invariant_of-self : goal.invariant_of-self
invariant_of-self c =
    let pieces = (arc_value c.self.inside.pieces).items in
    let e : c.as_slice.result.now ≡ pieces = rw c.deref.ensures at c.as_slice.ensures.value in
    reached_next pieces c.self.inside.place c.next_place-self-inside.result c.self.inside.count c.self.inside.done c.self.invariant (omega arith) (rw e at c.next_place-self-inside.ensures.within) (rw e at c.next_place-self-inside.ensures.rest)
