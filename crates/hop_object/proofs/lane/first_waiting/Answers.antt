use Rattle.std.proofs.Common.{List, subst, arith}
use Rattle.std.proofs.lemmas.List.{take_all}
use Rattle.hop_object.specs.declared.lane.Lane.{Lane}
use Rattle.hop_object.specs.Lanes.{FindsFirst}
use Rattle.hop_object.proofs.lane.first_waiting.Goals as goal

pub loop-place-init : goal.loop-place-init
loop-place-init g c = λ k d below. absurd (omega arith)

pub first_of-best-requires-clause-place : goal.first_of-best-requires-clause-place
first_of-best-requires-clause-place g c = c.loop-place-test.true

pub first_of-best-requires-clause-best : goal.first_of-best-requires-clause-best
first_of-best-requires-clause-best g c = c.loop-place.invariant

pub loop-place-preserved : goal.loop-place-preserved
loop-place-preserved g c = c.first_of-best.ensures

pub returns : goal.returns
returns g c = subst (λ (ls : List (Lane g.row.T.Denot)). FindsFirst c.args.side ls c.loop-place.best) (take_all c.loop-place.place c.args.lanes.now c.loop-place-test.false) c.loop-place.invariant
