use Rattle.std.proofs.Common.{ℕ, ◌+◌, ◌*◌, take, sum_by, ap, arith}
use Rattle.route_plan.specs.Counted.{Counted, counted_in, counted_of}
use Rattle.tlm_model.specs.Actions.{asks_of}
use Rattle.route_plan.proofs.CountLemmas.{both_more, total_more}
use Rattle.route_plan.proofs.counts.Tally.add_operations.Goals as goal

pub loop-operation-preserved : goal.loop-operation-preserved
loop-operation-preserved c =
    let p = c.args.self.now.routes.now in
    let n = c.args.self.now.initiator in
    let i = c.loop-operation.operation-index in
    let operations = c.args.operations.now in
    let x = c.operation-item.result in
    both_more (λ (k : Counted) (m : ℕ). counted_in k p n m (take i operations) * c.args.times) (λ (k : Counted) (m : ℕ). sum_by (counted_of k p n m) (asks_of x) * c.args.times)
    (λ (k : Counted) (m : ℕ). counted_in k p n m (take (i + 1) operations) * c.args.times) c.args.counts.now c.loop-operation.counts c.add_operation.new.counts c.loop-operation.auto.counts
    (λ k m. let more = ap (λ (sum : ℕ). sum * c.args.times) (total_more (counted_of k p n m) operations i x c.loop-operation-test.true c.operation-item.is) in omega (arith, more))
    c.loop-operation.invariant c.add_operation.ensures
