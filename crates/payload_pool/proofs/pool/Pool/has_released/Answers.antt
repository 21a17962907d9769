use Rattle.std.proofs.Common.{◌≡◌, length, ap, refl, arith}
use Rattle.flow_model.specs.Events.{IsReleased}
use Rattle.payload_pool.specs.Pool.{PoolView}
use Rattle.payload_pool.proofs.ReleaseLemmas.{none_among, none_more, one_among}
use Rattle.payload_pool.proofs.pool.Pool.has_released.Goals as goal

pub returns-then-is_release_at : goal.returns-then-is_release_at
returns-then-is_release_at c = (λ t. one_among (IsReleased c.args.txn c.args.number) c.args.self.now.log.events c.loop-at.at (c.is_release_at.ensures.0 c.if-is_release_at.true), λ f. refl)

pub loop-at-preserved : goal.loop-at-preserved
loop-at-preserved c = none_more (IsReleased c.args.txn c.args.number) c.args.self.now.log.events c.loop-at.at c.loop-at.invariant (λ s. let t = c.is_release_at.ensures.1 s in let f = c.if-is_release_at.false in cc)

pub returns : goal.returns
returns c =
    let long : length c.args.self.now.log.events ≡ c.loop-at.at = (let same = ap (λ (v : PoolView). length v.log.events) c.self.view_is in omega (arith, same, c.loop-at-test.false, c.loop-at.auto.at-end, c.len-at-end.ensures.len, c.log.ensures.len)) in
    (λ t. cc, λ f. absurd (none_among (IsReleased c.args.txn c.args.number) c.args.self.now.log.events c.loop-at.at long c.loop-at.invariant f))
