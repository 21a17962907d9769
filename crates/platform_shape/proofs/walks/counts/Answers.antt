use Rattle.std.proofs.Common.{◌≡◌, ℕ, ◌≤◌, subst, arith}
use Rattle.platform_shape.specs.Walks.{AreCounts}
use Rattle.platform_shape.proofs.walks.counts.Goals as goal

pub loop-done-preserved : goal.loop-done-preserved
loop-done-preserved c = c.in_ok-counts-2.ensures

same : (a b : ℕ) → a ≤ b → b ≤ a → a ≡ b
same a b p q = omega arith

pub returns : goal.returns
returns c = subst (λ (k : ℕ). AreCounts c.args.walks k c.args.platform.now c.loop-done.counts.items) (same _ _ c.loop-done.auto.done-end c.loop-done-test.false) c.loop-done.invariant
