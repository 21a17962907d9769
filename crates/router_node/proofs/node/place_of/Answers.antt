use Rattle.std.proofs.Common.{◌≡◌, Bool, true, false, arith}
use Rattle.router_node.specs.Joins.{IsTheOne}
use Rattle.router_node.proofs.JoinsOne.{is_first, others_all, others_more}
use Rattle.router_node.proofs.node.place_of.Goals as goal

neither : (b : Bool) → b ≡ true → b ≡ false → ⊥
neither b p q = cc

pub returns-then-is_joined : goal.returns-then-is_joined
returns-then-is_joined c =
    let xs = c.args.held.now in
    is_first c.args.found.now xs c.loop-at.at c.index-held-at.result c.loop-at-test.true c.index-held-at.is c.loop-at.invariant (c.is_joined.ensures.0 c.if-is_joined.true)

pub loop-at-preserved : goal.loop-at-preserved
loop-at-preserved c =
    let xs = c.args.held.now in
    others_more c.args.found.now xs c.loop-at.at c.index-held-at.result c.loop-at-test.true c.index-held-at.is c.loop-at.invariant (λ (one : IsTheOne c.args.found.now c.index-held-at.result). neither c.is_joined.result (c.is_joined.ensures.1 one) c.if-is_joined.false)

pub returns : goal.returns
returns c =
    let xs = c.args.held.now in
    others_all c.args.found.now xs c.loop-at.at (λ l. absurd (omega (arith, l, c.loop-at-test.false))) c.loop-at.invariant
