use Rattle.std.proofs.Common.{◌≡◌, ℕ, ◌<◌, ◌≤◌, ap, subst, ◌∙◌, ⊎_elim, arith}
use Rattle.std.proofs.lemmas.Bool.{cases_lt}
use mathlib.Core.Option.{some}
use lib.ListN.{get_elem?}
use Rattle.view_lists.proofs.Places.{at_once, at_short}
use Rattle.shared_object.specs.Standing.{Numbers}
use Rattle.plat_net.proofs.Lookups.{at_read}
use Rattle.plat_net.proofs.net.pool_of.Goals as goal

pub loop-pool-preserved : goal.loop-pool-preserved
loop-pool-preserved g c = λ k s less at own.
    let pools = c.args.pools.now in
    let j : ℕ = c.loop-pool.pool-index in
    let item = c.pool-item.result in
    ⊎_elim
    (λ (before : k < j). c.loop-pool.invariant k s before at own)
    (λ (past : j ≤ k).
    let here : j ≡ k = omega arith in
    let there : get_elem? pools k ≡ some item = subst (λ (n : ℕ). get_elem? pools n ≡ some item) here (at_read pools j item c.loop-pool-test.true c.pool-item.is) in
    c.if-own_number-initiator.false (c.own_number.ensures ∙ (ap (λ (t : Numbers). t.own) (at_once pools k item s there at) ∙ own)))
    (cases_lt k j)

pub unreachable-requires : goal.unreachable-requires
unreachable-requires g c =
    let s = c.requires.0 in
    let k = c.requires.1.0 in
    let at = c.requires.1.1 in
    let short = at_short c.args.pools.now k s at in
    let below : k < c.loop-pool.pool-index = (let a = c.loop-pool-test.false in omega arith) in
    c.loop-pool.invariant k s below at c.requires.2

pub returns-then-own_number-initiator-clause-has : goal.returns-then-own_number-initiator-clause-has
returns-then-own_number-initiator-clause-has g c = (c.loop-pool.pool-index, at_read c.args.pools.now c.loop-pool.pool-index c.pool-item.result c.loop-pool-test.true c.pool-item.is)
