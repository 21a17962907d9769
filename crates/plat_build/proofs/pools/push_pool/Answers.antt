use Rattle.std.proofs.Common.{◌≡◌, ℕ, ◌+◌, ◌<◌, List, [], ◌∷◌, ◌++◌, length, true, false, Some, ap, sym, subst, ◌∙◌, arith, length-append}
use Rattle.std.specs.Prelude.{slice_get, IsSomeAnd}
use Rattle.one_history.specs.declared.view.Frame.{Frame}
use Rattle.tlm_types.specs.declared.words.ObjectNo.TheVariants.{Pool}
use Rattle.tlm_model.specs.declared.platform.InitiatorRow.{InitiatorRow}
use Rattle.tlm_model.specs.Plan.{Plan}
use Rattle.cargo_model.specs.Known.{has_pool, is_used, object_number}
use Rattle.platform_model.specs.Bounded.{IsBoundedInitiator}
use Rattle.std.proofs.lemmas.Option.{get_or_from_slice_get}
use Rattle.plat_net.specs.Objects.{HasObject, pools_of, pools_start}
use Rattle.plat_build.specs.Supplies.{IsSupply}
use Rattle.plat_net.proofs.Lookups.{short_at}
use Rattle.plat_net.proofs.NumberLemmas.{pool_number, pool_there}
use Rattle.plat_net.proofs.ObjectLemmas.{pool_at}
use Rattle.plat_build.proofs.PoolLemmas.{pools_long, pools_pushed, pools_same}
use Rattle.plat_build.proofs.SupplyLemmas.{more_planned, object_again}
use Rattle.plat_build.proofs.pools.push_pool.Goals as goal

pub returns-then-not-has_pool-clause-pools : goal.returns-then-not-has_pool-clause-pools
returns-then-not-has_pool-clause-pools g c = pools_same c.args.plan.now.platform c.args.initiator c.args.row.now c.args.pools.now.items c.requires.row (sym c.has_pool.ensures ∙ c.if-not-has_pool.true) c.requires.pools

pub hand_out-supply-requires-clause-object : goal.hand_out-supply-requires-clause-object
hand_out-supply-requires-clause-object g c =
    let p = c.args.plan.now in
    let i = c.args.initiator in
    let has : has_pool c.args.row.now.style ≡ true = sym c.has_pool.ensures ∙ c.if-not-has_pool.false in
    let used : is_used p.platform (Pool i) ≡ true = pool_at p.platform i c.args.row.now c.requires.row ∙ has in
    let below : i < length p.platform.initiators = short_at p.platform.initiators i c.args.row.now c.requires.row in
    let there = pool_there p.platform i below used in
    let number = pool_number p.platform i below used in
    let long = pools_long p.platform i c.args.pools.now.items c.requires.pools in
    let start : c.args.supplies.now ≡ pools_start p.platform + length (pools_of p.platform i) = c.requires.supplies ∙ ap (λ (n : ℕ). pools_start p.platform + n) long in
    subst (λ (n : ℕ). HasObject g.N.Naming.frame.world.platform n (Pool i)) (sym start) (object_again p g.N.Naming.frame (pools_start p.platform + length (pools_of p.platform i)) (Pool i) c.requires.frame there)

pub hand_out-supply-requires-clause-more : goal.hand_out-supply-requires-clause-more
hand_out-supply-requires-clause-more g c =
    let p = c.args.plan.now in
    let i = c.args.initiator in
    let has : has_pool c.args.row.now.style ≡ true = sym c.has_pool.ensures ∙ c.if-not-has_pool.false in
    let used : is_used p.platform (Pool i) ≡ true = pool_at p.platform i c.args.row.now c.requires.row ∙ has in
    let below : i < length p.platform.initiators = short_at p.platform.initiators i c.args.row.now c.requires.row in
    let there = pool_there p.platform i below used in
    let number = pool_number p.platform i below used in
    let long = pools_long p.platform i c.args.pools.now.items c.requires.pools in
    let start : c.args.supplies.now ≡ pools_start p.platform + length (pools_of p.platform i) = c.requires.supplies ∙ ap (λ (n : ℕ). pools_start p.platform + n) long in
    omega (arith, start, more_planned p g.N.Naming.frame (pools_start p.platform + length (pools_of p.platform i)) (Pool i) c.requires.frame there)

pub make_pool-requires-clause-slots : goal.make_pool-requires-clause-slots
make_pool-requires-clause-slots g c =
    let p = c.args.plan.now.platform in
    let i = c.args.initiator in
    let row = c.args.row.now in
    let below : i < length p.initiators = short_at p.initiators i row c.requires.row in
    let bound : IsBoundedInitiator p row = subst (IsBoundedInitiator p) (get_or_from_slice_get p.initiators i row row c.requires.row) (c.platform.ensures.valid.shape.bounded.initiators i row below) in
    (bound.some_slots, bound.slots)

pub make_pool-requires-clause-there : goal.make_pool-requires-clause-there
make_pool-requires-clause-there g c =
    let p = c.args.plan.now in
    let i = c.args.initiator in
    let has : has_pool c.args.row.now.style ≡ true = sym c.has_pool.ensures ∙ c.if-not-has_pool.false in
    let used : is_used p.platform (Pool i) ≡ true = pool_at p.platform i c.args.row.now c.requires.row ∙ has in
    let below : i < length p.platform.initiators = short_at p.platform.initiators i c.args.row.now c.requires.row in
    let there = pool_there p.platform i below used in
    let number = pool_number p.platform i below used in
    let long = pools_long p.platform i c.args.pools.now.items c.requires.pools in
    let start : c.args.supplies.now ≡ pools_start p.platform + length (pools_of p.platform i) = c.requires.supplies ∙ ap (λ (n : ℕ). pools_start p.platform + n) long in
    subst (λ (n : ℕ). HasObject p.platform n (Pool i)) (sym number) there

pub make_pool-requires-clause-supply : goal.make_pool-requires-clause-supply
make_pool-requires-clause-supply g c =
    let p = c.args.plan.now in
    let i = c.args.initiator in
    let has : has_pool c.args.row.now.style ≡ true = sym c.has_pool.ensures ∙ c.if-not-has_pool.false in
    let used : is_used p.platform (Pool i) ≡ true = pool_at p.platform i c.args.row.now c.requires.row ∙ has in
    let below : i < length p.platform.initiators = short_at p.platform.initiators i c.args.row.now c.requires.row in
    let there = pool_there p.platform i below used in
    let number = pool_number p.platform i below used in
    let long = pools_long p.platform i c.args.pools.now.items c.requires.pools in
    let start : c.args.supplies.now ≡ pools_start p.platform + length (pools_of p.platform i) = c.requires.supplies ∙ ap (λ (n : ℕ). pools_start p.platform + n) long in
    subst (λ (n : ℕ). IsSupply g.N.Naming.table g.N.Naming.tokens g.N.Naming.frame n (Pool i) c.hand_out-supply.result) (start ∙ sym number) c.hand_out-supply.ensures.supply

pub returns-clause-pools : goal.returns-clause-pools
returns-clause-pools g c =
    pools_pushed c.args.plan.now.platform c.args.initiator c.args.row.now c.args.pools.now.items c.push.new.self.items c.in_ok-make_pool.field-0 c.requires.row (sym c.has_pool.ensures ∙ c.if-not-has_pool.false) c.requires.pools c.in_ok-make_pool.ensures c.in_ok-push.ensures.items
