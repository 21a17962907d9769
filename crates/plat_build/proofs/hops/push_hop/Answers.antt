use Rattle.std.proofs.Common.{◌≡◌, ℕ, ◌+◌, ◌<◌, List, [], ◌∷◌, ◌++◌, length, ap, sym, subst, ◌∙◌, arith, length-append}
use mathlib.Core.Option.{some}
use lib.ListN.{get_elem?}
use Rattle.view_lists.proofs.Places.{each_end}
use Rattle.one_history.specs.declared.view.Frame.{Frame}
use Rattle.shared_object.specs.Standing.{Numbers}
use Rattle.tlm_types.specs.declared.words.ObjectNo.TheVariants.{Hop}
use Rattle.tlm_model.specs.Plan.{Plan}
use Rattle.plat_build.specs.Hops.{IsNextHop}
use Rattle.plat_net.specs.Net.{hop_numbers}
use Rattle.plat_net.specs.Objects.{HasObject}
use Rattle.plat_build.specs.Supplies.{IsSupply}
use Rattle.plat_net.proofs.NumberLemmas.{hop_there}
use Rattle.plat_net.proofs.ObjectLemmas.{few_hops}
use Rattle.plat_build.proofs.SupplyLemmas.{more_planned, object_again}
use Rattle.plat_build.proofs.hops.push_hop.Goals as goal

pub hand_out-supply-requires-clause-plan : goal.hand_out-supply-requires-clause-plan
hand_out-supply-requires-clause-plan g c = sym (ap (λ (f : Frame Plan). f.world) c.requires.frame)

pub hand_out-supply-requires-clause-object : goal.hand_out-supply-requires-clause-object
hand_out-supply-requires-clause-object g c =
    let p = c.args.plan.now in
    let k = length c.args.hops.now.items in
    let number : c.len-number.result ≡ k = (let a = c.args.hops.now.ok.0 in let b = c.len-number.ensures in omega arith) in
    subst (λ (n : ℕ). HasObject g.N.Naming.frame.world.platform c.args.supplies.now (Hop n)) (sym number)
    (subst (λ (n : ℕ). HasObject g.N.Naming.frame.world.platform n (Hop k)) (sym c.requires.supplies) (object_again p g.N.Naming.frame (length p.platform.memories + k) (Hop k) c.requires.frame (hop_there p.platform k c.requires.next.below)))

pub hand_out-supply-requires-clause-more : goal.hand_out-supply-requires-clause-more
hand_out-supply-requires-clause-more g c =
    let p = c.args.plan.now in
    let k = length c.args.hops.now.items in
    omega (arith, c.requires.supplies, more_planned p g.N.Naming.frame (length p.platform.memories + k) (Hop k) c.requires.frame (hop_there p.platform k c.requires.next.below))

pub make_hop-requires-clause-next : goal.make_hop-requires-clause-next
make_hop-requires-clause-next g c =
    let number : c.len-number.result ≡ length c.args.hops.now.items = (let a = c.args.hops.now.ok.0 in let b = c.len-number.ensures in omega arith) in
    subst (λ (n : ℕ). IsNextHop c.args.plan.now.platform n c.args.resp c.args.to) (sym number) c.requires.next

pub make_hop-requires-clause-supply : goal.make_hop-requires-clause-supply
make_hop-requires-clause-supply g c =
    let number : c.len-number.result ≡ length c.args.hops.now.items = (let a = c.args.hops.now.ok.0 in let b = c.len-number.ensures in omega arith) in
    let owner : c.args.supplies.now ≡ length c.args.plan.now.platform.memories + c.len-number.result = c.requires.supplies ∙ ap (λ (n : ℕ). length c.args.plan.now.platform.memories + n) (sym number) in
    subst (λ (n : ℕ). IsSupply g.N.Naming.table g.N.Naming.tokens g.N.Naming.frame n (Hop c.len-number.result) c.hand_out-supply.result) owner c.hand_out-supply.ensures.supply

pub returns-clause-hops : goal.returns-clause-hops
returns-clause-hops g c =
    let p = c.args.plan.now.platform in
    let hops = c.args.hops.now.items in
    let new = c.in_ok-make_hop.field-0 in
    let number : c.len-number.result ≡ length hops = (let a = c.args.hops.now.ok.0 in let b = c.len-number.ensures in omega arith) in
    let items = c.in_ok-push.ensures.items in
    record {
      count = Rattle.std.proofs.Common.refl;
      each = λ h s there. each_end (λ j x. x ≡ hop_numbers p j) hops new c.requires.hops.each (c.in_ok-make_hop.ensures ∙ ap (hop_numbers p) number) h s
          (subst (λ (l : List Numbers). get_elem? l h ≡ some s) items there);
    }

pub overflow_cast-number : goal.overflow_cast-number
overflow_cast-number g c =
    let a = c.args.hops.now.ok.0 in
    let b = c.len-number.ensures in
    let few = few_hops c.args.plan.now.platform c.platform.ensures.valid.shape.bounded in
    let below = c.requires.next.below in
    omega arith
