use Rattle.std.proofs.Common.{◌≡◌, ℕ, ◌+◌, ◌<◌, List, [], ◌∷◌, length, Some, sym, ap, subst, ◌∙◌, arith, length-append}
use Rattle.std.specs.Prelude.{slice_get}
use mathlib.Core.Option.{some}
use lib.ListN.{get_elem?}
use Rattle.view_lists.proofs.Places.{each_end}
use Rattle.one_history.specs.declared.view.Frame.{Frame}
use Rattle.shared_object.specs.Standing.{Numbers}
use Rattle.tlm_types.specs.declared.words.ObjectNo.TheVariants.{Memory}
use Rattle.tlm_model.specs.declared.platform.Platform.{Platform}
use Rattle.tlm_model.specs.Plan.{Plan}
use Rattle.platform_model.specs.Bounded.{IsBoundedMemory}
use Rattle.plat_net.specs.Net.{memory_numbers}
use Rattle.plat_net.specs.Objects.{HasObject}
use Rattle.plat_build.specs.Supplies.{IsSupply}
use Rattle.plat_net.proofs.Lookups.{row_at}
use Rattle.plat_net.proofs.NumberLemmas.{memory_there}
use Rattle.plat_net.proofs.ObjectLemmas.{gates_more}
use Rattle.plat_build.proofs.SupplyLemmas.{more_planned, object_again}
use Rattle.plat_build.proofs.memories.make_memories.Goals as goal
use Rattle.std.proofs.lemmas.Option.{get_or_from_slice_get}

pub hand_out-supply-requires-clause-plan : goal.hand_out-supply-requires-clause-plan
hand_out-supply-requires-clause-plan g c = sym (ap (λ (f : Frame Plan). f.world) c.requires.frame)

pub hand_out-supply-requires-clause-object : goal.hand_out-supply-requires-clause-object
hand_out-supply-requires-clause-object g c =
    let p = c.args.plan.now in
    let k = c.loop-number.number in
    let rows = c.as_slice-row-items.ensures ∙ ap (λ (x : Platform). x.memories) c.platform.ensures.same in
    let below : k < length p.platform.memories = omega (arith, ap length rows, c.loop-number-test.true) in
    subst (λ (n : ℕ). HasObject g.N.Naming.frame.world.platform n (Memory k)) (sym c.loop-number.invariant.next) (object_again p g.N.Naming.frame k (Memory k) c.requires.frame (memory_there p.platform k below))

pub hand_out-supply-requires-clause-more : goal.hand_out-supply-requires-clause-more
hand_out-supply-requires-clause-more g c =
    let p = c.args.plan.now in
    let k = c.loop-number.number in
    let rows = c.as_slice-row-items.ensures ∙ ap (λ (x : Platform). x.memories) c.platform.ensures.same in
    let below : k < length p.platform.memories = omega (arith, ap length rows, c.loop-number-test.true) in
    omega (arith, c.loop-number.invariant.next, more_planned p g.N.Naming.frame k (Memory k) c.requires.frame (memory_there p.platform k below))

pub make_memory-requires-clause-supply : goal.make_memory-requires-clause-supply
make_memory-requires-clause-supply g c =
    subst (λ (n : ℕ). IsSupply g.N.Naming.table g.N.Naming.tokens g.N.Naming.frame n (Memory c.loop-number.number) c.hand_out-supply.result) c.loop-number.invariant.next c.hand_out-supply.ensures.supply

pub make_memory-requires-clause-few_gates : goal.make_memory-requires-clause-few_gates
make_memory-requires-clause-few_gates g c =
    let i = c.loop-number.invariant in
    let p = c.args.plan.now.platform in
    let k = c.loop-number.number in
    let row = c.row-item.result in
    let rows = c.as_slice-row-items.ensures ∙ ap (λ (x : Platform). x.memories) c.platform.ensures.same in
    let below : k < length p.memories = omega (arith, ap length rows, c.loop-number-test.true) in
    let at : slice_get p.memories k ≡ Some row = row_at c.as_slice-row-items.result.now p.memories k row rows c.loop-number-test.true c.row-item.is in
    let bound : IsBoundedMemory row = subst IsBoundedMemory (get_or_from_slice_get p.memories k row row at) (c.platform.ensures.valid.shape.bounded.memories k row below) in
    omega (arith, i.few_gates, bound.gates, below, c.platform.ensures.valid.shape.bounded.memory_count)

pub loop-number-preserved : goal.loop-number-preserved
loop-number-preserved g c =
    let i = c.loop-number.invariant in
    let p = c.args.plan.now.platform in
    let k = c.loop-number.number in
    let row = c.row-item.result in
    let rows = c.as_slice-row-items.ensures ∙ ap (λ (x : Platform). x.memories) c.platform.ensures.same in
    let below : k < length p.memories = omega (arith, ap length rows, c.loop-number-test.true) in
    let at : slice_get p.memories k ≡ Some row = row_at c.as_slice-row-items.result.now p.memories k row rows c.loop-number-test.true c.row-item.is in
    let bound : IsBoundedMemory row = subst IsBoundedMemory (get_or_from_slice_get p.memories k row row at) (c.platform.ensures.valid.shape.bounded.memories k row below) in
    let added : c.saturating_add-first_gate.result ≡ c.loop-number.first_gate + row.traits.gates = omega (arith, c.saturating_add-first_gate.ensures, i.few_gates, bound.gates, below, c.platform.ensures.valid.shape.bounded.memory_count) in
    let items = c.in_ok-push.ensures.items in
    let new = c.in_ok-memory.memory in
    record {
      next = c.hand_out-supply.ensures.next ∙ ap (λ (n : ℕ). n + 1) i.next;
      gate = added ∙ (ap (λ (x : ℕ). x + row.traits.gates) i.gate ∙ sym (gates_more p k row at below));
      few_gates = omega (arith, added, i.few_gates, bound.gates);
      count = ap length items ∙ (length-append c.loop-number.memories.items (new ∷ []) ∙ ap (λ (n : ℕ). n + 1) i.count);
      each = λ m s there. each_end (λ j x. x ≡ memory_numbers j) c.loop-number.memories.items new i.each (c.in_ok-memory.ensures ∙ ap memory_numbers (sym i.count)) m s
          (subst (λ (l : List Numbers). get_elem? l m ≡ some s) items there);
    }
