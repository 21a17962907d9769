use Rattle.std.proofs.Common.{◌≡◌, ◌∙◌, ap, subst, arith, length}
use Rattle.tlm_model.specs.declared.platform.Platform.{Platform}
use Rattle.plat_core.specs.Fresh.{AreFresh}
use Rattle.plat_core.proofs.BeginLemmas.{fresh_more}
use Rattle.plat_core.proofs.GateBounds.{few_gates_at}
use Rattle.plat_core.proofs.OutcomeLemmas.{fresh_none, fresh_region}
use Rattle.plat_core.proofs.steps.begin_regions.Goals as goal

pub loop-number-init : goal.loop-number-init
loop-number-init c = record { fresh = fresh_none c.args.plan.now c.new-regions.result.items c.new-regions.ensures.items; gates = omega arith }

pub loop-number-preserved : goal.loop-number-preserved
loop-number-preserved c =
    let rows = c.as_slice-row-items.ensures ∙ ap (λ (x : Platform). x.memories) c.platform.ensures.same in
    let few = few_gates_at c.args.plan.now.platform c.as_slice-row-items.result.now c.loop-number.number c.row-item.result c.platform.ensures.valid.shape.bounded rows c.loop-number-test.true c.row-item.is in
    record {
      fresh = fresh_more c.args.plan.now c.loop-number.regions.items c.push.new.self.items c.loop-number.number c.in_ok-region.region c.loop-number.invariant.fresh c.in_ok-push.ensures.items
          (fresh_region c.args.plan.now c.loop-number.number c.as_slice-row-items.result.now c.row-item.result c.in_ok-region.region c.entries-entries.result c.logged-logged.result c.loop-number.first_gate rows c.loop-number-test.true c.row-item.is c.in_ok-region.ensures c.entries-entries.ensures.planned c.entries-entries.ensures.few c.logged-logged.ensures.logged);
      gates = omega (arith, c.saturating_add-first_gate.ensures, few.0, c.loop-number.invariant.gates);
    }

pub returns : goal.returns
returns c =
    let rows = c.as_slice-row-items.ensures ∙ ap (λ (x : Platform). x.memories) c.platform.ensures.same in
    let all : c.loop-number.number ≡ length c.args.plan.now.platform.memories = omega (arith, ap length rows, c.loop-number-test.false, c.loop-number.auto.number-end) in
    subst (AreFresh c.args.plan.now c.loop-number.regions.items) all c.loop-number.invariant.fresh

pub new-requires : goal.new-requires
new-requires c =
    let rows = c.as_slice-row-items.ensures ∙ ap (λ (x : Platform). x.memories) c.platform.ensures.same in
    let few = few_gates_at c.args.plan.now.platform c.as_slice-row-items.result.now c.loop-number.number c.row-item.result c.platform.ensures.valid.shape.bounded rows c.loop-number-test.true c.row-item.is in
    record { gates = omega (arith, few.0, few.1, c.loop-number.invariant.gates, c.loop-number-test.true) }
