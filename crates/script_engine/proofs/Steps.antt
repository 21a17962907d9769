-- The laws, for proofs of crates above.
use Rattle.std.proofs.Common.{◌≡◌, ℕ, Bool, false, List, [], ◌∷◌, Option, Some, None, refl, rules, arith}
use Rattle.std.proofs.lemmas.Grind.{common_steps}
use Rattle.tlm_model.specs.declared.operation.Operation.{Operation}
use Rattle.tlm_model.specs.declared.platform.Platform.{Platform}
use Rattle.tlm_model.specs.Plan.{Initiator}
use Rattle.tlm_model.specs.Rounds.{syncs_from}
use Rattle.script_engine.specs.declared.op.Op.TheVariants.{Done}
use Rattle.script_engine.specs.State.{Due, is_fenced, op_at, op_for, passed_by}
use Rattle.script_engine.proofs.States.{state}
use Rattle.script_engine.specs.Asking.{syncs_behind, syncs_then, time_after_op}
use Rattle.script_engine.specs.Laws.{BeginsAtTheStart, EndsWithNothingLeft, FillsWhatIsNext, IsToldInOrder, PassesInOrder}

syncs_passed : (p : Platform) (i : Initiator) (now t n s : ℕ) (b : Bool) (op : Operation) (ops : List Operation) →
    is_fenced (op_for s op) ≡ false →
    syncs_from p i now t (op ∷ ops) ≡ syncs_then p i now (time_after_op p i t (op_for s op)) (op_for s op) (passed_by (state n s None (op ∷ ops) b))
syncs_passed p i now t n s b op ops h = grind (arith, common_steps)

syncs_passed_at : (p : Platform) (i : Initiator) (now t n s : ℕ) (b : Bool) (due : Option Due) (ops : List Operation) →
    is_fenced (op_at s due ops) ≡ false → (op_at s due ops ≡ Done → ⊥) →
    syncs_behind p i now t due ops ≡ syncs_then p i now (time_after_op p i t (op_at s due ops)) (op_at s due ops) (passed_by (state n s due ops b))
syncs_passed_at p i now t n s b (Some w) ops h more = cc
syncs_passed_at p i now t n s b None [] h more = absurd (more refl)
syncs_passed_at p i now t n s b None (op ∷ ops) h more = syncs_passed p i now t n s b op ops h

pub begins : BeginsAtTheStart
begins = search rules

pub passes : PassesInOrder
passes = record {
  requests = grind (arith, common_steps);
  end = grind (arith, common_steps);
  syncs = λ p i now t e h more. syncs_passed_at p i now t e.initiator e.seq e.ended e.due e.remaining h more;
  numbers = grind (arith, common_steps);
  seq = grind (arith, common_steps);
}

pub told : IsToldInOrder
told = record {
  requests = grind (arith, common_steps);
  end = grind (arith, common_steps);
  syncs = grind (arith, common_steps);
  numbers = grind (arith, common_steps);
  seq = grind (arith, common_steps);
}

pub ends : EndsWithNothingLeft
ends = grind (arith, common_steps)

pub fills : FillsWhatIsNext
fills = record {
  transfer = grind (arith, common_steps);
  plain = grind (arith, common_steps);
}
