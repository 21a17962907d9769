-- Moves take at most one step of a script.
use Rattle.std.proofs.Common.{◌≡◌, ℕ, suc, inl, inr, List, [], Bool, false, cond, refl, ap, sym, subst, ◌∙◌}
use Rattle.script_engine.specs.declared.part.Part.TheVariants.{Pauses}
use Rattle.script_engine.specs.declared.part.Pause.{Pause}
use Rattle.script_engine.specs.declared.part.Transfer.{Transfer}
use Rattle.script_engine.specs.Part.{is_fenced_part}
use Rattle.script_engine.specs.State.{State, next_of, op_of, is_fenced, passed_by, told_by}
use Rattle.tlm_model.specs.Plan.{Plan}
use Rattle.initiator_run.specs.Moves.{Keeps}
use Rattle.initiator_run.specs.Run.{Run, accessed, passed, with_refusal}
use Rattle.initiator_run.specs.Steps.{HasMoved, StepsOnce}
use Rattle.initiator_run.proofs.RunLemmas.{Keeps-round, accessed_step, passed_step}

pub StepsOnce-same : (e : State) → StepsOnce e e
StepsOnce-same e = record { got = []; step = inl refl }

-- past what the engine doesn't wait for
pub StepsOnce-unfenced : (r new : Run) → is_fenced (op_of r.engine) ≡ false → new.engine ≡ passed_by r.engine → StepsOnce r.engine new.engine
StepsOnce-unfenced r new unfenced run = record {
  got = [];
  step = inr (run ∙ sym (ap (λ (b : Bool). cond b (told_by r.engine []) (passed_by r.engine)) unfenced));
}

pub StepsOnce-by_pass : (r new : Run) (pause : Pause) → next_of r.engine ≡ Pauses pause → new ≡ passed pause r → StepsOnce r.engine new.engine
StepsOnce-by_pass r new pause is run = StepsOnce-unfenced r new (ap is_fenced_part is) (ap (λ (q : Run). q.engine) run ∙ passed_step pause r)

pub StepsOnce-by_access : (r new : Run) (x : Transfer) (by : ℕ) (got : List ℕ) → new ≡ accessed x by got r → StepsOnce r.engine new.engine
StepsOnce-by_access r new x by got run = record { got = got; step = inr (ap (λ (q : Run). q.engine) run ∙ accessed_step x by got r) }

pub StepsOnce-by_refusal : (r new : Run) (x : Transfer) (by : ℕ) (got : List ℕ) → new ≡ accessed x by got (with_refusal x r) → StepsOnce r.engine new.engine
StepsOnce-by_refusal r new x by got run = record { got = got; step = inr (ap (λ (q : Run). q.engine) run ∙ accessed_step x by got (with_refusal x r)) }

-- before it and after it nothing is done
pub StepsOnce-between : (a b c d : State) → b ≡ a → StepsOnce b c → d ≡ c → StepsOnce a d
StepsOnce-between a b c d before once after = subst (λ (x : State). StepsOnce x d) before (subst (StepsOnce b) (sym after) once)

-- one move more
pub HasMoved-then : (p : Plan) (a b c : Run) → HasMoved p a b → Keeps p b c → StepsOnce b.engine c.engine → HasMoved p a c
HasMoved-then p a b c moved keeps once = record { count = suc moved.count; moves = (b, moved.moves, keeps, once) }

-- into another round
pub HasMoved-let : (p : Plan) (a b c : Run) → HasMoved p a b → c ≡ record b { round = c.round } → HasMoved p a c
HasMoved-let p a b c moved same = HasMoved-then p a b c moved (Keeps-round p b c c.round same) (StepsOnce-between b.engine b.engine b.engine c.engine refl (StepsOnce-same b.engine) (ap (λ (r : Run). r.engine) same))
