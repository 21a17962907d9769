-- What is left of a proper script is proper.
use Rattle.std.proofs.Common.{◌≡◌, ℕ, List, [], ◌∷◌, Option, Some, None, refl, subst}
use Rattle.std.specs.List.{AllByRecursion}
use Rattle.tlm_model.specs.declared.operation.Operation.{Operation}
use Rattle.traffic_script.specs.Proper.{IsProper}
use Rattle.script_engine.specs.State.{Due, State, passed_over, told_at, told_first}

pub proper_passed : (e : State) (ops : List Operation) → AllByRecursion IsProper e.remaining → e.remaining ≡ ops → AllByRecursion IsProper (passed_over e ops).remaining
proper_passed e [] all is = all
proper_passed e (op ∷ ops) all is = (subst (AllByRecursion IsProper) is all).1

proper_first : (e : State) (got : List ℕ) (ops : List Operation) → AllByRecursion IsProper e.remaining → e.remaining ≡ ops → AllByRecursion IsProper (told_first e got ops).remaining
proper_first e got [] all is = all
proper_first e got (op ∷ ops) all is = (subst (AllByRecursion IsProper) is all).1

pub proper_told : (e : State) (got : List ℕ) (due : Option Due) → AllByRecursion IsProper e.remaining → AllByRecursion IsProper (told_at e got due).remaining
proper_told e got None all = proper_first e got e.remaining all refl
proper_told e got (Some w) all = all
