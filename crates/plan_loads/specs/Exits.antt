-- The answers: their numbers, and the line that tells of each.
use Rattle.std.specs.Prelude.{ℕ, List, [], ◌∷◌, Bool, false, codes}
use Rattle.std.specs.Fmt.{decimal}
use Rattle.std.specs.List.{concat}
use Rattle.platform_model.specs.Code.{platform_code_word as platform_word}
use Rattle.platform_model.specs.declared.fault.PlatformFault.{PlatformFault}
use Rattle.platform_model.specs.declared.fault.PlatformFault.TheVariants.{Refused, Memory}
use Rattle.traffic_script.specs.Reading.{script_code_word as script_word}
use Rattle.plan_loads.specs.declared.exit.Exit.{Exit}
use Rattle.plan_loads.specs.declared.exit.Exit.TheVariants.{Done, Usage, PlatformRefused, ScriptRefused, ReadFault, WriteFault, NoMemory, TooLong}

abbrev pub exit_number : Exit → ℕ
exit_number (Done sealed) = 0
exit_number Usage = 1
exit_number (PlatformRefused code table key) = 2
exit_number (ScriptRefused initiator name line code) = 3
exit_number (ReadFault name) = 4
exit_number (WriteFault sealed) = 5
exit_number NoMemory = 6
exit_number (TooLong name) = 7

-- what a fault of a platform is answered with
abbrev pub exit_of : PlatformFault → Exit
exit_of (Refused code table key) = PlatformRefused code table key
exit_of Memory = NoMemory

-- the pieces of the line that `diag` is told
abbrev pub told_pieces : Exit → List (List ℕ)
told_pieces (Done sealed) = []
told_pieces Usage = codes "usage: tlmrun run FILE [--workers N] [--trace all|accesses|none]; tlmrun gen SEED [--workers N]; tlmrun script FILE\n" ∷ []
told_pieces (PlatformRefused code table key) = codes "platform refused: " ∷ platform_word code ∷ codes " " ∷ table ∷ codes " " ∷ key ∷ codes "\n" ∷ []
told_pieces (ScriptRefused initiator name line code) = codes "script refused: " ∷ name ∷ codes " line " ∷ decimal line ∷ codes ": " ∷ script_word code ∷ codes "\n" ∷ []
told_pieces (ReadFault name) = codes "read fault: " ∷ name ∷ codes "\n" ∷ []
told_pieces (WriteFault sealed) = codes "write fault\n" ∷ []
told_pieces NoMemory = codes "no memory\n" ∷ []
told_pieces (TooLong name) = codes "too long: " ∷ name ∷ codes "\n" ∷ []

-- what `diag` is told: nothing of a run that is done, and a line of every other answer
abbrev pub told_of : Exit → List ℕ
told_of exit = concat (told_pieces exit)

-- the answer after the sink's rest was written, or wasn't: only a report that was done is spoilt by that
abbrev pub answer_after : Bool → Exit → Exit
answer_after false (Done sealed) = WriteFault sealed
answer_after written exit = exit

-- what `diag` is told then
abbrev pub told_after : Bool → Exit → List ℕ
told_after false (Done sealed) = told_of (WriteFault sealed)
told_after written exit = []
