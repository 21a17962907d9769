-- What a command line asks for, as the code has it.
use Rattle.std.specs.Prelude.{◌≤◌, ⊤, List, map, String, string_bytes}
use Rattle.std.specs.declared.alloc.Global.{Global}
use Rattle.command_words.specs.Words.{CommandLine, Text, run, script, gen}
use Rattle.command_words.specs.declared.command.Command.{Command}
use Rattle.command_words.specs.declared.command.Command.TheVariants.{Run, Script, Gen}

abbrev pub texts : List (String Global) → List Text
texts words = map (λ w. string_bytes w) words

abbrev pub line_of : Command → CommandLine
line_of (Run file workers trace) = run file.now workers trace
line_of (Script file) = script file.now
line_of (Gen seed workers) = gen seed workers

-- a run of a file or of a number has 1 to 16 workers
abbrev pub HasRightWorkers : Command → Type 0
HasRightWorkers (Run file workers trace) = (1 ≤ workers) × (workers ≤ 16)
HasRightWorkers (Script file) = ⊤
HasRightWorkers (Gen seed workers) = (1 ≤ workers) × (workers ≤ 16)
