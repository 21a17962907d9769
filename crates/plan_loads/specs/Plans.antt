-- What a command line has before it is run: why there is no plan, and how many workers run it.
use Rattle.std.specs.Prelude.{ℕ}
use Rattle.command_words.specs.Words.{CommandLine, run, script, gen}
use Rattle.plan_loads.specs.Files.{Files, IsPlatformRefused, IsScriptRefused, IsLoaded, HasFailed, IsLong}
use Rattle.plan_loads.specs.declared.exit.Exit.{Exit}
use Rattle.plan_loads.specs.declared.exit.Exit.TheVariants.{Done, Usage, PlatformRefused, ScriptRefused, ReadFault, WriteFault, NoMemory, TooLong}

-- why there is no plan
abbrev pub IsRefusal : Exit → Files → CommandLine → Type 0
IsRefusal (Done sealed) f command = ⊥
IsRefusal Usage f command = ⊥
IsRefusal (PlatformRefused code table key) f command = IsPlatformRefused f.holds command (record { code = code; table = table; key = key })
IsRefusal (ScriptRefused initiator name line code) f command = IsScriptRefused f.holds command initiator name (record { line = line; code = code })
IsRefusal (ReadFault name) f command = IsLoaded f.holds command name × HasFailed f name
IsRefusal (WriteFault sealed) f command = ⊥
IsRefusal NoMemory f command = Unit {0}
IsRefusal (TooLong name) f command = IsLoaded f.holds command name × IsLong f.holds name

-- how many workers run it
abbrev pub workers_of : CommandLine → ℕ
workers_of (run file workers trace) = workers
workers_of (script file) = 1
workers_of (gen seed workers) = workers
