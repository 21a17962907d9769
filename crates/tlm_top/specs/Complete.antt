-- When a command line has what it asks for.
use Rattle.std.specs.Prelude.{ℕ}
use Rattle.outside.specs.Causes.{Rose}
use Rattle.tlm_model.specs.Plan.{Plan}
use Rattle.route_plan.specs.Valid.{IsValid}
use Rattle.command_words.specs.Words.{CommandLine, run, script, gen}
use Rattle.plan_loads.specs.Files.{Files, files_read, IsPlan}
use Rattle.plan_loads.specs.Told.{AreTold}
use Rattle.tlm_top.specs.Headline.{Outside, IsAnswer}
use Rattle.plan_loads.specs.declared.exit.Exit.{Exit}
use Rattle.plan_loads.specs.declared.exit.Exit.TheVariants.{Done, ReadFault, NoMemory, TooLong}

-- what the library has to tell: of generated files nothing
abbrev pub HasToldFiles : Files → CommandLine → Plan → Type 0
HasToldFiles f (run file workers trace) plan = AreTold f (run file workers trace) plan
HasToldFiles f (script file) plan = AreTold f (script file) plan
HasToldFiles f (gen seed workers) plan = Unit {0}

-- a command line asks for a valid plan, the library tells its files, and no failure was counted
pub record IsAmple (o : Outside) (command : CommandLine) : Type 0 where
  pub plan : Plan
  pub asked : IsPlan (files_read o.files command).holds command plan
  pub valid : IsValid plan
  pub loaded : HasToldFiles o.files command plan
  pub writes : ¬ Rose o.out.faults_before o.out.faults_after

-- what was asked for was written, or memory was refused
abbrev pub IsServed : Exit → Type 0
IsServed (Done sealed) = Unit {0}
IsServed NoMemory = Unit {0}
IsServed exit = ⊥

-- such a command line is answered with what it asks for, or with want of memory
abbrev pub IsComplete : Type 0
IsComplete = (exit : Exit) (o : Outside) (command : CommandLine) → IsAnswer exit o command → IsAmple o command → IsServed exit

-- no file failed, or was too long
abbrev pub HasLoaded : Exit → Type 0
HasLoaded (ReadFault name) = ⊥
HasLoaded (TooLong name) = ⊥
HasLoaded exit = Unit {0}

-- what is generated is never a fault of a load
abbrev pub IsGeneratedWhole : Type 0
IsGeneratedWhole = (exit : Exit) (o : Outside) (seed workers : ℕ) → IsAnswer exit o (gen seed workers) → HasLoaded exit
