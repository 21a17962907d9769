-- A command line that asks for a valid plan, of files that are told, has its report.
use Rattle.tlm_model.specs.Plan.{Plan}
use Rattle.command_words.specs.Words.{CommandLine, run, script, gen}
use Rattle.plan_loads.specs.Generated.{generated}
use Rattle.plan_loads.specs.Files.{Files, files_read}
use Rattle.plan_loads.specs.Told.{AreTold}
use Rattle.plan_loads.specs.declared.exit.Exit.{Exit}
use Rattle.plan_loads.specs.declared.exit.Exit.TheVariants.{Done, Usage, PlatformRefused, ScriptRefused, ReadFault, WriteFault, NoMemory, TooLong}
use Rattle.plan_loads.proofs.Ample.{IsAmpleOver, loaded_is_told, no_refused_platform, no_refused_script, not_long}
use Rattle.plan_loads.proofs.Told.{generated_are_told, generated_is_told, no_failed_load}
use Rattle.tlm_top.specs.Headline.{IsAnswer}
use Rattle.tlm_top.specs.Complete.{IsComplete, IsGeneratedWhole, HasToldFiles, IsServed}

-- the files that a command line reads are told
told_files : (f : Files) (command : CommandLine) (plan : Plan) → HasToldFiles f command plan → AreTold (files_read f command) command plan
told_files f (run file workers trace) plan told = told
told_files f (script file) plan told = told
told_files f (gen seed workers) plan told = generated_are_told seed workers plan

pub is_complete : IsComplete
is_complete exit o command answer ample = by_exit exit answer
  where
    f : Files
    f = files_read o.files command

    over : IsAmpleOver f command
    over = record { plan = ample.plan; asked = ample.asked; valid = ample.valid; told = told_files o.files command ample.plan ample.loaded }

    by_exit : (e : Exit) → IsAnswer e o command → IsServed e
    by_exit (Done sealed) answer = tt
    by_exit Usage answer = absurd answer.1
    by_exit (PlatformRefused code table key) answer = absurd (no_refused_platform f command _ over answer.1)
    by_exit (ScriptRefused initiator name line code) answer = absurd (no_refused_script f command initiator name line over _ answer.1)
    by_exit (ReadFault name) answer = absurd (over.told.loads name answer.1.1)
    by_exit (WriteFault sealed) answer = absurd (ample.writes answer.1)
    by_exit NoMemory answer = tt
    by_exit (TooLong name) answer = absurd (not_long f.holds name (loaded_is_told f command name over answer.1.0) answer.1.1)

pub is_generated_whole : IsGeneratedWhole
is_generated_whole (Done sealed) o seed workers answer = tt
is_generated_whole Usage o seed workers answer = tt
is_generated_whole (PlatformRefused code table key) o seed workers answer = tt
is_generated_whole (ScriptRefused initiator name line code) o seed workers answer = tt
is_generated_whole (ReadFault name) o seed workers answer = no_failed_load seed name answer.1.1
is_generated_whole (WriteFault sealed) o seed workers answer = tt
is_generated_whole NoMemory o seed workers answer = tt
is_generated_whole (TooLong name) o seed workers answer = not_long (generated seed) name (generated_is_told seed name) answer.1.1
