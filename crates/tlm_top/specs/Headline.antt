-- What the top call promises of each answer.
use Rattle.std.specs.Prelude.{ℕ, ◌≡◌, List, Option, Some, None}
use Rattle.outside.specs.Causes.{Rose}
use Rattle.outside.specs.Pieces.{TakesAll, TakesPrefix}
use Rattle.one_history.specs.Held.{Ended}
use Rattle.tlm_types.specs.declared.entry.Content.{Content}
use Rattle.tlm_types.specs.declared.entry.Entry.{Entry}
use Rattle.tlm_model.specs.declared.trace.Trace.TheVariants.{All as all_entries}
use Rattle.tlm_model.specs.Plan.{Plan}
use Rattle.report_model.specs.Report.{report_of}
use Rattle.good_history.specs.Good.{IsGood}
use Rattle.route_plan.specs.Valid.{IsValid}
use Rattle.plat_run.specs.Entries.{entries_read}
use Rattle.command_words.specs.Words.{CommandLine, run, script, gen, command_of}
use Rattle.trace_print.specs.Writes.{SinkChange}
use Rattle.plan_loads.specs.Totals.{totals_line, totals_of}
use Rattle.plan_loads.specs.Files.{Files, files_read, IsPlan}
use Rattle.plan_loads.specs.Plans.{IsRefusal}
use Rattle.plan_loads.specs.declared.exit.Exit.{Exit}
use Rattle.plan_loads.specs.declared.exit.Exit.TheVariants.{Done, Usage, WriteFault, NoMemory}

-- what is written of a history of this plan: its report, or of what was generated the line of its totals
abbrev pub written_of : CommandLine → Plan → List Entry → List ℕ
written_of (run file workers trace) p h = report_of trace p h
written_of (script file) p h = report_of all_entries p h
written_of (gen seed workers) p h = totals_line seed (totals_of p h)

-- what stands outside, before and after the call: the library, and where the report goes
pub record Outside : Type 0 where
  pub files : Files
  pub out : SinkChange

-- `out` took what is written of a closed history, or the part of it that `takes` says. The world of the history is the
-- valid plan that a command line asks for, and the history is good for it.
pub record IsReported (o : Outside) (command : CommandLine) (sealed : Ended Content Plan) (takes : Option (List ℕ) → Option (List ℕ) → List ℕ → Type 0) : Type 0 where
  pub asked : IsPlan (files_read o.files command).holds command sealed.world
  pub valid : IsValid sealed.world
  pub good : IsGood sealed.world (entries_read sealed.world.platform sealed.entries)
  pub taken : takes o.out.taken_before o.out.taken_after (written_of command sealed.world (entries_read sealed.world.platform sealed.entries))

-- `out` took nothing
abbrev pub IsQuiet : Outside → Type 0
IsQuiet o = o.out.taken_after ≡ o.out.taken_before

-- each answer to a command line, with its meaning and its cause
abbrev pub IsAnswer : Exit → Outside → CommandLine → Type 0
IsAnswer (Done sealed) o command = IsReported o command sealed TakesAll
IsAnswer (WriteFault sealed) o command = IsReported o command sealed TakesPrefix × Rose o.out.faults_before o.out.faults_after
IsAnswer exit o command = IsQuiet o × IsRefusal exit (files_read o.files command) command

-- words that are no command line are usage, and no others are
abbrev pub IsExplainedBy : Option CommandLine → Exit → Outside → Type 0
IsExplainedBy None exit o = (exit ≡ Usage) × IsQuiet o
IsExplainedBy (Some command) exit o = IsAnswer exit o command

-- each answer with its meaning and its cause
abbrev pub IsExplained : Exit → Outside → List (List ℕ) → Type 0
IsExplained exit o words = IsExplainedBy (command_of words) exit o

-- `out` took what is written of a closed history of this plan that is good for it, or the part of it that `takes` says
pub record IsDoneBy (takes : Option (List ℕ) → Option (List ℕ) → List ℕ → Type 0) (sealed : Ended Content Plan) (out : SinkChange) (command : CommandLine) (plan : Plan) : Type 0 where
  pub world : sealed.world ≡ plan
  pub good : IsGood plan (entries_read plan.platform sealed.entries)
  pub taken : takes out.taken_before out.taken_after (written_of command plan (entries_read plan.platform sealed.entries))

-- what comes of a plan: what is written of its run, a part of it where the sink failed, or nothing for want of memory
abbrev pub IsRunOf : Exit → SinkChange → CommandLine → Plan → Type 0
IsRunOf (Done sealed) out command plan = IsDoneBy TakesAll sealed out command plan
IsRunOf (WriteFault sealed) out command plan = IsDoneBy TakesPrefix sealed out command plan × Rose out.faults_before out.faults_after
IsRunOf NoMemory out command plan = out.taken_after ≡ out.taken_before
IsRunOf exit out command plan = ⊥
