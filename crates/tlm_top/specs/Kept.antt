-- Whether the logs of a run are kept.
use Rattle.tlm_model.specs.declared.trace.Trace.{Trace}
use Rattle.tlm_model.specs.declared.trace.Trace.TheVariants.{All as all_entries, Accesses as accesses_alone, None as no_entries}
use Rattle.command_words.specs.Words.{CommandLine, run, script, gen}
use Rattle.plat_run.specs.declared.logs.Logs.{Logs}
use Rattle.plat_run.specs.declared.logs.Logs.TheVariants.{Kept, Forgotten}

-- whether a report with this trace reads the logs: it does, unless it shows no entry
abbrev pub logs_for : Trace → Logs
logs_for all_entries = Kept
logs_for accesses_alone = Kept
logs_for no_entries = Forgotten

-- whether what a command line wants of a run reads the logs
abbrev pub logs_of : CommandLine → Logs
logs_of (run file workers trace) = logs_for trace
logs_of (script file) = Kept
logs_of (gen seed workers) = Kept
