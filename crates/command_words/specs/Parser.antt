-- What `clap` reads of the words after `run`.
use Rattle.std.specs.Prelude.{Some, codes, true}
use Rattle.clap.specs.Words.{App, Rule, new_app, new_rule, with_rule}

abbrev pub workers_rule : Rule
workers_rule = record (new_rule (codes "workers")) { long = Some (codes "workers") }

abbrev pub trace_rule : Rule
trace_rule = record (new_rule (codes "trace")) { long = Some (codes "trace") }

abbrev pub file_rule : Rule
file_rule = new_rule (codes "file")

-- a command without a name before its words and without `--help`
abbrev pub bare_app : App
bare_app = let named = new_app (codes "run") in
    record named { top = record named.top { no_binary_name = true; disable_help_flag = true } }

-- the command `run`, with its two options and its file
abbrev pub run_app : App
run_app = with_rule (with_rule (with_rule bare_app workers_rule) trace_rule) file_rule
