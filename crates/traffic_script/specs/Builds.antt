-- What a builder has so far.
use Rattle.std.specs.Prelude.{List, ◌++◌, Option, Some, None}
use Rattle.tlm_model.specs.declared.operation.Operation.{Operation}
use Rattle.traffic_script.specs.declared.builder.Repeat.{Repeat}
use Rattle.traffic_script.specs.Drafts.{Draft}

-- the last operations stand behind the others, or in a repeat that hasn't ended
abbrev pub draft_of : List Operation → List Operation → Option Repeat → Draft
draft_of before last None = record { before = before ++ last; block = None }
draft_of before last (Some r) = record { before = before; block = Some (record { line = r.line; times = r.times; body = last }) }
