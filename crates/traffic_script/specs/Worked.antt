-- What worked scripts are answered with.
use Rattle.std.specs.Prelude.{ℕ, List, Result, Err}
use Rattle.tlm_model.specs.declared.operation.Operation.{Operation}
use Rattle.traffic_script.specs.declared.fault.ScriptCode.{ScriptCode}
use Rattle.traffic_script.specs.Reading.{ScriptRefusal}

-- the refusal with a code at a line
abbrev pub refused : ℕ → ScriptCode → Result (List Operation) ScriptRefusal
refused n code = Err (record { line = n; code = code })
