-- The operations of a text.
use Rattle.std.specs.Prelude.{ℕ, ◌+◌, List, [], ◌∷◌, length, nat_le, if◌then◌else◌, Result, Ok, Err}
use Rattle.std.specs.Str.Lines.{lines}
use Rattle.tlm_model.specs.declared.operation.Operation.{Operation}
use Rattle.traffic_script.specs.declared.fault.ScriptCode.{ScriptCode}
use Rattle.traffic_script.specs.declared.fault.ScriptCode.TheVariants.{TooManyLines}
use Rattle.traffic_script.specs.Reading.{ScriptRefusal, placed}
use Rattle.tlm_types.specs.Reading.{◌>>=◌}
use Rattle.traffic_script.specs.Statements.{statement_of}
use Rattle.traffic_script.specs.Drafts.{Draft, empty_draft, taken, finished}

-- with line n of a script of this version
abbrev pub with_line : ℕ → ℕ → Draft → List ℕ → Result Draft ScriptCode
with_line version n d line = statement_of version line >>= λ statement. taken n d statement

-- with these lines, from line n on
abbrev pub with_lines : ℕ → ℕ → Draft → List (List ℕ) → Result Draft ScriptRefusal
with_lines version n d [] = Ok d
with_lines version n d (line ∷ more) = placed n (with_line version n d line) >>= λ next. with_lines version (n + 1) next more

-- The operations of a script, with repeats written out, or its first refusal. Version 2 has the operation `fetch_add`,
-- and version 1 has not. Lines end with a line feed, the
-- last may lack it, and a carriage return before a line feed is dropped.
unfoldable pub script_of : ℕ → List ℕ → Result (List Operation) ScriptRefusal
script_of version text =
    if nat_le (length (lines text)) 10000 then with_lines version 1 empty_draft (lines text) >>= finished
    else Err (record { line = 10001; code = TooManyLines })
