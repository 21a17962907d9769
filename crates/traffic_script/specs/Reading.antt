-- What is read, or the first refusal.
use Rattle.std.specs.Prelude.{ℕ, List, Option, Some, None, Result, Ok, Err, codes}
use Rattle.tlm_types.specs.Reading.{Returns}
use Rattle.traffic_script.specs.declared.fault.ScriptCode.{ScriptCode}
use Rattle.traffic_script.specs.declared.fault.ScriptCode.TheVariants.{TooManyLines, BadByte, UnknownOperation, Arity, BadNumber, BadHex, BadLength, BadOption, NestedRepeat, EndWithoutRepeat, EmptyRepeat, TooManyOperations, RepeatWithoutEnd}
use Rattle.traffic_script.specs.declared.fault.ScriptFault.{ScriptFault}
use Rattle.traffic_script.specs.declared.fault.ScriptFault.TheVariants as script
use Rattle.traffic_script.specs.declared.fault.LineFault.{LineFault}
use Rattle.traffic_script.specs.declared.fault.LineFault.TheVariants as line

-- a code as it is printed
abbrev pub script_code_word : ScriptCode → List ℕ
script_code_word TooManyLines = codes "too_many_lines"
script_code_word BadByte = codes "bad_byte"
script_code_word UnknownOperation = codes "unknown_operation"
script_code_word Arity = codes "arity"
script_code_word BadNumber = codes "bad_number"
script_code_word BadHex = codes "bad_hex"
script_code_word BadLength = codes "bad_length"
script_code_word BadOption = codes "bad_option"
script_code_word NestedRepeat = codes "nested_repeat"
script_code_word EndWithoutRepeat = codes "end_without_repeat"
script_code_word EmptyRepeat = codes "empty_repeat"
script_code_word TooManyOperations = codes "too_many_operations"
script_code_word RepeatWithoutEnd = codes "repeat_without_end"

-- why a script is refused: the number of a line, from 1, and the code
pub record ScriptRefusal : Type 0 where
  pub line : ℕ
  pub code : ScriptCode

-- a code at a line
abbrev pub placed : {A : Type 0} → ℕ → Result A ScriptCode → Result A ScriptRefusal
placed n (Ok x) = Ok x
placed n (Err code) = Err (record { line = n; code = code })

-- what a fault says: nothing where memory ran out
abbrev pub script_refusal_of : ScriptFault → Option ScriptRefusal
script_refusal_of (script.Refused n code) = Some (record { line = n; code = code })
script_refusal_of script.Memory = None

-- the same where the line isn't known yet
abbrev pub code_of : LineFault → Option ScriptCode
code_of (line.Refused code) = Some code
code_of line.Memory = None

-- what a function returned is what reading gives, unless memory ran out
abbrev pub ScriptGives : {A : Type 0} → Result A ScriptFault → Result A ScriptRefusal → Type 0
ScriptGives result read = Returns script_refusal_of (λ x. x) result read

abbrev pub GivesCode : {A : Type 0} → Result A LineFault → Result A ScriptCode → Type 0
GivesCode result read = Returns code_of (λ x. x) result read

-- a fault at a line
abbrev pub fault_at : ℕ → LineFault → ScriptFault
fault_at n (line.Refused code) = script.Refused n code
fault_at n line.Memory = script.Memory
