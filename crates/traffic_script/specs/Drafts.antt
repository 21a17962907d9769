-- A script of which so many lines are read.
use Rattle.std.specs.Prelude.{ℕ, ◌+◌, ◌*◌, List, [], ◌∷◌, ◌++◌, length, Option, Some, None, nat_le, nat_lt, ◌==◌, if◌then◌else◌, Result, Ok, Err}
use Rattle.tlm_model.specs.declared.operation.Operation.{Operation}
use Rattle.traffic_script.specs.declared.fault.ScriptCode.{ScriptCode}
use Rattle.traffic_script.specs.declared.fault.ScriptCode.TheVariants.{NestedRepeat, EndWithoutRepeat, EmptyRepeat, TooManyOperations, RepeatWithoutEnd}
use Rattle.traffic_script.specs.declared.statement.Statement.{Statement}
use Rattle.traffic_script.specs.declared.statement.Statement.TheVariants.{Asks, Repeats, Ends}
use Rattle.traffic_script.specs.Pieces.{repeated}
use Rattle.traffic_script.specs.Reading.{ScriptRefusal}

-- a repeat that hasn't ended: its line, how often it is done, and its operations so far
pub record Block : Type 0 where
  pub line : ℕ
  pub times : ℕ
  pub body : List Operation

-- the operations so far, and the repeat that hasn't ended, if there is one
pub record Draft : Type 0 where
  pub before : List Operation
  pub block : Option Block

abbrev pub empty_draft : Draft
empty_draft = record { before = []; block = None }

abbrev pub body_of : Option Block → List Operation
body_of None = []
body_of (Some b) = b.body

-- the operations so far: those of a repeat that hasn't ended count once
abbrev pub count_of : Draft → ℕ
count_of d = length d.before + length (body_of d.block)

abbrev pub added_in : List Operation → Option Block → Operation → Draft
added_in before None operation = record { before = before ++ operation ∷ []; block = None }
added_in before (Some b) operation = record { before = before; block = Some (record b { body = b.body ++ operation ∷ [] }) }

-- with one more operation
abbrev pub added : Draft → Operation → Result Draft ScriptCode
added d operation = if nat_lt (count_of d) 100000 then Ok (added_in d.before d.block operation) else Err TooManyOperations

abbrev pub begun_in : List Operation → Option Block → ℕ → ℕ → Result Draft ScriptCode
begun_in before None n times = Ok (record { before = before; block = Some (record { line = n; times = times; body = [] }) })
begun_in before (Some b) n times = Err NestedRepeat

-- with a repeat that begins at line n
abbrev pub repeat_begun : Draft → ℕ → ℕ → Result Draft ScriptCode
repeat_begun d n times = begun_in d.before d.block n times

abbrev pub ended_in : List Operation → Option Block → Result Draft ScriptCode
ended_in before None = Err EndWithoutRepeat
ended_in before (Some b) =
    if length b.body == 0 then Err EmptyRepeat
    else if nat_le (length before + b.times * length b.body) 100000 then Ok (record { before = before ++ repeated b.times b.body; block = None })
    else Err TooManyOperations

-- with the end of the repeat
abbrev pub ended : Draft → Result Draft ScriptCode
ended d = ended_in d.before d.block

-- with what line n says
abbrev pub taken : ℕ → Draft → Option Statement → Result Draft ScriptCode
taken n d None = Ok d
taken n d (Some (Asks operation)) = added d operation
taken n d (Some (Repeats times)) = repeat_begun d n times
taken n d (Some Ends) = ended d

abbrev pub finished_in : List Operation → Option Block → Result (List Operation) ScriptRefusal
finished_in before None = Ok before
finished_in before (Some b) = Err (record { line = b.line; code = RepeatWithoutEnd })

-- what was read, where no line is left
abbrev pub finished : Draft → Result (List Operation) ScriptRefusal
finished d = finished_in d.before d.block
