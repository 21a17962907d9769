-- The statement of a line.
use Rattle.std.specs.Prelude.{ℕ, List, [], ◌∷◌, Option, Some, None, unwrap_or, ◌==◌, if◌then◌else◌, Result, Ok, Err, codes}
use Rattle.std.specs.Str.{bytes_eq}
use Rattle.tlm_model.specs.declared.operation.Operation.{Operation}
use Rattle.tlm_model.specs.declared.operation.Operation.TheVariants.{Write, Read, Ignore, Debug, Copy, Add, FetchAdd, Wait, Sync, Fence, Invalidate}
use Rattle.traffic_script.specs.declared.fault.ScriptCode.{ScriptCode}
use Rattle.traffic_script.specs.declared.fault.ScriptCode.TheVariants.{UnknownOperation, Arity}
use Rattle.traffic_script.specs.declared.keyword.Keyword.{Keyword}
use Rattle.traffic_script.specs.declared.keyword.Keyword.TheVariants as keyword
use Rattle.traffic_script.specs.declared.statement.Statement.{Statement}
use Rattle.traffic_script.specs.declared.statement.Statement.TheVariants.{Asks, Repeats, Ends}
use Rattle.tlm_types.specs.Reading.{◌>>=◌}
use Rattle.traffic_script.specs.Words.{words_of, text_of}
use Rattle.traffic_script.specs.Numbers.{read_number, length_of, span_of, times_of, addend_of, data_of}
use Rattle.traffic_script.specs.Options.{no_options, with_options}

-- what the first word of a line names
abbrev pub keyword_of : List ℕ → Result Keyword ScriptCode
keyword_of word =
    if bytes_eq word (codes "write") then Ok keyword.Write
    else if bytes_eq word (codes "read") then Ok keyword.Read
    else if bytes_eq word (codes "ignore") then Ok keyword.Ignore
    else if bytes_eq word (codes "debug") then Ok keyword.Debug
    else if bytes_eq word (codes "copy") then Ok keyword.Copy
    else if bytes_eq word (codes "add") then Ok keyword.Add
    else if bytes_eq word (codes "fetch_add") then Ok keyword.FetchAdd
    else if bytes_eq word (codes "wait") then Ok keyword.Wait
    else if bytes_eq word (codes "sync") then Ok keyword.Sync
    else if bytes_eq word (codes "fence") then Ok keyword.Fence
    else if bytes_eq word (codes "invalidate") then Ok keyword.Invalidate
    else if bytes_eq word (codes "repeat") then Ok keyword.Repeat
    else if bytes_eq word (codes "end") then Ok keyword.End
    else Err UnknownOperation

-- `write ADDR HEX` with options
abbrev pub write_of : List (List ℕ) → Result Operation ScriptCode
write_of (address ∷ data_word ∷ words) = do
  at ← read_number address
  bytes ← data_of data_word
  options ← with_options no_options words
  Ok (Write at bytes (unwrap_or options.enables []) options.width)
write_of words = Err Arity

-- `read ADDR LEN` with options
abbrev pub read_of : List (List ℕ) → Result Operation ScriptCode
read_of (address ∷ count ∷ words) = do
  at ← read_number address
  n ← length_of count
  options ← with_options no_options words
  Ok (Read at n (unwrap_or options.enables []) options.width)
read_of words = Err Arity

-- `ignore ADDR`
abbrev pub ignore_of : List (List ℕ) → Result Operation ScriptCode
ignore_of (address ∷ []) = read_number address >>= λ at. Ok (Ignore at)
ignore_of words = Err Arity

-- `debug ADDR LEN`
abbrev pub debug_of : List (List ℕ) → Result Operation ScriptCode
debug_of (address ∷ count ∷ []) = do
  at ← read_number address
  n ← length_of count
  Ok (Debug at n)
debug_of words = Err Arity

-- `copy SRC DST LEN`
abbrev pub copy_of : List (List ℕ) → Result Operation ScriptCode
copy_of (source ∷ target ∷ count ∷ []) = do
  from ← read_number source
  to ← read_number target
  n ← length_of count
  Ok (Copy from to n)
copy_of words = Err Arity

-- `add ADDR N`
abbrev pub add_of : List (List ℕ) → Result Operation ScriptCode
add_of (address ∷ number ∷ []) = do
  at ← read_number address
  n ← addend_of number
  Ok (Add at n)
add_of words = Err Arity

-- `fetch_add ADDR N`
abbrev pub fetch_add_of : List (List ℕ) → Result Operation ScriptCode
fetch_add_of (address ∷ number ∷ []) = do
  at ← read_number address
  n ← addend_of number
  Ok (FetchAdd at n)
fetch_add_of words = Err Arity

-- `wait PS`
abbrev pub wait_of : List (List ℕ) → Result Operation ScriptCode
wait_of (number ∷ []) = read_number number >>= λ time. Ok (Wait time)
wait_of words = Err Arity

-- `invalidate ADDR LEN`
abbrev pub invalidate_of : List (List ℕ) → Result Operation ScriptCode
invalidate_of (address ∷ count ∷ []) = do
  at ← read_number address
  n ← span_of count
  Ok (Invalidate at n)
invalidate_of words = Err Arity

-- a word that stands alone
abbrev pub alone : {A : Type 0} → A → List (List ℕ) → Result A ScriptCode
alone x [] = Ok x
alone x (word ∷ words) = Err Arity

-- `repeat N`
abbrev pub repeat_of : List (List ℕ) → Result Statement ScriptCode
repeat_of (number ∷ []) = times_of number >>= λ times. Ok (Repeats times)
repeat_of words = Err Arity

abbrev pub asks : Result Operation ScriptCode → Result Statement ScriptCode
asks read = read >>= λ operation. Ok (Asks operation)

-- what version 2 has, and no other
abbrev pub of_version_2 : ℕ → Result Operation ScriptCode → Result Operation ScriptCode
of_version_2 version read = if version == 2 then read else Err UnknownOperation

-- what a keyword with the words behind it says in this version
abbrev pub statement_by : ℕ → Keyword → List (List ℕ) → Result Statement ScriptCode
statement_by version keyword.Write words = asks (write_of words)
statement_by version keyword.Read words = asks (read_of words)
statement_by version keyword.Ignore words = asks (ignore_of words)
statement_by version keyword.Debug words = asks (debug_of words)
statement_by version keyword.Copy words = asks (copy_of words)
statement_by version keyword.Add words = asks (add_of words)
statement_by version keyword.FetchAdd words = asks (of_version_2 version (fetch_add_of words))
statement_by version keyword.Wait words = asks (wait_of words)
statement_by version keyword.Sync words = asks (alone Sync words)
statement_by version keyword.Fence words = asks (alone Fence words)
statement_by version keyword.Invalidate words = asks (invalidate_of words)
statement_by version keyword.Repeat words = repeat_of words
statement_by version keyword.End words = alone Ends words

-- what the words of a line say, if there are any
abbrev pub statement_in : ℕ → List (List ℕ) → Result (Option Statement) ScriptCode
statement_in version [] = Ok None
statement_in version (word ∷ words) = do
  name ← keyword_of word
  statement ← statement_by version name words
  Ok (Some statement)

-- what a line says in this version
abbrev pub statement_of : ℕ → List ℕ → Result (Option Statement) ScriptCode
statement_of version line = text_of line >>= λ text. statement_in version (words_of text)
