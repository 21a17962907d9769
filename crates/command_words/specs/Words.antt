-- The words of the command line.
use Rattle.std.specs.Prelude.{ℕ, ◌+◌, ◌-◌, ◌^◌, ◌==◌, ◌&&◌, ◌||◌, Bool, List, [], ◌∷◌, ◌++◌, Option, Some, None}
use Rattle.std.specs.Prelude.{option_map, option_and_then, if◌then◌else◌, codes, drop, length, nat_eq, nat_le, nat_lt}
use Rattle.std.specs.Fmt.{decimal}
use Rattle.std.specs.List.{starts_with, filter_map}
use Rattle.std.specs.Str.{bytes_eq}
use Rattle.std.specs.Str.Parse.{digits_value}
use Rattle.tlm_model.specs.declared.trace.Trace.{Trace}
use Rattle.tlm_model.specs.declared.trace.Trace.TheVariants.{All as all_entries, Accesses as accesses_alone, None as no_entries}

abbrev pub Text : Type 0
Text = List ℕ

-- what a command line asks for: a run of the platform of a file, of one script, or of what is generated of a number
pub data CommandLine : Type 0 where
  run : (file : Text) → (workers : ℕ) → (trace : Trace) → CommandLine
  script : (file : Text) → CommandLine
  gen : (seed : ℕ) → (workers : ℕ) → CommandLine

-- ---- one word

-- a file's name: not empty, and it doesn't begin with `-`
abbrev pub file_name : Text → Option Text
file_name [] = None
file_name (c ∷ cs) = if c == 45 then None else Some (c ∷ cs)

-- a seed is a number below 2^64 as it is printed: decimal, without sign or leading zeros
abbrev pub seed_of : Text → Option ℕ
seed_of word =
    if nat_lt (digits_value 10 word) (2 ^ 64) && bytes_eq word (decimal (digits_value 10 word)) then Some (digits_value 10 word) else None

-- the value of the one digit or of the two digits of a number from 1 to 16
abbrev pub one_to_nine : ℕ → Option ℕ
one_to_nine d = if nat_le 49 d && nat_le d 57 then Some (d - 48) else None

abbrev pub ten_to_sixteen : ℕ → ℕ → Option ℕ
ten_to_sixteen t u =
    if t == 49 && (nat_le 48 u && nat_le u 54) then Some (u - 48 + 10) else None

-- 1 to 16 in decimal, without sign or leading zeros
abbrev pub workers_of : Text → Option ℕ
workers_of [] = None
workers_of (d ∷ []) = one_to_nine d
workers_of (t ∷ u ∷ []) = ten_to_sixteen t u
workers_of (t ∷ u ∷ x ∷ xs) = None

abbrev pub trace_of : Text → Option Trace
trace_of word =
    if bytes_eq word (codes "all") then Some all_entries
    else if bytes_eq word (codes "accesses") then Some accesses_alone
    else if bytes_eq word (codes "none") then Some no_entries
    else None

-- ---- the words after `run` or `gen`

-- a part of these words: a file, or what stands in its place; or an option with its value
pub data Part : Type 0 where
  file : (name : Text) → Part
  workers : (value : Text) → Part
  trace : (value : Text) → Part

-- what follows the prefix
abbrev pub after_prefix : Text → Text → Option Text
after_prefix prefix word =
    if starts_with nat_eq word prefix then Some (drop (length prefix) word) else None

abbrev pub file_part : Text → Option Part
file_part word = option_map file (file_name word)

abbrev pub workers_part : Text → Option Part
workers_part value = option_map (λ _. workers value) (workers_of value)

abbrev pub trace_part : Text → Option Part
trace_part value = option_map (λ _. trace value) (trace_of value)

abbrev pub trace_or_file : Option Text → Text → Option Part
trace_or_file (Some value) word = trace_part value
trace_or_file None word = file_part word

abbrev pub workers_or_other : Option Text → Text → Option Part
workers_or_other (Some value) word = workers_part value
workers_or_other None word = trace_or_file (after_prefix (codes "--trace=") word) word

-- `--workers=N`, `--trace=W` or a file
abbrev pub part_of : Text → Option Part
part_of word = workers_or_other (after_prefix (codes "--workers=") word) word

-- `--workers` or `--trace`, whose value is the next word
abbrev pub wants_value : Text → Bool
wants_value word = bytes_eq word (codes "--workers") || bytes_eq word (codes "--trace")

-- the words, where an option and the value in the next word are made one word, as `--workers=N`
abbrev pub joined_after : Option Text → List Text → List Text
joined_after None [] = []
joined_after None (word ∷ rest) =
    if wants_value word then joined_after (Some word) rest else word ∷ joined_after None rest
joined_after (Some option) [] = option ∷ []
joined_after (Some option) (value ∷ rest) = (option ++ 61 ∷ value) ∷ joined_after None rest

abbrev pub joined : List Text → List Text
joined words = joined_after None words

-- each word as a part
abbrev pub parts_of : List Text → Option (List Part)
parts_of [] = Some []
parts_of (word ∷ rest) =
    option_and_then (λ part. option_map (λ parts. part ∷ parts) (parts_of rest)) (part_of word)

abbrev pub file_in : Part → Option Text
file_in (file name) = Some name
file_in (workers value) = None
file_in (trace value) = None

abbrev pub workers_in : Part → Option Text
workers_in (file name) = None
workers_in (workers value) = Some value
workers_in (trace value) = None

abbrev pub trace_in : Part → Option Text
trace_in (file name) = None
trace_in (workers value) = None
trace_in (trace value) = Some value

abbrev pub only_one : {X : Type 0} → List X → Option X
only_one [] = None
only_one (x ∷ []) = Some x
only_one (x ∷ y ∷ more) = None

abbrev pub one_or : {X : Type 0} → X → List X → Option X
one_or default [] = Some default
one_or default (x ∷ []) = Some x
one_or default (x ∷ y ∷ more) = None

abbrev pub run_line : Option Text → Option ℕ → Option Trace → Option CommandLine
run_line None n t = None
run_line (Some name) None t = None
run_line (Some name) (Some n) None = None
run_line (Some name) (Some n) (Some t) = Some (run name n t)

-- just one file, and each option at most once: `--workers 4` and `--trace all` where it is left out
abbrev pub asked : List Part → Option CommandLine
asked parts = run_line (only_one (filter_map file_in parts))
    (option_and_then workers_of (one_or (codes "4") (filter_map workers_in parts)))
    (option_and_then trace_of (one_or (codes "all") (filter_map trace_in parts)))

-- ---- the words after `gen`

abbrev pub gen_line : Option ℕ → Option ℕ → Option CommandLine
gen_line None n = None
gen_line (Some seed) None = None
gen_line (Some seed) (Some n) = Some (gen seed n)

-- just one seed in the place of a file, and the number of workers at most once: `--workers 4` where it is left out
abbrev pub gen_by : List Text → List Part → Option CommandLine
gen_by [] parts = gen_line (option_and_then seed_of (only_one (filter_map file_in parts)))
    (option_and_then workers_of (one_or (codes "4") (filter_map workers_in parts)))
gen_by (t ∷ traces) parts = None

-- the same, and no trace
abbrev pub gen_asked : List Part → Option CommandLine
gen_asked parts = gen_by (filter_map trace_in parts) parts

-- ---- the command line

abbrev pub run_of : List Text → Option CommandLine
run_of words = option_and_then asked (parts_of (joined words))

abbrev pub gen_of : List Text → Option CommandLine
gen_of words = option_and_then gen_asked (parts_of (joined words))

abbrev pub script_of : List Text → Option CommandLine
script_of [] = None
script_of (name ∷ []) = option_map script (file_name name)
script_of (name ∷ more ∷ rest) = None

-- what the words ask for, where they are a command line
abbrev pub command_of : List Text → Option CommandLine
command_of [] = None
command_of (word ∷ rest) =
    if bytes_eq word (codes "run") then run_of rest
    else if bytes_eq word (codes "script") then script_of rest
    else if bytes_eq word (codes "gen") then gen_of rest
    else None
