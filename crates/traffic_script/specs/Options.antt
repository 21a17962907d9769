-- The options of a write or a read.
use Rattle.std.specs.Prelude.{ℕ, List, [], ◌∷◌, drop, Some, None, is_some, nat_eq, if◌then◌else◌, Result, Ok, Err, codes}
use Rattle.std.specs.List.{starts_with}
use Rattle.traffic_script.specs.declared.fault.ScriptCode.{ScriptCode}
use Rattle.traffic_script.specs.declared.fault.ScriptCode.TheVariants.{BadOption}
use Rattle.traffic_script.specs.declared.options.Options.{Options}
use Rattle.tlm_types.specs.Reading.{◌>>=◌}
use Rattle.traffic_script.specs.Numbers.{read_number, enables_of}

abbrev pub no_options : Options
no_options = record { enables = None; width = None }

-- `be=` with byte enables, once
abbrev pub with_enables : Options → List ℕ → Result Options ScriptCode
with_enables options hex = if is_some options.enables then Err BadOption else
    (enables_of hex >>= λ enables. Ok (record options { enables = Some enables }))

-- `sw=` with a streaming width, once
abbrev pub with_width : Options → List ℕ → Result Options ScriptCode
with_width options number = if is_some options.width then Err BadOption else
    (read_number number >>= λ width. Ok (record options { width = Some width }))

-- one more option
abbrev pub with_option : Options → List ℕ → Result Options ScriptCode
with_option options word =
    if starts_with nat_eq word (codes "be=") then with_enables options (drop 3 word)
    else if starts_with nat_eq word (codes "sw=") then with_width options (drop 3 word)
    else Err BadOption

-- options from left to right
abbrev pub with_options : Options → List (List ℕ) → Result Options ScriptCode
with_options options [] = Ok options
with_options options (word ∷ words) = with_option options word >>= λ more. with_options more words
