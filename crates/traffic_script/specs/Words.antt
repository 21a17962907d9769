-- The words of a line.
use Rattle.std.specs.Prelude.{ℕ, Bool, ◌&&◌, ◌||◌, ◌==◌, List, length, filter, nat_le, nat_lt, if◌then◌else◌, Result, Ok, Err}
use Rattle.std.specs.List.{list_all, before_first, slice_split}
use Rattle.traffic_script.specs.declared.fault.ScriptCode.{ScriptCode}
use Rattle.traffic_script.specs.declared.fault.ScriptCode.TheVariants.{BadByte}

-- a byte that may stand in a line: a tab, or from a space to a tilde
abbrev pub is_printable : ℕ → Bool
is_printable b = b == 9 || nat_le 32 b && nat_le b 126

-- words are parted by spaces and tabs
abbrev pub is_blank : ℕ → Bool
is_blank b = b == 32 || b == 9

abbrev pub words_of : List ℕ → List (List ℕ)
words_of text = filter (λ word. nat_lt 0 (length word)) (slice_split is_blank text)

-- what stands in a line of plain bytes before its comment, which `#` begins
abbrev pub text_of : List ℕ → Result (List ℕ) ScriptCode
text_of line = if list_all is_printable line then Ok (before_first (λ b. b == 35) line) else Err BadByte
