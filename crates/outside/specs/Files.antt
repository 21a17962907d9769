-- Files in memory.
use Rattle.std.specs.Prelude.{ℕ, List, [], Option, find, nat_eq, unwrap_or}
use Rattle.std.specs.Option.{option_map}
use Rattle.std.specs.Cmp.Lexicographic.{pointwise}
use Rattle.outside.specs.declared.libraries.NamedFile.{NamedFile}

-- the bytes of the first file of this name
abbrev pub held : List NamedFile → List ℕ → Option (List ℕ)
held files name = option_map (λ f. f.bytes) (find (λ f. pointwise nat_eq f.name name) files)

-- the same, where a name that isn't held is an empty file
abbrev pub held_or_empty : List NamedFile → List ℕ → List ℕ
held_or_empty files name = unwrap_or (held files name) []
