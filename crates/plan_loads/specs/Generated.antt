-- The files that are generated of a number.
use Rattle.std.specs.Prelude.{ℕ, List, [], ◌∷◌, Option, Some, codes}
use Rattle.outside.specs.Files.{held_or_empty}
use Rattle.outside.specs.declared.libraries.NamedFile.{NamedFile}
use Rattle.traffic_gen.specs.Texts.{platform_text, scripts}

-- the name of the platform's file, and those of its scripts' files, as the platform names them
abbrev pub platform_name : List ℕ
platform_name = codes "platform.toml"

abbrev pub script_names : List (List ℕ)
script_names = codes "c0.txt" ∷ codes "c1.txt" ∷ codes "d0.txt" ∷ codes "f0.txt" ∷ []

-- files of these names and texts, in order
abbrev pub named_files : List (List ℕ) → List (List ℕ) → List NamedFile
named_files [] texts = []
named_files (name ∷ names) [] = []
named_files (name ∷ names) (text ∷ texts) = record { name = name; bytes = text } ∷ named_files names texts

abbrev pub generated_files : ℕ → List NamedFile
generated_files seed = record { name = platform_name; bytes = platform_text } ∷ named_files script_names (scripts 4 seed)

-- what is held under each name: every other name is an empty file
abbrev pub generated : ℕ → List ℕ → Option (List ℕ)
generated seed name = Some (held_or_empty (generated_files seed) name)
