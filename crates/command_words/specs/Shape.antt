-- The shape of the words after `run` or `gen`.
use Rattle.std.specs.Prelude.{Bool, true, false, ◌&&◌, List, [], ◌∷◌, ◌++◌, Option, Some, filter, is_some, option_map, option_and_then}
use Rattle.command_words.specs.Words.{Part, Text, file, workers, trace, part_of, seed_of}
use Rattle.command_words.specs.declared.shape.PartKind.{PartKind}
use Rattle.command_words.specs.declared.shape.PartKind.TheVariants.{File, Workers, Trace}
use Rattle.command_words.specs.declared.shape.Seen.{Seen}

abbrev pub kind_of : Part → PartKind
kind_of (file name) = File (is_some (seed_of name))
kind_of (workers value) = Workers
kind_of (trace value) = Trace

-- the kind of a word, and those of some words
abbrev pub kind_at : Text → Option PartKind
kind_at word = option_map kind_of (part_of word)

abbrev pub kinds_of : List Text → Option (List PartKind)
kinds_of [] = Some []
kinds_of (word ∷ rest) =
    option_and_then (λ kind. option_map (λ kinds. kind ∷ kinds) (kinds_of rest)) (kind_at word)

abbrev pub is_file : PartKind → Bool
is_file (File seed) = true
is_file Workers = false
is_file Trace = false

-- a file whose name is a seed
abbrev pub is_seed : PartKind → Bool
is_seed (File seed) = seed
is_seed Workers = false
is_seed Trace = false

abbrev pub is_workers : PartKind → Bool
is_workers (File seed) = false
is_workers Workers = true
is_workers Trace = false

abbrev pub is_trace : PartKind → Bool
is_trace (File seed) = false
is_trace Workers = false
is_trace Trace = true

abbrev pub is_one : List PartKind → Bool
is_one [] = false
is_one (x ∷ []) = true
is_one (x ∷ y ∷ more) = false

abbrev pub is_at_most_one : List PartKind → Bool
is_at_most_one [] = true
is_at_most_one (x ∷ []) = true
is_at_most_one (x ∷ y ∷ more) = false

abbrev pub is_none : List PartKind → Bool
is_none [] = true
is_none (x ∷ more) = false

-- one file, and each option at most once
abbrev pub fits : List PartKind → Bool
fits kinds = is_one (filter is_file kinds)
    && (is_at_most_one (filter is_workers kinds) && is_at_most_one (filter is_trace kinds))

-- one file, whose name is a seed; the number of workers at most once, and no trace
abbrev pub fits_gen : List PartKind → Bool
fits_gen kinds = (is_one (filter is_file kinds) && is_one (filter is_seed kinds))
    && (is_at_most_one (filter is_workers kinds) && is_none (filter is_trace kinds))

abbrev pub kind_if : Bool → PartKind → List PartKind
kind_if true kind = kind ∷ []
kind_if false kind = []

-- the kinds that were seen
abbrev pub seen_kinds : Seen → List PartKind
seen_kinds seen = kind_if seen.file (File seen.seed) ++ (kind_if seen.workers Workers ++ kind_if seen.trace Trace)
