-- What is seen of a library in memory.
use Rattle.std.specs.Prelude.{ℕ, List, Option, None, if◌then◌else◌, ◌==◌}
use Rattle.std.specs.List.{list_any}
use Rattle.outside.specs.declared.libraries.NamedFile.{NamedFile}
use Rattle.outside.specs.Files.{held}

-- its files, the numbers of its loads that are to fail, and how many loads and failures there were
pub record LibraryState : Type 0 where
  pub files : List NamedFile
  pub failing : List ℕ
  pub loads : ℕ
  pub faults : ℕ

-- what is found by the load of this number: nothing where it is to fail
abbrev pub unless_failing : List ℕ → ℕ → Option (List ℕ) → Option (List ℕ)
unless_failing failing number bytes = if list_any (λ n. n == number) failing then None else bytes

-- what the next load under a name finds
abbrev pub found : LibraryState → List ℕ → Option (List ℕ)
found s name = unless_failing s.failing s.loads (held s.files name)
