use Rattle.std.proofs.Common.{◌≡◌, drop}
use Rattle.outside.specs.Files.{held}
use Rattle.outside.proofs.libraries.find_file.Given as goal

abbrev pub invariant-loop-file : goal.invariant-loop-file
invariant-loop-file l = held (drop l.file-index l.files) l.name ≡ held l.files l.name
