-- What is seen of a library over a folder.
use Rattle.std.specs.Prelude.{ℕ}
use Rattle.outside.specs.declared.folders.FolderLibrary.{FolderLibrary}

-- the folder that it reads
abbrev pub folder_behind : {R F : Type 0} → FolderLibrary R F → R
folder_behind l = l.folder.now

-- how many of its loads have failed
abbrev pub folder_faults : {R F : Type 0} → FolderLibrary R F → ℕ
folder_faults l = l.faults
