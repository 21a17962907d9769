-- Logs that are merged by the positions of their entries.
use Rattle.std.specs.Prelude.{List, [], ◌∷◌, ◌++◌, if◌then◌else◌, nat_lt}
use Rattle.tlm_types.specs.declared.entry.Entry.{Entry}

-- an entry among others that are in order: before the first that has a later position
abbrev pub put_in : Entry → List Entry → List Entry
put_in e [] = e ∷ []
put_in e (x ∷ xs) = if nat_lt e.position x.position then e ∷ x ∷ xs else x ∷ put_in e xs

-- entries in order of their positions
abbrev pub by_position : List Entry → List Entry
by_position [] = []
by_position (e ∷ es) = put_in e (by_position es)

-- all entries of these logs
abbrev pub entries_in : List (List Entry) → List Entry
entries_in [] = []
entries_in (log ∷ logs) = log ++ entries_in logs

-- the history that has these logs
abbrev pub merged : List (List Entry) → List Entry
merged logs = by_position (entries_in logs)
