-- The texts of the tables of a platform file.
use Rattle.std.specs.Prelude.{ℕ, List, ◌++◌, codes}
use Rattle.std.specs.Fmt.{decimal}
use Rattle.platform_model.specs.declared.place.Place.{Place}
use Rattle.platform_model.specs.declared.place.Place.TheVariants.{Top, Initiator, Router, Window, Memory}

-- a word, an index and what follows
abbrev pub indexed : List ℕ → ℕ → List ℕ → List ℕ
indexed word i rest = word ++ (decimal i ++ rest)

-- the text of a table: its word and its number, from 0
abbrev pub table_text : Place → List ℕ
table_text Top = codes "platform"
table_text (Initiator i) = indexed (codes "initiator[") i (codes "]")
table_text (Router i) = indexed (codes "router[") i (codes "]")
table_text (Window i j) = indexed (codes "router[") i (indexed (codes "].window[") j (codes "]"))
table_text (Memory i) = indexed (codes "memory[") i (codes "]")
