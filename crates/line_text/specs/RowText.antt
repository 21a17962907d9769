-- The line of some bytes of a memory.
use Rattle.std.specs.Prelude.{ℕ, ◌+◌, ◌*◌, ◌≤◌, List, [], ◌∷◌, length}
use Rattle.tlm_model.specs.Text.{hex_of, line_of, offset_word}
use Rattle.line_text.specs.declared.row.RowLine.{RowLine}

-- the whole line
abbrev pub row_text : RowLine → List ℕ
row_text r = line_of (offset_word r.offset ∷ hex_of r.bytes.now ∷ [])

-- there are as few bytes as stand in a line
abbrev pub IsRow : RowLine → Type 0
IsRow r = length r.bytes.now ≤ 16

-- how many bytes it takes: eight digits, a space and the end of the line are ten
abbrev pub row_room : RowLine → ℕ
row_room r = 10 + 2 * length r.bytes.now
