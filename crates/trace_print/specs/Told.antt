-- The lines of a report as they are put.
use Rattle.std.specs.Prelude.{ℕ, ◌≡◌, List, [], ◌∷◌, ◌++◌, length, map, Option, Some, None, if◌then◌else◌, codes}
use Rattle.std.specs.Fmt.{decimal}
use Rattle.std.specs.List.{concat}
use Rattle.tlm_types.specs.declared.ends.EndOf.{EndOf}
use Rattle.tlm_types.specs.declared.ends.RefusedItem.{RefusedItem}
use Rattle.tlm_types.specs.declared.entry.Facts.{Facts}
use Rattle.tlm_types.specs.declared.entry.What.{What}
use Rattle.tlm_types.specs.declared.entry.What.TheVariants.{Access as Accessed}
use Rattle.tlm_types.specs.declared.words.Command.{Command}
use Rattle.tlm_types.specs.declared.words.Command.TheVariants.{Read, Write, Ignore, FetchAdd}
use Rattle.tlm_model.specs.declared.platform.InitiatorRow.{InitiatorRow}
use Rattle.tlm_model.specs.declared.platform.MemoryRow.{MemoryRow}
use Rattle.report_model.specs.Report.{command_word, ends_words, memory_lines, operand_text, seq_word, shown_by, status_word, way_word}
use Rattle.tlm_model.specs.Text.{address_word, data_word, line_of}

-- the bytes of some lines
abbrev pub text_of : List (List (List ℕ)) → List ℕ
text_of lines = concat (map line_of lines)

-- the words of an access, from its plain parts, its enables, its operand as it is printed, and the bytes that its line
-- shows
abbrev pub access_words : Facts → List ℕ → List ℕ → List ℕ → List (List ℕ)
access_words f enables operand shown =
    way_word f.way ∷ command_word f.command ∷ address_word f.offset ∷ decimal f.length ∷ (codes "be=" ++ data_word enables) ∷
    (codes "sw=" ++ decimal f.width) ∷ (operand ++ data_word shown) ∷ status_word f.status ∷ []

-- the bytes that the line of an access shows, and of no other entry
abbrev pub shown_at : What → Option (List ℕ)
shown_at (Accessed way a status got) = Some (shown_by a.command a got)
shown_at w = None

-- its operand as it is printed
abbrev pub operand_at : What → Option (List ℕ)
operand_at (Accessed way a status got) = Some (operand_text a.command a.sent)
operand_at w = None

-- the bytes that its line shows, of an access of this command, of the bytes that it sent and got
abbrev pub shown_of : Command → List ℕ → List ℕ → List ℕ
shown_of Read sent got = got
shown_of Write sent got = sent
shown_of Ignore sent got = []
shown_of FetchAdd sent got = got

-- the command of a refused request
abbrev pub refused_command : RefusedItem → List ℕ
refused_command item = if item.debug then codes "debug" else command_word item.command

abbrev pub refused_item_words : List ℕ → RefusedItem → List (List ℕ)
refused_item_words name item = codes "refused" ∷ seq_word name item.seq ∷ decimal item.time ∷ refused_command item ∷ address_word item.address ∷ []

-- an initiator's line, as it ended, and those of what was refused to it
abbrev pub end_lines : InitiatorRow → EndOf → List (List (List ℕ))
end_lines row end =
    ends_words row.name row.style end.transactions (length end.refused.items) end.syncs end.end
    ∷ map (refused_item_words row.name) end.refused.items

abbrev pub ends_lines : List InitiatorRow → List EndOf → List (List (List ℕ))
ends_lines [] ends = []
ends_lines (row ∷ rows) [] = []
ends_lines (row ∷ rows) (end ∷ ends) = end_lines row end ++ ends_lines rows ends

-- the lines of memories with these bytes
abbrev pub stores_lines : List MemoryRow → List (List ℕ) → List (List (List ℕ))
stores_lines [] stores = []
stores_lines (row ∷ rows) [] = []
stores_lines (row ∷ rows) (bytes ∷ stores) = memory_lines row.name row.traits.size bytes ++ stores_lines rows stores

-- each memory has as many bytes as its size
abbrev pub HaveSizes : List MemoryRow → List (List ℕ) → Type 0
HaveSizes [] [] = Unit {0}
HaveSizes [] (bytes ∷ stores) = ⊥
HaveSizes (row ∷ rows) [] = ⊥
HaveSizes (row ∷ rows) (bytes ∷ stores) = (length bytes ≡ row.traits.size) × HaveSizes rows stores
