-- What is written at a place of some bytes.
use Rattle.std.specs.Prelude.{ℕ, ◌≡◌, ◌+◌, List, ◌++◌, length, take, codes}
use Rattle.std.specs.Fmt.{decimal}
use Rattle.tlm_types.specs.declared.entry.Facts.{Facts}
use Rattle.tlm_types.specs.declared.words.Response.{Response}
use Rattle.report_model.specs.Report.{command_word, status_word, way_word}
use Rattle.tlm_model.specs.Text.{address_word}
use Rattle.line_text.specs.declared.pieces.LinePiece.{LinePiece}
use Rattle.line_text.specs.declared.pieces.LinePiece.TheVariants.{Number, Address, Times, Seq, Asked, Width, Status}

-- This text was written from a place on, up to another. What stands before it stays, and what stands behind it doesn't
-- matter.
pub record Adds (old new : List ℕ) (start end : ℕ) (text : List ℕ) : Type 0 where
  pub ends : end ≡ start + length text
  pub holds : take end new ≡ take start old ++ text

-- a position and a time, each with a space after it
abbrev pub times_text : ℕ → ℕ → List ℕ
times_text position time = (decimal position ++ codes " ") ++ (decimal time ++ codes " ")

-- what an access asked for, from the space before it to its enables
abbrev pub asked_text : Facts → List ℕ
asked_text f =
    codes " " ++ ((way_word f.way ++ codes " ") ++ ((command_word f.command ++ codes " ") ++ (address_word f.offset ++ (codes " " ++ (decimal f.length ++ codes " be=")))))

-- the number of a transaction, between a dot and a space
abbrev pub seq_text : ℕ → List ℕ
seq_text seq = codes "." ++ (decimal seq ++ codes " ")

-- a width, with the space before its word and one behind it
abbrev pub width_text : ℕ → List ℕ
width_text width = codes " sw=" ++ (decimal width ++ codes " ")

-- what an access without enables asked for, with the space behind it
abbrev pub unmasked_text : Facts → List ℕ
unmasked_text f = asked_text f ++ (codes "-" ++ width_text f.width)

-- a status after a space, with the end of the line
abbrev pub status_text : Response → List ℕ
status_text status = codes " " ++ (status_word status ++ codes "\n")

-- the bytes of a piece
abbrev pub piece_text : LinePiece → List ℕ
piece_text (Number n) = decimal n
piece_text (Address a) = address_word a
piece_text (Times position time) = times_text position time
piece_text (Seq n) = seq_text n
piece_text (Asked f) = asked_text f
piece_text (Width n) = width_text n
piece_text (Status s) = status_text s
