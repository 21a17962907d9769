-- What the line of each entry begins with.
use Rattle.std.specs.Prelude.{ℕ, List, ◌++◌, codes}
use Rattle.std.specs.Fmt.{decimal}
use Rattle.line_text.specs.declared.front.Front.{Front}
use Rattle.line_text.specs.Numbering.{IsReady, numbered_text}

-- its position, its time and its transaction, each with a space after it
abbrev pub front_text : Front → List ℕ
front_text f =
    numbered_text f.positions.now.word f.head.position ++ ((decimal f.head.time ++ codes " ") ++ numbered_text f.txns.now.word f.head.txn.seq)

-- the digits of both numbers are at hand
pub record IsFrontReady (f : Front) : Type 0 where
  pub position : IsReady f.positions.now f.head.position
  pub txn : IsReady f.txns.now f.head.txn.seq
