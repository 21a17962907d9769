use Rattle.std.proofs.Common.{◌+◌, take}
use Rattle.line_text.specs.Pieces.{Adds}
use Rattle.line_text.proofs.pieces.write_word.Given as goal

-- the first k bytes are written
abbrev pub invariant-loop-k : goal.invariant-loop-k
invariant-loop-k g l = Adds l.initial.bytes l.bytes l.start (l.start + l.k) (take l.k l.word)
