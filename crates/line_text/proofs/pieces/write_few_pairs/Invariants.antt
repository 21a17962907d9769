use Rattle.std.proofs.Common.{◌≡◌, ◌*◌, take}
use Rattle.tlm_model.specs.Text.{hex_of}
use Rattle.line_text.proofs.pieces.write_few_pairs.Given as goal

abbrev pub invariant-loop-k : goal.invariant-loop-k
invariant-loop-k l = take (2 * l.k) l.digits ≡ hex_of (take l.k l.bytes)
