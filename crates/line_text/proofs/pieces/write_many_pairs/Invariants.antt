use Rattle.std.proofs.Common.{◌≡◌, ◌*◌, ◌-◌, ◌≤◌, length, take}
use Rattle.tlm_model.specs.Text.{hex_of}
use Rattle.line_text.proofs.pieces.write_many_pairs.Given as goal

-- the digits of the first `done` bytes are written
abbrev pub invariant-loop-done : goal.invariant-loop-done
invariant-loop-done l = record {
  within : l.done ≤ length l.bytes;
  written : take (2 * l.done) l.digits ≡ hex_of (take l.done l.bytes);
}

abbrev pub decreases-loop-done : goal.decreases-loop-done
decreases-loop-done l = length l.bytes - l.done
