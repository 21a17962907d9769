use Rattle.std.proofs.Common.{◌≡◌, ◌+◌, ◌*◌, ◌≤◌, true, length, vec_len, vec_capacity}
use Rattle.std.specs.Char.{is_digit}
use Rattle.std.specs.List.{list_all}
use Rattle.traffic_script.specs.Numbers.{bytes_of}
use Rattle.traffic_script.proofs.Fronts.{behind}
use Rattle.traffic_script.proofs.numbers.bytes.Given as goal

abbrev pub invariant-loop-rest : goal.invariant-loop-rest
invariant-loop-rest l = record {
  read : behind l.bytes.items (bytes_of l.rest) ≡ bytes_of l.digits;
  hex : list_all (λ b. is_digit b 16) l.rest ≡ true;
  room : 2 * vec_len l.bytes + length l.rest ≤ 2 * vec_capacity l.bytes + 1;
}

abbrev pub decreases-loop-rest : goal.decreases-loop-rest
decreases-loop-rest l = length l.rest
