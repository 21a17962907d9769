use Rattle.std.proofs.Common.{◌≡◌, take}
use Rattle.std.specs.Char.{is_digit}
use Rattle.std.specs.List.{list_all}
use Rattle.traffic_script.proofs.numbers.all_hex.Given as goal

abbrev pub invariant-loop-byte : goal.invariant-loop-byte
invariant-loop-byte l = l.all ≡ list_all (λ b. is_digit b 16) (take l.byte-index l.digits)
