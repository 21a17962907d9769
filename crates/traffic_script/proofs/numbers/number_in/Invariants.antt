use Rattle.std.proofs.Common.{◌≡◌, ◌^◌, ◌<◌, take, true}
use Rattle.std.specs.Char.{is_digit}
use Rattle.std.specs.List.{list_all}
use Rattle.std.specs.Str.Parse.{digits_value}
use Rattle.traffic_script.proofs.numbers.number_in.Given as goal

abbrev pub invariant-loop-byte : goal.invariant-loop-byte
invariant-loop-byte l = record {
  digits : list_all (λ c. is_digit c l.base) (take l.byte-index l.digits) ≡ true;
  value : l.total ≡ digits_value l.base (take l.byte-index l.digits);
  fits : l.total < 2 ^ 64;
}
