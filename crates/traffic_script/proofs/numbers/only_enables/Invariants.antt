use Rattle.std.proofs.Common.{◌≡◌, take}
use Rattle.std.specs.List.{list_all}
use Rattle.tlm_types.specs.Enables.{is_enable}
use Rattle.traffic_script.proofs.numbers.only_enables.Given as goal

abbrev pub invariant-loop-byte : goal.invariant-loop-byte
invariant-loop-byte l = l.only ≡ list_all is_enable (take l.byte-index l.bytes)
