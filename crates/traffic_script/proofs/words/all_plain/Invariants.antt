use Rattle.std.proofs.Common.{◌≡◌, take}
use Rattle.std.specs.List.{list_all}
use Rattle.traffic_script.specs.Words.{is_printable}
use Rattle.traffic_script.proofs.words.all_plain.Given as goal

abbrev pub invariant-loop-byte : goal.invariant-loop-byte
invariant-loop-byte l = l.plain ≡ list_all is_printable (take l.byte-index l.line)
