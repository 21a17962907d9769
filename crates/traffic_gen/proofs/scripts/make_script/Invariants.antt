use Rattle.std.proofs.Common.{◌≡◌, ◌++◌, ◌-◌}
use Rattle.std.specs.Prelude.{string_bytes}
use Rattle.traffic_gen.specs.Numbers.{drawn}
use Rattle.traffic_gen.specs.Texts.{lines}
use Rattle.traffic_gen.proofs.scripts.make_script.Given as goal

-- the lines so far and those that are to come are all
abbrev pub invariant-loop-k : goal.invariant-loop-k
invariant-loop-k l = record {
  text : string_bytes l.text ++ lines l.k (8000 - l.k) l.number ≡ lines 0 8000 l.first;
  last : drawn (8000 - l.k) l.number ≡ drawn 8000 l.first;
}
