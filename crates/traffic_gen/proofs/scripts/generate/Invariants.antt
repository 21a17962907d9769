use Rattle.std.proofs.Common.{◌≡◌, ◌++◌, ◌-◌}
use Rattle.traffic_gen.specs.Texts.{scripts}
use Rattle.traffic_gen.proofs.scripts.generate.Given as goal

-- the scripts so far and those that are to come are all
abbrev pub invariant-loop-script : goal.invariant-loop-script
invariant-loop-script l = l.scripts.items ++ scripts (4 - l._script) l.number ≡ scripts 4 l.seed
