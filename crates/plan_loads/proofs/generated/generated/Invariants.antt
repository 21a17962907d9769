use Rattle.std.proofs.Common.{◌≡◌, ◌++◌, map}
use Rattle.plan_loads.specs.Generated.{generated_files, named_files}
use Rattle.plan_loads.proofs.generated.generated.Given as goal

abbrev pub invariant-loop-name : goal.invariant-loop-name
invariant-loop-name l = l.files.items ++ named_files (map (λ n. n.now) l.name-iterator.a.rest.now) l.name-iterator.b.rest.items ≡ generated_files l.seed
