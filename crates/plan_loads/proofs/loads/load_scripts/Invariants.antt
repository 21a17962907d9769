use Rattle.plan_loads.proofs.Loading.{IsLoading}
use Rattle.plan_loads.proofs.loads.load_scripts.Given as goal

abbrev pub invariant-loop-number : goal.invariant-loop-number
invariant-loop-number g l = IsLoading (g.L.Library.holds l.initial.lib) (g.L.Library.faults l.initial.lib) (g.L.Library.holds l.lib) (g.L.Library.faults l.lib) l.version l.rows l.number l.scripts.items
