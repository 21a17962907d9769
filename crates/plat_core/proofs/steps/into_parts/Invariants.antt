use Rattle.std.proofs.Common.{◌≡◌, map}
use Rattle.tlm_model.specs.Log.{log_bytes}
use Rattle.region_object.specs.Region.{LoggedMemory}
use Rattle.plat_core.specs.Core.{logs_of}
use Rattle.run_outcome.specs.Places.{entries_of_logs}
use Rattle.plat_core.proofs.steps.into_parts.Given as goal

abbrev pub invariant-loop-region : goal.invariant-loop-region
invariant-loop-region l = (entries_of_logs l.logs.items ≡ logs_of l.yielded) × (l.stores.items ≡ map (λ (m : LoggedMemory). log_bytes m.traits m.log.entries) l.yielded)
