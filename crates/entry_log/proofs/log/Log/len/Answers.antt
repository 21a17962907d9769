use Rattle.std.proofs.Common.{subst, ◌<◌, ◌^◌}
use Rattle.std.specs.Prelude.{All}
use Rattle.tlm_types.specs.declared.entry.Entry.{Entry}
use Rattle.entry_log.specs.Log.{LogView}
use Rattle.entry_log.proofs.Pasts.{timed_all}
use Rattle.entry_log.proofs.log.Log.len.Goals as goal

pub returns-clause-timed : goal.returns-clause-timed
returns-clause-timed c =
    let s = c.self.inside in
    subst (λ (l : LogView). All (λ (e : Entry). e.time < 2 ^ 64) l.entries) c.self.view_is (timed_all s.past.entries s.bytes.items s.items.items c.self.invariant.before.timed c.self.invariant.timed)
