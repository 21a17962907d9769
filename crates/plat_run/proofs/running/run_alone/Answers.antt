use Rattle.std.proofs.Common.{◌≡◌, ap, subst}
use Rattle.one_history.specs.declared.view.Frame.{Frame}
use Rattle.tlm_model.specs.Plan.{Plan}
use Rattle.run_outcome.specs.Outcome.{IsWhole}
use Rattle.plat_end.specs.Entries.{entries_read}
use Rattle.plat_end.specs.Run.{IsCoreRun}
use Rattle.plat_run.proofs.running.run_alone.Goals as goal

pub returns-clause-whole : goal.returns-clause-whole
returns-clause-whole g c =
    subst (λ (p : Plan). IsWhole p c.finish_run.result.0) (ap (λ (f : Frame Plan). f.world) c.requires.frame) c.finish_run.ensures.whole

pub returns-clause-core : goal.returns-clause-core
returns-clause-core g c =
    subst (λ (p : Plan). IsCoreRun p c.finish_run.result.0.history.entries) (ap (λ (f : Frame Plan). f.world) c.requires.frame) c.finish_run.ensures.core

pub returns-clause-sealed : goal.returns-clause-sealed
returns-clause-sealed g c =
    subst (λ (p : Plan). entries_read p.platform c.finish_run.result.1.entries ≡ c.finish_run.result.0.history.entries) (ap (λ (f : Frame Plan). f.world) c.requires.frame) c.finish_run.ensures.sealed

pub returns-clause-world : goal.returns-clause-world
returns-clause-world g c =
    subst (λ (p : Plan). (c.finish_run.result.1.table ≡ g.N.Naming.table) × (c.finish_run.result.1.world ≡ p)) (ap (λ (f : Frame Plan). f.world) c.requires.frame) c.finish_run.ensures.world
