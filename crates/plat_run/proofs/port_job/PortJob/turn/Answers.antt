use Rattle.std.proofs.Common.{◌∙◌, sym}
use Rattle.plat_run.proofs.PortLemmas.{last_pump}
use Rattle.plat_run.proofs.port_job.PortJob.turn.Goals as goal

pub invariant_of-self : goal.invariant_of-self
invariant_of-self g c =
    let i = c.self.invariant in
    record {
      number_is = c.pump-pumped.ensures.number ∙ i.number_is;
      below = i.below;
      ended = λ f. c.pump-pumped.ensures.finished (last_pump c.pump-pumped.result (sym c.finishes-self-inside.ensures ∙ f));
    }
