use Rattle.std.proofs.Common.{refl}
use Rattle.decoupled_run.proofs.StepLemmas.{stepped_job}
use Rattle.decoupled_run.proofs.steps.SteppedInitiator.with_note.Goals as goal

pub invariant_of-result : goal.invariant_of-result
invariant_of-result g c =
    let n = g.N.Naming in
    let stepped = c.requires.stepped in
    record {
      its_payload = stepped.payload;
      its_note = c.args.note;
      has_payload = stepped.has_payload;
      has_note = refl;
      job = stepped_job n.table n.tokens n.frame c.args.self c.args.note stepped c.requires.free stepped.payload stepped.has_payload;
    }
