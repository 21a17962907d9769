use Rattle.cargo_net.proofs.steps.step_hop.Goals as goal

pub step-stepped-requires-clause-backed : goal.step-stepped-requires-clause-backed
step-stepped-requires-clause-backed g c = λ o q meets admitted late. c.requires.backed o q meets admitted

pub returns-clause-stepped : goal.returns-clause-stepped
returns-clause-stepped g c =
    let s = c.step-stepped.ensures.answer in
    record {
      answered = record { before = s.0; after = s.1; position = c.step-stepped.result.position; met = s.2; enters = s.3; applied = s.4 };
      follows = s.5;
      given = s.6;
      left_is = c.step-stepped.ensures.ticket;
    }
