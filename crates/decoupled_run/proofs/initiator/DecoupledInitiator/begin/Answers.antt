use Rattle.decoupled_run.proofs.initiator.DecoupledInitiator.begin.Goals as goal

pub with_note-requires-clause-stepped : goal.with_note-requires-clause-stepped
with_note-requires-clause-stepped g c = c.in_ok-begun.ensures.stepped

pub with_note-requires-clause-free : goal.with_note-requires-clause-free
with_note-requires-clause-free g c = c.in_ok-begun.ensures.free
