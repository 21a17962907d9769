use Rattle.fourphase_port.proofs.revokes.revoke.Goals as goal

pub returns-clause-knew : goal.returns-clause-knew
returns-clause-knew g c = c.tell-note.ensures.knew
