use Rattle.dmi_grants.proofs.Uses.{learns, learns_cut}
use Rattle.dmi_grants.proofs.access.learn.Goals as goal

pub returns-clause-revoked : goal.returns-clause-revoked
returns-clause-revoked g c =
    learns g.N.Naming.frame c.args.memory 0 0 0 c.args.note.knows c.least_open-note.result.1.knows _ c.args.gate c.requires.memory c.least_open-note.ensures.made c.requires.void c.requires.granted

pub returns-clause-cut : goal.returns-clause-cut
returns-clause-cut g c =
    learns_cut g.N.Naming.frame c.args.memory 0 0 0 c.args.note.knows c.least_open-note.result.1.knows _ c.args.gate c.requires.memory c.least_open-note.ensures.made c.requires.void c.requires.granted
