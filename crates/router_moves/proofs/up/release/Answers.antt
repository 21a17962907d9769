use Rattle.router_moves.proofs.Sends.{can_release, was_released}
use Rattle.node_hops.proofs.Adds.{pool_adds}
use Rattle.router_moves.proofs.up.release.Goals as goal

pub release-note-requires-clause-can : goal.release-note-requires-clause-can
release-note-requires-clause-can g c = can_release g.N.Naming.frame g.N.Naming.tokens c.args.note.knows.known c.args.rest c.requires.rest c.in-At.at c.in-At.is

pub returns-clause-released : goal.returns-clause-released
returns-clause-released g c =
    was_released g.N.Naming.frame g.N.Naming.tokens c.args.note.knows.known c.args.rest c.requires.rest c.in-At.at c.in-At.is c.release-note.result.1.knows.known c.release-note.result.0
    (c.release-note.ensures.released (can_release g.N.Naming.frame g.N.Naming.tokens c.args.note.knows.known c.args.rest c.requires.rest c.in-At.at c.in-At.is))

pub release-note-requires-clause-note : goal.release-note-requires-clause-note
release-note-requires-clause-note g c = c.requires.note

pub returns-clause-note : goal.returns-clause-note
returns-clause-note g c = c.release-note.ensures.note

pub returns-clause-knew : goal.returns-clause-knew
returns-clause-knew g c = c.release-note.ensures.knew

pub returns-clause-below : goal.returns-clause-below
returns-clause-below g c = c.release-note.ensures.below

pub returns-clause-look : goal.returns-clause-look
returns-clause-look g c = c.release-note.ensures.look

pub returns-clause-adds : goal.returns-clause-adds
returns-clause-adds g c = pool_adds g.N.Naming.frame g.N.Naming.tokens _ _ _ _ _ _ c.release-note.ensures.answer tt
