use Rattle.std.proofs.Common.{◌+◌}
use Rattle.router_moves.proofs.Hops.{on_plan}
use Rattle.router_moves.proofs.Passes.{busy, can_begin, gone, now}
use Rattle.node_hops.proofs.Adds.{hop_adds}
use Rattle.router_moves.proofs.down.pass_on.Goals as goal

pub returns-in-Left-clause-passed : goal.returns-in-Left-clause-passed
returns-in-Left-clause-passed g c =
    gone g.N.Naming.frame g.N.Naming.tokens c.args.note.knows.known c.args.down c.requires.down c.args.note.knows c.in-Left.note c.in-Left.ensures.knew c.in-Left.answer c.in-Left.at (c.in-Left.ensures.tried (can_begin g.N.Naming.frame g.N.Naming.tokens c.args.note.knows.known c.args.down c.requires.down))

pub returns-in-Now-clause-passed : goal.returns-in-Now-clause-passed
returns-in-Now-clause-passed g c =
    now g.N.Naming.frame g.N.Naming.tokens c.args.note.knows.known c.args.down c.requires.down c.args.note.knows c.in-Now.note c.in-Now.ensures.knew c.in-Now.answer c.in-Now.at c.in-Now.leg c.in-Now.cargo (c.in-Now.ensures.tried (can_begin g.N.Naming.frame g.N.Naming.tokens c.args.note.knows.known c.args.down c.requires.down))

pub returns-in-Busy-clause-passed : goal.returns-in-Busy-clause-passed
returns-in-Busy-clause-passed g c =
    busy g.N.Naming.frame g.N.Naming.tokens c.args.note.knows.known c.args.down c.requires.down c.args.note.knows c.in-Busy.note c.in-Busy.ensures.knew c.in-Busy.holder c.in-Busy.live c.in-Busy.cargo (c.in-Busy.ensures.tried (can_begin g.N.Naming.frame g.N.Naming.tokens c.args.note.knows.known c.args.down c.requires.down))

pub begin_req-requires-clause-hop : goal.begin_req-requires-clause-hop
begin_req-requires-clause-hop g c =
    let i = c.requires.down in
    let h = i.held in
    on_plan g.N.Naming.frame.world c.args.down.held.txn i.pass (i.hop + 1) c.args.down.held.below h.passes h.next h.below

pub begin_req-requires-clause-note : goal.begin_req-requires-clause-note
begin_req-requires-clause-note g c = c.requires.note

pub returns-in-Left-clause-note : goal.returns-in-Left-clause-note
returns-in-Left-clause-note g c = c.in-Left.ensures.note

pub returns-in-Left-clause-knew : goal.returns-in-Left-clause-knew
returns-in-Left-clause-knew g c = c.in-Left.ensures.knew

pub returns-in-Left-clause-below : goal.returns-in-Left-clause-below
returns-in-Left-clause-below g c = c.in-Left.ensures.below

pub returns-in-Now-clause-note : goal.returns-in-Now-clause-note
returns-in-Now-clause-note g c = c.in-Now.ensures.note

pub returns-in-Now-clause-knew : goal.returns-in-Now-clause-knew
returns-in-Now-clause-knew g c = c.in-Now.ensures.knew

pub returns-in-Now-clause-below : goal.returns-in-Now-clause-below
returns-in-Now-clause-below g c = c.in-Now.ensures.below

pub returns-in-Busy-clause-note : goal.returns-in-Busy-clause-note
returns-in-Busy-clause-note g c = c.in-Busy.ensures.note

pub returns-in-Busy-clause-knew : goal.returns-in-Busy-clause-knew
returns-in-Busy-clause-knew g c = c.in-Busy.ensures.knew

pub returns-in-Busy-clause-below : goal.returns-in-Busy-clause-below
returns-in-Busy-clause-below g c = c.in-Busy.ensures.below

pub returns-in-Left-clause-adds : goal.returns-in-Left-clause-adds
returns-in-Left-clause-adds g c = hop_adds g.N.Naming.frame g.N.Naming.tokens _ _ _ _ _ _ c.in-Left.ensures.answer tt

pub returns-in-Now-clause-adds : goal.returns-in-Now-clause-adds
returns-in-Now-clause-adds g c = hop_adds g.N.Naming.frame g.N.Naming.tokens _ _ _ _ _ _ c.in-Now.ensures.answer tt

pub returns-in-Busy-clause-adds : goal.returns-in-Busy-clause-adds
returns-in-Busy-clause-adds g c = tt
