use Rattle.std.proofs.Common.{◌+◌}
use Rattle.router_moves.proofs.Hops.{on_plan}
use Rattle.router_moves.proofs.Sends.{can_end_below, ends_below, ticket_below}
use Rattle.node_hops.proofs.Adds.{hop_adds}
use Rattle.router_moves.proofs.up.end_below.Goals as goal

pub end_resp-time-requires-clause-ticket : goal.end_resp-time-requires-clause-ticket
end_resp-time-requires-clause-ticket g c = ticket_below g.N.Naming.frame g.N.Naming.tokens c.args.note.knows.known c.args.rest c.args.at c.requires.ended c.in-Owed.leg c.in-Owed.owed c.in-Owed.is

pub end_resp-time-requires-clause-can : goal.end_resp-time-requires-clause-can
end_resp-time-requires-clause-can g c = can_end_below g.N.Naming.frame g.N.Naming.tokens c.args.note.knows.known c.args.rest c.args.at c.requires.ended c.in-Owed.leg c.in-Owed.owed c.in-Owed.is

pub returns-clause-ended : goal.returns-clause-ended
returns-clause-ended g c =
    ends_below g.N.Naming.frame g.N.Naming.tokens c.args.note.knows.known c.args.rest c.args.at c.requires.ended c.in-Owed.leg c.in-Owed.owed c.in-Owed.is c.end_resp-time.result.1.knows.known c.end_resp-time.result.0 c.end_resp-time.ensures.knew
    (c.end_resp-time.ensures.ended (can_end_below g.N.Naming.frame g.N.Naming.tokens c.args.note.knows.known c.args.rest c.args.at c.requires.ended c.in-Owed.leg c.in-Owed.owed c.in-Owed.is))

pub end_resp-time-requires-clause-hop : goal.end_resp-time-requires-clause-hop
end_resp-time-requires-clause-hop g c =
    let i = c.requires.ended in
    let r = i.rest in
    on_plan g.N.Naming.frame.world c.args.rest.txn i.pass (i.hop + 1) c.args.rest.below r.passes r.next r.below

pub end_resp-time-requires-clause-note : goal.end_resp-time-requires-clause-note
end_resp-time-requires-clause-note g c = c.requires.note

pub returns-clause-note : goal.returns-clause-note
returns-clause-note g c = c.end_resp-time.ensures.note

pub returns-clause-knew : goal.returns-clause-knew
returns-clause-knew g c = c.end_resp-time.ensures.knew

pub returns-clause-below : goal.returns-clause-below
returns-clause-below g c = c.end_resp-time.ensures.below

pub returns-clause-look : goal.returns-clause-look
returns-clause-look g c = c.end_resp-time.ensures.look

pub returns-clause-adds : goal.returns-clause-adds
returns-clause-adds g c = hop_adds g.N.Naming.frame g.N.Naming.tokens _ _ _ _ _ _ c.end_resp-time.ensures.answer tt
