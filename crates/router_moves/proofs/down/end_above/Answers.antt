use Rattle.router_moves.proofs.Hops.{on_plan, one_less}
use Rattle.router_moves.proofs.Passes.{can_end, ends_above, ticket_is}
use Rattle.node_hops.proofs.Adds.{hop_adds}
use Rattle.router_moves.proofs.down.end_above.Goals as goal

pub end_req-leg-requires-clause-ticket : goal.end_req-leg-requires-clause-ticket
end_req-leg-requires-clause-ticket g c = ticket_is g.N.Naming.frame g.N.Naming.tokens c.args.note.knows.known c.args.held c.args.at c.requires.gone c.in-Some.ticket c.in-Some.is

pub end_req-leg-requires-clause-can : goal.end_req-leg-requires-clause-can
end_req-leg-requires-clause-can g c = can_end g.N.Naming.frame g.N.Naming.tokens c.args.note.knows.known c.args.held c.args.at c.requires.gone c.in-Some.ticket c.in-Some.is

pub returns-clause-ended : goal.returns-clause-ended
returns-clause-ended g c =
    ends_above g.N.Naming.frame g.N.Naming.tokens c.args.note.knows.known c.args.held c.args.at c.requires.gone c.in-Some.ticket c.in-Some.is c.end_req-leg.result.2.knows.known c.end_req-leg.result.0 c.end_req-leg.result.1 c.end_req-leg.ensures.knew
    (c.end_req-leg.ensures.ended (can_end g.N.Naming.frame g.N.Naming.tokens c.args.note.knows.known c.args.held c.args.at c.requires.gone c.in-Some.ticket c.in-Some.is))

pub end_req-leg-requires-clause-hop : goal.end_req-leg-requires-clause-hop
end_req-leg-requires-clause-hop g c =
    let i = c.requires.gone in
    let h = i.held in
    on_plan g.N.Naming.frame.world c.args.held.txn i.pass i.hop c.args.held.above h.passes (one_less i.hop _ h.next) h.above

pub end_req-leg-requires-clause-note : goal.end_req-leg-requires-clause-note
end_req-leg-requires-clause-note g c = c.requires.note

pub returns-clause-note : goal.returns-clause-note
returns-clause-note g c = c.end_req-leg.ensures.note

pub returns-clause-knew : goal.returns-clause-knew
returns-clause-knew g c = c.end_req-leg.ensures.knew

pub returns-clause-below : goal.returns-clause-below
returns-clause-below g c = c.end_req-leg.ensures.below

pub returns-clause-look : goal.returns-clause-look
returns-clause-look g c = c.end_req-leg.ensures.look

pub returns-clause-adds : goal.returns-clause-adds
returns-clause-adds g c = hop_adds g.N.Naming.frame g.N.Naming.tokens _ _ _ _ _ _ c.end_req-leg.ensures.answer tt
