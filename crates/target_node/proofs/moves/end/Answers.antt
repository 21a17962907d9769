use Rattle.plat_net.proofs.Given.{shape_of}
use Rattle.target_node.proofs.Served.{can_end, waits_then}
use Rattle.std.proofs.Common.{refl}
use Rattle.hop_object.specs.declared.call.HopCall.TheVariants.{EndReq}
use Rattle.hop_object.specs.declared.call.HopReply.TheVariants.{EndedReq}
use Rattle.plat_net.specs.Places.{hop_place}
use Rattle.node_hops.proofs.Adds.{hop_adds}
use Rattle.target_node.proofs.moves.end.Goals as goal

pub end_req-leg-requires-clause-can : goal.end_req-leg-requires-clause-can
end_req-leg-requires-clause-can g c =
    let shape = shape_of c.plan.result.now c.args.net.now g.N.Naming.frame.world c.platform.ensures.valid c.plan.ensures.plan c.plan.ensures.world in
    can_end g.N.Naming.frame g.N.Naming.tokens c.args.memory c.args.note.knows.known c.plan.ensures.frame shape c.requires.memory c.args.request c.requires.owed

pub returns-clause-waits : goal.returns-clause-waits
returns-clause-waits g c =
    let shape = shape_of c.plan.result.now c.args.net.now g.N.Naming.frame.world c.platform.ensures.valid c.plan.ensures.plan c.plan.ensures.world in
    waits_then g.N.Naming.frame g.N.Naming.tokens c.args.memory c.args.note.knows.known c.plan.ensures.frame shape c.requires.memory c.args.request c.requires.owed c.end_req-leg.result.2.knows.known c.end_req-leg.result.0 c.end_req-leg.result.1 c.end_req-leg.ensures.knew (c.end_req-leg.ensures.ended (can_end g.N.Naming.frame g.N.Naming.tokens c.args.memory c.args.note.knows.known c.plan.ensures.frame shape c.requires.memory c.args.request c.requires.owed))

pub end_req-leg-requires-clause-hop : goal.end_req-leg-requires-clause-hop
end_req-leg-requires-clause-hop g c = c.requires.hop

pub end_req-leg-requires-clause-note : goal.end_req-leg-requires-clause-note
end_req-leg-requires-clause-note g c = c.requires.note

pub end_req-leg-requires-clause-ticket : goal.end_req-leg-requires-clause-ticket
end_req-leg-requires-clause-ticket g c = c.requires.ticket

pub returns-clause-note : goal.returns-clause-note
returns-clause-note g c = c.end_req-leg.ensures.note

pub returns-clause-knew : goal.returns-clause-knew
returns-clause-knew g c = c.end_req-leg.ensures.knew

pub returns-clause-below : goal.returns-clause-below
returns-clause-below g c = c.end_req-leg.ensures.below

pub returns-clause-look : goal.returns-clause-look
returns-clause-look g c = c.end_req-leg.ensures.look

pub returns-clause-same : goal.returns-clause-same
returns-clause-same g c = (refl, refl, refl)

pub returns-clause-adds : goal.returns-clause-adds
returns-clause-adds g c =
    hop_adds g.N.Naming.frame g.N.Naming.tokens (hop_place g.N.Naming.frame.world c.args.request.hop) c.args.request.hop c.args.note.knows c.end_req-leg.result.2.knows (EndReq c.args.request.leg c.args.request.at) (EndedReq c.end_req-leg.result.0 c.end_req-leg.result.1) c.end_req-leg.ensures.answer tt
