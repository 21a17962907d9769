use Rattle.target_node.proofs.Served.{can_serve, has_served}
use Rattle.region_object.specs.declared.call.RegionReply.TheVariants.{Accessed}
use Rattle.cargo_net.specs.Serves.{access_call}
use Rattle.plat_net.specs.Places.{memory_place}
use Rattle.node_hops.proofs.Adds.{serve_adds}
use Rattle.target_node.proofs.moves.serve.Goals as goal

pub serve-cargo-requires-clause-can : goal.serve-cargo-requires-clause-can
serve-cargo-requires-clause-can g c = can_serve g.N.Naming.frame g.N.Naming.tokens c.args.memory c.args.note.knows.known c.args.request c.requires.waits

pub returns-clause-served : goal.returns-clause-served
returns-clause-served g c =
    has_served g.N.Naming.frame g.N.Naming.tokens c.args.memory c.args.note.knows.known c.args.request c.requires.waits c.serve-cargo.result.0 c.serve-cargo.result.1.knows.known c.args.latency c.serve-cargo.ensures.knew c.requires.latency
    (c.serve-cargo.ensures.served (can_serve g.N.Naming.frame g.N.Naming.tokens c.args.memory c.args.note.knows.known c.args.request c.requires.waits)) c.saturating_add.result c.saturating_add.ensures

pub serve-cargo-requires-clause-memory : goal.serve-cargo-requires-clause-memory
serve-cargo-requires-clause-memory g c = c.requires.memory

pub serve-cargo-requires-clause-note : goal.serve-cargo-requires-clause-note
serve-cargo-requires-clause-note g c = c.requires.note

pub returns-clause-note : goal.returns-clause-note
returns-clause-note g c = c.serve-cargo.ensures.note

pub returns-clause-knew : goal.returns-clause-knew
returns-clause-knew g c = c.serve-cargo.ensures.knew

pub returns-clause-below : goal.returns-clause-below
returns-clause-below g c = c.serve-cargo.ensures.below

pub returns-clause-look : goal.returns-clause-look
returns-clause-look g c = c.serve-cargo.ensures.look

pub returns-clause-adds : goal.returns-clause-adds
returns-clause-adds g c =
    serve_adds g.N.Naming.frame g.N.Naming.tokens (memory_place g.N.Naming.frame.world c.args.memory) c.args.memory c.args.note.knows c.serve-cargo.result.1.knows (access_call c.args.request.cargo c.args.request.at) (Accessed c.serve-cargo.result.0.baton.payload) c.serve-cargo.ensures.answer
