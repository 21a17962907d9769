use Rattle.router_moves.proofs.Passes.{can_serve, served_below}
use Rattle.node_hops.proofs.Adds.{serve_adds}
use Rattle.std.proofs.Common.{subst}
use Rattle.tlm_types.specs.declared.words.TxnId.{TxnId}
use Rattle.plat_net.specs.Places.{memory_place}
use Rattle.node_hops.specs.Steps.{AddsOf}
use Rattle.router_moves.proofs.down.serve_below.Goals as goal

pub serve-cargo-requires-clause-can : goal.serve-cargo-requires-clause-can
serve-cargo-requires-clause-can g c = can_serve g.N.Naming.frame g.N.Naming.tokens c.args.note.knows.known c.args.memory c.args.held.now c.args.begun c.requires.begun c.requires.leads

pub returns-clause-served : goal.returns-clause-served
returns-clause-served g c =
    served_below g.N.Naming.frame g.N.Naming.tokens c.args.note.knows.known c.args.memory c.args.held.now c.args.begun c.requires.begun c.requires.leads c.serve-cargo.result.1.knows.known c.serve-cargo.ensures.knew c.args.latency c.saturating_add.result c.serve-cargo.result.0
    c.requires.latency c.saturating_add.ensures (c.serve-cargo.ensures.served (can_serve g.N.Naming.frame g.N.Naming.tokens c.args.note.knows.known c.args.memory c.args.held.now c.args.begun c.requires.begun c.requires.leads))

pub serve-cargo-requires-clause-memory : goal.serve-cargo-requires-clause-memory
serve-cargo-requires-clause-memory g c = c.requires.memory

pub serve-cargo-requires-clause-note : goal.serve-cargo-requires-clause-note
serve-cargo-requires-clause-note g c = c.requires.note

pub returns-clause-note : goal.returns-clause-note
returns-clause-note g c = c.serve-cargo.ensures.note

pub returns-clause-knew : goal.returns-clause-knew
returns-clause-knew g c = c.serve-cargo.ensures.knew

pub returns-clause-below : goal.returns-clause-below
returns-clause-below g c = c.serve-cargo.ensures.below

pub returns-clause-look : goal.returns-clause-look
returns-clause-look g c = c.serve-cargo.ensures.look

pub returns-clause-adds : goal.returns-clause-adds
returns-clause-adds g c =
    let b = c.requires.begun in
    let d = b.down in
    let h = d.held in
    subst (λ (x : TxnId). AddsOf (memory_place g.N.Naming.frame.world c.args.memory) x c.args.note.knows c.serve-cargo.result.1.knows) h.txn (serve_adds g.N.Naming.frame g.N.Naming.tokens _ _ _ _ _ _ c.serve-cargo.ensures.answer)
