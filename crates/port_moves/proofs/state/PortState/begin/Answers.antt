use Rattle.std.proofs.Common.{ap, ◌∙◌, inl, inr, sym}
use Rattle.cargo_net.specs.declared.requests.Tried.TheVariants.{Left, Now, Busy}
use Rattle.port_moves.specs.Moved.{after_begin}
use Rattle.port_moves.specs.State.{StateView}
use Rattle.port_moves.proofs.Backs.{goes_free, hop_stands}
use Rattle.port_moves.proofs.Downs.{begins_left, begins_now, busy_port, finds_busy, can_begin_at, now_port, tried_here}
use Rattle.port_moves.proofs.Adding.{call_on_hop_adds, never_made}
use Rattle.port_moves.proofs.state.PortState.begin.Goals as goal

pub begin_req-requires-clause-can : goal.begin_req-requires-clause-can
begin_req-requires-clause-can g c = can_begin_at g.N.Naming.table g.N.Naming.tokens g.N.Naming.frame c.args.self.now c.args.note c.requires.port c.args.cargo c.requires.ready c.initiator-initiator.result c.self.inside.time (c.initiator-initiator.ensures ∙ ap (λ (t : StateView). t.port.engine.initiator) c.self.view_is) (ap (λ (t : StateView). t.port.time) c.self.view_is)

pub returns-in-Left-clause-port : goal.returns-in-Left-clause-port
returns-in-Left-clause-port g c = goes_free g.N.Naming.table g.N.Naming.tokens g.N.Naming.frame c.args.self.now c.args.note c.requires.port c.in-Left.note c.in-Left.ensures.note c.in-Left.ensures.knew c.in-Left.ensures.below c.requires.free.0

pub returns-in-Left-clause-begun : goal.returns-in-Left-clause-begun
returns-in-Left-clause-begun g c = inl (
  begins_left g.N.Naming.table g.N.Naming.tokens g.N.Naming.frame c.args.self.now c.args.note c.requires.port c.args.cargo c.requires.ready c.in-Left.note c.in-Left.ensures.note c.in-Left.ensures.knew c.in-Left.ensures.below c.requires.free.1 c.in-Left.answer c.in-Left.at c.requires.free.0 (tried_here g.N.Naming.table g.N.Naming.tokens g.N.Naming.frame c.args.self.now c.args.note c.requires.port c.args.cargo c.requires.ready (Left c.in-Left.answer c.in-Left.at c.in-Left.note) c.initiator-initiator.result c.self.inside.time (c.initiator-initiator.ensures ∙ ap (λ (t : StateView). t.port.engine.initiator) c.self.view_is) (ap (λ (t : StateView). t.port.time) c.self.view_is) c.in-Left.ensures.tried),
  c.ends.ensures ∙ ap after_begin (sym c.requires.free.0),
)

pub returns-in-Now-clause-port : goal.returns-in-Now-clause-port
returns-in-Now-clause-port g c =
    now_port g.N.Naming.table g.N.Naming.tokens g.N.Naming.frame c.args.self.now c.args.note c.requires.port c.args.cargo c.requires.ready c.in-Now.note c.in-Now.ensures.note c.in-Now.ensures.knew c.in-Now.ensures.below c.requires.free.1 c.turn_to.new.self c.in-Now.answer c.in-Now.at c.in-Now.leg c.in-Now.cargo c.turn_to.ensures
    (tried_here g.N.Naming.table g.N.Naming.tokens g.N.Naming.frame c.args.self.now c.args.note c.requires.port c.args.cargo c.requires.ready (Now c.in-Now.answer c.in-Now.at c.in-Now.leg c.in-Now.cargo c.in-Now.note) c.initiator-initiator.result c.self.inside.time (c.initiator-initiator.ensures ∙ ap (λ (t : StateView). t.port.engine.initiator) c.self.view_is) (ap (λ (t : StateView). t.port.time) c.self.view_is) c.in-Now.ensures.tried)

pub returns-in-Now-clause-begun : goal.returns-in-Now-clause-begun
returns-in-Now-clause-begun g c = inl (
  begins_now g.N.Naming.table g.N.Naming.tokens g.N.Naming.frame c.args.self.now c.args.note c.requires.port c.args.cargo c.requires.ready c.in-Now.note c.in-Now.ensures.note c.in-Now.ensures.knew c.in-Now.ensures.below c.requires.free.1 c.turn_to.new.self c.in-Now.answer c.in-Now.at c.in-Now.leg c.in-Now.cargo c.turn_to.ensures
      (tried_here g.N.Naming.table g.N.Naming.tokens g.N.Naming.frame c.args.self.now c.args.note c.requires.port c.args.cargo c.requires.ready (Now c.in-Now.answer c.in-Now.at c.in-Now.leg c.in-Now.cargo c.in-Now.note) c.initiator-initiator.result c.self.inside.time (c.initiator-initiator.ensures ∙ ap (λ (t : StateView). t.port.engine.initiator) c.self.view_is) (ap (λ (t : StateView). t.port.time) c.self.view_is) c.in-Now.ensures.tried),
  c.made.ensures ∙ ap (λ (t : StateView). after_begin t.hand) (sym c.turn_to.ensures),
)

pub returns-in-Busy-clause-port : goal.returns-in-Busy-clause-port
returns-in-Busy-clause-port g c =
    busy_port g.N.Naming.table g.N.Naming.tokens g.N.Naming.frame c.args.self.now c.args.note c.requires.port c.args.cargo c.requires.ready c.in-Busy.note c.in-Busy.ensures.note c.in-Busy.ensures.knew c.in-Busy.ensures.below c.requires.free.1 c.hold.new.self c.in-Busy.holder c.in-Busy.live c.in-Busy.cargo c.requires.free.0 c.hold.ensures
    (tried_here g.N.Naming.table g.N.Naming.tokens g.N.Naming.frame c.args.self.now c.args.note c.requires.port c.args.cargo c.requires.ready (Busy c.in-Busy.holder c.in-Busy.live c.in-Busy.cargo c.in-Busy.note) c.initiator-initiator.result c.self.inside.time (c.initiator-initiator.ensures ∙ ap (λ (t : StateView). t.port.engine.initiator) c.self.view_is) (ap (λ (t : StateView). t.port.time) c.self.view_is) c.in-Busy.ensures.tried)

pub returns-in-Busy-clause-begun : goal.returns-in-Busy-clause-begun
returns-in-Busy-clause-begun g c = inr (
  finds_busy g.N.Naming.table g.N.Naming.tokens g.N.Naming.frame c.args.self.now c.args.note c.requires.port c.args.cargo c.requires.ready c.in-Busy.note c.in-Busy.ensures.note c.in-Busy.ensures.knew c.in-Busy.ensures.below c.requires.free.1 c.hold.new.self c.in-Busy.holder c.in-Busy.live c.in-Busy.cargo c.requires.free.0 c.hold.ensures
      (tried_here g.N.Naming.table g.N.Naming.tokens g.N.Naming.frame c.args.self.now c.args.note c.requires.port c.args.cargo c.requires.ready (Busy c.in-Busy.holder c.in-Busy.live c.in-Busy.cargo c.in-Busy.note) c.initiator-initiator.result c.self.inside.time (c.initiator-initiator.ensures ∙ ap (λ (t : StateView). t.port.engine.initiator) c.self.view_is) (ap (λ (t : StateView). t.port.time) c.self.view_is) c.in-Busy.ensures.tried),
  c.ends-in-Busy.ensures,
)

pub begin_req-requires-clause-hop : goal.begin_req-requires-clause-hop
begin_req-requires-clause-hop g c = hop_stands g.N.Naming.table g.N.Naming.tokens g.N.Naming.frame c.args.self.now c.args.note c.requires.port c.initiator-initiator.result (c.initiator-initiator.ensures ∙ ap (λ (t : StateView). t.port.engine.initiator) c.self.view_is)

pub returns-in-Left-clause-adds : goal.returns-in-Left-clause-adds
returns-in-Left-clause-adds g c = λ entry. call_on_hop_adds g.N.Naming.frame g.N.Naming.tokens c.initiator-initiator.result c.args.self.now.port.engine.initiator (c.initiator-initiator.ensures ∙ ap (λ (t : StateView). t.port.engine.initiator) c.self.view_is) c.args.note.knows c.in-Left.note.knows c.requires.port.below _ _ c.in-Left.ensures.answer tt

pub returns-in-Now-clause-adds : goal.returns-in-Now-clause-adds
returns-in-Now-clause-adds g c = λ entry. call_on_hop_adds g.N.Naming.frame g.N.Naming.tokens c.initiator-initiator.result c.args.self.now.port.engine.initiator (c.initiator-initiator.ensures ∙ ap (λ (t : StateView). t.port.engine.initiator) c.self.view_is) c.args.note.knows c.in-Now.note.knows c.requires.port.below _ _ c.in-Now.ensures.answer tt

pub returns-in-Busy-clause-adds : goal.returns-in-Busy-clause-adds
returns-in-Busy-clause-adds g c = λ entry. absurd (never_made c.ends-in-Busy.result c.args.busy c.ends-in-Busy.ensures entry)
