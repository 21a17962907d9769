use Rattle.std.proofs.Common.{◌≡◌, ℕ, ap, ◌∙◌}
use Rattle.tlm_model.specs.declared.platform.Target.TheVariants.{Memory, Router}
use Rattle.tlm_model.specs.Route.{later}
use Rattle.flow_model.specs.Platform.{hop_in}
use Rattle.plat_net.specs.MemoryCalls.{IsServedAt}
use Rattle.plat_net.specs.Places.{LeadsTo}
use Rattle.port_moves.specs.State.{StateView}
use Rattle.port_moves.specs.declared.hand.Hand.{Hand}
use Rattle.port_moves.proofs.Backs.{hop_stands}
use Rattle.port_moves.proofs.Served.{begun, by_memory, can_serve, leads_here, served_as, serves_as}
use Rattle.port_moves.proofs.Adding.{access_adds}
use Rattle.port_moves.proofs.state.PortState.serve.Goals as goal

pub memory_behind-requires : goal.memory_behind-requires
memory_behind-requires g c = hop_stands g.N.Naming.table g.N.Naming.tokens g.N.Naming.frame c.args.self.now c.args.note c.requires.port c.initiator-initiator.result (c.initiator-initiator.ensures ∙ ap (λ (t : StateView). t.port.engine.initiator) c.self.view_is)

pub unreachable-requires : goal.unreachable-requires
unreachable-requires g c =
    let r = c.in_default.ensures.router in
    by_memory g.N.Naming.table g.N.Naming.tokens g.N.Naming.frame c.args.self.now c.args.note c.requires.port c.args.cargo c.args.at c.args.leg c.requires.begun r.0 c.in_default.ensures.shape (leads_here g.N.Naming.table g.N.Naming.tokens g.N.Naming.frame c.args.self.now c.args.note c.requires.port c.args.cargo c.args.at c.args.leg c.requires.begun c.initiator-initiator.result (Router r.0) (c.initiator-initiator.ensures ∙ ap (λ (t : StateView). t.port.engine.initiator) c.self.view_is) r.1)

pub serve-cargo-requires-clause-can : goal.serve-cargo-requires-clause-can
serve-cargo-requires-clause-can g c = can_serve g.N.Naming.table g.N.Naming.tokens g.N.Naming.frame c.args.self.now c.args.note c.requires.port c.args.cargo c.args.at c.args.leg c.requires.begun c.in-Some.memory (leads_here g.N.Naming.table g.N.Naming.tokens g.N.Naming.frame c.args.self.now c.args.note c.requires.port c.args.cargo c.args.at c.args.leg c.requires.begun c.initiator-initiator.result (Memory c.in-Some.memory) (c.initiator-initiator.ensures ∙ ap (λ (t : StateView). t.port.engine.initiator) c.self.view_is) c.in-Some.ensures.memory)

leads : (g : _) (c : goal.After-made g) → LeadsTo g.N.Naming.frame.world.platform c.args.self.now.port.engine.initiator (Memory c.in-Some.memory)
leads g c = leads_here g.N.Naming.table g.N.Naming.tokens g.N.Naming.frame c.args.self.now c.args.note c.requires.port c.args.cargo c.args.at c.args.leg c.requires.begun c.initiator-initiator.result (Memory c.in-Some.memory) (c.initiator-initiator.ensures ∙ ap (λ (t : StateView). t.port.engine.initiator) c.self.view_is) c.in-Some.ensures.memory

served : (g : _) (c : goal.After-made g) → IsServedAt g.N.Naming.frame g.N.Naming.tokens c.in-Some.memory c.args.cargo c.args.at (begun g.N.Naming.table g.N.Naming.tokens g.N.Naming.frame c.args.self.now c.args.note c.requires.port c.args.cargo c.args.at c.args.leg c.requires.begun).pass 0 (begun g.N.Naming.table g.N.Naming.tokens g.N.Naming.frame c.args.self.now c.args.note c.requires.port c.args.cargo c.args.at c.args.leg c.requires.begun).down.asked.access c.serve-cargo.result.0 c.serve-cargo.result.1.knows.known
served g c = c.serve-cargo.ensures.served (can_serve g.N.Naming.table g.N.Naming.tokens g.N.Naming.frame c.args.self.now c.args.note c.requires.port c.args.cargo c.args.at c.args.leg c.requires.begun c.in-Some.memory (leads g c))

time : (g : _) (c : goal.After-made g) → c.saturating_add.result ≡ later c.args.at (hop_in g.N.Naming.frame.world.platform c.args.self.now.port.engine.initiator).latency
time g c = c.saturating_add.ensures ∙ (ap (later c.args.at) c.in-Some.ensures.latency ∙ ap (λ (n : ℕ). later c.args.at (hop_in g.N.Naming.frame.world.platform n).latency) (c.initiator-initiator.ensures ∙ ap (λ (t : StateView). t.port.engine.initiator) c.self.view_is))

pub returns-clause-port : goal.returns-clause-port
returns-clause-port g c =
    let e = c.serve-cargo.ensures in
    served_as g.N.Naming.table g.N.Naming.tokens g.N.Naming.frame c.args.self.now c.args.note c.requires.port c.args.cargo c.args.at c.args.leg c.requires.begun c.serve-cargo.result.1 e.note e.knew e.below c.in-Some.memory (leads g c) c.serve-cargo.result.0 (served g c) c.turn_to.new.self c.saturating_add.result (time g c)
    (c.turn_to.ensures ∙ ap (λ (h : Hand). let s = c.args.self.now in record s { hand = h }) c.of_response.ensures)

pub returns-clause-served : goal.returns-clause-served
returns-clause-served g c =
    let e = c.serve-cargo.ensures in
    serves_as g.N.Naming.table g.N.Naming.tokens g.N.Naming.frame c.args.self.now c.args.note c.requires.port c.args.cargo c.args.at c.args.leg c.requires.begun c.serve-cargo.result.1 e.note e.knew e.below c.in-Some.memory (leads g c) c.serve-cargo.result.0 (served g c) c.turn_to.new.self c.saturating_add.result (time g c)
    (c.turn_to.ensures ∙ ap (λ (h : Hand). let s = c.args.self.now in record s { hand = h }) c.of_response.ensures) e.look

pub returns-clause-adds : goal.returns-clause-adds
returns-clause-adds g c = access_adds g.N.Naming.frame g.N.Naming.tokens c.initiator-initiator.result c.args.self.now.port.engine.initiator (c.initiator-initiator.ensures ∙ ap (λ (t : StateView). t.port.engine.initiator) c.self.view_is) c.args.note.knows c.serve-cargo.result.1.knows c.requires.port.below c.in-Some.memory c.args.cargo c.args.at _ c.in-Some.ensures.there
    ((begun g.N.Naming.table g.N.Naming.tokens g.N.Naming.frame c.args.self.now c.args.note c.requires.port c.args.cargo c.args.at c.args.leg c.requires.begun).own ∙ c.requires.port.number) c.serve-cargo.ensures.answer
