use Rattle.std.proofs.Common.{◌≡◌, ◌<◌, ℕ, [], ◌∷◌, ◌++◌, refl, sym, ap, subst, ◌∙◌}
use Rattle.atomic_table.specs.Seated.{TableId}
use Rattle.token_book.specs.Purse.{IsOf, left_of}
use Rattle.cargo_model.specs.Tickets.{Pulls}
use Rattle.cargo_model.specs.Travel.{with_wallet}
use Rattle.cargo_net.specs.Ends.{HasEndedResponse}
use Rattle.cargo_net.proofs.PayloadWallets.{from_pull}
use Rattle.plat_net.specs.HopCalls.{CanEndResponse}
use Rattle.port_moves.specs.Moves.{Ends}
use Rattle.port_moves.specs.Reach.{first_hop}
use Rattle.port_moves.specs.State.{IsPort, StateView, with_note}
use Rattle.port_moves.specs.declared.hand.Hand.TheVariants as Hands
use Rattle.port_moves.proofs.Backs.{end_made, end_of, end_paid, ended, hop_stands, keeps, can_end}
use Rattle.port_moves.proofs.Adding.{call_on_hop_adds}
use Rattle.port_moves.proofs.state.PortState.end.Goals as goal

pub hop_place-hop-requires : goal.hop_place-hop-requires
hop_place-hop-requires g c = hop_stands g.N.Naming.table g.N.Naming.tokens g.N.Naming.frame c.args.self.now c.args.note c.requires.port c.initiator-initiator.result (c.initiator-initiator.ensures ∙ ap (λ (t : StateView). t.port.engine.initiator) c.self.view_is)

pub pull-ticket-requires-clause-of : goal.pull-ticket-requires-clause-of
pull-ticket-requires-clause-of g c =
    subst (λ (t : TableId). IsOf t c.args.cargo.baton.wallet) (sym c.tickets.ensures) (end_of g.N.Naming.table g.N.Naming.tokens g.N.Naming.frame c.args.self.now c.args.note c.requires.port c.args.cargo c.args.leg c.args.at c.requires.owed)

pub pull-ticket-requires-clause-left : goal.pull-ticket-requires-clause-left
pull-ticket-requires-clause-left g c =
    let s = c.args.self.now in
    let who : c.initiator-initiator.result ≡ s.port.engine.initiator = c.initiator-initiator.ensures ∙ ap (λ (t : StateView). t.port.engine.initiator) c.self.view_is in
    subst (λ (n : ℕ). 0 < left_of c.args.cargo.baton.wallet n) (sym (c.hop_place-hop.ensures ∙ ap (first_hop g.N.Naming.frame.world) who))
    (end_paid g.N.Naming.table g.N.Naming.tokens g.N.Naming.frame s c.args.note c.requires.port c.args.cargo c.args.leg c.args.at c.requires.owed)

pub end_resp-end-requires-clause-can : goal.end_resp-end-requires-clause-can
end_resp-end-requires-clause-can g c =
    let s = c.args.self.now in
    let who : c.initiator-initiator.result ≡ s.port.engine.initiator = c.initiator-initiator.ensures ∙ ap (λ (t : StateView). t.port.engine.initiator) c.self.view_is in
    subst (λ (n : ℕ). CanEndResponse g.N.Naming.frame g.N.Naming.tokens n c.args.leg c.args.at c.args.note.knows.known) (sym who)
    (can_end g.N.Naming.table g.N.Naming.tokens g.N.Naming.frame s c.args.note c.requires.port c.args.cargo c.args.leg c.args.at c.requires.owed)

-- what the call at the hop has left
made : (g : _) (c : goal.After-made g) → HasEndedResponse g.N.Naming.frame c.args.at c.args.cargo.baton.txn (can_end g.N.Naming.table g.N.Naming.tokens g.N.Naming.frame c.args.self.now c.args.note c.requires.port c.args.cargo c.args.leg c.args.at c.requires.owed).pass 0 c.end_resp-end.result.0 c.end_resp-end.result.1.knows.known
made g c =
    let s = c.args.self.now in
    let who : c.initiator-initiator.result ≡ s.port.engine.initiator = c.initiator-initiator.ensures ∙ ap (λ (t : StateView). t.port.engine.initiator) c.self.view_is in
    subst (λ (n : ℕ). (can : CanEndResponse g.N.Naming.frame g.N.Naming.tokens n c.args.leg c.args.at c.args.note.knows.known) → HasEndedResponse g.N.Naming.frame c.args.at can.x can.pass can.hop c.end_resp-end.result.0 c.end_resp-end.result.1.knows.known) who c.end_resp-end.ensures.ended
    (can_end g.N.Naming.table g.N.Naming.tokens g.N.Naming.frame s c.args.note c.requires.port c.args.cargo c.args.leg c.args.at c.requires.owed)

pulls : (g : _) (c : goal.After-made g) → Pulls g.N.Naming.tokens (first_hop g.N.Naming.frame.world c.args.self.now.port.engine.initiator) 0 c.args.cargo.baton.wallet c.pull-ticket.new.self
pulls g c =
    let s = c.args.self.now in
    let who : c.initiator-initiator.result ≡ s.port.engine.initiator = c.initiator-initiator.ensures ∙ ap (λ (t : StateView). t.port.engine.initiator) c.self.view_is in
    let e = c.pull-ticket.ensures in
    from_pull g.N.Naming.tokens c.tickets.result.now (first_hop g.N.Naming.frame.world s.port.engine.initiator) c.hop_place-hop.result c.args.cargo.baton.wallet c.pull-ticket.new.self (c.hop_place-hop.ensures ∙ ap (first_hop g.N.Naming.frame.world) who) c.tickets.ensures e.wallet e.of e.left e.bytes

pub returns-clause-port : goal.returns-clause-port
returns-clause-port g c =
    let e = c.end_resp-end.ensures in
    let s = c.args.self.now in
    let back = c.end_resp-end.result.1 in
    subst (λ (t : StateView). IsPort g.N.Naming.table g.N.Naming.tokens g.N.Naming.frame (with_note t back)) (sym c.turn_to.ensures)
    (ended g.N.Naming.table g.N.Naming.tokens g.N.Naming.frame s c.args.note c.requires.port back e.note e.knew e.below c.args.cargo c.args.leg c.args.at c.end_resp-end.result.0 c.pull-ticket.new.self c.requires.owed (pulls g c) (made g c))

pub returns-clause-ended : goal.returns-clause-ended
returns-clause-ended g c =
    let e = c.end_resp-end.ensures in
    let s = c.args.self.now in
    let back = c.end_resp-end.result.1 in
    let who : c.initiator-initiator.result ≡ s.port.engine.initiator = c.initiator-initiator.ensures ∙ ap (λ (t : StateView). t.port.engine.initiator) c.self.view_is in
    let after = with_wallet c.args.cargo c.pull-ticket.new.self in
    subst (λ (t : StateView). Ends g.N.Naming.frame c.args.cargo c.args.at (with_note s c.args.note) (with_note t back)) (sym c.turn_to.ensures)
    (record {
      keeps = keeps g.N.Naming.table g.N.Naming.tokens g.N.Naming.frame s c.args.note c.requires.port back e.note e.knew e.below (Hands.Ended after c.end_resp-end.result.0) s.held;
      time = c.end_resp-end.result.0;
      late = (made g c).late;
      made = end_made g.N.Naming.table g.N.Naming.tokens g.N.Naming.frame s c.args.note c.requires.port back e.note e.knew e.below c.args.cargo c.args.leg c.args.at c.end_resp-end.result.0 c.pull-ticket.new.self c.requires.owed (pulls g c) (made g c);
      same = after;
      txn = refl;
      hand = refl;
      held = refl;
      look = subst (λ (n : ℕ). back.knows.looks ≡ c.args.note.knows.looks ++ (first_hop g.N.Naming.frame.world n, 0) ∷ []) who e.look;
    })

pub end_resp-end-requires-clause-hop : goal.end_resp-end-requires-clause-hop
end_resp-end-requires-clause-hop g c = hop_stands g.N.Naming.table g.N.Naming.tokens g.N.Naming.frame c.args.self.now c.args.note c.requires.port c.initiator-initiator.result (c.initiator-initiator.ensures ∙ ap (λ (t : StateView). t.port.engine.initiator) c.self.view_is)

pub returns-clause-adds : goal.returns-clause-adds
returns-clause-adds g c = call_on_hop_adds g.N.Naming.frame g.N.Naming.tokens c.initiator-initiator.result c.args.self.now.port.engine.initiator (c.initiator-initiator.ensures ∙ ap (λ (t : StateView). t.port.engine.initiator) c.self.view_is) c.args.note.knows c.end_resp-end.result.1.knows c.requires.port.below _ _ c.end_resp-end.ensures.answer tt
