use Rattle.std.proofs.Common.{◌≡◌, ◌<◌, ℕ, [], ◌∷◌, ◌++◌, Option, sym, ap, subst, ◌∙◌, inl}
use Rattle.std.specs.Prelude.{IfSome}
use Rattle.route_plan.specs.Valid.{hop_count}
use Rattle.hop_object.specs.Objects.{look_of}
use Rattle.cargo_net.specs.Fetched.{HasFetchedResponse, up_reply}
use Rattle.cargo_net.specs.declared.fetches.FetchedResponse.{FetchedResponse}
use Rattle.port_moves.specs.Reach.{first_hop}
use Rattle.port_moves.specs.State.{StateView}
use Rattle.port_moves.specs.declared.hand.Hand.{Hand}
use Rattle.port_moves.proofs.Backs.{fetched_as, fetches_as, goes_free, stands_hop}
use Rattle.port_moves.proofs.state.PortState.fetch.Goals as goal

pub fetch_response-fetched-requires-clause-hop : goal.fetch_response-fetched-requires-clause-hop
fetch_response-fetched-requires-clause-hop g c =
    subst (λ (n : ℕ). n < hop_count g.N.Naming.frame.world.platform) (sym (c.initiator.ensures ∙ ap (λ (t : StateView). t.port.engine.initiator) c.self.view_is)) (stands_hop g.N.Naming.table g.N.Naming.tokens g.N.Naming.frame c.args.self.now c.args.note c.requires.port)

pub returns-in_default-clause-port : goal.returns-in_default-clause-port
returns-in_default-clause-port g c = goes_free g.N.Naming.table g.N.Naming.tokens g.N.Naming.frame c.args.self.now c.args.note c.requires.port c.fetch_response-fetched.result.1 c.fetch_response-fetched.ensures.note c.fetch_response-fetched.ensures.knew c.fetch_response-fetched.ensures.below c.requires.free

pub returns-clause-port : goal.returns-clause-port
returns-clause-port g c =
    fetched_as g.N.Naming.table g.N.Naming.tokens g.N.Naming.frame c.args.self.now c.args.note c.requires.port c.fetch_response-fetched.result.1 c.fetch_response-fetched.ensures.note c.fetch_response-fetched.ensures.knew c.fetch_response-fetched.ensures.below c.turn_to.new.self c.in-Some.response c.initiator.result (c.initiator.ensures ∙ ap (λ (t : StateView). t.port.engine.initiator) c.self.view_is) (c.turn_to.ensures ∙ ap (λ (h : Hand). let s = c.args.self.now in record s { hand = h }) c.of_response.ensures)
    (subst (λ (o : Option FetchedResponse). IfSome o (λ (r : FetchedResponse). HasFetchedResponse g.N.Naming.frame g.N.Naming.tokens (first_hop g.N.Naming.frame.world c.initiator.result) r c.fetch_response-fetched.result.1.knows.known)) c.in-Some.is c.fetch_response-fetched.ensures.fetched)

pub returns-clause-fetched : goal.returns-clause-fetched
returns-clause-fetched g c = inl (
    fetches_as g.N.Naming.table g.N.Naming.tokens g.N.Naming.frame c.args.self.now c.args.note c.requires.port c.fetch_response-fetched.result.1 c.fetch_response-fetched.ensures.note c.fetch_response-fetched.ensures.knew c.fetch_response-fetched.ensures.below c.turn_to.new.self c.in-Some.response c.initiator.result (c.initiator.ensures ∙ ap (λ (t : StateView). t.port.engine.initiator) c.self.view_is) (c.turn_to.ensures ∙ ap (λ (h : Hand). let s = c.args.self.now in record s { hand = h }) c.of_response.ensures)
    (subst (λ (o : Option FetchedResponse). IfSome o (λ (r : FetchedResponse). HasFetchedResponse g.N.Naming.frame g.N.Naming.tokens (first_hop g.N.Naming.frame.world c.initiator.result) r c.fetch_response-fetched.result.1.knows.known)) c.in-Some.is c.fetch_response-fetched.ensures.fetched)
    (subst (λ (o : Option FetchedResponse). c.fetch_response-fetched.result.1.knows.looks ≡ c.args.note.knows.looks ++ (first_hop g.N.Naming.frame.world c.initiator.result, look_of (up_reply o)) ∷ []) c.in-Some.is c.fetch_response-fetched.ensures.look)
    )
