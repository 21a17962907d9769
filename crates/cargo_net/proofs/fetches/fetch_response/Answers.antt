use Rattle.std.proofs.Common.{◌≡◌, Option, Some, None, refl, ◌∙◌, ap, subst}
use Rattle.std.specs.Prelude.{IfSome}
use Rattle.hop_object.specs.declared.call.HopReply.{HopReply}
use Rattle.hop_object.specs.declared.call.HopCall.TheVariants.{FetchUp}
use Rattle.cargo_model.specs.declared.cargo.Cargo.{Cargo}
use Rattle.cargo_net.specs.Fetched.{HasFetchedResponse, up_reply}
use Rattle.cargo_net.specs.Hops.{HasAnswered, HasStepped}
use Rattle.cargo_net.specs.declared.fetches.FetchedResponse.{FetchedResponse}
use Rattle.cargo_net.proofs.FetchLemmas.{fetched_up}
use Rattle.cargo_net.proofs.fetches.fetch_response.Goals as goal

pub returns-clause-answer : goal.returns-clause-answer
returns-clause-answer g c = subst (λ (y : HopReply Cargo). HasAnswered g.N.Naming.frame g.N.Naming.tokens c.args.hop.now.number c.args.hop.now.own c.args.note.knows c.step_hop-reply.result.1.knows FetchUp y) c.fetched_response.ensures c.step_hop-reply.ensures.stepped.answered

pub returns-clause-fetched : goal.returns-clause-fetched
returns-clause-fetched g c = by c.fetched_response.result refl
  where
    by : (o : Option FetchedResponse) → c.fetched_response.result ≡ o → IfSome o (λ (r : FetchedResponse). HasFetchedResponse g.N.Naming.frame g.N.Naming.tokens c.args.hop.now.number r c.step_hop-reply.result.1.knows.known)
    by None q = tt
    by (Some r) q =
        let same = c.fetched_response.ensures ∙ ap up_reply q in
        let s = subst (λ (y : HopReply Cargo). HasStepped g.N.Naming.frame g.N.Naming.tokens c.args.hop.now.number c.args.hop.now.own c.args.note.knows c.step_hop-reply.result.1.knows FetchUp None y c.step_hop-reply.result.2) same c.step_hop-reply.ensures.stepped in
        fetched_up g.N.Naming.frame g.N.Naming.tokens c.args.hop.now.number c.args.hop.now.own c.args.note.knows c.step_hop-reply.result.1.knows c.requires.there r s.answered s.follows s.given

pub step_hop-reply-requires-clause-history : goal.step_hop-reply-requires-clause-history
step_hop-reply-requires-clause-history g c = c.requires.history

pub step_hop-reply-requires-clause-tickets : goal.step_hop-reply-requires-clause-tickets
step_hop-reply-requires-clause-tickets g c = c.requires.tickets

pub step_hop-reply-requires-clause-note : goal.step_hop-reply-requires-clause-note
step_hop-reply-requires-clause-note g c = c.requires.note

pub returns-clause-note : goal.returns-clause-note
returns-clause-note g c = c.step_hop-reply.ensures.note

pub returns-clause-knew : goal.returns-clause-knew
returns-clause-knew g c = c.step_hop-reply.ensures.stepped.answered.enters.knew

pub returns-clause-below : goal.returns-clause-below
returns-clause-below g c = c.step_hop-reply.ensures.stepped.answered.enters.below
