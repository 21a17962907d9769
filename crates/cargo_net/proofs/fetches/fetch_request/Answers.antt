use Rattle.std.proofs.Common.{◌≡◌, Option, Some, None, refl, ◌∙◌, ap, subst}
use Rattle.std.specs.Prelude.{IfSome}
use Rattle.hop_object.specs.declared.call.HopReply.{HopReply}
use Rattle.hop_object.specs.declared.call.HopCall.TheVariants.{FetchDown}
use Rattle.cargo_model.specs.declared.cargo.Cargo.{Cargo}
use Rattle.cargo_net.specs.Fetched.{HasFetchedRequest, down_reply}
use Rattle.cargo_net.specs.Hops.{HasAnswered, HasStepped}
use Rattle.cargo_net.specs.declared.fetches.FetchedRequest.{FetchedRequest}
use Rattle.cargo_net.proofs.FetchLemmas.{fetched_down}
use Rattle.cargo_net.proofs.fetches.fetch_request.Goals as goal

pub returns-clause-answer : goal.returns-clause-answer
returns-clause-answer g c = subst (λ (y : HopReply Cargo). HasAnswered g.N.Naming.frame g.N.Naming.tokens c.args.hop.now.number c.args.hop.now.own c.args.note.knows c.step_hop-reply.result.1.knows FetchDown y) c.fetched_request.ensures c.step_hop-reply.ensures.stepped.answered

pub returns-clause-fetched : goal.returns-clause-fetched
returns-clause-fetched g c = by c.fetched_request.result refl
  where
    by : (o : Option FetchedRequest) → c.fetched_request.result ≡ o → IfSome o (λ (r : FetchedRequest). HasFetchedRequest g.N.Naming.frame g.N.Naming.tokens c.args.hop.now.number r c.step_hop-reply.result.1.knows.known)
    by None q = tt
    by (Some r) q =
        let same = c.fetched_request.ensures ∙ ap down_reply q in
        let s = subst (λ (y : HopReply Cargo). HasStepped g.N.Naming.frame g.N.Naming.tokens c.args.hop.now.number c.args.hop.now.own c.args.note.knows c.step_hop-reply.result.1.knows FetchDown None y c.step_hop-reply.result.2) same c.step_hop-reply.ensures.stepped in
        fetched_down g.N.Naming.frame g.N.Naming.tokens c.args.hop.now.number c.args.hop.now.own c.args.note.knows c.step_hop-reply.result.1.knows c.requires.there r s.answered s.follows s.given

pub step_hop-reply-requires-clause-history : goal.step_hop-reply-requires-clause-history
step_hop-reply-requires-clause-history g c = c.requires.history

pub step_hop-reply-requires-clause-tickets : goal.step_hop-reply-requires-clause-tickets
step_hop-reply-requires-clause-tickets g c = c.requires.tickets

pub step_hop-reply-requires-clause-note : goal.step_hop-reply-requires-clause-note
step_hop-reply-requires-clause-note g c = c.requires.note

pub returns-clause-note : goal.returns-clause-note
returns-clause-note g c = c.step_hop-reply.ensures.note

pub returns-clause-knew : goal.returns-clause-knew
returns-clause-knew g c = c.step_hop-reply.ensures.stepped.answered.enters.knew

pub returns-clause-below : goal.returns-clause-below
returns-clause-below g c = c.step_hop-reply.ensures.stepped.answered.enters.below
