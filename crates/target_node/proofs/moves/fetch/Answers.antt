use Rattle.std.proofs.Common.{◌<◌, ℕ, Bool, Some, None, sym, ◌∙◌, subst}
use Rattle.atomic_table.specs.Seated.{TableId}
use Rattle.token_book.specs.Purse.{IsOf, left_of}
use Rattle.token_book.specs.Ticket.{IsTicket}
use Rattle.cargo_model.specs.Tickets.{Pulls}
use Rattle.cargo_model.specs.Travel.{with_wallet}
use Rattle.cargo_net.specs.Fetched.{HasFetchedRequest}
use Rattle.cargo_net.specs.declared.fetches.FetchedRequest.{FetchedRequest}
use Rattle.cargo_net.proofs.PayloadWallets.{from_pull}
use Rattle.plat_net.specs.Places.{hop_place}
use Rattle.plat_net.proofs.Given.{hop_numbered}
use Rattle.target_node.specs.Items.{IsFetchedWith}
use Rattle.node_hops.proofs.Looks.{of_some}
use Rattle.plat_net.proofs.Lookups.{row_in}
use Rattle.target_node.proofs.Fetches.{owed_is, paid, waiting_is}
use Rattle.target_node.proofs.moves.fetch.Goals as goal

pub returns-then-not-accepts-clause-fetched : goal.returns-then-not-accepts-clause-fetched
returns-then-not-accepts-clause-fetched g c =
    let frame = g.N.Naming.frame in
    let known = c.fetch_request-fetched.result.1.knows.known in
    let row = row_in frame.world.platform.memories c.args.memory c.requires.memory in
    let r = c.in-Some.fetched in
    let has = of_some (λ (q : FetchedRequest). HasFetchedRequest frame g.N.Naming.tokens (hop_place frame.world c.args.hop) q known) c.fetch_request-fetched.result.0 r c.in-Some.is c.fetch_request-fetched.ensures.fetched in
    let is = waiting_is frame g.N.Naming.tokens known c.args.hop c.requires.hop c.args.memory c.requires.leads row.0 row.1 r has (sym c.if-not-accepts.true ∙ c.requires.mode) in
    subst (λ (b : Bool). IsFetchedWith frame g.N.Naming.tokens c.args.memory known c.args.hop b (record { hop = c.args.hop; leg = r.leg; at = r.at; cargo = r.cargo }) None) (sym c.if-not-accepts.true) is

-- a ticket of the hop was pulled
pulls : (g : _) (c : goal.After-pull-ticket g) → Pulls g.N.Naming.tokens (hop_place g.N.Naming.frame.world c.args.hop) 0 c.in-Some.fetched.cargo.baton.wallet c.pull-ticket.new.self
pulls g c =
    let e = c.pull-ticket.ensures in
    let num = hop_numbered c.args.net.now g.N.Naming.frame.world c.args.hop c.hop.result.now c.hop.ensures c.plan.ensures.world in
    from_pull g.N.Naming.tokens c.tickets.result.now (hop_place g.N.Naming.frame.world c.args.hop) c.number.result c.in-Some.fetched.cargo.baton.wallet c.pull-ticket.new.self (c.number.ensures ∙ num) c.tickets.ensures e.wallet e.of e.left e.bytes

pub pull-ticket-requires-clause-left : goal.pull-ticket-requires-clause-left
pull-ticket-requires-clause-left g c =
    let frame = g.N.Naming.frame in
    let known = c.fetch_request-fetched.result.1.knows.known in
    let row = row_in frame.world.platform.memories c.args.memory c.requires.memory in
    let r = c.in-Some.fetched in
    let has = of_some (λ (q : FetchedRequest). HasFetchedRequest frame g.N.Naming.tokens (hop_place frame.world c.args.hop) q known) c.fetch_request-fetched.result.0 r c.in-Some.is c.fetch_request-fetched.ensures.fetched in
    let num = hop_numbered c.args.net.now frame.world c.args.hop c.hop.result.now c.hop.ensures c.plan.ensures.world in
    subst (λ (n : ℕ). 0 < left_of r.cargo.baton.wallet n) (sym (c.number.ensures ∙ num)) (paid frame g.N.Naming.tokens known c.args.hop c.requires.hop c.args.memory c.requires.leads row.0 row.1 r has)

pub pull-ticket-requires-clause-of : goal.pull-ticket-requires-clause-of
pull-ticket-requires-clause-of g c =
    let frame = g.N.Naming.frame in
    let known = c.fetch_request-fetched.result.1.knows.known in
    let r = c.in-Some.fetched in
    let has = of_some (λ (q : FetchedRequest). HasFetchedRequest frame g.N.Naming.tokens (hop_place frame.world c.args.hop) q known) c.fetch_request-fetched.result.0 r c.in-Some.is c.fetch_request-fetched.ensures.fetched in
    subst (λ (t : TableId). IsOf t r.cargo.baton.wallet) (sym c.tickets.ensures) has.down.tickets.of

pub returns-clause-fetched : goal.returns-clause-fetched
returns-clause-fetched g c =
    let frame = g.N.Naming.frame in
    let known = c.fetch_request-fetched.result.1.knows.known in
    let row = row_in frame.world.platform.memories c.args.memory c.requires.memory in
    let r = c.in-Some.fetched in
    let has = of_some (λ (q : FetchedRequest). HasFetchedRequest frame g.N.Naming.tokens (hop_place frame.world c.args.hop) q known) c.fetch_request-fetched.result.0 r c.in-Some.is c.fetch_request-fetched.ensures.fetched in
    let num = hop_numbered c.args.net.now frame.world c.args.hop c.hop.result.now c.hop.ensures c.plan.ensures.world in
    let after = c.pull-ticket.new.self in
    let of : IsTicket g.N.Naming.tokens (hop_place frame.world c.args.hop) c.pull-ticket.result = subst (λ (t : TableId). IsTicket t (hop_place frame.world c.args.hop) c.pull-ticket.result) c.tickets.ensures (subst (λ (n : ℕ). IsTicket c.tickets.result.now n c.pull-ticket.result) (c.number.ensures ∙ num) c.pull-ticket.ensures.ticket) in
    let is = owed_is frame g.N.Naming.tokens known c.args.hop c.requires.hop c.args.memory c.requires.leads row.0 row.1 r has after c.pull-ticket.result (sym c.if-not-accepts.false ∙ c.requires.mode) (pulls g c) of in
    subst (λ (b : Bool). IsFetchedWith frame g.N.Naming.tokens c.args.memory known c.args.hop b (record { hop = c.args.hop; leg = r.leg; at = r.at; cargo = with_wallet r.cargo after }) (Some c.pull-ticket.result)) (sym c.if-not-accepts.false) is

pub fetch_request-fetched-requires-clause-hop : goal.fetch_request-fetched-requires-clause-hop
fetch_request-fetched-requires-clause-hop g c = c.requires.hop

pub fetch_request-fetched-requires-clause-note : goal.fetch_request-fetched-requires-clause-note
fetch_request-fetched-requires-clause-note g c = c.requires.note

pub returns-in_default-clause-note : goal.returns-in_default-clause-note
returns-in_default-clause-note g c = c.fetch_request-fetched.ensures.note

pub returns-in_default-clause-knew : goal.returns-in_default-clause-knew
returns-in_default-clause-knew g c = c.fetch_request-fetched.ensures.knew

pub returns-in_default-clause-below : goal.returns-in_default-clause-below
returns-in_default-clause-below g c = c.fetch_request-fetched.ensures.below

pub returns-in_default-clause-fetched : goal.returns-in_default-clause-fetched
returns-in_default-clause-fetched g c = tt

pub returns-then-not-accepts-clause-note : goal.returns-then-not-accepts-clause-note
returns-then-not-accepts-clause-note g c = c.fetch_request-fetched.ensures.note

pub returns-then-not-accepts-clause-knew : goal.returns-then-not-accepts-clause-knew
returns-then-not-accepts-clause-knew g c = c.fetch_request-fetched.ensures.knew

pub returns-then-not-accepts-clause-below : goal.returns-then-not-accepts-clause-below
returns-then-not-accepts-clause-below g c = c.fetch_request-fetched.ensures.below

pub returns-clause-note : goal.returns-clause-note
returns-clause-note g c = c.fetch_request-fetched.ensures.note

pub returns-clause-knew : goal.returns-clause-knew
returns-clause-knew g c = c.fetch_request-fetched.ensures.knew

pub returns-clause-below : goal.returns-clause-below
returns-clause-below g c = c.fetch_request-fetched.ensures.below
