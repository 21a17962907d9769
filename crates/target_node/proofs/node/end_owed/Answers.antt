use Rattle.std.proofs.Common.{◌≡◌, ◌++◌, Bool, Option, refl, sym, subst, ◌∙◌}
use Rattle.token_book.specs.declared.ticket.Ticket.{Ticket}
use Rattle.target_node.specs.Items.{IsFetchedWith}
use Rattle.target_node.specs.Node.{end_looks}
use Rattle.node_hops.proofs.Looks.{none_yet}
use Rattle.target_node.proofs.Adds.{not_both}
use Rattle.target_node.proofs.Fetches.{with_none, with_ticket}
use Rattle.target_node.proofs.node.end_owed.Goals as goal

pub returns-in_default-clause-note : goal.returns-in_default-clause-note
returns-in_default-clause-note g c = c.requires.note

pub returns-in_default-clause-knew : goal.returns-in_default-clause-knew
returns-in_default-clause-knew g c = λ x has. has

pub returns-in_default-clause-below : goal.returns-in_default-clause-below
returns-in_default-clause-below g c = c.requires.below

pub returns-in_default-clause-looks : goal.returns-in_default-clause-looks
returns-in_default-clause-looks g c =
    let f = with_none g.N.Naming.frame g.N.Naming.tokens c.args.memory c.args.note.knows.known c.args.request.hop c.args.accepts c.args.request (subst (λ (o : Option Ticket). IsFetchedWith g.N.Naming.frame g.N.Naming.tokens c.args.memory c.args.note.knows.known c.args.request.hop c.args.accepts c.args.request o) c.in_default.is c.requires.fetched) in
    subst (λ (b : Bool). c.args.note.knows.looks ≡ c.args.note.knows.looks ++ end_looks g.N.Naming.frame.world c.args.request.hop b) (sym f.0) (none_yet c.args.note.knows.looks)

pub returns-in_default-clause-hop : goal.returns-in_default-clause-hop
returns-in_default-clause-hop g c = refl

pub returns-in_default-clause-waits : goal.returns-in_default-clause-waits
returns-in_default-clause-waits g c =
    let f = with_none g.N.Naming.frame g.N.Naming.tokens c.args.memory c.args.note.knows.known c.args.request.hop c.args.accepts c.args.request (subst (λ (o : Option Ticket). IsFetchedWith g.N.Naming.frame g.N.Naming.tokens c.args.memory c.args.note.knows.known c.args.request.hop c.args.accepts c.args.request o) c.in_default.is c.requires.fetched) in
    f.1

pub end-requires-clause-memory : goal.end-requires-clause-memory
end-requires-clause-memory g c = c.requires.memory

pub end-requires-clause-hop : goal.end-requires-clause-hop
end-requires-clause-hop g c = c.requires.hop

pub end-requires-clause-note : goal.end-requires-clause-note
end-requires-clause-note g c = c.requires.note

pub end-requires-clause-ticket : goal.end-requires-clause-ticket
end-requires-clause-ticket g c =
    let f = with_ticket g.N.Naming.frame g.N.Naming.tokens c.args.memory c.args.note.knows.known c.args.request.hop c.args.accepts c.args.request c.in-Some.ticket (subst (λ (o : Option Ticket). IsFetchedWith g.N.Naming.frame g.N.Naming.tokens c.args.memory c.args.note.knows.known c.args.request.hop c.args.accepts c.args.request o) c.in-Some.is c.requires.fetched) in
    f.2

pub end-requires-clause-owed : goal.end-requires-clause-owed
end-requires-clause-owed g c =
    let f = with_ticket g.N.Naming.frame g.N.Naming.tokens c.args.memory c.args.note.knows.known c.args.request.hop c.args.accepts c.args.request c.in-Some.ticket (subst (λ (o : Option Ticket). IsFetchedWith g.N.Naming.frame g.N.Naming.tokens c.args.memory c.args.note.knows.known c.args.request.hop c.args.accepts c.args.request o) c.in-Some.is c.requires.fetched) in
    f.1

pub returns-clause-note : goal.returns-clause-note
returns-clause-note g c = c.end.ensures.note

pub returns-clause-knew : goal.returns-clause-knew
returns-clause-knew g c = c.end.ensures.knew

pub returns-clause-below : goal.returns-clause-below
returns-clause-below g c = c.end.ensures.below

pub returns-clause-looks : goal.returns-clause-looks
returns-clause-looks g c =
    let f = with_ticket g.N.Naming.frame g.N.Naming.tokens c.args.memory c.args.note.knows.known c.args.request.hop c.args.accepts c.args.request c.in-Some.ticket (subst (λ (o : Option Ticket). IsFetchedWith g.N.Naming.frame g.N.Naming.tokens c.args.memory c.args.note.knows.known c.args.request.hop c.args.accepts c.args.request o) c.in-Some.is c.requires.fetched) in
    subst (λ (b : Bool). c.end.result.1.knows.looks ≡ c.args.note.knows.looks ++ end_looks g.N.Naming.frame.world c.args.request.hop b) (sym f.0) c.end.ensures.look

pub returns-clause-hop : goal.returns-clause-hop
returns-clause-hop g c = let same = c.end.ensures.same in same.0

pub returns-clause-waits : goal.returns-clause-waits
returns-clause-waits g c = c.end.ensures.waits

pub returns-in_default-clause-adds : goal.returns-in_default-clause-adds
returns-in_default-clause-adds g c =
    let f = with_none g.N.Naming.frame g.N.Naming.tokens c.args.memory c.args.note.knows.known c.args.request.hop c.args.accepts c.args.request (subst (λ (o : Option Ticket). IsFetchedWith g.N.Naming.frame g.N.Naming.tokens c.args.memory c.args.note.knows.known c.args.request.hop c.args.accepts c.args.request o) c.in_default.is c.requires.fetched) in
    λ mode. absurd (not_both (sym f.0 ∙ mode))

pub returns-clause-adds : goal.returns-clause-adds
returns-clause-adds g c = λ mode. c.end.ensures.adds
