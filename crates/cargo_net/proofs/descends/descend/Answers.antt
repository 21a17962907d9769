use Rattle.std.proofs.Common.{sym, subst}
use Rattle.atomic_table.specs.Seated.{TableId}
use Rattle.token_book.specs.Purse.{IsOf}
use Rattle.cargo_net.specs.Wallets.{PullsAt}
use Rattle.cargo_net.proofs.DescendLemmas.{descended, has_acquired, may_acquire_with, owed_left}
use Rattle.cargo_net.proofs.descends.descend.Goals as goal

pub acquire-cargo-requires-clause-may : goal.acquire-cargo-requires-clause-may
acquire-cargo-requires-clause-may g c = may_acquire_with g.N.Naming.frame g.N.Naming.tokens c.args.pool.now.number c.args.cargo c.args.above c.args.address c.args.at c.args.note.knows.known c.requires.may c.set_address.new.self c.set_address.ensures

pub pull_at-ticket-requires-clause-of : goal.pull_at-ticket-requires-clause-of
pull_at-ticket-requires-clause-of g c =
    let a = has_acquired g.N.Naming.frame g.N.Naming.tokens c.args.pool.now.number c.args.cargo c.args.above c.args.address c.args.at c.args.note.knows.known c.requires.may c.set_address.new.self c.set_address.ensures c.acquire-cargo.result.0.baton c.acquire-cargo.result.0.hold c.acquire-cargo.result.1.knows.known c.acquire-cargo.ensures.acquired in
    subst (λ (t : TableId). IsOf t c.acquire-cargo.result.0.baton.wallet) (sym c.requires.tickets) a.pulls.of

pub pull_at-ticket-requires-clause-left : goal.pull_at-ticket-requires-clause-left
pull_at-ticket-requires-clause-left g c =
    let a = has_acquired g.N.Naming.frame g.N.Naming.tokens c.args.pool.now.number c.args.cargo c.args.above c.args.address c.args.at c.args.note.knows.known c.requires.may c.set_address.new.self c.set_address.ensures c.acquire-cargo.result.0.baton c.acquire-cargo.result.0.hold c.acquire-cargo.result.1.knows.known c.acquire-cargo.ensures.acquired in
    owed_left g.N.Naming.frame g.N.Naming.tokens c.args.pool.now.number c.args.cargo c.args.above c.args.address c.args.at c.args.note.knows.known c.requires.may c.acquire-cargo.result.1.knows.known c.acquire-cargo.ensures.knew c.acquire-cargo.result.0.baton c.acquire-cargo.result.0.hold a

pub returns-clause-descended : goal.returns-clause-descended
returns-clause-descended g c = λ may. (
    let a = has_acquired g.N.Naming.frame g.N.Naming.tokens c.args.pool.now.number c.args.cargo c.args.above c.args.address c.args.at c.args.note.knows.known may c.set_address.new.self c.set_address.ensures c.acquire-cargo.result.0.baton c.acquire-cargo.result.0.hold c.acquire-cargo.result.1.knows.known c.acquire-cargo.ensures.acquired in
    descended g.N.Naming.frame g.N.Naming.tokens c.args.pool.now.number c.args.cargo c.args.above c.args.address c.args.at c.args.note.knows.known may c.acquire-cargo.result.1.knows.known c.acquire-cargo.ensures.knew c.acquire-cargo.result.0.baton c.acquire-cargo.result.0.hold a c.pull_at-ticket.new.wallet
    (subst (λ (t : TableId). PullsAt t c.args.above c.acquire-cargo.result.0.baton.wallet c.pull_at-ticket.new.wallet) c.requires.tickets c.pull_at-ticket.ensures.pulls)
    )

pub acquire-cargo-requires-clause-history : goal.acquire-cargo-requires-clause-history
acquire-cargo-requires-clause-history g c = c.requires.history

pub acquire-cargo-requires-clause-tickets : goal.acquire-cargo-requires-clause-tickets
acquire-cargo-requires-clause-tickets g c = c.requires.tickets

pub acquire-cargo-requires-clause-note : goal.acquire-cargo-requires-clause-note
acquire-cargo-requires-clause-note g c = c.requires.note

pub returns-clause-answer : goal.returns-clause-answer
returns-clause-answer g c = c.acquire-cargo.ensures.answer
