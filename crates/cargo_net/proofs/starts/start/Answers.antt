use Rattle.cargo_net.proofs.StartLemmas.{may_acquire, started}
use Rattle.cargo_net.proofs.starts.start.Goals as goal

pub acquire-requires-clause-may : goal.acquire-requires-clause-may
acquire-requires-clause-may g c = may_acquire g.N.Naming.frame g.N.Naming.tokens c.args.pool.now.number c.args.baton c.args.at c.args.note.knows.known c.requires.may

pub returns-clause-started : goal.returns-clause-started
returns-clause-started g c = λ may. (
    started g.N.Naming.frame g.N.Naming.tokens c.args.pool.now.number c.args.baton c.args.at c.args.note.knows.known may c.acquire.result.1.knows.known c.acquire.ensures.knew c.acquire.result.0.baton c.acquire.result.0.hold
    (c.acquire.ensures.acquired (may_acquire g.N.Naming.frame g.N.Naming.tokens c.args.pool.now.number c.args.baton c.args.at c.args.note.knows.known may))
    )

pub returns-clause-acquired : goal.returns-clause-acquired
returns-clause-acquired g c =
    (c.acquire.ensures.acquired (may_acquire g.N.Naming.frame g.N.Naming.tokens c.args.pool.now.number c.args.baton c.args.at c.args.note.knows.known c.requires.may)).made

pub acquire-requires-clause-history : goal.acquire-requires-clause-history
acquire-requires-clause-history g c = c.requires.history

pub acquire-requires-clause-tickets : goal.acquire-requires-clause-tickets
acquire-requires-clause-tickets g c = c.requires.tickets

pub acquire-requires-clause-note : goal.acquire-requires-clause-note
acquire-requires-clause-note g c = c.requires.note

pub returns-clause-answer : goal.returns-clause-answer
returns-clause-answer g c = c.acquire.ensures.answer
