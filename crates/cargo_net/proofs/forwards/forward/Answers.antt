use Rattle.std.proofs.Common.{ℕ, sym, subst}
use Rattle.cargo_net.specs.Forwards.{HasReturned}
use Rattle.cargo_net.proofs.ForwardLemmas.{by_memory, come_back, looks_with, number_none, number_some, serves_back}
use Rattle.cargo_net.proofs.forwards.forward.Goals as goal

pub unreachable-requires : goal.unreachable-requires
unreachable-requires g c =
    let r = c.in-Now.ensures.tried c.requires.may.begins in
    by_memory g.N.Naming.frame g.N.Naming.tokens c.args.hop.now.number _ c.args.latency c.args.cargo c.args.at c.args.note.knows.known c.requires.may c.in-Now.answer c.in-Now.at c.in-Now.note.knows.known r.0 (number_none _ _ c.in_default.is)

pub serve-cargo-requires-clause-may : goal.serve-cargo-requires-clause-may
serve-cargo-requires-clause-may g c =
    let r = c.in-Now.ensures.tried c.requires.may.begins in
    serves_back g.N.Naming.frame g.N.Naming.tokens c.args.hop.now.number _ c.args.latency c.args.cargo c.args.at c.args.note.knows.known c.requires.may c.in-Some.memory.now.number (number_some _ _ _ c.in-Some.is)
    c.in-Now.answer c.in-Now.at c.in-Now.note.knows.known c.in-Now.cargo r.0 r.2 r.3

pub returns-in-Some-clause-knew : goal.returns-in-Some-clause-knew
returns-in-Some-clause-knew g c = λ e h. c.serve-cargo.ensures.knew e (c.in-Now.ensures.knew e h)

pub returns-in-Some-clause-forwarded : goal.returns-in-Some-clause-forwarded
returns-in-Some-clause-forwarded g c = λ may. (
    let r = c.in-Now.ensures.tried may.begins in
    let b = come_back g.N.Naming.frame g.N.Naming.tokens c.args.hop.now.number _ c.args.latency c.args.cargo c.args.at c.args.note.knows.known may c.in-Some.memory.now.number (number_some _ _ _ c.in-Some.is)
    c.in-Now.answer c.in-Now.at c.in-Now.leg c.in-Now.note.knows.known c.serve-cargo.result.1.knows.known c.in-Now.cargo c.serve-cargo.result.0 c.serve-cargo.ensures.knew r.0 r.1 r.2 r.3 c.serve-cargo.ensures.served in (
      b.0,
      subst (λ (due : ℕ). HasReturned g.N.Naming.frame g.N.Naming.tokens c.args.hop.now.number c.args.cargo may.begins.pass may.begins.hop c.args.latency c.in-Now.answer c.in-Now.at due c.in-Now.leg c.serve-cargo.result.0 c.serve-cargo.result.1.knows.known) (sym c.saturating_add.ensures) b.1,
      looks_with c.args.note.knows.looks c.in-Now.note.knows.looks c.serve-cargo.result.1.knows.looks c.args.hop.now.number c.in-Some.memory.now.number _ (number_some _ _ _ c.in-Some.is) r.4 c.serve-cargo.ensures.look,
    )
    )

pub returns-in-Busy-clause-forwarded : goal.returns-in-Busy-clause-forwarded
returns-in-Busy-clause-forwarded g c = λ may. c.in-Busy.ensures.tried may.begins

pub begin_req-requires-clause-history : goal.begin_req-requires-clause-history
begin_req-requires-clause-history g c = c.requires.history

pub begin_req-requires-clause-tickets : goal.begin_req-requires-clause-tickets
begin_req-requires-clause-tickets g c = c.requires.tickets

pub begin_req-requires-clause-note : goal.begin_req-requires-clause-note
begin_req-requires-clause-note g c = c.requires.note

pub serve-cargo-requires-clause-history : goal.serve-cargo-requires-clause-history
serve-cargo-requires-clause-history g c = c.requires.history

pub serve-cargo-requires-clause-tickets : goal.serve-cargo-requires-clause-tickets
serve-cargo-requires-clause-tickets g c = c.requires.tickets
