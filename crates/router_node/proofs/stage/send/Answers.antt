use Rattle.std.proofs.Common.{true, false, sym, subst, refl}
use Rattle.tlm_types.specs.declared.words.TxnId.{TxnId}
use Rattle.router_node.specs.Stages.{IsAway}
use Rattle.router_node.proofs.Staged.{not_true, refused_is_up, sent_away}
use Rattle.router_node.proofs.stage.send.Goals as goal

pub returns-in-Open-clause-stage : goal.returns-in-Open-clause-stage
returns-in-Open-clause-stage g c =
    let frame = g.N.Naming.frame in
    let tokens = g.N.Naming.tokens in
    let back = c.in-Open.note.knows.known in
    subst (λ (x : TxnId). IsAway frame tokens back (record { txn = x; above = c.args.response.hop; at = c.in-Open.at; ended = false; rest = c.args.rest })) (sym c.txn-txn.ensures)
    (sent_away frame tokens c.args.note.knows.known back c.in-Open.ensures.knew c.args.response c.args.rest c.requires.up c.in-Open.at false c.in-Open.ensures.sent.1 (λ t. absurd (not_true t)))

pub returns-in-Ended-clause-stage : goal.returns-in-Ended-clause-stage
returns-in-Ended-clause-stage g c =
    let frame = g.N.Naming.frame in
    let tokens = g.N.Naming.tokens in
    let back = c.in-Ended.note.knows.known in
    subst (λ (x : TxnId). IsAway frame tokens back (record { txn = x; above = c.args.response.hop; at = c.in-Ended.at; ended = true; rest = c.args.rest })) (sym c.txn-txn.ensures)
    (sent_away frame tokens c.args.note.knows.known back c.in-Ended.ensures.knew c.args.response c.args.rest c.requires.up c.in-Ended.at true c.in-Ended.ensures.sent.1 (λ t. c.in-Ended.ensures.sent.2))

pub returns-in-Refused-clause-stage : goal.returns-in-Refused-clause-stage
returns-in-Refused-clause-stage g c =
    let s = c.in-Refused.ensures.sent in
    refused_is_up g.N.Naming.frame g.N.Naming.tokens c.args.note.knows.known c.in-Refused.note.knows.known c.in-Refused.ensures.knew c.args.response c.args.rest c.requires.up c.in-Refused.response s.0 s.2 s.3

pub send_up-requires-clause-note : goal.send_up-requires-clause-note
send_up-requires-clause-note g c = c.requires.note

pub send_up-requires-clause-can : goal.send_up-requires-clause-can
send_up-requires-clause-can g c = c.requires.up.can

pub returns-in-Open-clause-note : goal.returns-in-Open-clause-note
returns-in-Open-clause-note g c = c.in-Open.ensures.note

pub returns-in-Open-clause-knew : goal.returns-in-Open-clause-knew
returns-in-Open-clause-knew g c = c.in-Open.ensures.knew

pub returns-in-Open-clause-below : goal.returns-in-Open-clause-below
returns-in-Open-clause-below g c = c.in-Open.ensures.below

pub returns-in-Ended-clause-note : goal.returns-in-Ended-clause-note
returns-in-Ended-clause-note g c = c.in-Ended.ensures.note

pub returns-in-Ended-clause-knew : goal.returns-in-Ended-clause-knew
returns-in-Ended-clause-knew g c = c.in-Ended.ensures.knew

pub returns-in-Ended-clause-below : goal.returns-in-Ended-clause-below
returns-in-Ended-clause-below g c = c.in-Ended.ensures.below

pub returns-in-Refused-clause-note : goal.returns-in-Refused-clause-note
returns-in-Refused-clause-note g c = c.in-Refused.ensures.note

pub returns-in-Refused-clause-knew : goal.returns-in-Refused-clause-knew
returns-in-Refused-clause-knew g c = c.in-Refused.ensures.knew

pub returns-in-Refused-clause-below : goal.returns-in-Refused-clause-below
returns-in-Refused-clause-below g c = c.in-Refused.ensures.below

pub returns-in-Open-clause-stepped : goal.returns-in-Open-clause-stepped
returns-in-Open-clause-stepped g c = (c.txn-txn.ensures, refl, c.in-Open.ensures.sent.0, refl)

pub returns-in-Ended-clause-stepped : goal.returns-in-Ended-clause-stepped
returns-in-Ended-clause-stepped g c = (c.txn-txn.ensures, refl, c.in-Ended.ensures.sent.0, refl)

pub returns-in-Open-clause-adds : goal.returns-in-Open-clause-adds
returns-in-Open-clause-adds g c = λ took. record { hop = c.args.response.hop; there = (let u = c.requires.up in u.there); added = c.in-Open.ensures.adds }

pub returns-in-Ended-clause-adds : goal.returns-in-Ended-clause-adds
returns-in-Ended-clause-adds g c = λ took. record { hop = c.args.response.hop; there = (let u = c.requires.up in u.there); added = c.in-Ended.ensures.adds }

pub returns-in-Refused-clause-adds : goal.returns-in-Refused-clause-adds
returns-in-Refused-clause-adds g c = λ took. cc
