use Rattle.std.proofs.Common.{◌≡◌, ℕ, refl, ap, subst}
use Rattle.tlm_types.specs.declared.words.Phase.TheVariants.{BeginResp}
use Rattle.flow_model.specs.Events.{FindsAt, IsCall}
use Rattle.cargo_model.specs.declared.cargo.Cargo.{Cargo}
use Rattle.cargo_model.specs.Known.{Known}
use Rattle.target_node.proofs.Served.{may_again}
use Rattle.hop_object.specs.declared.call.HopCall.TheVariants as Calls
use Rattle.cargo_net.specs.Answered.{responded_reply}
use Rattle.cargo_net.specs.Wallets.{item_given}
use Rattle.cargo_net.specs.declared.responses.Answered.TheVariants.{Sent}
use Rattle.plat_net.specs.Places.{hop_place}
use Rattle.node_hops.proofs.Adds.{hop_adds}
use Rattle.target_node.proofs.moves.respond.Goals as goal

pub returns-in-Sent-clause-responded : goal.returns-in-Sent-clause-responded
returns-in-Sent-clause-responded g c =
    let a = c.in-Sent.ensures.responded c.requires.can in
    let made = subst (λ (h : ℕ). FindsAt (Known g.N.Naming.frame.world.platform c.in-Sent.note.knows.known) (IsCall c.args.response.cargo.baton.txn h BeginResp c.in-Sent.answer) c.in-Sent.at) c.requires.can.here a.0.made in
    ((c.in-Sent.answer, c.in-Sent.at, a.0.late, made), a.1)

pub returns-in-Busy-clause-responded : goal.returns-in-Busy-clause-responded
returns-in-Busy-clause-responded g c =
    let a = c.in-Busy.ensures.responded c.requires.can in
    let txn : c.in-Busy.cargo.baton.txn ≡ c.args.response.cargo.baton.txn = ap (λ (d : Cargo). d.baton.txn) a.1 in
    (refl, a.0, refl, txn, may_again g.N.Naming.frame g.N.Naming.tokens c.args.note.knows.known c.in-Busy.note.knows.known c.args.response c.requires.can c.in-Busy.leg c.in-Busy.cargo c.in-Busy.ensures.knew a.0 txn a.3, a.4)

pub backward-requires-clause-hop : goal.backward-requires-clause-hop
backward-requires-clause-hop g c = c.requires.hop

pub backward-requires-clause-note : goal.backward-requires-clause-note
backward-requires-clause-note g c = c.requires.note

pub backward-requires-clause-can : goal.backward-requires-clause-can
backward-requires-clause-can g c = c.requires.can

pub returns-in-Sent-clause-note : goal.returns-in-Sent-clause-note
returns-in-Sent-clause-note g c = c.in-Sent.ensures.note

pub returns-in-Sent-clause-knew : goal.returns-in-Sent-clause-knew
returns-in-Sent-clause-knew g c = c.in-Sent.ensures.knew

pub returns-in-Sent-clause-below : goal.returns-in-Sent-clause-below
returns-in-Sent-clause-below g c = c.in-Sent.ensures.below

pub returns-in-Busy-clause-note : goal.returns-in-Busy-clause-note
returns-in-Busy-clause-note g c = c.in-Busy.ensures.note

pub returns-in-Busy-clause-knew : goal.returns-in-Busy-clause-knew
returns-in-Busy-clause-knew g c = c.in-Busy.ensures.knew

pub returns-in-Busy-clause-below : goal.returns-in-Busy-clause-below
returns-in-Busy-clause-below g c = c.in-Busy.ensures.below

pub returns-in-Sent-clause-adds : goal.returns-in-Sent-clause-adds
returns-in-Sent-clause-adds g c =
    let r = c.args.response in
    let number = hop_place g.N.Naming.frame.world r.hop in
    let item : Cargo = item_given g.N.Naming.tokens number r.cargo in
    hop_adds g.N.Naming.frame g.N.Naming.tokens number r.hop c.args.note.knows c.in-Sent.note.knows (Calls.BeginResp r.leg r.due item) (responded_reply item (Sent c.in-Sent.answer c.in-Sent.at c.in-Sent.note)) c.in-Sent.ensures.answer tt

pub returns-in-Busy-clause-adds : goal.returns-in-Busy-clause-adds
returns-in-Busy-clause-adds g c = tt
