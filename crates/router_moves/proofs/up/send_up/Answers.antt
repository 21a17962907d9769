use Rattle.std.proofs.Common.{◌≡◌, sym, ◌∙◌, ap, subst}
use Rattle.view_lists.specs.Lists.{Within}
use Rattle.one_history.specs.Held.{Held as HeldNote}
use Rattle.one_history.specs.Lists.{StandBelow}
use Rattle.shared_object.specs.Steps.{IsNote}
use Rattle.tlm_types.specs.declared.entry.Content.{Content}
use Rattle.tlm_model.specs.Plan.{Plan}
use Rattle.router_moves.specs.Moves.{HasSent, sent_note}
use Rattle.router_moves.proofs.Hops.{on_plan}
use Rattle.router_moves.proofs.Sends.{note_of, refused_up, sent_up}
use Rattle.node_hops.proofs.Adds.{hop_adds}
use Rattle.router_moves.specs.Moves.{SendAdds}
use Rattle.router_moves.proofs.Added.{sent_adds}
use Rattle.router_moves.proofs.up.send_up.Goals as goal

same_note : (g : _) (c : goal.After-sent_by g) → c.in-Sent.note ≡ sent_note c.sent_by.result
same_note g c = sym (ap sent_note c.sent_by.ensures ∙ note_of c.in-Sent.answer c.in-Sent.at c.in-Sent.note)

pub returns-in-Sent-clause-note : goal.returns-in-Sent-clause-note
returns-in-Sent-clause-note g c = subst (λ (n : HeldNote Content Plan). IsNote g.N.Naming.table n) (same_note g c) c.in-Sent.ensures.note

pub returns-in-Sent-clause-knew : goal.returns-in-Sent-clause-knew
returns-in-Sent-clause-knew g c = subst (λ (n : HeldNote Content Plan). Within c.args.note.knows.known n.knows.known) (same_note g c) c.in-Sent.ensures.knew

pub returns-in-Sent-clause-below : goal.returns-in-Sent-clause-below
returns-in-Sent-clause-below g c = subst (λ (n : HeldNote Content Plan). StandBelow n.knows.known n.knows.seen) (same_note g c) c.in-Sent.ensures.below

pub returns-in-Sent-clause-sent : goal.returns-in-Sent-clause-sent
returns-in-Sent-clause-sent g c =
    subst (HasSent g.N.Naming.frame g.N.Naming.tokens c.args.response c.args.note.knows) (sym c.sent_by.ensures)
    (sent_up g.N.Naming.frame g.N.Naming.tokens c.args.note.knows.known c.args.response c.requires.can c.args.note.knows c.in-Sent.answer c.in-Sent.at c.in-Sent.note (c.in-Sent.ensures.responded c.requires.can))

pub returns-in-Busy-clause-sent : goal.returns-in-Busy-clause-sent
returns-in-Busy-clause-sent g c =
    refused_up g.N.Naming.frame g.N.Naming.tokens c.args.note.knows.known c.args.response c.requires.can c.args.note.knows c.in-Busy.holder c.in-Busy.leg c.in-Busy.cargo c.in-Busy.note c.in-Busy.ensures.knew (c.in-Busy.ensures.responded c.requires.can)

pub backward-requires-clause-hop : goal.backward-requires-clause-hop
backward-requires-clause-hop g c =
    let i = c.requires.can in
    let a = i.up.asked in
    let h = i.up.held in
    on_plan g.N.Naming.frame.world c.args.response.cargo.baton.txn i.pass i.hop c.args.response.hop a.passes h.below i.here

pub backward-requires-clause-note : goal.backward-requires-clause-note
backward-requires-clause-note g c = c.requires.note

pub backward-requires-clause-can : goal.backward-requires-clause-can
backward-requires-clause-can g c = c.requires.can

pub returns-in-Busy-clause-note : goal.returns-in-Busy-clause-note
returns-in-Busy-clause-note g c = c.in-Busy.ensures.note

pub returns-in-Busy-clause-knew : goal.returns-in-Busy-clause-knew
returns-in-Busy-clause-knew g c = c.in-Busy.ensures.knew

pub returns-in-Busy-clause-below : goal.returns-in-Busy-clause-below
returns-in-Busy-clause-below g c = c.in-Busy.ensures.below

pub returns-in-Sent-clause-adds : goal.returns-in-Sent-clause-adds
returns-in-Sent-clause-adds g c =
    subst (SendAdds g.N.Naming.frame.world c.args.response.hop c.args.note.knows) (sym c.sent_by.ensures)
    (sent_adds g.N.Naming.frame.world c.args.response.hop c.args.note.knows c.in-Sent.answer c.in-Sent.at c.in-Sent.note (hop_adds g.N.Naming.frame g.N.Naming.tokens _ _ _ _ _ _ c.in-Sent.ensures.answer tt))

pub returns-in-Busy-clause-adds : goal.returns-in-Busy-clause-adds
returns-in-Busy-clause-adds g c = tt
