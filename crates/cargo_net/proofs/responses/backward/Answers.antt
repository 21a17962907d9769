use Rattle.std.proofs.Common.{◌≡◌, ℕ, ◌++◌, [], ◌∷◌, ◌∙◌, ap, sym, subst}
use Rattle.std.specs.Option.{unwrap_or}
use Rattle.atomic_table.specs.Seated.{TableId}
use Rattle.token_book.specs.Purse.{IsOf, pulled}
use Rattle.hop_object.specs.Objects.{Applied, look_of}
use Rattle.hop_object.specs.declared.call.HopReply.{HopReply}
use Rattle.hop_object.specs.declared.call.HopReply.TheVariants.{Responded}
use Rattle.hop_object.specs.declared.call.Responded.TheVariants.{Busy}
use Rattle.hop_object.specs.declared.call.HopCall.TheVariants.{BeginResp}
use Rattle.cargo_model.specs.declared.cargo.Cargo.{Cargo}
use Rattle.cargo_model.specs.Travel.{with_wallet}
use Rattle.cargo_net.specs.Hops.{HasAnswered}
use Rattle.cargo_net.specs.Wallets.{IsPutBack}
use Rattle.cargo_net.proofs.PayloadWallets.{from_pull}
use Rattle.cargo_net.proofs.RespondsLemmas.{backed, kept, refused, sent, vouched}
use Rattle.cargo_net.proofs.responses.backward.Goals as goal

pub step_hop-reply-requires-clause-backed : goal.step_hop-reply-requires-clause-backed
step_hop-reply-requires-clause-backed g c = λ o q meets admitted. (
    let w = c.pull-ticket.new.self in
    let pull = from_pull g.N.Naming.tokens c.args.tickets.now c.args.hop.now.number c.number-number.result c.args.cargo.baton.wallet w c.number-number.ensures c.requires.tickets c.pull-ticket.ensures.wallet c.pull-ticket.ensures.of c.pull-ticket.ensures.left c.pull-ticket.ensures.bytes in
    backed g.N.Naming.frame g.N.Naming.tokens c.args.hop.now.number c.args.hop.now.own c.args.leg c.args.cargo c.args.at c.args.note.knows c.requires.may w pull o q meets admitted
    )

pub step_hop-reply-requires-clause-vouched : goal.step_hop-reply-requires-clause-vouched
step_hop-reply-requires-clause-vouched g c = λ o meets. (
    let w = c.pull-ticket.new.self in
    let pull = from_pull g.N.Naming.tokens c.args.tickets.now c.args.hop.now.number c.number-number.result c.args.cargo.baton.wallet w c.number-number.ensures c.requires.tickets c.pull-ticket.ensures.wallet c.pull-ticket.ensures.of c.pull-ticket.ensures.left c.pull-ticket.ensures.bytes in
    vouched g.N.Naming.frame g.N.Naming.tokens c.args.hop.now.number c.args.hop.now.own c.args.leg c.args.cargo c.args.at c.args.note.knows c.requires.may w pull o meets
    )

pub put_back-requires-clause-of : goal.put_back-requires-clause-of
put_back-requires-clause-of g c =
    let w = c.pull-ticket.new.self in
    let pull = from_pull g.N.Naming.tokens c.args.tickets.now c.args.hop.now.number c.number-number.result c.args.cargo.baton.wallet w c.number-number.ensures c.requires.tickets c.pull-ticket.ensures.wallet c.pull-ticket.ensures.of c.pull-ticket.ensures.left c.pull-ticket.ensures.bytes in
    let s = c.step_hop-reply.ensures.stepped.answered in
    let position = unwrap_or c.step_hop-reply.ensures.stepped.answered.position 0 in
    let a = subst (λ (r : HopReply Cargo). Applied s.before (unwrap_or c.step_hop-reply.ensures.stepped.answered.position 0) (BeginResp c.args.leg c.args.at (with_wallet c.args.cargo c.pull-ticket.new.self)) r s.after) c.in-Busy.ensures s.applied in
    let r = refused g.N.Naming.frame g.N.Naming.tokens c.args.hop.now.number c.args.hop.now.own c.args.leg c.args.cargo c.args.at c.args.note.knows c.requires.may w pull s.before s.after position c.in-Busy.holder c.in-Busy.leg c.in-Busy.item a in
    subst (λ (d : Cargo). IsOf c.args.tickets.now d.baton.wallet) (sym r.2) c.pull-ticket.ensures.of

pub returns-in-Sent-clause-responded : goal.returns-in-Sent-clause-responded
returns-in-Sent-clause-responded g c = λ may. (
    let w = c.pull-ticket.new.self in
    let pull = from_pull g.N.Naming.tokens c.args.tickets.now c.args.hop.now.number c.number-number.result c.args.cargo.baton.wallet w c.number-number.ensures c.requires.tickets c.pull-ticket.ensures.wallet c.pull-ticket.ensures.of c.pull-ticket.ensures.left c.pull-ticket.ensures.bytes in
    let s = c.step_hop-reply.ensures.stepped.answered in
    let a = subst (λ (r : HopReply Cargo). Applied s.before (unwrap_or c.step_hop-reply.ensures.stepped.answered.position 0) (BeginResp c.args.leg c.args.at (with_wallet c.args.cargo c.pull-ticket.new.self)) r s.after) c.in-Sent.ensures s.applied in (
      sent g.N.Naming.frame g.N.Naming.tokens c.args.hop.now.number c.args.hop.now.own c.args.leg c.args.cargo c.args.at c.args.note.knows may w pull c.step_hop-reply.result.1.knows c.in-Sent.answer c.in-Sent.at
          (record { before = s.before; after = s.after; position = c.step_hop-reply.ensures.stepped.answered.position; met = s.met; enters = s.enters; applied = a }),
      subst (λ (r : HopReply Cargo). c.step_hop-reply.result.1.knows.looks ≡ c.args.note.knows.looks ++ (c.args.hop.now.number, look_of r) ∷ []) c.in-Sent.ensures c.step_hop-reply.ensures.look,
    )
    )

pub returns-in-Busy-clause-responded : goal.returns-in-Busy-clause-responded
returns-in-Busy-clause-responded g c = λ may. (
    let w = c.pull-ticket.new.self in
    let pull = from_pull g.N.Naming.tokens c.args.tickets.now c.args.hop.now.number c.number-number.result c.args.cargo.baton.wallet w c.number-number.ensures c.requires.tickets c.pull-ticket.ensures.wallet c.pull-ticket.ensures.of c.pull-ticket.ensures.left c.pull-ticket.ensures.bytes in
    let s = c.step_hop-reply.ensures.stepped.answered in
    let position = unwrap_or c.step_hop-reply.ensures.stepped.answered.position 0 in
    let a = subst (λ (r : HopReply Cargo). Applied s.before (unwrap_or c.step_hop-reply.ensures.stepped.answered.position 0) (BeginResp c.args.leg c.args.at (with_wallet c.args.cargo c.pull-ticket.new.self)) r s.after) c.in-Busy.ensures s.applied in
    let r = refused g.N.Naming.frame g.N.Naming.tokens c.args.hop.now.number c.args.hop.now.own c.args.leg c.args.cargo c.args.at c.args.note.knows may w pull s.before s.after position c.in-Busy.holder c.in-Busy.leg c.in-Busy.item a in
    let put = subst (λ (t : TableId). IsPutBack t c.args.hop.now.number c.in-Busy.item c.put_back.result) c.requires.tickets (subst (λ (n : ℕ). IsPutBack c.args.tickets.now n c.in-Busy.item c.put_back.result) c.number-number.ensures c.put_back.ensures) in
    let k = kept g.N.Naming.frame g.N.Naming.tokens c.args.hop.now.number c.args.hop.now.own c.args.leg c.args.cargo c.args.at c.args.note.knows may w pull c.step_hop-reply.result.1.knows.known s.enters.knew c.in-Busy.item c.put_back.result r.2 put in (
      r.1,
      k.0,
      k.1,
      k.2,
      subst (λ (r : HopReply Cargo). c.step_hop-reply.result.1.knows.looks ≡ c.args.note.knows.looks ++ (c.args.hop.now.number, look_of r) ∷ []) c.in-Busy.ensures c.step_hop-reply.ensures.look,
    )
    )

pub returns-in-Busy-clause-answer : goal.returns-in-Busy-clause-answer
returns-in-Busy-clause-answer g c =
    let w = c.pull-ticket.new.self in
    let pull = from_pull g.N.Naming.tokens c.args.tickets.now c.args.hop.now.number c.number-number.result c.args.cargo.baton.wallet w c.number-number.ensures c.requires.tickets c.pull-ticket.ensures.wallet c.pull-ticket.ensures.of c.pull-ticket.ensures.left c.pull-ticket.ensures.bytes in
    let s = subst (λ (r : HopReply Cargo). HasAnswered g.N.Naming.frame g.N.Naming.tokens c.args.hop.now.number c.args.hop.now.own c.args.note.knows c.step_hop-reply.result.1.knows (BeginResp c.args.leg c.args.at (with_wallet c.args.cargo c.pull-ticket.new.self)) r) c.in-Busy.ensures c.step_hop-reply.ensures.stepped.answered in
    let r = refused g.N.Naming.frame g.N.Naming.tokens c.args.hop.now.number c.args.hop.now.own c.args.leg c.args.cargo c.args.at c.args.note.knows c.requires.may w pull s.before s.after (unwrap_or s.position 0) c.in-Busy.holder c.in-Busy.leg c.in-Busy.item s.applied in
    subst (λ (d : Cargo). HasAnswered g.N.Naming.frame g.N.Naming.tokens c.args.hop.now.number c.args.hop.now.own c.args.note.knows c.step_hop-reply.result.1.knows (BeginResp c.args.leg c.args.at d) (Responded (Busy c.in-Busy.holder c.in-Busy.leg d))) (ap (with_wallet c.args.cargo) (c.pull-ticket.ensures.wallet ∙ ap (λ (t : TableId). pulled t c.args.cargo.baton.wallet c.number-number.result 0) c.requires.tickets ∙ ap (λ (n : ℕ). pulled g.N.Naming.tokens c.args.cargo.baton.wallet n 0) c.number-number.ensures))
    (subst (λ (i : Cargo). HasAnswered g.N.Naming.frame g.N.Naming.tokens c.args.hop.now.number c.args.hop.now.own c.args.note.knows c.step_hop-reply.result.1.knows (BeginResp c.args.leg c.args.at (with_wallet c.args.cargo c.pull-ticket.new.self)) (Responded (Busy c.in-Busy.holder c.in-Busy.leg i))) r.2 s)

pub step_hop-reply-requires-clause-history : goal.step_hop-reply-requires-clause-history
step_hop-reply-requires-clause-history g c = c.requires.history

pub step_hop-reply-requires-clause-tickets : goal.step_hop-reply-requires-clause-tickets
step_hop-reply-requires-clause-tickets g c = c.requires.tickets

pub step_hop-reply-requires-clause-note : goal.step_hop-reply-requires-clause-note
step_hop-reply-requires-clause-note g c = c.requires.note

pub returns-in-Sent-clause-note : goal.returns-in-Sent-clause-note
returns-in-Sent-clause-note g c = c.step_hop-reply.ensures.note

pub returns-in-Sent-clause-knew : goal.returns-in-Sent-clause-knew
returns-in-Sent-clause-knew g c = c.step_hop-reply.ensures.stepped.answered.enters.knew

pub returns-in-Sent-clause-below : goal.returns-in-Sent-clause-below
returns-in-Sent-clause-below g c = c.step_hop-reply.ensures.stepped.answered.enters.below

pub returns-in-Busy-clause-note : goal.returns-in-Busy-clause-note
returns-in-Busy-clause-note g c = c.step_hop-reply.ensures.note

pub returns-in-Busy-clause-knew : goal.returns-in-Busy-clause-knew
returns-in-Busy-clause-knew g c = c.step_hop-reply.ensures.stepped.answered.enters.knew

pub returns-in-Busy-clause-below : goal.returns-in-Busy-clause-below
returns-in-Busy-clause-below g c = c.step_hop-reply.ensures.stepped.answered.enters.below
