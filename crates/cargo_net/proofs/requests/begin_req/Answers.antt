use Rattle.std.proofs.Common.{◌≡◌, ℕ, ◌++◌, [], ◌∷◌, map, ◌∙◌, ap, sym, subst}
use Rattle.std.specs.Option.{unwrap_or}
use Rattle.atomic_table.specs.Seated.{TableId}
use Rattle.tlm_types.specs.declared.words.TxnId.{TxnId}
use Rattle.token_book.specs.Purse.{IsOf, pulled}
use Rattle.token_book.specs.Ticket.{entry_right}
use Rattle.shared_object.specs.Written.{placed, wrote}
use Rattle.hop_object.specs.Objects.{Applied, brought_by, content_by, is_admitted, look_of}
use Rattle.numbered_log.specs.Logged.{written_by}
use Rattle.shared_object.specs.Steps.{Enters}
use Rattle.hop_object.specs.declared.call.HopReply.{HopReply}
use Rattle.hop_object.specs.declared.call.HopReply.TheVariants.{Begun}
use Rattle.hop_object.specs.declared.call.Begun.TheVariants.{Left, Now, Busy}
use Rattle.hop_object.specs.declared.call.HopCall.TheVariants.{BeginReq}
use Rattle.cargo_model.specs.declared.cargo.Cargo.{Cargo}
use Rattle.cargo_model.specs.Travel.{with_wallet}
use Rattle.shared_object.specs.Standing.{AreVouched}
use Rattle.cargo_net.specs.Carried.{IsCarried}
use Rattle.cargo_net.specs.Hops.{HasAnswered}
use Rattle.cargo_net.specs.Traffic.{Backs}
use Rattle.cargo_net.specs.Wallets.{GoesBack, IsPutBack, item_given}
use Rattle.cargo_net.proofs.HopLogs.{all_known}
use Rattle.cargo_net.proofs.PayloadWallets.{from_pull}
use Rattle.cargo_net.proofs.BeginsLemmas.{backed, goes_back, kept, left, now, refused_back, vouched}
use Rattle.cargo_net.proofs.requests.begin_req.Goals as goal

pub step_hop-reply-requires-clause-backed : goal.step_hop-reply-requires-clause-backed
step_hop-reply-requires-clause-backed g c = λ o q meets admitted. (
    let w = c.pull-ticket.new.self in
    let pull = from_pull g.N.Naming.tokens c.args.tickets.now c.args.hop.now.number c.number-number.result c.args.cargo.baton.wallet w c.number-number.ensures c.requires.tickets c.pull-ticket.ensures.wallet c.pull-ticket.ensures.of c.pull-ticket.ensures.left c.pull-ticket.ensures.bytes in
    subst (λ (t : TxnId). Backs g.N.Naming.frame.world (all_known g.N.Naming.frame g.N.Naming.tokens c.args.hop.now.number c.args.hop.now.own c.args.note.knows c.args.cargo.baton.txn c.requires.may.pass c.requires.may.hop c.requires.may.way o meets) (placed c.args.hop.now.number (wrote q (content_by o (BeginReq t c.args.at (with_wallet c.args.cargo w)))))) (sym c.txn-txn.ensures)
    (backed g.N.Naming.frame g.N.Naming.tokens c.args.hop.now.number c.args.hop.now.own c.args.cargo c.args.at c.args.note.knows c.requires.may w pull o q meets admitted)
    )

pub step_hop-reply-requires-clause-vouched : goal.step_hop-reply-requires-clause-vouched
step_hop-reply-requires-clause-vouched g c = λ o meets. (
    let w = c.pull-ticket.new.self in
    let pull = from_pull g.N.Naming.tokens c.args.tickets.now c.args.hop.now.number c.number-number.result c.args.cargo.baton.wallet w c.number-number.ensures c.requires.tickets c.pull-ticket.ensures.wallet c.pull-ticket.ensures.of c.pull-ticket.ensures.left c.pull-ticket.ensures.bytes in
    subst (λ (t : TxnId). AreVouched (IsCarried g.N.Naming.frame.world g.N.Naming.tokens c.args.hop.now.number) (brought_by o (BeginReq t c.args.at (with_wallet c.args.cargo w))) c.args.note.knows.known) (sym c.txn-txn.ensures)
    (vouched g.N.Naming.frame g.N.Naming.tokens c.args.hop.now.number c.args.hop.now.own c.args.cargo c.args.at c.args.note.knows c.requires.may w pull o meets)
    )

pub put_back-requires-clause-of : goal.put_back-requires-clause-of
put_back-requires-clause-of g c =
    let w = c.pull-ticket.new.self in
    let pull = from_pull g.N.Naming.tokens c.args.tickets.now c.args.hop.now.number c.number-number.result c.args.cargo.baton.wallet w c.number-number.ensures c.requires.tickets c.pull-ticket.ensures.wallet c.pull-ticket.ensures.of c.pull-ticket.ensures.left c.pull-ticket.ensures.bytes in
    let s = c.step_hop-reply.ensures.stepped.answered in
    let a : HasAnswered g.N.Naming.frame g.N.Naming.tokens c.args.hop.now.number c.args.hop.now.own c.args.note.knows c.step_hop-reply.result.1.knows (BeginReq c.args.cargo.baton.txn c.args.at (with_wallet c.args.cargo c.pull-ticket.new.self)) (Begun (Busy c.in-Busy.holder c.in-Busy.live c.in-Busy.item)) = record {
      before = s.before;
      after = s.after;
      position = c.step_hop-reply.ensures.stepped.answered.position;
      met = s.met;
      enters = subst (λ (t : TxnId). Enters g.N.Naming.frame c.args.hop.now.number (map written_by s.before.log.events) (map written_by s.after.log.events) (is_admitted s.before (BeginReq t c.args.at (with_wallet c.args.cargo c.pull-ticket.new.self))) (content_by s.before (BeginReq t c.args.at (with_wallet c.args.cargo c.pull-ticket.new.self))) c.args.note.knows c.step_hop-reply.result.1.knows c.step_hop-reply.ensures.stepped.answered.position) c.txn-txn.ensures s.enters;
      applied = subst (λ (t : TxnId). Applied s.before (unwrap_or c.step_hop-reply.ensures.stepped.answered.position 0) (BeginReq t c.args.at (with_wallet c.args.cargo c.pull-ticket.new.self)) (Begun (Busy c.in-Busy.holder c.in-Busy.live c.in-Busy.item)) s.after) c.txn-txn.ensures
          (subst (λ (r : HopReply Cargo). Applied s.before (unwrap_or c.step_hop-reply.ensures.stepped.answered.position 0) (BeginReq c.txn-txn.result c.args.at (with_wallet c.args.cargo c.pull-ticket.new.self)) r s.after) c.in-Busy.ensures s.applied);
    } in
    let r = refused_back g.N.Naming.frame g.N.Naming.tokens c.args.hop.now.number c.args.hop.now.own c.args.cargo c.args.at c.args.note.knows c.requires.may w pull c.step_hop-reply.result.1.knows c.in-Busy.holder c.in-Busy.live c.in-Busy.item a in
    subst (λ (d : Cargo). IsOf c.args.tickets.now d.baton.wallet) (sym r) c.pull-ticket.ensures.of

pub put_back-requires-clause-ticket : goal.put_back-requires-clause-ticket
put_back-requires-clause-ticket g c =
    let w = c.pull-ticket.new.self in
    let pull = from_pull g.N.Naming.tokens c.args.tickets.now c.args.hop.now.number c.number-number.result c.args.cargo.baton.wallet w c.number-number.ensures c.requires.tickets c.pull-ticket.ensures.wallet c.pull-ticket.ensures.of c.pull-ticket.ensures.left c.pull-ticket.ensures.bytes in
    let s = c.step_hop-reply.ensures.stepped.answered in
    let a : HasAnswered g.N.Naming.frame g.N.Naming.tokens c.args.hop.now.number c.args.hop.now.own c.args.note.knows c.step_hop-reply.result.1.knows (BeginReq c.args.cargo.baton.txn c.args.at (with_wallet c.args.cargo c.pull-ticket.new.self)) (Begun (Busy c.in-Busy.holder c.in-Busy.live c.in-Busy.item)) = record {
      before = s.before;
      after = s.after;
      position = c.step_hop-reply.ensures.stepped.answered.position;
      met = s.met;
      enters = subst (λ (t : TxnId). Enters g.N.Naming.frame c.args.hop.now.number (map written_by s.before.log.events) (map written_by s.after.log.events) (is_admitted s.before (BeginReq t c.args.at (with_wallet c.args.cargo c.pull-ticket.new.self))) (content_by s.before (BeginReq t c.args.at (with_wallet c.args.cargo c.pull-ticket.new.self))) c.args.note.knows c.step_hop-reply.result.1.knows c.step_hop-reply.ensures.stepped.answered.position) c.txn-txn.ensures s.enters;
      applied = subst (λ (t : TxnId). Applied s.before (unwrap_or c.step_hop-reply.ensures.stepped.answered.position 0) (BeginReq t c.args.at (with_wallet c.args.cargo c.pull-ticket.new.self)) (Begun (Busy c.in-Busy.holder c.in-Busy.live c.in-Busy.item)) s.after) c.txn-txn.ensures
          (subst (λ (r : HopReply Cargo). Applied s.before (unwrap_or c.step_hop-reply.ensures.stepped.answered.position 0) (BeginReq c.txn-txn.result c.args.at (with_wallet c.args.cargo c.pull-ticket.new.self)) r s.after) c.in-Busy.ensures s.applied);
    } in
    let r = refused_back g.N.Naming.frame g.N.Naming.tokens c.args.hop.now.number c.args.hop.now.own c.args.cargo c.args.at c.args.note.knows c.requires.may w pull c.step_hop-reply.result.1.knows c.in-Busy.holder c.in-Busy.live c.in-Busy.item a in
    let entry = c.pull-ticket.ensures.entry ∙ ap (λ (t : TableId). entry_right t c.number-number.result) c.requires.tickets ∙ ap (λ (n : ℕ). entry_right g.N.Naming.tokens n) c.number-number.ensures in
    let back = goes_back g.N.Naming.frame g.N.Naming.tokens c.args.hop.now.number c.args.hop.now.own c.args.cargo c.args.at c.args.note.knows c.requires.may w pull c.step_hop-reply.result.1.knows c.in-Busy.holder c.in-Busy.live c.in-Busy.item a c.pull-ticket.result c.step_hop-reply.result.2 entry c.step_hop-reply.ensures.stepped.left_is in
    subst (λ (d : Cargo). GoesBack c.args.tickets.now c.number-number.result d.baton.wallet c.step_hop-reply.result.2) (sym r)
    (subst (λ (t : TableId). GoesBack t c.number-number.result w c.step_hop-reply.result.2) (sym c.requires.tickets)
    (subst (λ (n : ℕ). GoesBack g.N.Naming.tokens n w c.step_hop-reply.result.2) (sym c.number-number.ensures) back))

pub returns-in-Left-clause-tried : goal.returns-in-Left-clause-tried
returns-in-Left-clause-tried g c = λ may. (
    let w = c.pull-ticket.new.self in
    let pull = from_pull g.N.Naming.tokens c.args.tickets.now c.args.hop.now.number c.number-number.result c.args.cargo.baton.wallet w c.number-number.ensures c.requires.tickets c.pull-ticket.ensures.wallet c.pull-ticket.ensures.of c.pull-ticket.ensures.left c.pull-ticket.ensures.bytes in
    let s = c.step_hop-reply.ensures.stepped.answered in
    let a : HasAnswered g.N.Naming.frame g.N.Naming.tokens c.args.hop.now.number c.args.hop.now.own c.args.note.knows c.step_hop-reply.result.1.knows (BeginReq c.args.cargo.baton.txn c.args.at (with_wallet c.args.cargo c.pull-ticket.new.self)) (Begun (Left c.in-Left.answer c.in-Left.at)) = record {
      before = s.before;
      after = s.after;
      position = c.step_hop-reply.ensures.stepped.answered.position;
      met = s.met;
      enters = subst (λ (t : TxnId). Enters g.N.Naming.frame c.args.hop.now.number (map written_by s.before.log.events) (map written_by s.after.log.events) (is_admitted s.before (BeginReq t c.args.at (with_wallet c.args.cargo c.pull-ticket.new.self))) (content_by s.before (BeginReq t c.args.at (with_wallet c.args.cargo c.pull-ticket.new.self))) c.args.note.knows c.step_hop-reply.result.1.knows c.step_hop-reply.ensures.stepped.answered.position) c.txn-txn.ensures s.enters;
      applied = subst (λ (t : TxnId). Applied s.before (unwrap_or c.step_hop-reply.ensures.stepped.answered.position 0) (BeginReq t c.args.at (with_wallet c.args.cargo c.pull-ticket.new.self)) (Begun (Left c.in-Left.answer c.in-Left.at)) s.after) c.txn-txn.ensures
          (subst (λ (r : HopReply Cargo). Applied s.before (unwrap_or c.step_hop-reply.ensures.stepped.answered.position 0) (BeginReq c.txn-txn.result c.args.at (with_wallet c.args.cargo c.pull-ticket.new.self)) r s.after) c.in-Left.ensures s.applied);
    } in (
      left g.N.Naming.frame g.N.Naming.tokens c.args.hop.now.number c.args.hop.now.own c.args.cargo c.args.at c.args.note.knows may w pull c.step_hop-reply.result.1.knows c.in-Left.answer c.in-Left.at a,
      subst (λ (r : HopReply Cargo). c.step_hop-reply.result.1.knows.looks ≡ c.args.note.knows.looks ++ (c.args.hop.now.number, look_of r) ∷ []) c.in-Left.ensures c.step_hop-reply.ensures.look,
    )
    )

pub returns-in-Now-clause-tried : goal.returns-in-Now-clause-tried
returns-in-Now-clause-tried g c = λ may. (
    let w = c.pull-ticket.new.self in
    let pull = from_pull g.N.Naming.tokens c.args.tickets.now c.args.hop.now.number c.number-number.result c.args.cargo.baton.wallet w c.number-number.ensures c.requires.tickets c.pull-ticket.ensures.wallet c.pull-ticket.ensures.of c.pull-ticket.ensures.left c.pull-ticket.ensures.bytes in
    let s = c.step_hop-reply.ensures.stepped.answered in
    let a : HasAnswered g.N.Naming.frame g.N.Naming.tokens c.args.hop.now.number c.args.hop.now.own c.args.note.knows c.step_hop-reply.result.1.knows (BeginReq c.args.cargo.baton.txn c.args.at (with_wallet c.args.cargo c.pull-ticket.new.self)) (Begun (Now c.in-Now.answer c.in-Now.at c.in-Now.leg c.in-Now.item)) = record {
      before = s.before;
      after = s.after;
      position = c.step_hop-reply.ensures.stepped.answered.position;
      met = s.met;
      enters = subst (λ (t : TxnId). Enters g.N.Naming.frame c.args.hop.now.number (map written_by s.before.log.events) (map written_by s.after.log.events) (is_admitted s.before (BeginReq t c.args.at (with_wallet c.args.cargo c.pull-ticket.new.self))) (content_by s.before (BeginReq t c.args.at (with_wallet c.args.cargo c.pull-ticket.new.self))) c.args.note.knows c.step_hop-reply.result.1.knows c.step_hop-reply.ensures.stepped.answered.position) c.txn-txn.ensures s.enters;
      applied = subst (λ (t : TxnId). Applied s.before (unwrap_or c.step_hop-reply.ensures.stepped.answered.position 0) (BeginReq t c.args.at (with_wallet c.args.cargo c.pull-ticket.new.self)) (Begun (Now c.in-Now.answer c.in-Now.at c.in-Now.leg c.in-Now.item)) s.after) c.txn-txn.ensures
          (subst (λ (r : HopReply Cargo). Applied s.before (unwrap_or c.step_hop-reply.ensures.stepped.answered.position 0) (BeginReq c.txn-txn.result c.args.at (with_wallet c.args.cargo c.pull-ticket.new.self)) r s.after) c.in-Now.ensures s.applied);
    } in
    let r = now g.N.Naming.frame g.N.Naming.tokens c.args.hop.now.number c.args.hop.now.own c.args.cargo c.args.at c.args.note.knows may w pull c.step_hop-reply.result.1.knows c.in-Now.answer c.in-Now.at c.in-Now.leg c.in-Now.item a in (
      r.0,
      r.1,
      given r.2,
      r.3,
      subst (λ (r : HopReply Cargo). c.step_hop-reply.result.1.knows.looks ≡ c.args.note.knows.looks ++ (c.args.hop.now.number, look_of r) ∷ []) c.in-Now.ensures c.step_hop-reply.ensures.look,
    )
    )
  where
    given : c.in-Now.item ≡ with_wallet c.args.cargo c.pull-ticket.new.self → c.in-Now.item ≡ item_given g.N.Naming.tokens c.args.hop.now.number c.args.cargo
    given is =
        is ∙ ap (with_wallet c.args.cargo) (c.pull-ticket.ensures.wallet ∙ ap (λ (t : TableId). pulled t c.args.cargo.baton.wallet c.number-number.result 0) c.requires.tickets ∙ ap (λ (n : ℕ). pulled g.N.Naming.tokens c.args.cargo.baton.wallet n 0) c.number-number.ensures)

pub returns-in-Busy-clause-tried : goal.returns-in-Busy-clause-tried
returns-in-Busy-clause-tried g c = λ may. (
    let w = c.pull-ticket.new.self in
    let pull = from_pull g.N.Naming.tokens c.args.tickets.now c.args.hop.now.number c.number-number.result c.args.cargo.baton.wallet w c.number-number.ensures c.requires.tickets c.pull-ticket.ensures.wallet c.pull-ticket.ensures.of c.pull-ticket.ensures.left c.pull-ticket.ensures.bytes in
    let s = c.step_hop-reply.ensures.stepped.answered in
    let a : HasAnswered g.N.Naming.frame g.N.Naming.tokens c.args.hop.now.number c.args.hop.now.own c.args.note.knows c.step_hop-reply.result.1.knows (BeginReq c.args.cargo.baton.txn c.args.at (with_wallet c.args.cargo c.pull-ticket.new.self)) (Begun (Busy c.in-Busy.holder c.in-Busy.live c.in-Busy.item)) = record {
      before = s.before;
      after = s.after;
      position = c.step_hop-reply.ensures.stepped.answered.position;
      met = s.met;
      enters = subst (λ (t : TxnId). Enters g.N.Naming.frame c.args.hop.now.number (map written_by s.before.log.events) (map written_by s.after.log.events) (is_admitted s.before (BeginReq t c.args.at (with_wallet c.args.cargo c.pull-ticket.new.self))) (content_by s.before (BeginReq t c.args.at (with_wallet c.args.cargo c.pull-ticket.new.self))) c.args.note.knows c.step_hop-reply.result.1.knows c.step_hop-reply.ensures.stepped.answered.position) c.txn-txn.ensures s.enters;
      applied = subst (λ (t : TxnId). Applied s.before (unwrap_or c.step_hop-reply.ensures.stepped.answered.position 0) (BeginReq t c.args.at (with_wallet c.args.cargo c.pull-ticket.new.self)) (Begun (Busy c.in-Busy.holder c.in-Busy.live c.in-Busy.item)) s.after) c.txn-txn.ensures
          (subst (λ (r : HopReply Cargo). Applied s.before (unwrap_or c.step_hop-reply.ensures.stepped.answered.position 0) (BeginReq c.txn-txn.result c.args.at (with_wallet c.args.cargo c.pull-ticket.new.self)) r s.after) c.in-Busy.ensures s.applied);
    } in
    let r = refused_back g.N.Naming.frame g.N.Naming.tokens c.args.hop.now.number c.args.hop.now.own c.args.cargo c.args.at c.args.note.knows may w pull c.step_hop-reply.result.1.knows c.in-Busy.holder c.in-Busy.live c.in-Busy.item a in
    let put = subst (λ (t : TableId). IsPutBack t c.args.hop.now.number c.in-Busy.item c.put_back.result) c.requires.tickets (subst (λ (n : ℕ). IsPutBack c.args.tickets.now n c.in-Busy.item c.put_back.result) c.number-number.ensures c.put_back.ensures) in
    let k = kept g.N.Naming.frame g.N.Naming.tokens c.args.hop.now.number c.args.hop.now.own c.args.cargo c.args.at c.args.note.knows may w pull c.step_hop-reply.result.1.knows.known s.enters.knew c.in-Busy.item c.put_back.result r put in (
      k.0,
      k.1,
      k.2,
      subst (λ (r : HopReply Cargo). c.step_hop-reply.result.1.knows.looks ≡ c.args.note.knows.looks ++ (c.args.hop.now.number, look_of r) ∷ []) c.in-Busy.ensures c.step_hop-reply.ensures.look,
    )
    )

pub returns-in-Busy-clause-answer : goal.returns-in-Busy-clause-answer
returns-in-Busy-clause-answer g c =
    let w = c.pull-ticket.new.self in
    let pull = from_pull g.N.Naming.tokens c.args.tickets.now c.args.hop.now.number c.number-number.result c.args.cargo.baton.wallet w c.number-number.ensures c.requires.tickets c.pull-ticket.ensures.wallet c.pull-ticket.ensures.of c.pull-ticket.ensures.left c.pull-ticket.ensures.bytes in
    let s = c.step_hop-reply.ensures.stepped.answered in
    let a : HasAnswered g.N.Naming.frame g.N.Naming.tokens c.args.hop.now.number c.args.hop.now.own c.args.note.knows c.step_hop-reply.result.1.knows (BeginReq c.args.cargo.baton.txn c.args.at (with_wallet c.args.cargo c.pull-ticket.new.self)) (Begun (Busy c.in-Busy.holder c.in-Busy.live c.in-Busy.item)) = record {
      before = s.before;
      after = s.after;
      position = c.step_hop-reply.ensures.stepped.answered.position;
      met = s.met;
      enters = subst (λ (t : TxnId). Enters g.N.Naming.frame c.args.hop.now.number (map written_by s.before.log.events) (map written_by s.after.log.events) (is_admitted s.before (BeginReq t c.args.at (with_wallet c.args.cargo c.pull-ticket.new.self))) (content_by s.before (BeginReq t c.args.at (with_wallet c.args.cargo c.pull-ticket.new.self))) c.args.note.knows c.step_hop-reply.result.1.knows c.step_hop-reply.ensures.stepped.answered.position) c.txn-txn.ensures s.enters;
      applied = subst (λ (t : TxnId). Applied s.before (unwrap_or c.step_hop-reply.ensures.stepped.answered.position 0) (BeginReq t c.args.at (with_wallet c.args.cargo c.pull-ticket.new.self)) (Begun (Busy c.in-Busy.holder c.in-Busy.live c.in-Busy.item)) s.after) c.txn-txn.ensures
          (subst (λ (r : HopReply Cargo). Applied s.before (unwrap_or c.step_hop-reply.ensures.stepped.answered.position 0) (BeginReq c.txn-txn.result c.args.at (with_wallet c.args.cargo c.pull-ticket.new.self)) r s.after) c.in-Busy.ensures s.applied);
    } in
    let r = refused_back g.N.Naming.frame g.N.Naming.tokens c.args.hop.now.number c.args.hop.now.own c.args.cargo c.args.at c.args.note.knows c.requires.may w pull c.step_hop-reply.result.1.knows c.in-Busy.holder c.in-Busy.live c.in-Busy.item a in
    subst (λ (d : Cargo). HasAnswered g.N.Naming.frame g.N.Naming.tokens c.args.hop.now.number c.args.hop.now.own c.args.note.knows c.step_hop-reply.result.1.knows (BeginReq c.args.cargo.baton.txn c.args.at d) (Begun (Busy c.in-Busy.holder c.in-Busy.live d))) (ap (with_wallet c.args.cargo) (c.pull-ticket.ensures.wallet ∙ ap (λ (t : TableId). pulled t c.args.cargo.baton.wallet c.number-number.result 0) c.requires.tickets ∙ ap (λ (n : ℕ). pulled g.N.Naming.tokens c.args.cargo.baton.wallet n 0) c.number-number.ensures))
    (subst (λ (i : Cargo). HasAnswered g.N.Naming.frame g.N.Naming.tokens c.args.hop.now.number c.args.hop.now.own c.args.note.knows c.step_hop-reply.result.1.knows (BeginReq c.args.cargo.baton.txn c.args.at (with_wallet c.args.cargo c.pull-ticket.new.self)) (Begun (Busy c.in-Busy.holder c.in-Busy.live i))) r a)

pub step_hop-reply-requires-clause-history : goal.step_hop-reply-requires-clause-history
step_hop-reply-requires-clause-history g c = c.requires.history

pub step_hop-reply-requires-clause-tickets : goal.step_hop-reply-requires-clause-tickets
step_hop-reply-requires-clause-tickets g c = c.requires.tickets

pub step_hop-reply-requires-clause-note : goal.step_hop-reply-requires-clause-note
step_hop-reply-requires-clause-note g c = c.requires.note

pub returns-in-Left-clause-note : goal.returns-in-Left-clause-note
returns-in-Left-clause-note g c = c.step_hop-reply.ensures.note

pub returns-in-Left-clause-knew : goal.returns-in-Left-clause-knew
returns-in-Left-clause-knew g c = c.step_hop-reply.ensures.stepped.answered.enters.knew

pub returns-in-Left-clause-below : goal.returns-in-Left-clause-below
returns-in-Left-clause-below g c = c.step_hop-reply.ensures.stepped.answered.enters.below

pub returns-in-Now-clause-note : goal.returns-in-Now-clause-note
returns-in-Now-clause-note g c = c.step_hop-reply.ensures.note

pub returns-in-Now-clause-knew : goal.returns-in-Now-clause-knew
returns-in-Now-clause-knew g c = c.step_hop-reply.ensures.stepped.answered.enters.knew

pub returns-in-Now-clause-below : goal.returns-in-Now-clause-below
returns-in-Now-clause-below g c = c.step_hop-reply.ensures.stepped.answered.enters.below

pub returns-in-Busy-clause-note : goal.returns-in-Busy-clause-note
returns-in-Busy-clause-note g c = c.step_hop-reply.ensures.note

pub returns-in-Busy-clause-knew : goal.returns-in-Busy-clause-knew
returns-in-Busy-clause-knew g c = c.step_hop-reply.ensures.stepped.answered.enters.knew

pub returns-in-Busy-clause-below : goal.returns-in-Busy-clause-below
returns-in-Busy-clause-below g c = c.step_hop-reply.ensures.stepped.answered.enters.below
