use Rattle.std.proofs.Common.{◌≡◌, ◌++◌, true, map, sym, subst}
use Rattle.std.specs.Option.{unwrap_or}
use Rattle.tlm_types.specs.declared.words.TxnId.{TxnId}
use Rattle.tlm_types.specs.declared.words.Way.TheVariants.{FourPhase}
use Rattle.shared_object.specs.Steps.{Enters}
use Rattle.shared_object.specs.Written.{placed, wrote}
use Rattle.region_object.specs.declared.call.RegionCall.TheVariants.{Access}
use Rattle.region_object.specs.declared.call.RegionReply.{RegionReply}
use Rattle.region_object.specs.Region.{after_call, reply_of}
use Rattle.region_object.specs.Written.{content_of, written_from}
use Rattle.cargo_net.specs.Traffic.{Backs}
use Rattle.cargo_net.proofs.PayloadWallets.{from_pull_for}
use Rattle.cargo_net.proofs.ServeLemmas.{backed, fit, served}
use Rattle.cargo_net.proofs.serves.serve.Goals as goal

pub step-stepped-requires-clause-fits : goal.step-stepped-requires-clause-fits
step-stepped-requires-clause-fits g c = λ o built. fit g.N.Naming.frame g.N.Naming.tokens c.args.memory.now.number c.args.memory.now.own c.args.cargo c.args.at c.args.note.knows c.requires.may

pub step-stepped-requires-clause-backed : goal.step-stepped-requires-clause-backed
step-stepped-requires-clause-backed g c = λ o q meets admitted late. (
    subst (λ (t : TxnId). Backs g.N.Naming.frame.world (map (placed c.args.memory.now.number) (written_from 0 o.log.entries) ++ c.args.note.knows.known) (placed c.args.memory.now.number (wrote q (content_of o (Access t c.args.at FourPhase c.args.cargo.baton.payload))))) (sym c.txn-txn.ensures)
    (backed g.N.Naming.frame g.N.Naming.tokens c.args.memory.now.number c.args.memory.now.own c.args.cargo c.args.at c.args.note.knows c.requires.may o q)
    )

pub returns-clause-served : goal.returns-clause-served
returns-clause-served g c = λ may. (
    let s = c.step-stepped.ensures.answer in
    served g.N.Naming.frame g.N.Naming.tokens c.args.memory.now.number c.args.memory.now.own c.args.cargo c.args.at c.args.note.knows may c.step-stepped.result.note.knows c.accessed.result c.pull-ticket.new.self
    (record {
      before = s.0;
      after = s.1;
      position = c.step-stepped.result.position;
      met = s.2;
      enters = subst (λ (t : TxnId). Enters g.N.Naming.frame c.args.memory.now.number (written_from 0 s.0.log.entries) (written_from 0 s.1.log.entries) true (content_of s.0 (Access t c.args.at FourPhase c.args.cargo.baton.payload)) c.args.note.knows c.step-stepped.result.note.knows c.step-stepped.result.position) c.txn-txn.ensures s.3;
      applied = subst (λ (r : RegionReply). (s.1 ≡ after_call s.0 (unwrap_or c.step-stepped.result.position 0) (Access c.args.cargo.baton.txn c.args.at FourPhase c.args.cargo.baton.payload)) × (r ≡ reply_of s.0 (Access c.args.cargo.baton.txn c.args.at FourPhase c.args.cargo.baton.payload))) c.accessed.ensures
          (subst (λ (t : TxnId). (s.1 ≡ after_call s.0 (unwrap_or c.step-stepped.result.position 0) (Access t c.args.at FourPhase c.args.cargo.baton.payload)) × (c.step-stepped.result.reply ≡ reply_of s.0 (Access t c.args.at FourPhase c.args.cargo.baton.payload))) c.txn-txn.ensures s.4);
    })
    (from_pull_for g.N.Naming.tokens c.args.tickets.now c.args.memory.now.number c.number.result _ c.payload_cost-bytes.result c.args.cargo.baton.wallet c.pull-ticket.new.self c.number.ensures c.payload_cost-bytes.ensures c.requires.tickets c.pull-ticket.ensures.wallet c.pull-ticket.ensures.of c.pull-ticket.ensures.left c.pull-ticket.ensures.bytes)
    )

pub step-stepped-requires-clause-history : goal.step-stepped-requires-clause-history
step-stepped-requires-clause-history g c = c.requires.history

pub step-stepped-requires-clause-tickets : goal.step-stepped-requires-clause-tickets
step-stepped-requires-clause-tickets g c = c.requires.tickets

pub step-stepped-requires-clause-note : goal.step-stepped-requires-clause-note
step-stepped-requires-clause-note g c = c.requires.note

pub returns-clause-note : goal.returns-clause-note
returns-clause-note g c = c.step-stepped.ensures.note

pub returns-clause-knew : goal.returns-clause-knew
returns-clause-knew g c = let s = c.step-stepped.ensures.answer in s.3.knew

pub returns-clause-below : goal.returns-clause-below
returns-clause-below g c = let s = c.step-stepped.ensures.answer in s.3.below
