use Rattle.std.proofs.Common.{sym, ◌∙◌}
use Rattle.std.proofs.lemmas.Bool.{false≢true}
use Rattle.decoupled_run.proofs.MoveLemmas.{none_of_others, set_out}
use Rattle.decoupled_run.proofs.access.make_next.Goals as goal
use Rattle.decoupled_run.proofs.access.make_next.Goals.{else-is_direct-via-then-is_direct+else-is_plain, else-is_direct-via-else-is_direct}

pub make_plain-requires-clause-ready : goal.make_plain-requires-clause-ready
make_plain-requires-clause-ready g c =
    let n = g.N.Naming in
    set_out n.table n.tokens n.frame c.args.is_direct c.args.run.now c.args.next.now.transfer c.args.next.now.route c.args.payload c.fill_next.new.payload c.args.note c.args.wallet.now c.args.grants.now c.requires.job c.requires.reached c.fill_next.ensures

pub transport-requires-clause-ready : goal.transport-requires-clause-ready
transport-requires-clause-ready g c =
    let n = g.N.Naming in
    set_out n.table n.tokens n.frame c.args.is_direct c.args.run.now c.args.next.now.transfer c.args.next.now.route c.args.payload c.fill_next.new.payload c.args.note c.args.wallet.now c.args.grants.now c.requires.job c.requires.reached c.fill_next.ensures

pub transport-requires-clause-none : goal.transport-requires-clause-none
transport-requires-clause-none g c = λ plain.
    elim c.else-is_direct.branch [
      | else-is_direct-via-then-is_direct+else-is_plain w ↦ absurd (false≢true (sym w.if-is_plain.false ∙ (w.is_plain.ensures ∙ plain)))
      | else-is_direct-via-else-is_direct w ↦ (
          let n = g.N.Naming in
          none_of_others n.table n.tokens n.frame c.args.run.now c.args.next.now.transfer c.args.next.now.route c.fill_next.new.payload c.args.note c.args.wallet.now c.args.grants.now
          (set_out n.table n.tokens n.frame c.args.is_direct c.args.run.now c.args.next.now.transfer c.args.next.now.route c.args.payload c.fill_next.new.payload c.args.note c.args.wallet.now c.args.grants.now c.requires.job c.requires.reached c.fill_next.ensures)
          c.args.is_direct c.requires.job.styled w.if-is_direct.false)
    ]
