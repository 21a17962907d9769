use Rattle.std.proofs.Common.{Bool, subst}
use Rattle.decoupled_run.specs.Stepped.{HasClosedNext}
use Rattle.decoupled_run.proofs.StepLemmas.{all_settled, closing_settled, may_close}
use Rattle.decoupled_run.proofs.steps.SteppedInitiator.close.Goals as goal

pub close_next-closed-requires-clause-note : goal.close_next-closed-requires-clause-note
close_next-closed-requires-clause-note g c = c.requires.stepped.note_of

pub close_next-closed-requires-clause-wallet : goal.close_next-closed-requires-clause-wallet
close_next-closed-requires-clause-wallet g c = c.requires.stepped.wallet_of

pub close_next-closed-requires-clause-closes : goal.close_next-closed-requires-clause-closes
close_next-closed-requires-clause-closes g c =
    let n = g.N.Naming in
    may_close n.table n.tokens n.frame c.args.self.now c.args.note c.requires.stepped c.args.revocation c.requires.owes

pub returns-then-closed : goal.returns-then-closed
returns-then-closed g c =
    let n = g.N.Naming in
    let e = c.close_next-closed in
    closing_settled n.table n.tokens n.frame c.args.self.now c.args.note c.requires.stepped c.args.revocation c.requires.owes e.result.1 e.new.wallet
    (subst (λ (b : Bool). HasClosedNext n.table n.tokens n.frame c.args.revocation c.args.note e.result.1 c.args.self.now.wallet e.new.wallet b) c.if-closed.true e.ensures)

pub returns : goal.returns
returns g c =
    let n = g.N.Naming in
    let e = c.close_next-closed in
    all_settled n.table n.tokens n.frame c.args.self.now c.args.note c.requires.stepped c.args.revocation c.requires.owes e.result.1 e.new.wallet
    (subst (λ (b : Bool). HasClosedNext n.table n.tokens n.frame c.args.revocation c.args.note e.result.1 c.args.self.now.wallet e.new.wallet b) c.if-closed.false e.ensures)
