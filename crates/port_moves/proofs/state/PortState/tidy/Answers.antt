use Rattle.std.proofs.Common.{sym, ap, subst}
use Rattle.token_book.specs.Purse.{IsOf, Purse}
use Rattle.port_moves.specs.State.{StateView}
use Rattle.port_moves.proofs.Asking.{none_of}
use Rattle.port_moves.proofs.state.PortState.tidy.Goals as goal

pub put_all-requires-clause-of : goal.put_all-requires-clause-of
put_all-requires-clause-of c = (subst (λ (w : Purse). IsOf c.args.tickets.now w) (sym (ap (λ (t : StateView). t.wallet) c.self.view_is)) c.requires.of, none_of c.args.tickets.now c.self.inside.purse 1 c.self.invariant.1)
