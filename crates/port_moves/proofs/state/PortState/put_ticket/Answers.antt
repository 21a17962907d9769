use Rattle.std.proofs.Common.{◌≡◌, ◌⊎◌, ap, subst}
use Rattle.token_book.specs.Purse.{HasPlace, Purse}
use Rattle.port_moves.specs.State.{StateView}
use Rattle.port_moves.specs.Wallets.{Gets}
use Rattle.port_moves.proofs.state.PortState.put_ticket.Goals as goal

pub returns-clause-back : goal.returns-clause-back
returns-clause-back c = subst (λ (w : Purse). Gets c.args.tickets.now c.args.object 1 0 w c.put_back.new.wallet) (ap (λ (t : StateView). t.wallet) c.self.view_is) c.put_back.ensures.back

pub returns-clause-within : goal.returns-clause-within
returns-clause-within c = λ o has. subst (λ (w : Purse). HasPlace w o ⊎ (o ≡ c.args.object)) (ap (λ (t : StateView). t.wallet) c.self.view_is) (c.put_back.ensures.within o has)
