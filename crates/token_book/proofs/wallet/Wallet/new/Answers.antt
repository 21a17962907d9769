use Rattle.std.proofs.Common.{sym, subst}
use Rattle.token_book.specs.Purse.{IsOf}
use Rattle.token_book.proofs.wallet.Wallet.new.Goals as goal

pub returns-clause-of : goal.returns-clause-of
returns-clause-of c table = subst (IsOf table) (sym c.in_ok-new.ensures.ok) (c.in_ok-places.ensures.of table)
