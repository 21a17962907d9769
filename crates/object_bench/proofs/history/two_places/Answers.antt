use Rattle.std.proofs.Common.{subst}
use Rattle.token_book.specs.Purse.{Purse, HasPlace}
use Rattle.token_book.proofs.Rooms.{place-empty}
use Rattle.object_bench.proofs.history.two_places.Goals as goal

pub returns-clause-two : goal.returns-clause-two
returns-clause-two c o has = absurd (place-empty 2 o (subst (λ (w : Purse). HasPlace w o) c.in_ok-wallet.ensures.wallet has))

pub returns-clause-of : goal.returns-clause-of
returns-clause-of c = c.in_ok-wallet.ensures.of c.args.tokens.now
