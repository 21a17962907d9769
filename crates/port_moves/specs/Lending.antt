-- The wallet of a port that is lent.
use Rattle.std.specs.Borrow.{Lends, MutBor, Fml}
use Rattle.token_book.specs.Purse.{Purse}
use Rattle.token_book.specs.contracts.wallet.Wallet.{the_row as wallet_row}
use Rattle.port_moves.specs.contracts.state.PortState.{the_row}
use Rattle.port_moves.specs.State.{StateView}

-- s with this wallet
abbrev pub with_wallet_of : StateView → Purse → StateView
with_wallet_of s w = record s { wallet = w }

-- s ends with the wallet that is left behind r
abbrev pub LendsWallet : MutBor StateView → MutBor Purse → Fml
LendsWallet s r = Lends the_row wallet_row s r (with_wallet_of s.now)
