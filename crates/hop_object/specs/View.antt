-- What contracts see of a hop.
use Rattle.std.specs.Prelude.{ℕ, List}
use Rattle.token_book.specs.Account.{Account}
use Rattle.numbered_log.specs.Logged.{LoggedView}
use Rattle.hop_object.specs.declared.call.HopTraits.{HopTraits}
use Rattle.hop_object.specs.declared.lane.Lane.{Lane}

-- its number and how it is made, its lanes in use, the time of the last call that ended a request, the greatest time of a call
-- that ended a response, its log with the marks of its calls, and the book of its legs
pub record HopView (T : Type 0) : Type 0 where
  pub number : ℕ
  pub traits : HopTraits
  pub lanes : List (Lane T)
  pub request_end : ℕ
  pub response_end : ℕ
  pub log : LoggedView
  pub book : Account
