use Rattle.good_history.proofs.GrantsNone.{nothing_is_closed, ungranted_closes_nothing}
use Rattle.good_history.proofs.grant_laws.nothing_is_closed.Goals as goal

pub returns : goal.returns
returns c = record { unasked = nothing_is_closed; ungranted = ungranted_closes_nothing }
