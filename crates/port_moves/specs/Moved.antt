-- What a move of a port comes to.
use Rattle.std.specs.Prelude.{ℕ, true, false, Option, Some, None}
use Rattle.token_book.specs.Account.{Slip}
use Rattle.cargo_model.specs.declared.cargo.Cargo.{Cargo}
use Rattle.port_moves.specs.declared.hand.Hand.{Hand}
use Rattle.port_moves.specs.declared.hand.Hand.TheVariants.{Begun, Owed, Ended}
use Rattle.port_moves.specs.declared.hand.Moved.{Moved}
use Rattle.port_moves.specs.declared.hand.Pumped.{Pumped}
use Rattle.port_moves.specs.declared.hand.Pumped.TheVariants.{Did}

-- an entry was made and the pump goes on; none was made and it goes on; it ends, without an entry or with one
abbrev pub made : Moved
made = record { entry = true; pumped = None }

abbrev pub went : Moved
went = record { entry = false; pumped = None }

abbrev pub ends : Pumped → Moved
ends pumped = record { entry = false; pumped = Some pumped }

abbrev pub ends_made : Pumped → Moved
ends_made pumped = record { entry = true; pumped = Some pumped }

-- after BEGIN_REQ the pump goes on where the response came by return, and ends where the payload is gone
abbrev pub after_begin : Hand → Moved
after_begin (Begun c at leg) = made
after_begin hand = ends_made Did

-- a response that is back: END_RESP is owed where there is a leg for it, and else the access has ended
abbrev pub response_hand : Option Slip → Cargo → ℕ → Hand
response_hand None c at = Ended c at
response_hand (Some leg) c at = Owed c leg at
