-- What a port does with a payload that it took.
use Rattle.std.specs.Prelude.{◌≡◌, Some, slice_get}
use Rattle.atomic_table.specs.Seated.{TableId}
use Rattle.tlm_model.specs.Plan.{Plan, Initiator, initiators_of}
use Rattle.token_book.specs.Purse.{Purse}
use Rattle.region_object.specs.Call.{payload_cost}
use Rattle.payload_pool.specs.declared.baton.Baton.{Baton}
use Rattle.script_engine.specs.declared.part.Transfer.{Transfer}
use Rattle.script_engine.specs.declared.part.TransferKind.{TransferKind}
use Rattle.script_engine.specs.declared.part.TransferKind.TheVariants as kinds
use Rattle.script_engine.specs.Part.{is_fenced_kind}
use Rattle.script_engine.specs.State.{payload_of}
use Rattle.port_moves.specs.Moves.{port_taken}
use Rattle.port_moves.specs.State.{StateView}
use Rattle.port_moves.specs.Stocks.{HasPaid, IsStocked}
use Rattle.port_moves.specs.declared.hand.Hand.TheVariants.{Taken}

-- a transfer that isn't a debug read
abbrev pub IsAccessOf : TransferKind → Type 0
IsAccessOf (kinds.Access command plain fenced) = Unit {0}
IsAccessOf kinds.DebugRead = ⊥

-- the payload of what is next, with a wallet
abbrev pub filled_baton : StateView → Baton → Purse → Baton
filled_baton s b z = record b { payload = payload_of s.port.engine 4096; wallet = z }

-- the state after it was taken: it works on it, and its wallet has what is left
abbrev pub taken_state : Plan → Initiator → StateView → Transfer → Baton → Purse → Purse → StateView
taken_state p i s x b z left = record s { port = port_taken p i s.port x (is_fenced_kind x.kind); hand = Taken (filled_baton s b z); wallet = left }

-- The payload was filled for the access that is next and has its tickets, which the port's wallet paid; the access is outstanding.
pub record IsLoaded (tokens : TableId) (p : Plan) (x : Transfer) (b : Baton) (old new : StateView) : Type 0 where
  pub stock : Purse
  pub left : Purse
  pub is : (i : Initiator) → slice_get (initiators_of p) old.port.engine.initiator ≡ Some i → new ≡ taken_state p i old x b stock left
  pub paid : HasPaid tokens p old.port.engine.initiator x.address (payload_cost (payload_of old.port.engine 4096)) old.wallet left
  pub stocked : IsStocked tokens p old.port.engine.initiator x.address (payload_cost (payload_of old.port.engine 4096)) stock
