-- An invalidation of a port that is stepped: what it is when it is to be told, and until it has returned.
use Rattle.std.specs.Prelude.{ℕ, ◌≡◌, length, Some, None}
use Rattle.atomic_table.specs.Seated.{TableId}
use Rattle.one_history.specs.Held.{Held}
use Rattle.one_history.specs.declared.view.Frame.{Frame}
use Rattle.token_book.specs.Purse.{IsOf, Purse}
use Rattle.tlm_types.specs.declared.entry.Content.{Content}
use Rattle.tlm_model.specs.Plan.{Plan}
use Rattle.joined_traffic.specs.Accesses.{txn_of}
use Rattle.script_engine.specs.declared.part.Part.TheVariants.{Invalidates}
use Rattle.script_engine.specs.State.{next_of}
use Rattle.plat_net.specs.Calls.{route_at}
use Rattle.dmi_grants.specs.Made.{IsRoomyFor}
use Rattle.dmi_grants.specs.Revoking.{IsRevoking}
use Rattle.dmi_grants.specs.declared.invalidation.Revocation.{Revocation}
use Rattle.port_model.specs.Laws.{HasSettled}
use Rattle.port_moves.specs.State.{IsPort, StateView, with_note}
use Rattle.port_moves.specs.declared.hand.Hand.TheVariants.{Free}
use Rattle.fourphase_port.specs.Moves.{last_place}
use Rattle.fourphase_port.specs.declared.closes.Told.{Told}

-- An invalidation is to be told: it is next in the script and has a route, and the port works on nothing and waits for nothing.
pub record IsToTell (p : Plan) (s : StateView) (t : Told) : Type 0 where
  pub free : (s.hand ≡ Free) × (s.held ≡ None)
  pub alone : length s.port.away ≡ 0
  pub address : ℕ
  pub next_is : next_of s.port.engine ≡ Invalidates t.seq address t.count
  pub routed : route_at p s.port.engine.initiator address ≡ Some t.route

-- The port has told the invalidation that is next, and closes the grants that it ends. It was a port when it began, with the wallet of then, and
-- has made no move but these since.
pub record IsClosing (table tokens : TableId) (frame : Frame Plan) (s : StateView) (r : Revocation) (note : Held Content Plan) : Type 0 where
  pub began : Held Content Plan
  pub start : Purse
  pub port : IsPort table tokens frame (with_note (record s { wallet = start }) began)
  pub settled : HasSettled s.port
  pub told : Told
  pub to_tell : IsToTell frame.world s told
  pub memory : r.memory ≡ told.route.memory
  pub first : r.first ≡ told.route.offset
  pub last : r.last ≡ last_place told.route.offset told.count
  pub txn : r.txn ≡ txn_of s.port.engine.initiator s.port.engine.seq
  pub at : r.at ≡ s.port.time
  pub revoking : IsRevoking frame r began.knows note.knows start s.wallet
  pub wallet_of : IsOf tokens s.wallet
  pub room : IsRoomyFor r.memory s.wallet
