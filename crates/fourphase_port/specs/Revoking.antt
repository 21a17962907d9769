-- An invalidation of a port: what its call needs of the port, and what it leaves.
use Rattle.std.specs.Prelude.{ℕ, ◌≡◌, ◌<◌, length, Some, None}
use Rattle.atomic_table.specs.Seated.{TableId}
use Rattle.one_history.specs.Held.{Held}
use Rattle.one_history.specs.declared.view.Frame.{Frame}
use Rattle.shared_object.specs.Written.{written_at}
use Rattle.tlm_types.specs.declared.entry.Content.{Content}
use Rattle.tlm_types.specs.declared.words.TxnId.{TxnId}
use Rattle.tlm_model.specs.Plan.{Plan}
use Rattle.token_book.specs.Purse.{IsOf, Purse, empty_purse, left_of}
use Rattle.route_plan.specs.declared.step.Route.{Route}
use Rattle.plat_net.specs.Calls.{HasNoPassage, route_at}
use Rattle.dmi_grants.specs.Invalidating.{HasInvalidated}
use Rattle.dmi_grants.specs.Made.{IsRoomyFor, unclosed}
use Rattle.fourphase_port.specs.Moves.{last_place}
use Rattle.port_moves.specs.Returned.{TakesAll}

-- The invalidation x of initiator n at this address passes no hop. Where the address has a route, there is a ticket of its memory, and one for each gate there
-- that isn't known to be closed.
pub record MayRevoke (tokens : TableId) (frame : Frame Plan) (n : ℕ) (x : TxnId) (address : ℕ) (note : Held Content Plan) (w : Purse) : Type 0 where
  pub passage : HasNoPassage frame.world x
  pub of : IsOf tokens w
  pub memory : (r : Route) → route_at frame.world n address ≡ Some r → r.memory < length frame.world.platform.memories
  pub room : (r : Route) → route_at frame.world n address ≡ Some r → IsRoomyFor r.memory w
  pub tickets : (r : Route) → route_at frame.world n address ≡ Some r → unclosed frame.world r.memory (written_at r.memory note.knows.known) < left_of w r.memory

-- so many bytes from where this route leads were invalidated, and what was spent has no place in the wallet any more
pub record HasRevoked (tokens : TableId) (frame : Frame Plan) (r : Route) (x : TxnId) (time count : ℕ) (note back : Held Content Plan) (old new : Purse) : Type 0 where
  pub spent : Purse
  pub called : HasInvalidated frame r.memory x time r.offset (last_place r.offset count) note.knows back.knows old spent
  pub takes : TakesAll tokens spent (empty_purse 1) new

-- An invalidation was asked for: where its address has a route it was made there; else nothing has changed.
pub record Revokes (tokens : TableId) (frame : Frame Plan) (n : ℕ) (x : TxnId) (time address count : ℕ) (note back : Held Content Plan) (old new : Purse) : Type 0 where
  pub called : (r : Route) → route_at frame.world n address ≡ Some r → HasRevoked tokens frame r x time count note back old new
  pub none : route_at frame.world n address ≡ None → (back ≡ note) × (new ≡ old)
