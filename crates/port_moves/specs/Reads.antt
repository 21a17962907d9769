-- A debug read of a port: what its call leaves.
use Rattle.std.specs.Prelude.{ℕ, ◌≡◌, Some, None}
use Rattle.atomic_table.specs.Seated.{TableId}
use Rattle.one_history.specs.Held.{Held}
use Rattle.tlm_types.specs.declared.entry.Content.{Content}
use Rattle.tlm_types.specs.declared.words.TxnId.{TxnId}
use Rattle.tlm_model.specs.Plan.{Plan}
use Rattle.token_book.specs.Purse.{HasPlace, Purse}
use Rattle.generic_payload.specs.Payload.{PayloadView}
use Rattle.region_object.specs.declared.call.RegionCall.{RegionCall}
use Rattle.region_object.specs.declared.call.RegionCall.TheVariants.{Debug}
use Rattle.region_object.specs.Call.{payload_cost}
use Rattle.route_plan.specs.declared.step.Route.{Route}
use Rattle.plat_net.specs.Calls.{IsCalled, route_at}
use Rattle.port_moves.specs.Wallets.{Gives}

-- one ticket of an object left a wallet, for so many bytes, and nothing came into it
pub record HasSpent (tokens : TableId) (object bytes : ℕ) (old new : Purse) : Type 0 where
  pub gives : Gives tokens object 1 bytes old new
  pub within : (o : ℕ) → HasPlace new o → HasPlace old o

-- the call at the memory that the address of a payload leads to
abbrev pub debug_call : TxnId → ℕ → PayloadView → Route → RegionCall
debug_call x at asked r = Debug x at (record asked { address = r.offset })

-- A debug read was asked for with this payload: where its address has a route it was made at that memory, with a ticket for its bytes; else nothing has changed
-- but the payload's status.
pub record HasAsked (tokens : TableId) (p : Plan) (n : ℕ) (x : TxnId) (at : ℕ) (asked payload : PayloadView) (note back : Held Content Plan) (old new : Purse) : Type 0 where
  pub called : (r : Route) → route_at p n asked.address ≡ Some r → IsCalled p r.memory (debug_call x at asked r) note.knows back.knows payload
  pub spent : (r : Route) → route_at p n asked.address ≡ Some r → HasSpent tokens r.memory (payload_cost asked) old new
  pub none : route_at p n asked.address ≡ None → (back ≡ note) × (new ≡ old)
