-- What the tests carry from access to access.
use Rattle.std.specs.Prelude.{◌≡◌}
use Rattle.atomic_table.specs.Seated.{TableId}
use Rattle.one_history.specs.Held.{Held}
use Rattle.shared_object.specs.Steps.{IsNote}
use Rattle.token_book.specs.Purse.{Purse, IsOf}
use Rattle.tlm_types.specs.declared.entry.Content.{Content}
use Rattle.tlm_model.specs.Plan.{Plan}
use Rattle.generic_payload.specs.Payload.{PayloadView}

-- a payload with room for 4,096 bytes, a note of this history, and a wallet of these tokens
pub record IsBag (table tokens : TableId) (payload : PayloadView) (note : Held Content Plan) (wallet : Purse) : Type 0 where
  pub note_of : IsNote table note
  pub wallet_of : IsOf tokens wallet
  pub roomy : payload.room ≡ 4096
