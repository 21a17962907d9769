-- What known entries say of a payload that a hop carries to one of its sides.
use Rattle.std.proofs.Common.{inl, inr}
use Rattle.std.specs.Prelude.{ℕ, ◌⊎◌, List}
use Rattle.atomic_table.specs.Seated.{TableId}
use Rattle.one_history.specs.declared.entry.Entry.{Entry}
use Rattle.tlm_types.specs.declared.entry.Content.{Content}
use Rattle.tlm_types.specs.declared.words.TxnId.{TxnId}
use Rattle.tlm_model.specs.Plan.{Plan}
use Rattle.hop_object.specs.declared.lane.Side.{Side}
use Rattle.hop_object.specs.declared.lane.Side.TheVariants.{Down, Up}
use Rattle.cargo_model.specs.declared.cargo.Cargo.{Cargo}
use Rattle.cargo_model.specs.Travel.{IsVouched}

-- the side is down for what goes down, and up for what goes up
abbrev pub IsAtSide : {A B : Type 0} → Side → A ⊎ B → Type 0
IsAtSide Down (inl down) = Unit {0}
IsAtSide Up (inr up) = Unit {0}
IsAtSide side way = ⊥

-- Known entries vouch for what a hop carries to this side: what goes down there waits for the component downstream, and what goes up for the one
-- upstream.
pub record IsCarried (p : Plan) (tokens : TableId) (number : ℕ) (x : TxnId) (item : Side × Cargo) (known : List (Entry Content)) : Type 0 where
  pub vouched : IsVouched p tokens number x item.1 known
  pub side : IsAtSide item.0 vouched.way
