-- The steps by which a port takes an access back.
use Rattle.std.specs.Prelude.{ℕ, ◌≡◌, ◌+◌, ◌<◌, ◌⊎◌, max, Bool, true, false, List, length}
use Rattle.atomic_table.specs.Seated.{TableId}
use Rattle.token_book.specs.Purse.{Purse, HasPlace, IsOf, bytes_of, left_of}
use Rattle.flow_model.specs.Events.{Among}
use Rattle.script_engine.specs.Part.{IsRead}
use Rattle.script_engine.specs.State.{is_fenced, length_of, op_of, told_by}
use Rattle.port_model.specs.Laws.{Removes}
use Rattle.port_model.specs.Way.{Port}
use Rattle.port_moves.specs.Moves.{port_back}
use Rattle.port_moves.specs.State.{StateView}

-- all tickets of another wallet came into this one, and each place holds something
pub record TakesAll (tokens : TableId) (old from new : Purse) : Type 0 where
  pub of : IsOf tokens new
  pub places : new.places ≡ old.places
  pub left : (o : ℕ) → left_of new o ≡ left_of old o + left_of from o
  pub bytes_left : (o : ℕ) → bytes_of new o ≡ bytes_of old o + bytes_of from o
  pub full : (o : ℕ) → HasPlace new o → 0 < left_of new o + bytes_of new o

-- the state with another port, and with this greatest end so far
abbrev pub with_port : StateView → Port → StateView
with_port s port = record s { port = port }

abbrev pub with_away : StateView → List ℕ → StateView
with_away s away = let port = s.port in with_port s (record port { away = away })

abbrev pub with_latest : StateView → ℕ → StateView
with_latest s end = let port = s.port in with_port s (record port { latest = max port.latest end })

-- the engine was told these bytes, and waits no more
abbrev pub with_told : StateView → List ℕ → StateView
with_told s got = let port = s.port in with_port s (record port { engine = told_by port.engine got; waiting = false })

-- where the access is outstanding and the engine waits for it, a read's bytes are as many as it asked for
abbrev pub MayBeTold : Port → ℕ → List ℕ → Type 0
MayBeTold port number got = Among port.away number → port.waiting ≡ true → (is_fenced (op_of port.engine) ≡ true) × (IsRead (op_of port.engine) → length got ≡ length_of (op_of port.engine))

-- an access was outstanding, and isn't any more; or it wasn't
pub record HasLeft (number : ℕ) (old new : StateView) : Type 0 where
  pub away : List ℕ
  pub removes : Removes old.port.away number away
  pub is : new ≡ with_away old away

abbrev pub IsStruck : ℕ → Bool → StateView → StateView → Type 0
IsStruck number true old new = HasLeft number old new
IsStruck number false old new = (new ≡ old) × (Among old.port.away number → ⊥)

-- it is back, and was told where the engine waits for it
pub record HasComeBack (number end : ℕ) (got : List ℕ) (old new : StateView) : Type 0 where
  pub away : List ℕ
  pub removes : Removes old.port.away number away
  pub is : new ≡ with_port old (port_back old.port away end got old.port.waiting)

abbrev pub IsTold : ℕ → ℕ → List ℕ → StateView → StateView → Type 0
IsTold number end got old new = HasComeBack number end got old new ⊎ ((new ≡ old) × (Among old.port.away number → ⊥))
