-- A pool as the tests use it.
use Rattle.std.specs.Prelude.{ℕ, ◌≡◌, ◌+◌, ◌<◌, ◌≤◌, length, All}
use Rattle.atomic_table.specs.Seated.{TableId}
use Rattle.token_book.specs.Account.{Slip}
use Rattle.flow_model.specs.Events.{Event}
use Rattle.payload_pool.specs.declared.baton.Baton.{Baton}
use Rattle.payload_pool.specs.Pool.{PoolView}
use Rattle.payload_pool.specs.Calls.{IsIntact}

-- it has room for so many entries, the first of them at this position
pub record IsReady (left : ℕ) (tokens : TableId) (position : ℕ) (v : PoolView) : Type 0 where
  pub table : v.book.table ≡ tokens
  pub owner : v.book.owner ≡ 1
  pub bytes : v.room ≡ 16
  pub past : All (λ (e : Event). e.position < position) v.log.events
  pub room : length v.log.events + left ≤ v.log.room
  pub low : position + left < 1000000

-- a token of its book
pub record IsMine (tokens : TableId) (t : Slip) : Type 0 where
  pub table : t.table ≡ tokens
  pub owner : t.owner ≡ 1

-- a baton of it that may be put back
pub record IsBaton (tokens : TableId) (b : Baton) : Type 0 where
  pub mine : IsMine tokens b.own
  pub whole : IsIntact 16 b
