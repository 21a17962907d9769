-- A pool's value from its fields.
use Rattle.payload_pool.specs.declared.pool.Pool.TheInside.{Inside}
use Rattle.payload_pool.specs.Pool.{PoolView}
pub use Rattle.payload_pool.specs.Pool.{IsPool}

abbrev pub view_of : Inside → PoolView
view_of p = record { initiator = p.initiator; room = p.room; slots = p.slots.items; log = p.log; book = p.book }
