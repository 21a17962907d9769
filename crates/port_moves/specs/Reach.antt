-- Where a port finds its objects in the history.
pub use Rattle.plat_net.specs.Places.{first_hop, memory_place, own_pool}
