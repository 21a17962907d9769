-- Room for more is room for fewer.
use Rattle.std.proofs.Common.{ℕ, ◌≤◌, arith}
use Rattle.plat_end.specs.declared.apart.Apart.{Apart}
use Rattle.plat_end.specs.Room.{HasRoom}

pub room_for_fewer : (objects memories few fewer : ℕ) (a : Apart) → few ≤ objects → fewer ≤ memories → HasRoom objects memories a → HasRoom few fewer a
room_for_fewer objects memories few fewer a less shorter room = record {
  no_log = room.no_log;
  no_store = room.no_store;
  no_seat = room.no_seat;
  fits = let f = room.fits in record { logs = let l = f.logs in omega arith; stores = let s = f.stores in omega arith; seats = let s = f.seats in omega arith };
}
