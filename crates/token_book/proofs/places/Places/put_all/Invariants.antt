use Rattle.std.proofs.Common.{◌≡◌, ℕ, ◌+◌}
use Rattle.std.specs.FinMap as map
use Rattle.token_book.specs.Purse.{HasRoomForAll, IsOf, bytes_of, left_of}
use Rattle.token_book.proofs.places.Places.put_all.Given as goal

abbrev pub invariant-loop-place : goal.invariant-loop-place
invariant-loop-place l = record {
  of : IsOf l.tokens l.self × IsOf l.tokens l.from;
  places : l.self.places ≡ l.fn.self.places;
  from_places : l.from.places ≡ l.fn.from.places;
  left : (o : ℕ) → left_of l.self o + left_of l.from o ≡ left_of l.fn.self o + left_of l.fn.from o;
  bytes : (o : ℕ) → bytes_of l.self o + bytes_of l.from o ≡ bytes_of l.fn.self o + bytes_of l.fn.from o;
  room : HasRoomForAll l.self l.from;
}

abbrev pub decreases-loop-place : goal.decreases-loop-place
decreases-loop-place l = map.len l.from.held
