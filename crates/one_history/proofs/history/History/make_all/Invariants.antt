use Rattle.std.proofs.Common.{◌≡◌, length}
use Rattle.one_history.specs.Moves.{counting}
use Rattle.one_history.specs.Seats.{AreFresh}
use Rattle.one_history.proofs.history.History.make_all.Given as goal

abbrev pub invariant-loop-i : goal.invariant-loop-i
invariant-loop-i g l = record {
  table : l.note.table ≡ l.self.table;
  note : l.note.knows ≡ counting l.self.frame l._i;
  count : length l.seats.items ≡ l._i;
  seats : AreFresh l.self.table l.self.frame l.seats.items;
}
