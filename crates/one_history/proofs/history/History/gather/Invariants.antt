use Rattle.std.proofs.Common.{◌≡◌, ◌≤◌, length, take, vec_len, Some}
use Rattle.one_history.specs.Seats.{Gathers}
use Rattle.one_history.proofs.history.History.gather.Given as goal

abbrev pub invariant-loop-next : goal.invariant-loop-next
invariant-loop-next g l = record {
  table : l.master.table_id ≡ l.self.table;
  frame : l.master.me.0.frame ≡ Some l.self.frame;
  some : 1 ≤ length l.master.me.0.objects;
  front : l.seats.items ≡ take (vec_len l.seats) l.fn.seats.items;
  got : Gathers l.fn.seats.items (vec_len l.seats) l.master.me.0.objects;
}

abbrev pub decreases-loop-next : goal.decreases-loop-next
decreases-loop-next g l = vec_len l.seats
