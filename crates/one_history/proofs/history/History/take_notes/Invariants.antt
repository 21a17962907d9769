use Rattle.std.proofs.Common.{◌≡◌, take, vec_len}
use Rattle.one_history.specs.Seats.{Tell}
use Rattle.one_history.proofs.history.History.take_notes.Given as goal

abbrev pub invariant-loop-next : goal.invariant-loop-next
invariant-loop-next g l = record {
  table : l.master.table_id ≡ l.initial.master.table_id;
  frame : l.master.me.0.frame ≡ l.initial.master.me.0.frame;
  objects : l.master.me.0.objects ≡ l.initial.master.me.0.objects;
  front : l.notes.items ≡ take (vec_len l.notes) l.fn.notes.items;
  tell : Tell l.fn.notes.items (vec_len l.notes) l.master.me.0.known;
}

abbrev pub decreases-loop-next : goal.decreases-loop-next
decreases-loop-next g l = vec_len l.notes
