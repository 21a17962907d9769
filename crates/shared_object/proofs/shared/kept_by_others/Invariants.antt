use Rattle.std.proofs.Common.{◌≡◌, ◌≤◌, ◌++◌, length, vec_capacity}
use Rattle.shared_object.proofs.shared.kept_by_others.Given as goal

abbrev pub invariant-loop-object : goal.invariant-loop-object
invariant-loop-object g l = record {
  whole : l.fn.objects.items ≡ l.yielded ++ l.object-iterator.rest.items;
  same : l.room.items ≡ l.yielded;
  room : length l.fn.objects.items ≤ vec_capacity l.room;
}
