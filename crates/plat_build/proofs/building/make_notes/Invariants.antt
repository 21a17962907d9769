use Rattle.std.proofs.Common.{◌≡◌, ◌+◌, [], length}
use Rattle.std.specs.Prelude.{All}
use Rattle.plat_build.specs.Kept.{IsBlank}
use Rattle.plat_build.proofs.building.make_notes.Given as goal

abbrev pub invariant-loop-part : goal.invariant-loop-part
invariant-loop-part l = record {
  table : l.note.table ≡ l.history.table;
  left : l.note.knows.notes + l._part ≡ l.count + 1;
  unseen : l.note.knows.seen ≡ 0;
  unknown : l.note.knows.known ≡ [];
  unlooked : l.note.knows.looks ≡ [];
  outside : l.note.knows.stays ≡ [];
  blank : All (IsBlank l.history.table) l.notes.items;
  many : length l.notes.items + 1 ≡ l._part;
}
