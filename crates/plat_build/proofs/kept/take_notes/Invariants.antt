use Rattle.std.proofs.Common.{◌≡◌, ◌+◌, length, map, replicate, true}
use Rattle.std.specs.Prelude.{All, is_some}
use Rattle.plat_build.specs.Kept.{AreBlank, IsBlank}
use Rattle.plat_build.proofs.kept.take_notes.Given as goal

abbrev pub invariant-loop-place : goal.invariant-loop-place
invariant-loop-place g l = record {
  blank : AreBlank g.N.Naming.table l.taken.items;
  taken_all : map (λ note. is_some note) l.taken.items ≡ replicate l._place true;
  left : All (IsBlank g.N.Naming.table) l.notes.items;
  fewer : length l.notes.items + l._place ≡ length l.initial.notes.items;
}
