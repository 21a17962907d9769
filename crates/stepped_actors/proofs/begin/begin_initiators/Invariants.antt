use Rattle.std.proofs.Common.{◌≡◌, ◌<◌, ◌≤◌, ℕ, length, true, Some}
use Rattle.std.specs.Prelude.{slice_get}
use Rattle.plat_build.specs.Kept.{IsBlank}
use Rattle.stepped_actors.specs.Begin.{HaveBegun}
use Rattle.stepped_actors.proofs.begin.begin_initiators.Given as goal

abbrev pub invariant-loop-number : goal.invariant-loop-number
invariant-loop-number g l = record {
  waiting : (k : ℕ) → l.number ≤ k → k < length l.net.platform.initiators → slice_get l.kept.starts k ≡ Some true;
  begun : HaveBegun g.N.Naming.table g.N.Naming.tokens g.N.Naming.frame l.actors.items;
  count : length l.actors.items ≡ l.number;
  note : IsBlank g.N.Naming.table l.note;
  routers : l.kept.routers ≡ l.initial.kept.routers;
  memories : l.kept.memories ≡ l.initial.kept.memories;
}
