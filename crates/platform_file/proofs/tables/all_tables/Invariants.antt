use Rattle.std.proofs.Common.{◌≡◌, drop}
use Rattle.toml.specs.View.{items_view}
use Rattle.platform_file.specs.Kinds.{all_tables, tables_seen}
use Rattle.platform_model.proofs.RowLoops.{with_all}
use Rattle.platform_file.proofs.tables.all_tables.Given as goal

abbrev pub invariant-loop-value : goal.invariant-loop-value
invariant-loop-value l = with_all (tables_seen l.tables) (all_tables (items_view (drop l.value-index l.values))) ≡ all_tables (items_view l.values)
