use Rattle.toml.specs.View.{table_view}
use Rattle.platform_file.proofs.BoundLemmas.{given_is_bounded}
use Rattle.platform_file.proofs.read.read_platform.Goals as goal

pub returns-in-Some-clause-bounded : goal.returns-in-Some-clause-bounded
returns-in-Some-clause-bounded c = given_is_bounded c.platform.result (table_view c.in-Some.table) c.platform.ensures
