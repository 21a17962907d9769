use Rattle.quantum_keeper.proofs.Points.{point_multiple}
use Rattle.quantum_keeper.proofs.laws.next_point_is_the_first_multiple.Goals as goal

pub returns-clause-multiple : goal.returns-clause-multiple
returns-clause-multiple c = point_multiple
