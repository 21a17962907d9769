use Rattle.lane_copy.proofs.Vectors.{chosen_lane}
use Rattle.lane_copy.proofs.lanes.merge_vector.Goals as goal

pub returns : goal.returns
returns c k within = chosen_lane c.args.dst.now c.args.src.now c.args.enables.now k c.requires.dst c.requires.src c.requires.enables within
