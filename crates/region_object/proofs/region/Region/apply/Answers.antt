use Rattle.std.proofs.Common.{◌+◌, ◌≤◌, sym, subst}
use Rattle.region_object.specs.Call.{cost_of}
use Rattle.region_object.specs.Region.{LoggedMemory}
use Rattle.region_object.specs.Written.{written_from}
use Rattle.region_object.proofs.Cost.{left_of-call}
use Rattle.region_object.proofs.region.Region.apply.Goals as goal

pub returns-clause-left : goal.returns-clause-left
returns-clause-left c =
    let m = c.args.self.now in
    subst (λ (v : LoggedMemory). m.log.room_bytes ≤ v.log.room_bytes + cost_of c.args.call) (sym c.make.ensures.memory) (left_of-call m c.args.position (written_from 0 m.log.entries) c.args.call c.requires.fit)
