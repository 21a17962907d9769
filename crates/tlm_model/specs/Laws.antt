-- Laws over the definitions.
use Rattle.std.specs.Prelude.{List, ◌++◌}
use Rattle.tlm_types.specs.declared.entry.Entry.{Entry}
use Rattle.tlm_model.specs.Kept.{KeepsRequests}
use Rattle.tlm_model.specs.Plan.{Plan}

-- each beginning of a history that has the points of requests has them
abbrev pub HasRequestBeginnings : Type 0
HasRequestBeginnings = (p : Plan) (h m : List Entry) → KeepsRequests p (h ++ m) → KeepsRequests p h
