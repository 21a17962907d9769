-- A hop's value from its fields, and what holds of them.
use Rattle.std.specs.Prelude.{◌≤◌}
use Rattle.std.specs.Vec.{vec_capacity}
use Rattle.hop_object.specs.declared.hop.Hop.TheInside.{Inside}
use Rattle.hop_object.specs.View.{HopView}
use Rattle.hop_object.specs.Hops.{Kept}

abbrev pub view_of : {T : Type 0} → Inside T → HopView T
view_of h = record { number = h.number; traits = h.traits; lanes = h.lanes.items; request_end = h.request_end; response_end = h.response_end; log = h.log; book = h.book }

-- what holds of every hop, and that a lane takes no memory
pub record IsHop {T : Type 0} (h : Inside T) : Type 0 where
  pub kept : Kept (view_of h)
  pub roomy : h.traits.lanes ≤ vec_capacity h.lanes
