-- The hops of the windows of a router, and a new router.
use Rattle.std.specs.Prelude.{ℕ, ◌*◌, ◌≡◌, List, [], length, Option, Some, None, slice_get}
use Rattle.std.specs.List.{range_with_len}
use Rattle.atomic_table.specs.Seated.{TableId}
use Rattle.one_history.specs.declared.entry.Entry.{Entry}
use Rattle.one_history.specs.declared.view.Frame.{Frame}
use Rattle.tlm_types.specs.declared.entry.Content.{Content}
use Rattle.tlm_model.specs.declared.platform.Platform.{Platform}
use Rattle.tlm_model.specs.declared.platform.RouterRow.{RouterRow}
use Rattle.tlm_model.specs.declared.platform.Target.TheVariants.{Router}
use Rattle.tlm_model.specs.Plan.{Plan}
use Rattle.tlm_model.specs.Route.{window_hop}
use Rattle.node_hops.specs.Hops.{hops_to}
use Rattle.node_hops.specs.Traits.{lanes_of}
use Rattle.router_node.specs.Node.{IsRouter}
use Rattle.router_node.specs.declared.node.RouterNode.{RouterNode}

abbrev pub row_windows : Option RouterRow → ℕ
row_windows None = 0
row_windows (Some row) = length row.windows

-- the hops of the windows of a router, in order
abbrev pub windows_of : Platform → ℕ → List ℕ
windows_of p router = range_with_len (window_hop p router 0) (row_windows (slice_get p.routers router))

-- A router of a net that has done nothing yet: it has all hops that lead to it and those of its windows, in order, and holds nothing. It has room for
-- the lanes of all hops that lead to it.
pub record IsNew (frame : Frame Plan) (tokens : TableId) (router : ℕ) (r : RouterNode) : Type 0 where
  pub router_is : r.router ≡ router
  pub above_are : r.above.items ≡ hops_to frame.world.platform (Router router)
  pub below_are : r.below.items ≡ windows_of frame.world.platform router
  pub empty : r.held.items ≡ []
  pub room : r.room ≡ lanes_of frame.world.platform (Router router) * length r.above.items
  pub stray : r.stray ≡ None
  pub is : (known : List (Entry Content)) → IsRouter frame tokens r known
