-- What a router that is stepped keeps by what is known.
use Rattle.std.specs.Prelude.{List}
use Rattle.atomic_table.specs.Seated.{TableId}
use Rattle.view_lists.specs.Lists.{Within}
use Rattle.one_history.specs.declared.entry.Entry.{Entry}
use Rattle.one_history.specs.declared.view.Frame.{Frame}
use Rattle.tlm_types.specs.declared.entry.Content.{Content}
use Rattle.tlm_model.specs.Plan.{Plan}
use Rattle.router_steps.specs.Stepped.{IsSteppedRouter}
use Rattle.router_steps.specs.declared.steps.SteppedRouter.{SteppedRouter}

-- It keeps it by more.
abbrev pub SteppedRoutersKeep : Type 0
SteppedRoutersKeep = (frame : Frame Plan) (tokens : TableId) (s : SteppedRouter) (known more : List (Entry Content)) → Within known more → IsSteppedRouter frame tokens s known → IsSteppedRouter frame tokens s more
