-- What a memory keeps by what is known it keeps while others move.
use Rattle.std.specs.Prelude.{List}
use Rattle.atomic_table.specs.Seated.{TableId}
use Rattle.view_lists.specs.Lists.{Within}
use Rattle.one_history.specs.declared.entry.Entry.{Entry}
use Rattle.one_history.specs.declared.view.Frame.{Frame}
use Rattle.tlm_types.specs.declared.entry.Content.{Content}
use Rattle.tlm_model.specs.Plan.{Plan}
use Rattle.target_node.specs.Node.{IsTarget}
use Rattle.target_node.specs.declared.node.TargetNode.{TargetNode}

abbrev pub MoreIsKnown : Type 0
MoreIsKnown = (frame : Frame Plan) (tokens : TableId) (t : TargetNode) (known more : List (Entry Content)) → Within known more → IsTarget frame tokens t known → IsTarget frame tokens t more
