-- A new memory behind hops.
use Rattle.std.specs.Prelude.{ℕ, ◌*◌, ◌≡◌, List, [], length, None}
use Rattle.atomic_table.specs.Seated.{TableId}
use Rattle.one_history.specs.declared.entry.Entry.{Entry}
use Rattle.one_history.specs.declared.view.Frame.{Frame}
use Rattle.tlm_types.specs.declared.entry.Content.{Content}
use Rattle.tlm_model.specs.declared.platform.Target.TheVariants.{Memory}
use Rattle.tlm_model.specs.Plan.{Plan}
use Rattle.node_hops.specs.Hops.{hops_to}
use Rattle.node_hops.specs.Traits.{lanes_of}
use Rattle.target_node.specs.Node.{IsTarget}
use Rattle.target_node.specs.declared.node.TargetNode.{TargetNode}

-- A memory of a net that has done nothing yet: it has all hops that lead to it, in order, and its empty queue has room for all of their lanes.
pub record IsNew (frame : Frame Plan) (tokens : TableId) (memory : ℕ) (t : TargetNode) : Type 0 where
  pub memory_is : t.memory ≡ memory
  pub hops_are : t.hops.items ≡ hops_to frame.world.platform (Memory memory)
  pub empty : t.queue.entries ≡ []
  pub room : t.queue.room ≡ lanes_of frame.world.platform (Memory memory) * length t.hops.items
  pub free : t.held ≡ None
  pub target : (known : List (Entry Content)) → IsTarget frame tokens t known
