use Rattle.target_node.specs.Node.{IsTarget}
use Rattle.plat_run.proofs.NodeLemmas.{node_begun}
use Rattle.plat_run.proofs.begin.begin_memory.Goals as goal

pub new-job-requires : goal.new-job-requires
new-job-requires g c =
    let n = g.N.Naming in
    node_begun n.table (IsTarget n.frame n.tokens) c.in_ok-node.node c.memory_note-note.result c.in_ok-node.ensures.target c.memory_note-note.ensures.note
