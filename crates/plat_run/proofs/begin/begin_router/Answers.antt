use Rattle.router_node.specs.Node.{IsRouter}
use Rattle.plat_run.proofs.NodeLemmas.{node_begun}
use Rattle.plat_run.proofs.begin.begin_router.Goals as goal

pub new-job-requires : goal.new-job-requires
new-job-requires g c =
    let n = g.N.Naming in
    node_begun n.table (IsRouter n.frame n.tokens) c.in_ok-node.node c.router_note-note.result c.in_ok-node.ensures.is c.router_note-note.ensures.note
