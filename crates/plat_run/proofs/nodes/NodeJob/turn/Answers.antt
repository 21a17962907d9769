use Rattle.std.proofs.Common.{refl, sym, ◌∙◌}
use Rattle.plat_run.proofs.NodeLemmas.{node_out}
use Rattle.plat_run.proofs.nodes.NodeJob.turn.Goals as goal

pub pump-pumped-requires : goal.pump-pumped-requires
pump-pumped-requires g c =
    let out = node_out g.N.Naming.table g.K.Node.keeps c.self.inside.node c.self.inside.note c.unwrap-note.result c.self.invariant (sym c.take.ensures.value ∙ c.unwrap-note.ensures) in
    record { node = out.is; note = out.note_of; below = out.below }

pub invariant_of-self : goal.invariant_of-self
invariant_of-self g c =
    let e = c.pump-pumped.ensures in
    record { its_note = c.pump-pumped.result.1; has_note = refl; is_node = record { note_of = e.note; below = e.below; is = e.node } }
