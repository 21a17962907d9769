use Rattle.std.proofs.Common.{◌<◌, ℕ, length, sym, ap, ◌∙◌, subst}
use Rattle.view_lists.specs.Lists.{Has}
use Rattle.script_engine.specs.Part.{is_fenced_part}
use Rattle.script_engine.specs.State.{is_fenced, op_of}
use Rattle.port_model.proofs.Ops.{seq_of}
use Rattle.port_moves.specs.State.{StateView}
use Rattle.port_moves.proofs.state.PortState.note_taken.Goals as goal

pub note_away-requires-clause-new : goal.note_away-requires-clause-new
note_away-requires-clause-new c = λ has. c.requires.new (subst (λ (n : ℕ). Has c.args.self.now.port.away n) (seq_of c.args.self.now.port.engine c.args.transfer c.requires.next) (subst (λ (t : StateView). Has t.port.away c.args.transfer.seq) c.note_refusal.ensures.keeps has))

pub note_away-requires-clause-room : goal.note_away-requires-clause-room
note_away-requires-clause-room c = subst (λ (t : StateView). length t.port.away < t.room) (sym c.note_refusal.ensures.keeps) c.requires.room.0

pub go_past-requires : goal.go_past-requires
go_past-requires c =
    ap (λ (t : StateView). is_fenced (op_of t.port.engine)) c.note_away.ensures
    ∙ (ap (λ (t : StateView). is_fenced (op_of t.port.engine)) c.note_refusal.ensures.keeps ∙ (ap is_fenced_part c.requires.next ∙ (sym c.is_fenced.ensures ∙ c.if-is_fenced.false)))
