-- What moves add to the history.
use Rattle.std.proofs.Common.{ℕ}
use Rattle.one_history.specs.Held.{Held as HeldNote}
use Rattle.one_history.specs.declared.view.View.{View}
use Rattle.tlm_types.specs.declared.entry.Content.{Content}
use Rattle.tlm_types.specs.declared.words.TlmSync.{TlmSync}
use Rattle.tlm_types.specs.declared.words.TlmSync.TheVariants.{Accepted, Completed, Updated}
use Rattle.tlm_model.specs.Plan.{Plan}
use Rattle.plat_net.specs.Places.{hop_place}
use Rattle.node_hops.specs.Steps.{AddsAt}
use Rattle.router_moves.specs.Moves.{SendAdds, sent_as}

-- BEGIN_RESP was made, with whatever answer
pub sent_adds : (p : Plan) (hop : ℕ) (was : View Content Plan) (answer : TlmSync) (at : ℕ) (note : HeldNote Content Plan) → AddsAt (hop_place p hop) was note.knows → SendAdds p hop was (sent_as answer at note)
sent_adds p hop was Accepted at note a = a
sent_adds p hop was (Updated phase) at note a = a
sent_adds p hop was Completed at note a = a
