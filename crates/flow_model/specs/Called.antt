-- What is known of the calls of an access on a hop.
use Rattle.std.specs.Prelude.{ℕ, ◌≡◌, ◌≢◌, List, length}
use Rattle.tlm_types.specs.declared.words.Phase.{Phase}
use Rattle.tlm_types.specs.declared.words.Phase.TheVariants.{EndResp}
use Rattle.tlm_types.specs.declared.words.TlmSync.{TlmSync}
use Rattle.tlm_types.specs.declared.words.TxnId.{TxnId}
use Rattle.base_phases.specs.Sequences.{Call}
use Rattle.flow_model.specs.Table.{sequences_of}
use Rattle.flow_model.specs.World.{Passage, World, hop_at, row_of}
use Rattle.flow_model.specs.Events.{Among, Event, Finds, IsCall}

-- A sequence of n calls that the table gives the access on hop k: each of them is known but END_RESP, which the component above
-- makes once the access has ended on the hop before.
pub record HasCalled (w : World) (K : Event → Type 0) (x : TxnId) (pass : Passage) (k n : ℕ) : Type 0 where
  pub sequence : List Call
  pub given : Among (sequences_of (row_of w pass k) (w.hop (hop_at pass k)).resp) sequence
  pub long : length sequence ≡ n
  pub known : (phase : Phase) (answer : TlmSync) → Among sequence (phase, answer) → phase ≢ EndResp → Finds K (IsCall x (hop_at pass k) phase answer)
