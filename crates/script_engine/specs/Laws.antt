-- Laws over the definitions: how an engine's steps go through what its script asks for.
use Rattle.std.specs.Prelude.{◌≡◌, ℕ, ◌+◌, ◌++◌, List, [], length, true, false}
use Rattle.tlm_types.specs.declared.words.Command.{Command}
use Rattle.tlm_types.specs.declared.entry.Entry.{Entry}
use Rattle.tlm_model.specs.declared.platform.Platform.{Platform}
use Rattle.tlm_model.specs.Plan.{Initiator}
use Rattle.tlm_model.specs.Requests.{end_of, numbers_in, requests_of}
use Rattle.tlm_model.specs.Rounds.{syncs_from}
use Rattle.script_engine.specs.declared.op.Op.TheVariants.{Done}
use Rattle.script_engine.specs.declared.part.Part.TheVariants.{Asks}
use Rattle.script_engine.specs.declared.part.Transfer.{Transfer}
use Rattle.script_engine.specs.Part.{command_in, is_plain_kind}
use Rattle.generic_payload.specs.Payload.{PayloadView}
use Rattle.script_engine.specs.State.{State, begun_engine, next_of, op_of, is_fenced, payload_of, told_by, passed_by}
use Rattle.script_engine.specs.Asking.{IsAnswered, asked_by, end_at, numbers_at, requests_at, stage_after, syncs_at, syncs_then, time_after_op}

-- a new engine is to ask for all that its script asks for
pub record BeginsAtTheStart : Type 0 where
  pub requests : (p : Platform) (i : Initiator) (h : List Entry) (n : ℕ) → requests_at p i h 0 0 (begun_engine n i.script) ≡ requests_of p i h
  pub end : (p : Platform) (i : Initiator) (n : ℕ) → end_at p i 0 (begun_engine n i.script) ≡ end_of p i
  pub syncs : (p : Platform) (i : Initiator) (n : ℕ) → syncs_at p i 0 0 (begun_engine n i.script) ≡ syncs_from p i 0 0 i.script
  pub numbers : (i : Initiator) (n : ℕ) → numbers_at (begun_engine n i.script) ≡ numbers_in i.script

-- passing what is next asks for its request, and what is to be asked for after that is the rest
pub record PassesInOrder : Type 0 where
  pub requests : (p : Platform) (i : Initiator) (h : List Entry) (t g room : ℕ) (e : State) → is_fenced (op_of e) ≡ false →
      requests_at p i h t g e ≡ asked_by (op_of e) (payload_of e room) t g ++ requests_at p i h (time_after_op p i t (op_of e)) (stage_after (op_of e) g) (passed_by e)
  pub end : (p : Platform) (i : Initiator) (t : ℕ) (e : State) → is_fenced (op_of e) ≡ false →
      end_at p i t e ≡ end_at p i (time_after_op p i t (op_of e)) (passed_by e)
  pub syncs : (p : Platform) (i : Initiator) (now t : ℕ) (e : State) → is_fenced (op_of e) ≡ false → (op_of e ≡ Done → ⊥) →
      syncs_at p i now t e ≡ syncs_then p i now (time_after_op p i t (op_of e)) (op_of e) (passed_by e)
  pub numbers : (e : State) → is_fenced (op_of e) ≡ false → numbers_at (passed_by e) ≡ numbers_at e
  pub seq : (e : State) (room t g : ℕ) → is_fenced (op_of e) ≡ false → (passed_by e).seq ≡ e.seq + length (asked_by (op_of e) (payload_of e room) t g)

-- the same for an access that the engine waits for, by any history that answers it with the bytes that are told
pub record IsToldInOrder : Type 0 where
  pub requests : (p : Platform) (i : Initiator) (h : List Entry) (t g room : ℕ) (e : State) (got : List ℕ) → is_fenced (op_of e) ≡ true →
      IsAnswered p i h (op_of e) got →
      requests_at p i h t g e ≡ asked_by (op_of e) (payload_of e room) t g ++ requests_at p i h (time_after_op p i t (op_of e)) (stage_after (op_of e) g) (told_by e got)
  pub end : (p : Platform) (i : Initiator) (t : ℕ) (e : State) (got : List ℕ) → is_fenced (op_of e) ≡ true →
      end_at p i t e ≡ end_at p i (time_after_op p i t (op_of e)) (told_by e got)
  pub syncs : (p : Platform) (i : Initiator) (now t : ℕ) (e : State) (got : List ℕ) → is_fenced (op_of e) ≡ true →
      syncs_at p i now t e ≡ syncs_then p i now (time_after_op p i t (op_of e)) (op_of e) (told_by e got)
  pub numbers : (e : State) (got : List ℕ) → is_fenced (op_of e) ≡ true → numbers_at (told_by e got) ≡ numbers_at e
  pub seq : (e : State) (got : List ℕ) (room t g : ℕ) → is_fenced (op_of e) ≡ true → (told_by e got).seq ≡ e.seq + length (asked_by (op_of e) (payload_of e room) t g)

-- where the script has ended nothing is left
pub record EndsWithNothingLeft : Type 0 where
  pub requests : (p : Platform) (i : Initiator) (h : List Entry) (t g : ℕ) (e : State) → op_of e ≡ Done → requests_at p i h t g e ≡ []
  pub end : (p : Platform) (i : Initiator) (t : ℕ) (e : State) → op_of e ≡ Done → end_at p i t e ≡ t
  pub syncs : (p : Platform) (i : Initiator) (now t : ℕ) (e : State) → op_of e ≡ Done → syncs_at p i now t e ≡ 0
  pub numbers : (e : State) → op_of e ≡ Done → numbers_at e ≡ e.seq

-- the payload of a read, a write or an ignore command, and of a debug read
pub record IsPayload (payload : PayloadView) (a n : ℕ) (c : Command) : Type 0 where
  pub address : payload.address ≡ a
  pub sized : length payload.bytes ≡ n
  pub command : payload.command ≡ c

-- without byte enables and without streaming
pub record IsPlainPayload (payload : PayloadView) : Type 0 where
  pub enables : payload.enables ≡ []
  pub width : payload.width ≡ length payload.bytes

-- the payload is that of the transfer that is next, under the next sequence number
pub record FillsWhatIsNext : Type 0 where
  pub transfer : (e : State) (room : ℕ) (x : Transfer) → next_of e ≡ Asks x → (x.seq ≡ e.seq) × IsPayload (payload_of e room) x.address x.length (command_in x.kind)
  pub plain : (e : State) (room : ℕ) (x : Transfer) → next_of e ≡ Asks x → is_plain_kind x.kind ≡ true → IsPlainPayload (payload_of e room)
