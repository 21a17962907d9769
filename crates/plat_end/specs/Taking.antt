-- How the objects of a net are taken apart one after the other.
use Rattle.std.specs.Prelude.{ℕ, ◌≡◌, ◌≢◌, ◌+◌, ◌≤◌, List, length, sum_by, slice_index_or}
use mathlib.Core.Option.{some}
use lib.ListN.{get_elem?}
use Rattle.atomic_table.specs.Seated.{TableId}
use Rattle.one_history.specs.declared.view.Frame.{Frame}
use Rattle.one_history.specs.Held.{Held}
use Rattle.one_history.specs.Moves.{own_of}
use Rattle.token_book.specs.Purse.{Purse, left_of}
use Rattle.tlm_types.specs.declared.entry.Content.{Content}
use Rattle.entry_log.specs.Log.{LogView}
use Rattle.tlm_model.specs.Plan.{Plan}
use Rattle.plat_end.specs.Apart.{HaveLeftLogs}

-- how many tickets the wallets have together of the object with this number
abbrev pub tickets_at : ℕ → List Purse → ℕ
tickets_at n wallets = sum_by (λ (w : Purse). left_of w n) wallets

-- they have as many as before of all objects but that with number n
abbrev pub HaveSameBut : ℕ → List Purse → List Purse → Type 0
HaveSameBut n old new = (k : ℕ) → k ≢ n → tickets_at k new ≡ tickets_at k old

-- the entries of object n and the tickets of it that the wallets have are no more than planned
abbrev pub IsPaid : Frame Plan → ℕ → List Purse → Held Content Plan → Type 0
IsPaid frame n wallets seat = length (own_of seat.knows) + tickets_at n wallets ≤ slice_index_or frame.planned n 0

-- The first objects of the history are taken apart. At the start the wallets had no more tickets of them than there was room for, and of all
-- later objects they still have what they had then.
pub record IsTaken (table : TableId) (frame : Frame Plan) (start now : List Purse) (logs : List LogView) (seats : List (Held Content Plan)) : Type 0 where
  pub logs_left : HaveLeftLogs table frame logs seats
  pub paid : (k : ℕ) (seat : Held Content Plan) → get_elem? seats k ≡ some seat → IsPaid frame k start seat
  pub same : (k : ℕ) → length seats ≤ k → tickets_at k now ≡ tickets_at k start
