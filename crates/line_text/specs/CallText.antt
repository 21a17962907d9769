-- The rows of a table of calls.
use Rattle.std.specs.Prelude.{ℕ, ◌+◌, ◌*◌}
use Rattle.tlm_types.specs.declared.words.Phase.{Phase}
use Rattle.tlm_types.specs.declared.words.Phase.TheVariants.{BeginReq, EndReq, BeginResp, EndResp}
use Rattle.tlm_types.specs.declared.words.TlmSync.{TlmSync}
use Rattle.tlm_types.specs.declared.words.TlmSync.TheVariants.{Accepted, Updated, Completed}

abbrev pub phase_number : Phase → ℕ
phase_number BeginReq = 0
phase_number EndReq = 1
phase_number BeginResp = 2
phase_number EndResp = 3

abbrev pub answer_number : TlmSync → ℕ
answer_number Accepted = 0
answer_number (Updated phase) = 1 + phase_number phase
answer_number Completed = 5

-- the row of a call with this answer
abbrev pub call_row : Phase → TlmSync → ℕ
call_row phase answer = 4 * answer_number answer + phase_number phase
