-- The rows of the table of calls.
use Rattle.std.proofs.Common.{◌≡◌, ◌+◌, ◌≤◌, List, ℕ, [], ◌++◌, length, take, refl, sym, ap, ◌∙◌, arith}
use Rattle.std.specs.Prelude.{codes, slice_index_or}
use Rattle.tlm_types.specs.declared.entry.What.TheVariants.{Call}
use Rattle.tlm_types.specs.declared.words.Phase.{Phase}
use Rattle.tlm_types.specs.declared.words.Phase.TheVariants.{BeginReq, EndReq, BeginResp, EndResp}
use Rattle.tlm_types.specs.declared.words.TlmSync.{TlmSync}
use Rattle.tlm_types.specs.declared.words.TlmSync.TheVariants.{Accepted, Updated, Completed}
use Rattle.report_model.specs.Report.{what_words}
use Rattle.tlm_model.specs.Text.{line_of}
use Rattle.line_text.specs.declared.call.TheConstants.{CALLS, LENGTHS}
use Rattle.line_text.specs.CallText.{call_row}
use Rattle.line_text.specs.Pieces.{Adds}
use Rattle.line_text.proofs.Adding.{adds-part}

-- a row begins with the words of its call
pub call-text : (p : Phase) (a : TlmSync) → take (slice_index_or LENGTHS (call_row p a) 0) (slice_index_or CALLS (call_row p a) []) ≡ codes " " ++ line_of (what_words (Call p a))
call-text BeginReq Accepted = refl
call-text EndReq Accepted = refl
call-text BeginResp Accepted = refl
call-text EndResp Accepted = refl
call-text BeginReq (Updated BeginReq) = refl
call-text EndReq (Updated BeginReq) = refl
call-text BeginResp (Updated BeginReq) = refl
call-text EndResp (Updated BeginReq) = refl
call-text BeginReq (Updated EndReq) = refl
call-text EndReq (Updated EndReq) = refl
call-text BeginResp (Updated EndReq) = refl
call-text EndResp (Updated EndReq) = refl
call-text BeginReq (Updated BeginResp) = refl
call-text EndReq (Updated BeginResp) = refl
call-text BeginResp (Updated BeginResp) = refl
call-text EndResp (Updated BeginResp) = refl
call-text BeginReq (Updated EndResp) = refl
call-text EndReq (Updated EndResp) = refl
call-text BeginResp (Updated EndResp) = refl
call-text EndResp (Updated EndResp) = refl
call-text BeginReq Completed = refl
call-text EndReq Completed = refl
call-text BeginResp Completed = refl
call-text EndResp Completed = refl

-- it has 32 bytes, of which no more are words
call-size : (p : Phase) (a : TlmSync) → (length (slice_index_or CALLS (call_row p a) []) ≡ 32) × (slice_index_or LENGTHS (call_row p a) 0 ≤ 32)
call-size BeginReq Accepted = (refl, omega arith)
call-size EndReq Accepted = (refl, omega arith)
call-size BeginResp Accepted = (refl, omega arith)
call-size EndResp Accepted = (refl, omega arith)
call-size BeginReq (Updated BeginReq) = (refl, omega arith)
call-size EndReq (Updated BeginReq) = (refl, omega arith)
call-size BeginResp (Updated BeginReq) = (refl, omega arith)
call-size EndResp (Updated BeginReq) = (refl, omega arith)
call-size BeginReq (Updated EndReq) = (refl, omega arith)
call-size EndReq (Updated EndReq) = (refl, omega arith)
call-size BeginResp (Updated EndReq) = (refl, omega arith)
call-size EndResp (Updated EndReq) = (refl, omega arith)
call-size BeginReq (Updated BeginResp) = (refl, omega arith)
call-size EndReq (Updated BeginResp) = (refl, omega arith)
call-size BeginResp (Updated BeginResp) = (refl, omega arith)
call-size EndResp (Updated BeginResp) = (refl, omega arith)
call-size BeginReq (Updated EndResp) = (refl, omega arith)
call-size EndReq (Updated EndResp) = (refl, omega arith)
call-size BeginResp (Updated EndResp) = (refl, omega arith)
call-size EndResp (Updated EndResp) = (refl, omega arith)
call-size BeginReq Completed = (refl, omega arith)
call-size EndReq Completed = (refl, omega arith)
call-size BeginResp Completed = (refl, omega arith)
call-size EndResp Completed = (refl, omega arith)

-- where a row was written, up to the end of its words
pub adds-call : (old new : List ℕ) (start end : ℕ) (p : Phase) (a : TlmSync) → start ≤ length old → Adds old new start end (slice_index_or CALLS (call_row p a) []) →
    Adds old new start (start + slice_index_or LENGTHS (call_row p a) 0) (codes " " ++ line_of (what_words (Call p a)))
adds-call old new start end p a within row =
    let size = call-size p a in
    let all = slice_index_or CALLS (call_row p a) [] in
    let front : take (start + length all) new ≡ take start old ++ all = ap (λ (n : ℕ). take n new) (sym row.ends) ∙ row.holds in
    adds-part old new all _ start (slice_index_or LENGTHS (call_row p a) 0) within (omega (arith, size.0, size.1)) front (call-text p a)
