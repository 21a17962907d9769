-- The calls of a transaction are of a sequence that the modes of the two ends make.
use Rattle.std.proofs.Common.{◌≡◌, ◌∙◌, ◌⊎◌, inl, inr, slice_get, ℕ, ◌≤◌, Bool, true, false, cond, List, [], ◌∷◌, ◌++◌, Some, refl, sym, ap}
use Rattle.std.specs.List.{count_by, fold}
use Rattle.tlm_types.specs.declared.words.Phase.TheVariants.{BeginReq, EndReq, BeginResp, EndResp}
use Rattle.tlm_types.specs.declared.words.TlmSync.{TlmSync}
use Rattle.tlm_types.specs.declared.words.TlmSync.TheVariants.{Accepted, Updated, Completed}
use Rattle.tlm_types.specs.declared.words.TxnId.{TxnId}
use Rattle.tlm_types.specs.declared.words.ReqMode.{ReqMode}
use Rattle.tlm_types.specs.declared.words.ReqMode.TheVariants as Req
use Rattle.tlm_types.specs.declared.words.RespMode.{RespMode}
use Rattle.tlm_types.specs.declared.words.RespMode.TheVariants as Resp
use Rattle.tlm_types.specs.declared.entry.What.{What}
use Rattle.tlm_types.specs.declared.entry.What.TheVariants.{Call as Called}
use Rattle.tlm_types.specs.declared.entry.Entry.{Entry}
use Rattle.base_phases.specs.declared.phases.LaneState.{LaneState}
use Rattle.base_phases.specs.declared.phases.LaneState.TheVariants.{Free, Requested, Waiting, Responding}
use Rattle.base_phases.specs.Phases.{next_state}
use Rattle.base_phases.specs.Sequences.{Call}
use Rattle.base_phases.specs.Walks.{after_call, is_begin, state_after}
use Rattle.base_phases.proofs.WalkLemmas.{free, one_gone, rest_none, stuck}
use Rattle.flow_model.specs.Answers.{is_responding, request_answer, response_answer}
use Rattle.flow_model.specs.Board.{Board, Rules, StepsBy, Reaches, any_in, start}
use Rattle.flow_model.specs.Calls.{calls_in, calls_of, is_of}
use Rattle.flow_model.specs.Lives.{of_txn}
use Rattle.flow_model.specs.Protocol.{BeginsOnce}
use Rattle.flow_model.specs.Table.{IsBegunIn, ending, hop_sequences}
use Rattle.flow_model.proofs.CallLemmas.{agrees}
use Rattle.flow_model.proofs.LaneLemmas.{state_in}

-- a call has an answer that the modes of the two ends give
abbrev IsModal : ReqMode → RespMode → Call → Type 0
IsModal req resp (BeginReq, answer) = (responding : Bool) × (answer ≡ request_answer req responding)
IsModal req resp (EndReq, answer) = Unit {0}
IsModal req resp (BeginResp, answer) = answer ≡ response_answer resp
IsModal req resp (EndResp, answer) = Unit {0}

abbrev AllModal : ReqMode → RespMode → List Call → Type 0
AllModal req resp [] = Unit {0}
AllModal req resp (c ∷ cs) = IsModal req resp c × AllModal req resp cs

modal_append : (req : ReqMode) (resp : RespMode) (cs ds : List Call) → AllModal req resp cs → AllModal req resp ds → AllModal req resp (cs ++ ds)
modal_append req resp [] ds h k = k
modal_append req resp (c ∷ cs) ds h k = (h.0, modal_append req resp cs ds h.1 k)

-- the calls and what is to come are this list
abbrev Completes : List Call → List Call → Type 0
Completes whole cs = (rest : List Call) × (cs ++ rest ≡ whole)

-- one call more in front
longer : (c : Call) (whole cs : List Call) → Completes whole cs → Completes (c ∷ whole) (c ∷ cs)
longer c whole cs q = (q.0, ap (λ (t : List Call). c ∷ t) q.1)

-- the last call
ended : (c : Call) (cs : List Call) → [] ≡ cs → Completes (c ∷ []) (c ∷ cs)
ended c cs none = ([], ap (λ (t : List Call). c ∷ (t ++ [])) (sym none))

from_responding : (cs : List Call) (s : LaneState) → fold after_call (Some Responding) cs ≡ Some s → count_by is_begin cs ≡ 0 → Completes ((EndResp, Completed) ∷ []) cs
from_responding [] s e z = ((EndResp, Completed) ∷ [], refl)
from_responding ((EndResp, Completed) ∷ cs) s e z = ended (EndResp, Completed) cs (free cs s e (rest_none (EndResp, Completed) cs z))
from_responding (c ∷ cs) s e z = absurd (stuck cs s e)

from_waiting : (req : ReqMode) (resp : RespMode) (cs : List Call) (s : LaneState) → fold after_call (Some Waiting) cs ≡ Some s → count_by is_begin cs ≡ 0 → AllModal req resp cs → Completes (ending resp) cs
from_waiting req resp [] s e z m = (ending resp, refl)
from_waiting req Resp.Accept ((BeginResp, Accepted) ∷ cs) s e z m = longer (BeginResp, Accepted) ((EndResp, Completed) ∷ []) cs (from_responding cs s e (rest_none (BeginResp, Accepted) cs z))
from_waiting req Resp.Accept ((BeginResp, answer) ∷ cs) s e z m = let wrong = m.0 in cc
from_waiting req Resp.EndResp ((BeginResp, Updated EndResp) ∷ cs) s e z m = ended (BeginResp, Updated EndResp) cs (free cs s e (rest_none (BeginResp, Updated EndResp) cs z))
from_waiting req Resp.EndResp ((BeginResp, answer) ∷ cs) s e z m = let wrong = m.0 in cc
from_waiting req Resp.Complete ((BeginResp, Completed) ∷ cs) s e z m = ended (BeginResp, Completed) cs (free cs s e (rest_none (BeginResp, Completed) cs z))
from_waiting req Resp.Complete ((BeginResp, answer) ∷ cs) s e z m = let wrong = m.0 in cc
from_waiting req resp (c ∷ cs) s e z m = absurd (stuck cs s e)

from_requested : (req : ReqMode) (resp : RespMode) (cs : List Call) (s : LaneState) → fold after_call (Some Requested) cs ≡ Some s → count_by is_begin cs ≡ 0 → AllModal req resp cs → Completes ((EndReq, Accepted) ∷ ending resp) cs ⊎ Completes (ending resp) cs
from_requested req resp [] s e z m = inr (ending resp, refl)
from_requested req resp ((EndReq, Accepted) ∷ cs) s e z m = inl (longer (EndReq, Accepted) (ending resp) cs (from_waiting req resp cs s e (rest_none (EndReq, Accepted) cs z) m.1))
from_requested req resp ((BeginResp, Accepted) ∷ cs) s e z m = inr (from_waiting req resp ((BeginResp, Accepted) ∷ cs) s e z m)
from_requested req resp ((BeginResp, Updated EndResp) ∷ cs) s e z m = inr (from_waiting req resp ((BeginResp, Updated EndResp) ∷ cs) s e z m)
from_requested req resp ((BeginResp, Completed) ∷ cs) s e z m = inr (from_waiting req resp ((BeginResp, Completed) ∷ cs) s e z m)
from_requested req resp (c ∷ cs) s e z m = absurd (stuck cs s e)

-- a row whose sequence has this first call and these others
row_at : (rows : List (List Call)) (k : ℕ) (c : Call) (whole cs : List Call) → slice_get rows k ≡ Some (c ∷ whole) → Completes whole cs → IsBegunIn rows (c ∷ cs)
row_at rows k c whole cs is q = (k, q.0, is ∙ ap (λ (t : List Call). Some (c ∷ t)) (sym q.1))

accepted_row : (resp : RespMode) (cs : List Call) → Completes ((EndReq, Accepted) ∷ ending resp) cs ⊎ Completes (ending resp) cs → IsBegunIn (hop_sequences Req.Accept resp) ((BeginReq, Accepted) ∷ cs)
accepted_row resp cs (inl q) = row_at (hop_sequences Req.Accept resp) 0 (BeginReq, Accepted) ((EndReq, Accepted) ∷ ending resp) cs refl q
accepted_row resp cs (inr q) = row_at (hop_sequences Req.Accept resp) 1 (BeginReq, Accepted) (ending resp) cs refl q

row_from : (req : ReqMode) (resp : RespMode) (answer : TlmSync) (cs : List Call) (s : LaneState) → fold after_call (next_state Free BeginReq answer) cs ≡ Some s → count_by is_begin cs ≡ 0 → (responding : Bool) → answer ≡ request_answer req responding → AllModal req resp cs → IsBegunIn (hop_sequences req resp) ((BeginReq, answer) ∷ cs)
row_from Req.Accept resp Accepted cs s e z o q m = accepted_row resp cs (from_requested Req.Accept resp cs s e z m)
row_from Req.Short resp Accepted cs s e z o q m = accepted_row resp cs (from_requested Req.Short resp cs s e z m)
row_from Req.EndReq resp (Updated EndReq) cs s e z o q m = row_at (hop_sequences Req.EndReq resp) 0 (BeginReq, Updated EndReq) (ending resp) cs refl (from_waiting Req.EndReq resp cs s e z m)
row_from Req.BeginResp resp (Updated BeginResp) cs s e z o q m = row_at (hop_sequences Req.BeginResp resp) 0 (BeginReq, Updated BeginResp) ((EndResp, Completed) ∷ []) cs refl (from_responding cs s e z)
row_from Req.BeginResp resp (Updated EndReq) cs s e z o q m = row_at (hop_sequences Req.BeginResp resp) 1 (BeginReq, Updated EndReq) (ending resp) cs refl (from_waiting Req.BeginResp resp cs s e z m)
row_from Req.Complete resp Completed cs s e z o q m = row_at (hop_sequences Req.Complete resp) 0 (BeginReq, Completed) [] cs refl ([], ap (λ (t : List Call). t ++ []) (sym (free cs s e z)))
row_from req resp answer cs s e z true q m = cc
row_from req resp answer cs s e z false q m = cc

row_none : (req : ReqMode) (resp : RespMode) → IsBegunIn (hop_sequences req resp) []
row_none Req.Accept resp = (0, (BeginReq, Accepted) ∷ (EndReq, Accepted) ∷ ending resp, refl)
row_none Req.Short resp = (0, (BeginReq, Accepted) ∷ (EndReq, Accepted) ∷ ending resp, refl)
row_none Req.EndReq resp = (0, (BeginReq, Updated EndReq) ∷ ending resp, refl)
row_none Req.BeginResp resp = (0, (BeginReq, Updated BeginResp) ∷ (EndResp, Completed) ∷ [], refl)
row_none Req.Complete resp = (0, (BeginReq, Completed) ∷ [], refl)

row_begun : (req : ReqMode) (resp : RespMode) (calls : List Call) (s : LaneState) → state_after calls ≡ Some s → count_by is_begin calls ≤ 1 → AllModal req resp calls → IsBegunIn (hop_sequences req resp) calls
row_begun req resp [] s e z m = row_none req resp
row_begun req resp ((BeginReq, answer) ∷ cs) s e z m = row_from req resp answer cs s e (one_gone answer cs z) m.0.0 m.0.1 m.1
row_begun req resp ((EndReq, answer) ∷ cs) s e z m = absurd (stuck cs s e)
row_begun req resp ((BeginResp, answer) ∷ cs) s e z m = absurd (stuck cs s e)
row_begun req resp ((EndResp, answer) ∷ cs) s e z m = absurd (stuck cs s e)

modal_in : (r : Rules) (b : Board) (e : Entry) (c : Board) (w : What) → StepsBy r b e w c → AllModal r.req r.resp (calls_in w)
modal_in r b e c (Called BeginReq answer) m = ((any_in is_responding b.lanes, m.answered), tt)
modal_in r b e c (Called EndReq answer) m = (tt, tt)
modal_in r b e c (Called BeginResp answer) m = (m.turn.1, tt)
modal_in r b e c (Called EndResp answer) m = (tt, tt)
modal_in r b e c w m = absurd m

modal_own : (req : ReqMode) (resp : RespMode) (own : Bool) (cs : List Call) → AllModal req resp cs → AllModal req resp (cond own cs [])
modal_own req resp true cs h = h
modal_own req resp false cs h = tt

modal_of : (x : TxnId) (r : Rules) (es : List Entry) (b d : Board) → Reaches r b es d → AllModal r.req r.resp (calls_of x es)
modal_of x r [] b d h = tt
modal_of x r (e ∷ es) b d h = modal_append r.req r.resp (cond (is_of x e) (calls_in e.what) []) (calls_of x es) (modal_own r.req r.resp (is_of x e) (calls_in e.what) (modal_in r b e h.0 e.what h.1)) (modal_of x r es h.0 d h.2)

pub follows_modes : (r : Rules) (log : List Entry) (d : Board) → Reaches r start log d → BeginsOnce log → (x : TxnId) → IsBegunIn (hop_sequences r.req r.resp) (calls_of x log)
follows_modes r log d h once x = row_begun r.req r.resp (calls_of x log) (state_in (of_txn x) d.lanes) (agrees r log d h once x) (once.once x) (modal_of x r log start d h)
