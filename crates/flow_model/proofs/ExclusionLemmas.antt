-- One request, one response, and no more transactions than lanes.
use Rattle.std.proofs.Common.{◌≡◌, ℕ, zero, suc, ◌≤◌, true, false, List, [], ◌∷◌, ◌++◌, Some, refl, sym, ap, ◌∙◌, arith}
use Rattle.std.proofs.lemmas.Bool.{true≢false}
use Rattle.std.proofs.lemmas.List.Elements.{All-weaker}
use Rattle.tlm_types.specs.declared.words.Phase.TheVariants.{BeginReq, EndReq, BeginResp, EndResp}
use Rattle.tlm_types.specs.declared.words.TlmSync.{TlmSync}
use Rattle.tlm_types.specs.declared.words.TxnId.{TxnId}
use Rattle.tlm_types.specs.declared.words.ReqMode.{ReqMode}
use Rattle.tlm_types.specs.declared.words.ReqMode.TheVariants as Req
use Rattle.tlm_types.specs.declared.entry.What.{What}
use Rattle.tlm_types.specs.declared.entry.What.TheVariants.{Call as Called}
use Rattle.tlm_types.specs.declared.entry.Entry.{Entry}
use Rattle.base_phases.specs.Walks.{state_after}
use Rattle.base_phases.proofs.WalkLemmas.{whole}
use Rattle.flow_model.specs.Answers.{is_requested, is_responding, request_answer}
use Rattle.flow_model.specs.Board.{Board, Rules, Steps, StepsBy, Reaches, any_in, start}
use Rattle.flow_model.specs.Calls.{begins_request, begins_response, calls_of}
use Rattle.flow_model.specs.Lives.{of_txn}
use Rattle.flow_model.specs.Protocol.{BeginsOnce, FitsLanes, IsExclusive, IsUnderWay, KeepsRequest, KeepsResponse}
use Rattle.flow_model.proofs.CallLemmas.{agrees, at_each, once_before}
use Rattle.flow_model.proofs.FlagLemmas.{open_request, open_response}
use Rattle.flow_model.proofs.LaneLemmas.{held, in_any, none_held, state_in}
use Rattle.flow_model.proofs.RoomLemmas.{no_more, room_kept}
use Rattle.flow_model.proofs.StepLemmas.{reaches_push}

-- no BEGIN_REQ is taken while a lane is Requested
no_request : (r : Rules) (b : Board) (e : Entry) (c : Board) (w : What) → StepsBy r b e w c → any_in is_requested b.lanes ≡ true → begins_request w ≡ false
no_request r b e c (Called BeginReq answer) m any = absurd (true≢false (sym any ∙ m.alone))
no_request r b e c (Called EndReq answer) m any = refl
no_request r b e c (Called BeginResp answer) m any = refl
no_request r b e c (Called EndResp answer) m any = refl
no_request r b e c w m any = absurd m

-- while a response is open, none comes with the answer to BEGIN_REQ
by_return : (mode : ReqMode) → begins_response (Called BeginReq (request_answer mode true)) ≡ false
by_return Req.Accept = refl
by_return Req.Short = refl
by_return Req.EndReq = refl
by_return Req.BeginResp = refl
by_return Req.Complete = refl

-- no response begins while a lane is Responding
no_response : (r : Rules) (b : Board) (e : Entry) (c : Board) (w : What) → StepsBy r b e w c → any_in is_responding b.lanes ≡ true → begins_response w ≡ false
no_response r b e c (Called BeginReq answer) m any = ap (λ (a : TlmSync). begins_response (Called BeginReq a)) (m.answered ∙ ap (request_answer r.req) any) ∙ by_return r.req
no_response r b e c (Called EndReq answer) m any = refl
no_response r b e c (Called BeginResp answer) m any = absurd (true≢false (sym any ∙ m.turn.0))
no_response r b e c (Called EndResp answer) m any = refl
no_response r b e c w m any = absurd m

-- a transaction under way has a lane
has_one : (r : Rules) (log : List Entry) (d : Board) → Reaches r start log d → BeginsOnce log → (x : TxnId) → IsUnderWay log x → 1 ≤ held (of_txn x) d.lanes
has_one r log d h once x u = by_count (held (of_txn x) d.lanes) refl
  where
    by_count : (n : ℕ) → held (of_txn x) d.lanes ≡ n → 1 ≤ held (of_txn x) d.lanes
    by_count zero z = absurd (u.unended (whole (calls_of x log) (agrees r log d h once x ∙ ap Some (none_held (of_txn x) d.lanes z)) (once.once x) u.begun))
    by_count (suc n) z = omega arith

module _ (r : Rules) (before : List Entry) (e : Entry) (b c : Board) (there : Reaches r start before b) (m : Steps r b e c) (once : BeginsOnce (before ++ e ∷ [])) where
  state_of : (x : TxnId) → state_after (calls_of x before) ≡ Some (state_in (of_txn x) b.lanes)
  state_of x = agrees r before b there (once_before before (e ∷ []) once) x

  keeps_request : KeepsRequest before e
  keeps_request = λ x still. no_request r b e c e.what m (in_any is_requested refl (of_txn x) b.lanes (sym (open_request (calls_of x before) (state_in (of_txn x) b.lanes) (state_of x)) ∙ still))

  keeps_response : KeepsResponse before e
  keeps_response = λ x still. no_response r b e c e.what m (in_any is_responding refl (of_txn x) b.lanes (sym (open_response (calls_of x before) (state_in (of_txn x) b.lanes) (state_of x)) ∙ still))

  fits_lanes : FitsLanes r.limit before e
  fits_lanes = λ xs differ each.
      let now = reaches_push r before start b e c there m in
      let few = room_kept r (before ++ e ∷ []) start c now (omega arith) in
      let all = All-weaker (IsUnderWay (before ++ e ∷ [])) (λ x. 1 ≤ held (of_txn x) c.lanes) (λ x u. has_one r (before ++ e ∷ []) c now once x u) xs each in
      let fit = no_more xs c.lanes differ all in
      omega arith

pub exclusive : (r : Rules) (log : List Entry) (d : Board) → Reaches r start log d → BeginsOnce log → IsExclusive r.limit log
exclusive r log d h once = record {
  requests = at_each r KeepsRequest (λ before e b c there m o. keeps_request r before e b c there m o) log d h once;
  responses = at_each r KeepsResponse (λ before e b c there m o. keeps_response r before e b c there m o) log d h once;
  lanes = at_each r (FitsLanes r.limit) (λ before e b c there m o. fits_lanes r before e b c there m o) log d h once;
}
