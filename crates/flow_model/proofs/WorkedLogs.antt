-- Worked logs, by computing the definitions.
use Rattle.std.proofs.Common.{◌≡◌, ◌≢◌, ◌≤◌, ◌∙◌, [], ◌∷◌, Some, refl, ap, lit<, lit≤, arith}
use Rattle.std.specs.Prelude.{All, AllPairs}
use Rattle.std.specs.List.{AllByRecursion}
use Rattle.std.proofs.lemmas.Bool.{true≢false}
use Rattle.std.proofs.lemmas.List.Elements.{All-cons, All-nil}
use Rattle.std.proofs.lemmas.List.Kept.{AllPairs-cons}
use Rattle.tlm_types.specs.declared.words.Phase.TheVariants.{BeginReq, EndReq, BeginResp, EndResp}
use Rattle.tlm_types.specs.declared.words.TlmSync.TheVariants.{Accepted, Updated, Completed}
use Rattle.tlm_types.specs.declared.words.TxnId.{TxnId}
use Rattle.tlm_types.specs.declared.words.ReqMode.{ReqMode}
use Rattle.tlm_types.specs.declared.words.ReqMode.TheVariants as Req
use Rattle.tlm_types.specs.declared.words.RespMode.{RespMode}
use Rattle.tlm_types.specs.declared.words.RespMode.TheVariants as Resp
use Rattle.base_phases.specs.declared.phases.LaneState.TheVariants.{Free, Requested, Waiting, Responding}
use Rattle.base_phases.specs.Sequences.{IsSequence}
use Rattle.base_phases.proofs.WalkLemmas.{whole_free}
use Rattle.flow_model.specs.Board.{Begins, Moves, start}
use Rattle.flow_model.specs.ByRules.{KeepsRules}
use Rattle.flow_model.specs.Calls.{calls_of}
use Rattle.flow_model.specs.Protocol.{IsExclusive, IsUnderWay}
use Rattle.flow_model.specs.Table.{sequences_of}
use Rattle.flow_model.specs.Worked.{Passes, board, by_return, call, crowded, hasty_request, returned, first, lane, second, second_request, second_response, slow_response, taking_turns, third, turns, two_lanes}

first_begins : Begins two_lanes start (call 0 first 0 BeginReq Accepted) Accepted (board (lane first 0 Requested 0 ∷ []) 0 0)
first_begins = record { alone = refl; room = lit< tt; answered = refl; late = lit≤ tt; state = Requested; allowed = refl; after = refl }

first_waits : Moves two_lanes (board (lane first 0 Requested 0 ∷ []) 0 0) (call 1 first 4 EndReq Accepted) EndReq Accepted (board (lane first 0 Waiting 4 ∷ []) 4 0)
first_waits = record { before = []; lane = lane first 0 Requested 0; behind = []; here = refl; txn = refl; late = lit≤ tt; turn = tt; state = Waiting; allowed = refl; after = refl }

second_begins : Begins two_lanes (board (lane first 0 Waiting 4 ∷ []) 4 0) (call 2 second 4 BeginReq Accepted) Accepted (board (lane first 0 Waiting 4 ∷ lane second 2 Requested 4 ∷ []) 4 0)
second_begins = record { alone = refl; room = lit< tt; answered = refl; late = lit≤ tt; state = Requested; allowed = refl; after = refl }

second_responds : Moves two_lanes (board (lane first 0 Waiting 4 ∷ lane second 2 Requested 4 ∷ []) 4 0) (call 3 second 6 BeginResp Accepted) BeginResp Accepted (board (lane first 0 Waiting 4 ∷ lane second 2 Responding 6 ∷ []) 6 0)
second_responds = record { before = lane first 0 Waiting 4 ∷ []; lane = lane second 2 Requested 4; behind = []; here = refl; txn = refl; late = lit≤ tt; turn = (refl, refl, lit≤ tt); state = Responding; allowed = refl; after = refl }

second_ends : Moves two_lanes (board (lane first 0 Waiting 4 ∷ lane second 2 Responding 6 ∷ []) 6 0) (call 4 second 7 EndResp Completed) EndResp Completed (board (lane first 0 Waiting 4 ∷ []) 6 7)
second_ends = record { before = lane first 0 Waiting 4 ∷ []; lane = lane second 2 Responding 6; behind = []; here = refl; txn = refl; late = lit≤ tt; turn = tt; state = Free; allowed = refl; after = refl }

third_begins : Begins two_lanes (board (lane first 0 Waiting 4 ∷ []) 6 7) (call 5 third 6 BeginReq Accepted) Accepted (board (lane first 0 Waiting 4 ∷ lane third 5 Requested 6 ∷ []) 6 7)
third_begins = record { alone = refl; room = lit< tt; answered = refl; late = lit≤ tt; state = Requested; allowed = refl; after = refl }

first_responds : Moves two_lanes (board (lane first 0 Waiting 4 ∷ lane third 5 Requested 6 ∷ []) 6 7) (call 6 first 7 BeginResp Accepted) BeginResp Accepted (board (lane first 0 Responding 7 ∷ lane third 5 Requested 6 ∷ []) 6 7)
first_responds = record { before = []; lane = lane first 0 Waiting 4; behind = lane third 5 Requested 6 ∷ []; here = refl; txn = refl; late = lit≤ tt; turn = (refl, refl, lit≤ tt); state = Responding; allowed = refl; after = refl }

pub turns_pass : Passes two_lanes start taking_turns turns
turns_pass = (first_begins, (first_waits, (second_begins, (second_responds, (second_ends, (third_begins, (first_responds, tt)))))))

pub turns_by_rules : KeepsRules two_lanes taking_turns
turns_by_rules = ((refl, lit≤ tt), ((tt, lit≤ tt), ((refl, lit≤ tt), ((refl, (lit≤ tt, lit≤ tt)), ((tt, lit≤ tt), ((refl, lit≤ tt), ((refl, (lit≤ tt, lit≤ tt)), tt)))))))

pub returned_by_rules : KeepsRules by_return returned
returned_by_rules = ((refl, lit≤ tt), ((refl, lit≤ tt), ((tt, lit≤ tt), ((refl, (lit≤ tt, lit≤ tt)), tt))))

pub slow_by_rules : KeepsRules by_return slow_response
slow_by_rules = ((refl, lit≤ tt), ((tt, lit≤ tt), ((refl, lit≤ tt), ((tt, lit≤ tt), tt))))

pub hasty_breaks_rules : ¬ KeepsRules two_lanes hasty_request
hasty_breaks_rules k = let wrong : 4 ≤ 3 = k.1.1.0.1 in absurd (omega arith)

pub request_not_exclusive : ¬ IsExclusive 2 second_request
request_not_exclusive e = true≢false (e.requests.1.0 first refl)

pub response_not_exclusive : ¬ IsExclusive 2 second_response
response_not_exclusive e = true≢false (e.responses.1.0 first refl)

not_same : first ≢ second
not_same e = let seq : first.seq ≡ second.seq = ap (λ (x : TxnId). x.seq) e in absurd (omega arith)

waiting_not_whole : ¬ IsSequence ((BeginReq, Updated EndReq) ∷ [])
waiting_not_whole w = let z : Some Waiting ≡ Some Free = whole_free ((BeginReq, Updated EndReq) ∷ []) w in cc

under_way : (x : TxnId) → calls_of x crowded ≡ (BeginReq, Updated EndReq) ∷ [] → IsUnderWay crowded x
under_way x e = record { begun = none; unended = not_whole }
  where
    none : ¬ (calls_of x crowded ≡ [])
    none f = cc

    not_whole : ¬ IsSequence (calls_of x crowded)
    not_whole w = waiting_not_whole (w.0, w.1 ∙ ap Some e)

pub crowded_not_exclusive : ¬ IsExclusive 1 crowded
crowded_not_exclusive e =
    let R : TxnId → TxnId → Type 0 = λ x y. x ≢ y in
    let P : TxnId → Type 0 = IsUnderWay crowded in
    let one : AllPairs R (second ∷ []) = AllPairs-cons R second [] (All-nil (R second)) (λ i j d order within. absurd (omega arith)) in
    let differ : AllPairs R (first ∷ second ∷ []) = AllPairs-cons R first (second ∷ []) (All-cons (R first) second [] not_same (All-nil (R first))) one in
    let each : All P (first ∷ second ∷ []) = All-cons P first (second ∷ []) (under_way first refl) (All-cons P second [] (under_way second refl) (All-nil P)) in
    let wrong = e.lanes.1.0 (first ∷ second ∷ []) differ each in
    absurd (omega arith)

pub rows : (req : ReqMode) (resp : RespMode) → AllByRecursion IsSequence (sequences_of req resp)
rows Req.Accept Resp.Accept = ((5, refl), tt)
rows Req.Accept Resp.EndResp = ((6, refl), tt)
rows Req.Accept Resp.Complete = ((7, refl), tt)
rows Req.Short Resp.Accept = ((8, refl), tt)
rows Req.Short Resp.EndResp = ((9, refl), tt)
rows Req.Short Resp.Complete = ((10, refl), tt)
rows Req.EndReq Resp.Accept = ((2, refl), tt)
rows Req.EndReq Resp.EndResp = ((3, refl), tt)
rows Req.EndReq Resp.Complete = ((4, refl), tt)
rows Req.BeginResp Resp.Accept = ((1, refl), ((2, refl), tt))
rows Req.BeginResp Resp.EndResp = ((1, refl), ((3, refl), tt))
rows Req.BeginResp Resp.Complete = ((1, refl), ((4, refl), tt))
rows Req.Complete resp = ((0, refl), tt)
