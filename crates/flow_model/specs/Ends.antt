-- When accesses end, as numbers computed from a history.
use Rattle.std.specs.Prelude.{ℕ, List, [], ◌∷◌, Option, Some, None, Bool, true, false, ◌&&◌, if◌then◌else◌, unwrap_or}
use Rattle.tlm_types.specs.declared.words.ObjectNo.TheVariants.{Hop}
use Rattle.tlm_types.specs.declared.words.Phase.{Phase}
use Rattle.tlm_types.specs.declared.words.Phase.TheVariants.{BeginReq, EndReq, BeginResp, EndResp}
use Rattle.tlm_types.specs.declared.words.TlmSync.TheVariants.{Completed}
use Rattle.tlm_types.specs.declared.words.TxnId.{TxnId}
use Rattle.tlm_types.specs.declared.entry.Entry.{Entry}
use Rattle.tlm_types.specs.declared.entry.What.{What}
use Rattle.tlm_types.specs.declared.entry.What.TheVariants.{Call as Called}
use Rattle.tlm_model.specs.History.{entries_at}
use Rattle.tlm_model.specs.Route.{later}
use Rattle.base_phases.specs.Sequences.{Call}
use Rattle.flow_model.specs.ByRules.{last_time}
use Rattle.flow_model.specs.Calls.{calls_of, is_of}
use Rattle.flow_model.specs.World.{World, Passage}

abbrev pub is_same_phase : Phase → Phase → Bool
is_same_phase BeginReq BeginReq = true
is_same_phase EndReq EndReq = true
is_same_phase BeginResp BeginResp = true
is_same_phase EndResp EndResp = true
is_same_phase _ _ = false

abbrev pub has_phase : Phase → What → Bool
has_phase p (Called q answer) = is_same_phase p q
has_phase p _ = false

-- the time of the first call of x with this phase in a hop's log
abbrev pub phase_time : TxnId → Phase → List Entry → Option ℕ
phase_time x p [] = None
phase_time x p (e ∷ log) = if is_of x e && has_phase p e.what then Some e.time else phase_time x p log

-- the time at which the response of x is there on the first of these hops, which are the rest of its way: that of BEGIN_RESP; where
-- the response came with the answer to BEGIN_REQ, the time at which it is there on the next hop, and on the last hop that of
-- BEGIN_REQ and the latency of the component below
abbrev pub response_time : World → TxnId → List Entry → List ℕ → ℕ
response_time w x h [] = 0
response_time w x h (o ∷ []) = unwrap_or (phase_time x BeginResp (entries_at (Hop o) h)) (later (unwrap_or (phase_time x BeginReq (entries_at (Hop o) h)) 0) (w.hop o).latency)
response_time w x h (o ∷ p ∷ rest) = unwrap_or (phase_time x BeginResp (entries_at (Hop o) h)) (response_time w x h (p ∷ rest))

-- the access was completed with its BEGIN_REQ
abbrev pub is_completed : List Call → Bool
is_completed ((BeginReq, Completed) ∷ calls) = true
is_completed calls = false

-- the end of an access on the first of these hops, once it has ended there
abbrev pub end_time : World → TxnId → List Entry → List ℕ → ℕ
end_time w x h [] = 0
end_time w x h (o ∷ rest) = if is_completed (calls_of x (entries_at (Hop o) h)) then response_time w x h (o ∷ rest) else last_time x (entries_at (Hop o) h)

-- the ends on each of its hops, in order
abbrev pub end_times : World → TxnId → List Entry → List ℕ → List ℕ
end_times w x h [] = []
end_times w x h (o ∷ rest) = end_time w x h (o ∷ rest) ∷ end_times w x h rest

abbrev pub end_by : World → TxnId → List Entry → Option Passage → ℕ
end_by w x h None = 0
end_by w x h (Some pass) = end_time w x h pass.hops

-- the end of an access: that on its first hop
abbrev pub access_end : World → List Entry → TxnId → ℕ
access_end w h x = end_by w x h (w.passage x)
