-- What each premise of the law is for: small histories that have all others, and miss a conclusion.
use Rattle.std.specs.Prelude.{ℕ, ◌≡◌, ◌^◌, List, [], ◌∷◌, Option, Some, None, Bool, true, false}
use Rattle.tlm_types.specs.declared.words.ObjectNo.TheVariants.{Hop, Pool}
use Rattle.tlm_types.specs.declared.words.Phase.TheVariants.{BeginReq, EndReq, BeginResp, EndResp}
use Rattle.tlm_types.specs.declared.words.ReqMode.{ReqMode}
use Rattle.tlm_types.specs.declared.words.ReqMode.TheVariants as Req
use Rattle.tlm_types.specs.declared.words.RespMode.TheVariants as Resp
use Rattle.tlm_types.specs.declared.words.TlmSync.{TlmSync}
use Rattle.tlm_types.specs.declared.words.TlmSync.TheVariants.{Accepted, Updated, Completed}
use Rattle.tlm_types.specs.declared.words.TxnId.{TxnId}
use Rattle.tlm_types.specs.declared.entry.Entry.{Entry}
use Rattle.tlm_types.specs.declared.entry.What.TheVariants.{Call}
use Rattle.tlm_model.specs.Each.{AtEach}
use Rattle.tlm_model.specs.Requests.{is_txn}
use Rattle.flow_model.specs.Calls.{has_open_request}
use Rattle.flow_model.specs.Protocol.{BeginsOnce}
use Rattle.flow_model.specs.World.{HopEnds, Passage, World}
use Rattle.flow_model.specs.Events.{Event, Among, Finds, IsAccess, IsTake, at, entries, hop_log}
use Rattle.flow_model.specs.Backed.{IsBacked}
use Rattle.flow_model.specs.Pools.{IsPoolLog, TakesOnce}
use Rattle.flow_model.specs.Law.{HasSteps}
use Rattle.flow_check.specs.Worked.{acquire, call, take, written}

-- the premises but those on the world and on the greatest time
pub record HasLogs (w : World) (slots : ℕ → ℕ) (issued : List Entry → TxnId → ℕ) (h : List Event) : Type 0 where
  pub backed : AtEach (λ before e. IsBacked w (Among before) e) h
  pub hops : (o : ℕ) → HasSteps w o h
  pub marks : (o : ℕ) → AtEach (λ before e. (a : TlmSync) → e.what ≡ Call BeginResp a → e.number ≡ 1 → has_open_request e.txn (entries before) ≡ true) (at (Hop o) h)
  pub pools : (i : ℕ) → IsPoolLog (slots i) (at (Pool i) h)
  pub one_take : (i : ℕ) → TakesOnce (at (Pool i) h)
  pub one_access : AtEach (λ before e. (x : TxnId) → IsAccess x e → ¬ Finds (Among before) (IsAccess x)) h
  pub one_begin : (o : ℕ) → BeginsOnce (hop_log o h)
  pub unrouted : (x : TxnId) (pass : Passage) → w.passage x ≡ Some pass → pass.routed ≡ false → (e : Event) → Among h e → ¬ IsAccess x e
  pub takes : AtEach (λ before e. (x : TxnId) → IsTake x e → e.time ≡ issued (entries before) x) h

abbrev pub only : Bool → Passage → Option Passage
only true pass = Some pass
only false pass = None

-- a world of one hop and one access
abbrev pub world_with : HopEnds → Passage → World
world_with ends pass = record { hop = λ o. ends; passage = λ x. only (is_txn 0 0 x) pass }

abbrev pub ends_with : ReqMode → Bool → HopEnds
ends_with reply to_memory = record { rules = record { limit = 4; req = reply; resp = Resp.Accept }; to_memory = to_memory; latency = 10 }

abbrev pub four_slots : ℕ → ℕ
four_slots i = 4

-- all accesses are issued at this time
abbrev pub issued_at : ℕ → List Entry → TxnId → ℕ
issued_at time before x = time

-- past the greatest time a sum of times stands still, and is less than what was added to: the response is there before its request
unfoldable pub late_world : World
late_world = world_with (ends_with Req.BeginResp true) (record { hops = 0 ∷ []; routed = true })

unfoldable pub late : List Event
late = take 0 (2 ^ 64) ∷ acquire 1 (2 ^ 64) 0 ∷ call 2 0 (2 ^ 64) BeginReq (Updated BeginResp) ∷ written 3 (2 ^ 64) ∷ call 4 0 (2 ^ 64) EndResp Completed ∷ []

-- a way that passes a hop twice has two rows for it
unfoldable pub looping_world : World
looping_world = world_with (ends_with Req.Accept false) (record { hops = 0 ∷ 0 ∷ []; routed = false })

unfoldable pub looping : List Event
looping = take 0 0 ∷ acquire 1 0 0 ∷ call 2 0 0 BeginReq Accepted ∷ call 3 0 0 EndReq Accepted ∷ []
