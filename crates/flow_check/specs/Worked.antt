-- Worked four-phase histories, made by hand.
use Rattle.std.specs.Prelude.{ℕ, List, [], ◌∷◌, codes, true, false, None}
use Rattle.tlm_types.specs.declared.words.Command.TheVariants.{Read as read_command, Write as write_command}
use Rattle.tlm_types.specs.declared.words.ObjectNo.{ObjectNo}
use Rattle.tlm_types.specs.declared.words.ObjectNo.TheVariants.{Memory as at_memory, Hop, Pool}
use Rattle.tlm_types.specs.declared.words.Phase.{Phase}
use Rattle.tlm_types.specs.declared.words.Phase.TheVariants.{BeginReq, EndReq, BeginResp, EndResp}
use Rattle.tlm_types.specs.declared.words.ReqMode.{ReqMode}
use Rattle.tlm_types.specs.declared.words.ReqMode.TheVariants as Req
use Rattle.tlm_types.specs.declared.words.RespMode.{RespMode}
use Rattle.tlm_types.specs.declared.words.RespMode.TheVariants as Resp
use Rattle.tlm_types.specs.declared.words.Response.TheVariants.{Ok}
use Rattle.tlm_types.specs.declared.words.TlmSync.{TlmSync}
use Rattle.tlm_types.specs.declared.words.TlmSync.TheVariants.{Accepted, Updated, Completed}
use Rattle.tlm_types.specs.declared.words.Way.TheVariants.{FourPhase, Debug as by_debug}
use Rattle.tlm_types.specs.declared.entry.What.{What}
use Rattle.tlm_types.specs.declared.entry.What.TheVariants.{Access as Accessed, Call as Called, Take, Acquire, Release}
use Rattle.tlm_model.specs.declared.operation.Operation.{Operation}
use Rattle.tlm_model.specs.declared.operation.Operation.TheVariants.{Write, Debug, Fence}
use Rattle.tlm_model.specs.declared.platform.RouterRow.{RouterRow}
use Rattle.tlm_model.specs.declared.platform.Style.TheVariants.{FourPhase as fourphase_style}
use Rattle.tlm_model.specs.declared.platform.Target.{Target}
use Rattle.tlm_model.specs.declared.platform.Target.TheVariants.{Router, Memory}
use Rattle.tlm_model.specs.Plan.{Plan}
use Rattle.flow_model.specs.Events.{Event, entries}
use Rattle.flow_model.specs.Issue.{issue_time}
use Rattle.flow_model.specs.Platform.{world_of}
use Rattle.flow_model.specs.Traffic.{slots_of}
use Rattle.flow_model.specs.Law.{Premises}
use Rattle.good_history.specs.Good.{IsGood}

-- one four-phase initiator `dma`, these routers, and a memory `ram` of so many bytes and 10 ps
abbrev pub plan_of : ReqMode → RespMode → ℕ → Target → List RouterRow → List Operation → Plan
plan_of reply response size bind routers script = record {
  platform = record {
    version = 1;
    quantum = 0;
    initiators = record { name = codes "dma"; style = fourphase_style; script = codes "a.txt"; bind = bind; pool = 4; response = response } ∷ [];
    routers = routers;
    memories = record {
      name = codes "ram";
      traits = record { size = size; latency = 10; readable = true; writable = true; fetch_add = false; enables = true; streaming = true; dmi = true; gates = 16 };
      reply = reply;
      lanes = 4;
    } ∷ [];
  };
  scripts = script ∷ [];
}

-- an event of the first access
abbrev pub event : ℕ → ObjectNo → ℕ → ℕ → What → Event
event position object time number what = record { entry = record { position = position; object = object; txn = record { initiator = 0; seq = 0 }; time = time; what = what }; number = number }

abbrev pub take : ℕ → ℕ → Event
take position time = event position (Pool 0) time 0 (Take 0)

abbrev pub acquire : ℕ → ℕ → ℕ → Event
acquire position time number = event position (Pool 0) time number (Acquire 0)

abbrev pub release : ℕ → ℕ → ℕ → Event
release position time number = event position (Pool 0) time number (Release 0 false)

-- the reference of the initiator has the number 15
abbrev pub freed : ℕ → ℕ → Event
freed position time = event position (Pool 0) time 15 (Release 0 true)

abbrev pub call : ℕ → ℕ → ℕ → Phase → TlmSync → Event
call position hop time phase answer = event position (Hop hop) time 0 (Called phase answer)

abbrev pub written : ℕ → ℕ → Event
written position time = event position (at_memory 0) time 0 (Accessed FourPhase (record { command = write_command; offset = 0; length = 1; sent = 0xaa ∷ []; enables = []; width = 1 }) Ok [])

abbrev pub write_at : ℕ → List Operation
write_at address = Write address (0xaa ∷ []) [] None ∷ []

-- `dma` on `ram`, by the replies of the memory
unfoldable pub lone : ReqMode → RespMode → Plan
lone reply response = plan_of reply response 16 (Memory 0) [] (write_at 0)

-- the memory accepts the request, and the initiator the response
unfoldable pub accepting : List Event
accepting =
    take 0 0 ∷ acquire 1 0 0
    ∷ call 2 0 0 BeginReq Accepted ∷ call 3 0 0 EndReq Accepted
    ∷ written 4 0
    ∷ call 5 0 10 BeginResp Accepted ∷ call 6 0 10 EndResp Completed
    ∷ release 7 10 0 ∷ freed 8 10 ∷ []

-- the memory completes the access with its answer
unfoldable pub completing : List Event
completing = take 0 0 ∷ acquire 1 0 0 ∷ call 2 0 0 BeginReq Completed ∷ written 3 0 ∷ release 4 10 0 ∷ freed 5 10 ∷ []

-- the memory gives its response with its answer
unfoldable pub answering : List Event
answering = take 0 0 ∷ acquire 1 0 0 ∷ call 2 0 0 BeginReq (Updated BeginResp) ∷ written 3 0 ∷ call 4 0 10 EndResp Completed ∷ release 5 10 0 ∷ freed 6 10 ∷ []

-- the memory ends the request with its answer, and the initiator the response
unfoldable pub ending : List Event
ending =
    take 0 0 ∷ acquire 1 0 0 ∷ call 2 0 0 BeginReq (Updated EndReq) ∷ written 3 0 ∷ call 4 0 10 BeginResp (Updated EndResp)
    ∷ release 5 10 0 ∷ freed 6 10 ∷ []

-- a router of so many ps, with one window of 256 bytes
abbrev pub router_to : List ℕ → ℕ → Target → RouterRow
router_to name latency to = record { name = name; latency = latency; accept = Req.Accept; lanes = 4; windows = record { first = 0; last = 0xff; to = to; base = 0 } ∷ [] }

-- `dma` on a router that has no window for the address
unfoldable pub refused_plan : Plan
refused_plan = plan_of Req.Accept Resp.Accept 256 (Router 0) (router_to (codes "bus") 5 (Memory 0) ∷ []) (write_at 0x1000)

unfoldable pub refused : List Event
refused = take 0 0 ∷ acquire 1 0 0 ∷ call 2 0 0 BeginReq Accepted ∷ call 3 0 5 BeginResp Accepted ∷ call 4 0 5 EndResp Completed ∷ release 5 5 0 ∷ freed 6 5 ∷ []

-- `dma` on two routers, one behind the other
unfoldable pub routed_plan : Plan
routed_plan = plan_of Req.Accept Resp.Accept 256 (Router 0) (router_to (codes "bus") 5 (Router 1) ∷ router_to (codes "bridge") 7 (Memory 0) ∷ []) (write_at 0)

unfoldable pub routed : List Event
routed =
    take 0 0 ∷ acquire 1 0 0 ∷ call 2 0 0 BeginReq Accepted
    ∷ acquire 3 5 1 ∷ call 4 1 5 BeginReq Accepted ∷ call 5 0 5 EndReq Accepted
    ∷ acquire 6 12 2 ∷ call 7 2 12 BeginReq Accepted ∷ call 8 1 12 EndReq Accepted
    ∷ call 9 2 12 EndReq Accepted ∷ written 10 12
    ∷ call 11 2 22 BeginResp Accepted ∷ call 12 1 22 BeginResp Accepted ∷ call 13 0 22 BeginResp Accepted
    ∷ call 14 0 22 EndResp Completed ∷ release 15 22 0 ∷ event 16 (Pool 0) 22 15 (Release 0 false)
    ∷ call 17 1 22 EndResp Completed ∷ release 18 22 1
    ∷ call 19 2 22 EndResp Completed ∷ event 20 (Pool 0) 22 2 (Release 0 true) ∷ []

-- what makes a history right: single components made it, and it is good
pub record IsWorked (p : Plan) (h : List Event) : Type 0 where
  pub premises : Premises (world_of p) (slots_of p) (issue_time p) h
  pub good : IsGood p (entries h)

-- wrong histories of the memory that accepts: the access stands before the request is there
unfoldable pub early_access : List Event
early_access = take 0 0 ∷ acquire 1 0 0 ∷ written 2 0 ∷ call 3 0 0 BeginReq Accepted ∷ []

-- the request has no reference
unfoldable pub unreferenced : List Event
unreferenced = take 0 0 ∷ call 1 0 0 BeginReq Accepted ∷ []

-- the END_REQ is left out
unfoldable pub request_unended : List Event
request_unended = take 0 0 ∷ acquire 1 0 0 ∷ call 2 0 0 BeginReq Accepted ∷ written 3 0 ∷ call 4 0 10 BeginResp Accepted ∷ []

-- the request is answered as by another memory
unfoldable pub wrongly_answered : List Event
wrongly_answered = take 0 0 ∷ acquire 1 0 0 ∷ call 2 0 0 BeginReq (Updated EndReq) ∷ []

-- the request stands twice
unfoldable pub request_doubled : List Event
request_doubled = take 0 0 ∷ acquire 1 0 0 ∷ call 2 0 0 BeginReq Accepted ∷ call 3 0 0 BeginReq Accepted ∷ []

-- the payload is freed twice
unfoldable pub freed_twice : List Event
freed_twice =
    take 0 0 ∷ acquire 1 0 0
    ∷ call 2 0 0 BeginReq Accepted ∷ call 3 0 0 EndReq Accepted
    ∷ written 4 0
    ∷ call 5 0 10 BeginResp Accepted ∷ call 6 0 10 EndResp Completed
    ∷ release 7 10 0 ∷ freed 8 10 ∷ freed 9 10 ∷ []

-- the payload isn't freed by the last Release
unfoldable pub kept : List Event
kept = take 0 0 ∷ event 1 (Pool 0) 0 15 (Release 0 false) ∷ []

-- the response stands 1 ps before the memory can have it
unfoldable pub hasty_response : List Event
hasty_response =
    take 0 0 ∷ acquire 1 0 0
    ∷ call 2 0 0 BeginReq Accepted ∷ call 3 0 0 EndReq Accepted
    ∷ written 4 0
    ∷ call 5 0 9 BeginResp Accepted ∷ []

-- the access stops before its END_RESP
unfoldable pub unended : List Event
unended =
    take 0 0 ∷ acquire 1 0 0
    ∷ call 2 0 0 BeginReq Accepted ∷ call 3 0 0 EndReq Accepted
    ∷ written 4 0
    ∷ call 5 0 10 BeginResp Accepted ∷ []

-- of the access on two routers: the END_RESP below the first router stands before the one above
unfoldable pub ended_below_first : List Event
ended_below_first =
    take 0 0 ∷ acquire 1 0 0 ∷ call 2 0 0 BeginReq Accepted
    ∷ acquire 3 5 1 ∷ call 4 1 5 BeginReq Accepted ∷ call 5 0 5 EndReq Accepted
    ∷ acquire 6 12 2 ∷ call 7 2 12 BeginReq Accepted ∷ call 8 1 12 EndReq Accepted
    ∷ call 9 2 12 EndReq Accepted ∷ written 10 12
    ∷ call 11 2 22 BeginResp Accepted ∷ call 12 1 22 BeginResp Accepted ∷ call 13 0 22 BeginResp Accepted
    ∷ call 14 1 22 EndResp Completed ∷ []

-- the last Release is left out
unfoldable pub unreleased : List Event
unreleased =
    take 0 0 ∷ acquire 1 0 0
    ∷ call 2 0 0 BeginReq Accepted ∷ call 3 0 0 EndReq Accepted
    ∷ written 4 0
    ∷ call 5 0 10 BeginResp Accepted ∷ call 6 0 10 EndResp Completed
    ∷ release 7 10 0 ∷ []

-- the access writes another byte than its request
unfoldable pub miswritten : List Event
miswritten =
    take 0 0 ∷ acquire 1 0 0
    ∷ call 2 0 0 BeginReq Accepted ∷ call 3 0 0 EndReq Accepted
    ∷ event 4 (at_memory 0) 0 0 (Accessed FourPhase (record { command = write_command; offset = 0; length = 1; sent = 0xbb ∷ []; enables = []; width = 1 }) Ok [])
    ∷ call 5 0 10 BeginResp Accepted ∷ call 6 0 10 EndResp Completed
    ∷ release 7 10 0 ∷ freed 8 10 ∷ []

-- `dma` on `ram`, with a debug read
unfoldable pub debug_plan : Plan
debug_plan = plan_of Req.Accept Resp.Accept 16 (Memory 0) [] (Debug 0 1 ∷ [])

-- the debug read stands 7 ps after its initiator issued it
unfoldable pub late_debug : List Event
late_debug = event 0 (at_memory 0) 7 0 (Accessed by_debug (record { command = read_command; offset = 0; length = 1; sent = []; enables = []; width = 1 }) Ok (0 ∷ [])) ∷ []

-- `dma` on `ram`, with two writes and a fence between them
unfoldable pub fenced_plan : Plan
fenced_plan = plan_of Req.Accept Resp.Accept 16 (Memory 0) [] (Write 0 (0xaa ∷ []) [] None ∷ Fence ∷ Write 1 (0xaa ∷ []) [] None ∷ [])

-- the second write is begun before the first has ended
unfoldable pub unfenced : List Event
unfenced = take 0 0 ∷ record { entry = record { position = 1; object = Pool 0; txn = record { initiator = 0; seq = 1 }; time = 0; what = Take 1 }; number = 0 } ∷ []
