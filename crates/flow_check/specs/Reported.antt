-- Reports of four-phase histories.
use Rattle.std.specs.Prelude.{ℕ, List, [], ◌∷◌, codes, false, true, None}
use Rattle.tlm_types.specs.declared.words.Command.TheVariants.{Write as write_command}
use Rattle.tlm_types.specs.declared.words.ObjectNo.{ObjectNo}
use Rattle.tlm_types.specs.declared.words.ObjectNo.TheVariants.{Memory as at_memory, Hop, Pool}
use Rattle.tlm_types.specs.declared.words.Phase.TheVariants.{BeginReq, EndReq, BeginResp, EndResp}
use Rattle.tlm_types.specs.declared.words.ReqMode.TheVariants as Req
use Rattle.tlm_types.specs.declared.words.RespMode.TheVariants as Resp
use Rattle.tlm_types.specs.declared.words.Response.TheVariants.{Ok}
use Rattle.tlm_types.specs.declared.words.TlmSync.TheVariants.{Accepted, Completed}
use Rattle.tlm_types.specs.declared.words.Way.TheVariants.{FourPhase}
use Rattle.tlm_types.specs.declared.entry.Entry.{Entry}
use Rattle.tlm_types.specs.declared.entry.What.{What}
use Rattle.tlm_types.specs.declared.entry.What.TheVariants.{Access as Accessed, Call as Called, Take, Acquire, Release}
use Rattle.tlm_model.specs.declared.operation.Operation.TheVariants.{Write, Fence}
use Rattle.tlm_model.specs.declared.platform.Target.TheVariants.{Router, Memory}
use Rattle.tlm_model.specs.Plan.{Plan}
use Rattle.flow_model.specs.Events.{Event}
use Rattle.flow_check.specs.Worked.{plan_of, router_to}

abbrev pub accepting_text : List ℕ
accepting_text = codes "tlm-report 1\n0 0 dma.0 dma.pool take 0\n1 0 dma.0 dma.pool acquire 0\n2 0 dma.0 dma>ram BEGIN_REQ ACCEPTED\n3 0 dma.0 dma>ram END_REQ ACCEPTED\n4 0 dma.0 ram fourphase write 0x0 1 be=- sw=1 aa ok\n5 10 dma.0 dma>ram BEGIN_RESP ACCEPTED\n6 10 dma.0 dma>ram END_RESP COMPLETED\n7 10 dma.0 dma.pool release 0\n8 10 dma.0 dma.pool release 0 freed\ninitiator dma fourphase transactions 1 refused 0 syncs 0 end 10\nmemory ram 16\n00000000 aa000000000000000000000000000000\nend 9\n"

abbrev pub completing_text : List ℕ
completing_text = codes "tlm-report 1\n0 0 dma.0 dma.pool take 0\n1 0 dma.0 dma.pool acquire 0\n2 0 dma.0 dma>ram BEGIN_REQ COMPLETED\n3 0 dma.0 ram fourphase write 0x0 1 be=- sw=1 aa ok\n4 10 dma.0 dma.pool release 0\n5 10 dma.0 dma.pool release 0 freed\ninitiator dma fourphase transactions 1 refused 0 syncs 0 end 10\nmemory ram 16\n00000000 aa000000000000000000000000000000\nend 6\n"

-- an entry of access s
abbrev pub entry : ℕ → ObjectNo → ℕ → ℕ → What → Entry
entry position object seq time what = record { position = position; object = object; txn = record { initiator = 0; seq = seq }; time = time; what = what }

abbrev pub wrote : ℕ → ℕ → What
wrote offset byte = Accessed FourPhase (record { command = write_command; offset = offset; length = 1; sent = byte ∷ []; enables = []; width = 1 }) Ok []

-- `dma` on `ram`, with two writes that are under way at once
unfoldable pub overlapping_plan : Plan
overlapping_plan = plan_of Req.Accept Resp.Accept 16 (Memory 0) [] (Write 0 (0xaa ∷ []) [] None ∷ Write 1 (0xbb ∷ []) [] None ∷ [])

abbrev numbered : ℕ → Entry → Event
numbered number entry = record { entry = entry; number = number }

-- the second request is made once the first was ended, and the second response once the first was ended
unfoldable pub overlapping : List Event
overlapping =
    numbered 0 (entry 0 (Pool 0) 0 0 (Take 0))
    ∷ numbered 0 (entry 1 (Pool 0) 0 0 (Acquire 0))
    ∷ numbered 0 (entry 2 (Hop 0) 0 0 (Called BeginReq Accepted))
    ∷ numbered 0 (entry 3 (Pool 0) 1 0 (Take 1))
    ∷ numbered 0 (entry 4 (Pool 0) 1 0 (Acquire 1))
    ∷ numbered 0 (entry 5 (Hop 0) 0 0 (Called EndReq Accepted))
    ∷ numbered 0 (entry 6 (Hop 0) 1 0 (Called BeginReq Accepted))
    ∷ numbered 0 (entry 7 (Hop 0) 1 0 (Called EndReq Accepted))
    ∷ numbered 0 (entry 8 (at_memory 0) 0 0 (wrote 0 0xaa))
    ∷ numbered 0 (entry 9 (Hop 0) 0 10 (Called BeginResp Accepted))
    ∷ numbered 0 (entry 10 (at_memory 0) 1 0 (wrote 1 0xbb))
    ∷ numbered 0 (entry 11 (Hop 0) 0 10 (Called EndResp Completed))
    ∷ numbered 0 (entry 12 (Pool 0) 0 10 (Release 0 false))
    ∷ numbered 15 (entry 13 (Pool 0) 0 10 (Release 0 true))
    ∷ numbered 0 (entry 14 (Hop 0) 1 10 (Called BeginResp Accepted))
    ∷ numbered 0 (entry 15 (Hop 0) 1 10 (Called EndResp Completed))
    ∷ numbered 0 (entry 16 (Pool 0) 1 10 (Release 1 false))
    ∷ numbered 15 (entry 17 (Pool 0) 1 10 (Release 1 true))
    ∷ []

abbrev pub overlapping_text : List ℕ
overlapping_text = codes "tlm-report 1\n0 0 dma.0 dma.pool take 0\n1 0 dma.0 dma.pool acquire 0\n2 0 dma.0 dma>ram BEGIN_REQ ACCEPTED\n3 0 dma.1 dma.pool take 1\n4 0 dma.1 dma.pool acquire 1\n5 0 dma.0 dma>ram END_REQ ACCEPTED\n6 0 dma.1 dma>ram BEGIN_REQ ACCEPTED\n7 0 dma.1 dma>ram END_REQ ACCEPTED\n8 0 dma.0 ram fourphase write 0x0 1 be=- sw=1 aa ok\n9 10 dma.0 dma>ram BEGIN_RESP ACCEPTED\n10 0 dma.1 ram fourphase write 0x1 1 be=- sw=1 bb ok\n11 10 dma.0 dma>ram END_RESP COMPLETED\n12 10 dma.0 dma.pool release 0\n13 10 dma.0 dma.pool release 0 freed\n14 10 dma.1 dma>ram BEGIN_RESP ACCEPTED\n15 10 dma.1 dma>ram END_RESP COMPLETED\n16 10 dma.1 dma.pool release 1\n17 10 dma.1 dma.pool release 1 freed\ninitiator dma fourphase transactions 2 refused 0 syncs 0 end 10\nmemory ram 16\n00000000 aabb0000000000000000000000000000\nend 18\n"

-- `dma` on a router of 5 ps, which has no window for the second and the third of its writes; the third waits for both others
unfoldable pub turned_away_plan : Plan
turned_away_plan = plan_of Req.Accept Resp.Accept 16 (Router 0) (router_to (codes "bus") 5 (Memory 0) ∷ []) (Write 0 (0xaa ∷ []) [] None ∷ Write 0x1000 (0xbb ∷ []) [] None ∷ Fence ∷ Write 0x1001 (0xcc ∷ []) [] None ∷ [])

-- the second write is issued with the first, and back before it
unfoldable pub turned_away : List Entry
turned_away =
    entry 0 (Pool 0) 0 0 (Take 0)
    ∷ entry 1 (Pool 0) 0 0 (Acquire 0)
    ∷ entry 2 (Hop 0) 0 0 (Called BeginReq Accepted)
    ∷ entry 3 (Pool 0) 0 5 (Acquire 0)
    ∷ entry 4 (Hop 1) 0 5 (Called BeginReq Accepted)
    ∷ entry 5 (Hop 0) 0 5 (Called EndReq Accepted)
    ∷ entry 6 (Pool 0) 1 0 (Take 1)
    ∷ entry 7 (Pool 0) 1 0 (Acquire 1)
    ∷ entry 8 (Hop 0) 1 5 (Called BeginReq Accepted)
    ∷ entry 9 (Hop 1) 0 5 (Called EndReq Accepted)
    ∷ entry 10 (at_memory 0) 0 5 (wrote 0 0xaa)
    ∷ entry 11 (Hop 0) 1 10 (Called BeginResp Accepted)
    ∷ entry 12 (Hop 0) 1 10 (Called EndResp Completed)
    ∷ entry 13 (Pool 0) 1 10 (Release 1 false)
    ∷ entry 14 (Pool 0) 1 10 (Release 1 true)
    ∷ entry 15 (Hop 1) 0 15 (Called BeginResp Accepted)
    ∷ entry 16 (Hop 0) 0 15 (Called BeginResp Accepted)
    ∷ entry 17 (Hop 0) 0 15 (Called EndResp Completed)
    ∷ entry 18 (Pool 0) 0 15 (Release 0 false)
    ∷ entry 19 (Pool 0) 0 15 (Release 0 false)
    ∷ entry 20 (Hop 1) 0 15 (Called EndResp Completed)
    ∷ entry 21 (Pool 0) 0 15 (Release 0 true)
    ∷ entry 22 (Pool 0) 2 15 (Take 0)
    ∷ entry 23 (Pool 0) 2 15 (Acquire 0)
    ∷ entry 24 (Hop 0) 2 15 (Called BeginReq Accepted)
    ∷ entry 25 (Hop 0) 2 20 (Called BeginResp Accepted)
    ∷ entry 26 (Hop 0) 2 20 (Called EndResp Completed)
    ∷ entry 27 (Pool 0) 2 20 (Release 0 false)
    ∷ entry 28 (Pool 0) 2 20 (Release 0 true)
    ∷ []

-- what was refused has its time of issue: 0 for the write that was issued with the first, and the end of the first for the one that waited
abbrev pub turned_away_text : List ℕ
turned_away_text = codes "tlm-report 1\n0 0 dma.0 dma.pool take 0\n1 0 dma.0 dma.pool acquire 0\n2 0 dma.0 dma>bus BEGIN_REQ ACCEPTED\n3 5 dma.0 dma.pool acquire 0\n4 5 dma.0 bus>ram BEGIN_REQ ACCEPTED\n5 5 dma.0 dma>bus END_REQ ACCEPTED\n6 0 dma.1 dma.pool take 1\n7 0 dma.1 dma.pool acquire 1\n8 5 dma.1 dma>bus BEGIN_REQ ACCEPTED\n9 5 dma.0 bus>ram END_REQ ACCEPTED\n10 5 dma.0 ram fourphase write 0x0 1 be=- sw=1 aa ok\n11 10 dma.1 dma>bus BEGIN_RESP ACCEPTED\n12 10 dma.1 dma>bus END_RESP COMPLETED\n13 10 dma.1 dma.pool release 1\n14 10 dma.1 dma.pool release 1 freed\n15 15 dma.0 bus>ram BEGIN_RESP ACCEPTED\n16 15 dma.0 dma>bus BEGIN_RESP ACCEPTED\n17 15 dma.0 dma>bus END_RESP COMPLETED\n18 15 dma.0 dma.pool release 0\n19 15 dma.0 dma.pool release 0\n20 15 dma.0 bus>ram END_RESP COMPLETED\n21 15 dma.0 dma.pool release 0 freed\n22 15 dma.2 dma.pool take 0\n23 15 dma.2 dma.pool acquire 0\n24 15 dma.2 dma>bus BEGIN_REQ ACCEPTED\n25 20 dma.2 dma>bus BEGIN_RESP ACCEPTED\n26 20 dma.2 dma>bus END_RESP COMPLETED\n27 20 dma.2 dma.pool release 0\n28 20 dma.2 dma.pool release 0 freed\ninitiator dma fourphase transactions 3 refused 2 syncs 0 end 20\nrefused dma.1 0 write 0x1000\nrefused dma.2 15 write 0x1001\nmemory ram 16\n00000000 aa000000000000000000000000000000\nend 29\n"
