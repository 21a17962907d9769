-- The world of a plan: its hops in order, and the passages of its four-phase accesses.
use Rattle.std.specs.Prelude.{ℕ, List, ◌++◌, map, get_or, slice_get, Option, Some, None, true, false, is_some}
use Rattle.std.specs.List.{flat_map}
use Rattle.tlm_types.specs.declared.words.ReqMode.TheVariants.{Accept}
use Rattle.tlm_types.specs.declared.words.RespMode.{RespMode}
use Rattle.tlm_types.specs.declared.words.RespMode.TheVariants.{Accept as accept_response}
use Rattle.tlm_types.specs.declared.words.TxnId.{TxnId}
use Rattle.tlm_model.specs.declared.operation.Operation.{Operation}
use Rattle.tlm_model.specs.declared.platform.InitiatorRow.{InitiatorRow}
use Rattle.tlm_model.specs.declared.platform.MemoryRow.{MemoryRow}
use Rattle.tlm_model.specs.declared.platform.Platform.{Platform}
use Rattle.tlm_model.specs.declared.platform.RouterRow.{RouterRow}
use Rattle.tlm_model.specs.declared.platform.Style.{Style}
use Rattle.tlm_model.specs.declared.platform.Style.TheVariants.{Blocking, Direct, FourPhase}
use Rattle.tlm_model.specs.declared.platform.Target.{Target}
use Rattle.tlm_model.specs.declared.platform.Target.TheVariants.{Router, Memory}
use Rattle.tlm_model.specs.declared.platform.WindowRow.{WindowRow}
use Rattle.tlm_model.specs.declared.ask.Ask.{Ask}
use Rattle.tlm_model.specs.declared.ask.Ask.TheVariants.{Access as AnAccess, DebugRead as ADebugRead, Invalidation as AnInvalidation}
use Rattle.tlm_model.specs.Actions.{asks_of}
use Rattle.tlm_model.specs.Plan.{Plan, Initiator, initiators_of}
use Rattle.tlm_model.specs.Route.{hops_of, route_of}
use Rattle.flow_model.specs.World.{HopEnds, Passage, World}

-- a hop that there isn't lets nothing by
abbrev pub no_hop : HopEnds
no_hop = record { rules = record { limit = 0; req = Accept; resp = accept_response }; to_memory = false; latency = 0 }

abbrev pub to_router : RespMode → Option RouterRow → HopEnds
to_router resp None = no_hop
to_router resp (Some row) = record { rules = record { limit = row.lanes; req = row.accept; resp = resp }; to_memory = false; latency = row.latency }

abbrev pub to_memory : RespMode → Option MemoryRow → HopEnds
to_memory resp None = no_hop
to_memory resp (Some row) = record { rules = record { limit = row.lanes; req = row.reply; resp = resp }; to_memory = true; latency = row.traits.latency }

-- a hop to a target, from a component with this response
abbrev pub hop_to : Platform → RespMode → Target → HopEnds
hop_to p resp (Router r) = to_router resp (slice_get p.routers r)
hop_to p resp (Memory m) = to_memory resp (slice_get p.memories m)

-- the hops of a platform in order: the bindings of the initiators, and the windows of each router, which always accepts responses
abbrev pub all_windows : Platform → List WindowRow
all_windows p = flat_map (λ (r : RouterRow). r.windows) p.routers

abbrev pub all_hops : Platform → List HopEnds
all_hops p = map (λ (i : InitiatorRow). hop_to p i.response i.bind) p.initiators ++ map (λ (v : WindowRow). hop_to p accept_response v.to) (all_windows p)

abbrev pub hop_in : Platform → ℕ → HopEnds
hop_in p o = get_or (all_hops p) o no_hop

-- the address of an access, or none for a debug read or an invalidation
abbrev pub accessed : Ask → Option ℕ
accessed (AnAccess a n) = Some a
accessed (ADebugRead a n) = None
accessed (AnInvalidation a) = None

-- for each sequence number that a script takes: the address of its access
abbrev pub addresses_of : List Operation → List (Option ℕ)
addresses_of script = map accessed (flat_map asks_of script)

abbrev pub passage_to : Platform → Initiator → Style → Option (Option ℕ) → Option Passage
passage_to p i FourPhase (Some (Some a)) = Some (record { hops = hops_of p i a; routed = is_some (route_of p i a) })
passage_to p i FourPhase (Some None) = None
passage_to p i FourPhase None = None
passage_to p i Blocking address = None
passage_to p i Direct address = None

abbrev pub passage_by : Platform → Option Initiator → ℕ → Option Passage
passage_by p None s = None
passage_by p (Some i) s = passage_to p i i.row.style (slice_get (addresses_of i.script) s)

-- the passage of an access of a four-phase initiator; other requests have none
abbrev pub passage_of : Plan → TxnId → Option Passage
passage_of p x = passage_by p.platform (slice_get (initiators_of p) x.initiator) x.seq

abbrev pub world_of : Plan → World
world_of p = record { hop = hop_in p.platform; passage = passage_of p }
