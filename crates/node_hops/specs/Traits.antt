-- How components take a BEGIN_REQ, and how long they take.
use Rattle.std.specs.Prelude.{ℕ, ◌<◌, Bool, true, false, length}
use Rattle.tlm_types.specs.declared.words.ReqMode.{ReqMode}
use Rattle.tlm_types.specs.declared.words.ReqMode.TheVariants.{Accept}
use Rattle.tlm_types.specs.declared.words.RespMode.TheVariants.{Accept as accept_response}
use Rattle.tlm_model.specs.declared.platform.Platform.{Platform}
use Rattle.tlm_model.specs.declared.platform.Target.{Target}
use Rattle.tlm_model.specs.declared.platform.Target.TheVariants.{Memory, Router}
use Rattle.tlm_model.specs.Plan.{Plan}
use Rattle.flow_model.specs.Platform.{hop_in, hop_to}

-- by this mode BEGIN_REQ is accepted, and END_REQ is a call of its own
abbrev pub accepts : ReqMode → Bool
accepts Accept = true
accepts mode = false

-- a component of a platform
abbrev pub IsOf : Platform → Target → Type 0
IsOf p (Memory m) = m < length p.memories
IsOf p (Router r) = r < length p.routers

-- whether it accepts each BEGIN_REQ, its latency, and the lanes of each hop to it, whatever the responses of who is above
abbrev pub is_accepting : Platform → Target → Bool
is_accepting p to = accepts (hop_to p accept_response to).rules.req

abbrev pub latency_of : Platform → Target → ℕ
latency_of p to = (hop_to p accept_response to).latency

abbrev pub lanes_of : Platform → Target → ℕ
lanes_of p to = (hop_to p accept_response to).rules.limit

-- the latency of the component behind a hop
abbrev pub hop_latency : Plan → ℕ → ℕ
hop_latency p hop = (hop_in p.platform hop).latency
