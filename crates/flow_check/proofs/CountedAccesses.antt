-- What scripts of four-phase accesses may add to each object, computed.
use Rattle.std.proofs.Common.{◌≡◌, refl}
use Rattle.tlm_types.specs.declared.words.ObjectNo.TheVariants.{Memory, Hop, Pool}
use Rattle.tlm_types.specs.declared.words.ReqMode.TheVariants as Req
use Rattle.tlm_types.specs.declared.words.RespMode.TheVariants as Resp
use Rattle.flow_check.specs.Worked.{lone, refused_plan, routed_plan}
use Rattle.route_plan.specs.Planned.{planned_at, share_of}

pub lone_memory : planned_at (lone Req.Accept Resp.Accept) (Memory 0) ≡ 1
unfolding lone planned_at share_of
lone_memory = refl

pub lone_hop : planned_at (lone Req.Accept Resp.Accept) (Hop 0) ≡ 4
unfolding lone planned_at share_of
lone_hop = refl

pub lone_pool : planned_at (lone Req.Accept Resp.Accept) (Pool 0) ≡ 4
unfolding lone planned_at share_of
lone_pool = refl

pub refused_memory : planned_at refused_plan (Memory 0) ≡ 0
unfolding refused_plan planned_at share_of
refused_memory = refl

pub refused_first : planned_at refused_plan (Hop 0) ≡ 4
unfolding refused_plan planned_at share_of
refused_first = refl

pub refused_second : planned_at refused_plan (Hop 1) ≡ 0
unfolding refused_plan planned_at share_of
refused_second = refl

pub refused_pool : planned_at refused_plan (Pool 0) ≡ 4
unfolding refused_plan planned_at share_of
refused_pool = refl

pub routed_memory : planned_at routed_plan (Memory 0) ≡ 1
unfolding routed_plan planned_at share_of
routed_memory = refl

pub routed_last : planned_at routed_plan (Hop 2) ≡ 4
unfolding routed_plan planned_at share_of
routed_last = refl

pub routed_pool : planned_at routed_plan (Pool 0) ≡ 8
unfolding routed_plan planned_at share_of
routed_pool = refl
