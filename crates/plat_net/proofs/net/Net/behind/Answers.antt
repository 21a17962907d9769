use Rattle.std.proofs.Common.{◌≡◌, ℕ, ◌<◌, length, Some, refl, sym, ap, ◌∙◌, arith}
use Rattle.std.specs.Prelude.{Option, slice_get}
use Rattle.tlm_types.specs.declared.words.RespMode.TheVariants.{Accept}
use Rattle.tlm_model.specs.declared.platform.MemoryRow.{MemoryRow}
use Rattle.tlm_model.specs.declared.platform.Platform.{Platform}
use Rattle.tlm_model.specs.declared.platform.RouterRow.{RouterRow}
use Rattle.tlm_model.specs.declared.platform.Target.TheVariants.{Router, Memory}
use Rattle.tlm_model.specs.Plan.{Plan}
use Rattle.flow_model.specs.Platform.{to_memory, to_router}
use Rattle.route_plan.specs.Routes.{ends_of}
use Rattle.plat_net.specs.Places.{place_at_end, place_of_target}
use Rattle.plat_net.proofs.Forwarding.{end_there, latency_at, latency_by, memory_below, router_below}
use Rattle.plat_net.proofs.Given.{memory_numbered, shape_of}
use Rattle.plat_net.proofs.Lookups.{row_at}
use Rattle.plat_net.proofs.net.Net.behind.Goals as goal

pub bounds-as_slice-memory : goal.bounds-as_slice-memory
bounds-as_slice-memory g c =
    let p = c.args.self.now in
    let e = c.in-Some.field-0 in
    let at : slice_get (ends_of p.platform) c.args.hop ≡ Some e = (let a = c.in-Some.ensures.ends in let b = ap (λ (q : Plan). slice_get (ends_of q.platform) c.args.hop) c.plan.ensures.plan in cc) in
    let m = c.in-Memory.memory in
    let down : e.down ≡ Memory m = (let a = c.in-Memory.is in let b = c.in-Some.down-is in cc) in
    let shape = shape_of c.plan-2.result.now p p c.platform-platform.ensures.valid c.plan-2.ensures.plan refl in
    let below : m < length p.platform.memories = memory_below p.platform e.down m (end_there p.platform c.args.hop e shape.bounded at) down in
    let rows : c.as_slice.result.now ≡ p.platform.memories = c.as_slice.ensures ∙ ap (λ (x : Platform). x.memories) (c.platform-platform.ensures.same ∙ ap (λ (q : Plan). q.platform) c.plan-2.ensures.plan) in
    omega (arith, ap length rows, below)

pub memory-requires : goal.memory-requires
memory-requires g c =
    let p = c.args.self.now in
    let e = c.in-Some.field-0 in
    let at : slice_get (ends_of p.platform) c.args.hop ≡ Some e = (let a = c.in-Some.ensures.ends in let b = ap (λ (q : Plan). slice_get (ends_of q.platform) c.args.hop) c.plan.ensures.plan in cc) in
    let m = c.in-Memory.memory in
    let down : e.down ≡ Memory m = (let a = c.in-Memory.is in let b = c.in-Some.down-is in cc) in
    let shape = shape_of c.plan-2.result.now p p c.platform-platform.ensures.valid c.plan-2.ensures.plan refl in
    let below : m < length p.platform.memories = memory_below p.platform e.down m (end_there p.platform c.args.hop e shape.bounded at) down in
    below

pub bounds-as_slice-router : goal.bounds-as_slice-router
bounds-as_slice-router g c =
    let p = c.args.self.now in
    let e = c.in-Some.field-0 in
    let at : slice_get (ends_of p.platform) c.args.hop ≡ Some e = (let a = c.in-Some.ensures.ends in let b = ap (λ (q : Plan). slice_get (ends_of q.platform) c.args.hop) c.plan.ensures.plan in cc) in
    let r = c.in-Router.router in
    let down : e.down ≡ Router r = (let a = c.in-Router.is in let b = c.in-Some.down-is in cc) in
    let shape = shape_of c.plan-2.result.now p p c.platform-platform.ensures.valid c.plan-2.ensures.plan refl in
    let below : r < length p.platform.routers = router_below p.platform e.down r (end_there p.platform c.args.hop e shape.bounded at) down in
    let rows : c.as_slice-in-Router.result.now ≡ p.platform.routers = c.as_slice-in-Router.ensures ∙ ap (λ (x : Platform). x.routers) (c.platform-platform.ensures.same ∙ ap (λ (q : Plan). q.platform) c.plan-2.ensures.plan) in
    omega (arith, ap length rows, below)

pub returns-in-Memory-clause-memory : goal.returns-in-Memory-clause-memory
returns-in-Memory-clause-memory g c =
    let p = c.args.self.now in
    let e = c.in-Some.field-0 in
    let at : slice_get (ends_of p.platform) c.args.hop ≡ Some e = (let a = c.in-Some.ensures.ends in let b = ap (λ (q : Plan). slice_get (ends_of q.platform) c.args.hop) c.plan.ensures.plan in cc) in
    let m = c.in-Memory.memory in
    let down : e.down ≡ Memory m = (let a = c.in-Memory.is in let b = c.in-Some.down-is in cc) in
    let shape = shape_of c.plan-2.result.now p p c.platform-platform.ensures.valid c.plan-2.ensures.plan refl in
    let below : m < length p.platform.memories = memory_below p.platform e.down m (end_there p.platform c.args.hop e shape.bounded at) down in
    ap (λ (n : ℕ). Some n) (memory_numbered p m c.memory.result.now c.memory.ensures below) ∙ sym (ap (place_at_end p) at ∙ ap (place_of_target p) down)

pub returns-in-Memory-clause-latency : goal.returns-in-Memory-clause-latency
returns-in-Memory-clause-latency g c =
    let p = c.args.self.now in
    let e = c.in-Some.field-0 in
    let at : slice_get (ends_of p.platform) c.args.hop ≡ Some e = (let a = c.in-Some.ensures.ends in let b = ap (λ (q : Plan). slice_get (ends_of q.platform) c.args.hop) c.plan.ensures.plan in cc) in
    let m = c.in-Memory.memory in
    let down : e.down ≡ Memory m = (let a = c.in-Memory.is in let b = c.in-Some.down-is in cc) in
    let shape = shape_of c.plan-2.result.now p p c.platform-platform.ensures.valid c.plan-2.ensures.plan refl in
    let below : m < length p.platform.memories = memory_below p.platform e.down m (end_there p.platform c.args.hop e shape.bounded at) down in
    let rows : c.as_slice.result.now ≡ p.platform.memories = c.as_slice.ensures ∙ ap (λ (x : Platform). x.memories) (c.platform-platform.ensures.same ∙ ap (λ (q : Plan). q.platform) c.plan-2.ensures.plan) in
    let within : m < length c.as_slice.result.now = omega (arith, ap length rows, below) in
    let row = row_at c.as_slice.result.now p.platform.memories m c.index-as_slice-memory.result rows within c.index-as_slice-memory.is in
    sym (latency_at p.platform c.args.hop e at ∙ (ap (latency_by p.platform) down ∙ ap (λ (o : Option MemoryRow). (to_memory Accept o).latency) row))

pub returns-in-Router-clause-memory : goal.returns-in-Router-clause-memory
returns-in-Router-clause-memory g c =
    let p = c.args.self.now in
    let e = c.in-Some.field-0 in
    let at : slice_get (ends_of p.platform) c.args.hop ≡ Some e = (let a = c.in-Some.ensures.ends in let b = ap (λ (q : Plan). slice_get (ends_of q.platform) c.args.hop) c.plan.ensures.plan in cc) in
    let down : e.down ≡ Router c.in-Router.router = (let a = c.in-Router.is in let b = c.in-Some.down-is in cc) in
    sym (ap (place_at_end p) at ∙ ap (place_of_target p) down)

pub returns-in-Router-clause-latency : goal.returns-in-Router-clause-latency
returns-in-Router-clause-latency g c =
    let p = c.args.self.now in
    let e = c.in-Some.field-0 in
    let at : slice_get (ends_of p.platform) c.args.hop ≡ Some e = (let a = c.in-Some.ensures.ends in let b = ap (λ (q : Plan). slice_get (ends_of q.platform) c.args.hop) c.plan.ensures.plan in cc) in
    let r = c.in-Router.router in
    let down : e.down ≡ Router r = (let a = c.in-Router.is in let b = c.in-Some.down-is in cc) in
    let shape = shape_of c.plan-2.result.now p p c.platform-platform.ensures.valid c.plan-2.ensures.plan refl in
    let below : r < length p.platform.routers = router_below p.platform e.down r (end_there p.platform c.args.hop e shape.bounded at) down in
    let rows : c.as_slice-in-Router.result.now ≡ p.platform.routers = c.as_slice-in-Router.ensures ∙ ap (λ (x : Platform). x.routers) (c.platform-platform.ensures.same ∙ ap (λ (q : Plan). q.platform) c.plan-2.ensures.plan) in
    let within : r < length c.as_slice-in-Router.result.now = omega (arith, ap length rows, below) in
    let row = row_at c.as_slice-in-Router.result.now p.platform.routers r c.index-as_slice-router.result rows within c.index-as_slice-router.is in
    sym (latency_at p.platform c.args.hop e at ∙ (ap (latency_by p.platform) down ∙ ap (λ (o : Option RouterRow). (to_router Accept o).latency) row))
