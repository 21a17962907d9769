use Rattle.std.proofs.Common.{◌≡◌, ◌<◌, List, length, Some, sym, ap, ◌∙◌, arith}
use Rattle.std.specs.Prelude.{Option, slice_get}
use Rattle.tlm_types.specs.declared.words.RespMode.TheVariants.{Accept}
use Rattle.tlm_model.specs.declared.platform.MemoryRow.{MemoryRow}
use Rattle.tlm_model.specs.declared.platform.Platform.{Platform}
use Rattle.tlm_model.specs.Plan.{Plan}
use Rattle.flow_model.specs.Platform.{to_memory}
use Rattle.platform_shape.specs.Shape.{IsShape}
use Rattle.route_plan.specs.Routes.{ends_of}
use Rattle.plat_net.proofs.Forwarding.{end_there, latency_at, latency_by, memory_below}
use Rattle.plat_net.proofs.Given.{shape_of}
use Rattle.plat_net.proofs.Lookups.{row_at}
use Rattle.node_hops.proofs.behind.memory_behind.Goals as goal

at : (g : _) (c : goal.After-index-as_slice-memory g) → slice_get (ends_of g.N.Naming.frame.world.platform) c.args.hop ≡ Some c.in-Some.field-0
at g c = ap (λ (q : Plan). slice_get (ends_of q.platform) c.args.hop) (sym (c.plan-2.ensures.plan ∙ c.plan-2.ensures.world)) ∙ (sym c.hop_ends.ensures.ends ∙ c.in-Some.is)

shape : (g : _) (c : goal.After-index-as_slice-memory g) → IsShape g.N.Naming.frame.world.platform
shape g c = shape_of c.plan.result.now c.args.net.now g.N.Naming.frame.world c.platform-platform.ensures.valid c.plan.ensures.plan c.plan.ensures.world

there : (g : _) (c : goal.After-index-as_slice-memory g) → c.in-Memory.memory < length g.N.Naming.frame.world.platform.memories
there g c =
    let p = g.N.Naming.frame.world.platform in
    let e = c.in-Some.field-0 in
    memory_below p e.down c.in-Memory.memory (end_there p c.args.hop e (shape g c).bounded (at g c)) c.in-Memory.is

rows : (g : _) (c : goal.After-index-as_slice-memory g) → c.as_slice.result.now ≡ g.N.Naming.frame.world.platform.memories
rows g c = c.as_slice.ensures ∙ ap (λ (x : Platform). x.memories) (c.platform-platform.ensures.same ∙ ap (λ (q : Plan). q.platform) (c.plan.ensures.plan ∙ c.plan.ensures.world))

pub bounds-as_slice-memory : goal.bounds-as_slice-memory
bounds-as_slice-memory g c =
    let p = g.N.Naming.frame.world.platform in
    let e = c.in-Some.field-0 in
    let found : slice_get (ends_of p) c.args.hop ≡ Some e = ap (λ (q : Plan). slice_get (ends_of q.platform) c.args.hop) (sym (c.plan-2.ensures.plan ∙ c.plan-2.ensures.world)) ∙ (sym c.hop_ends.ensures.ends ∙ c.in-Some.is) in
    let good : IsShape p = shape_of c.plan.result.now c.args.net.now g.N.Naming.frame.world c.platform-platform.ensures.valid c.plan.ensures.plan c.plan.ensures.world in
    let below = memory_below p e.down c.in-Memory.memory (end_there p c.args.hop e good.bounded found) c.in-Memory.is in
    let same : c.as_slice.result.now ≡ p.memories = c.as_slice.ensures ∙ ap (λ (x : Platform). x.memories) (c.platform-platform.ensures.same ∙ ap (λ (q : Plan). q.platform) (c.plan.ensures.plan ∙ c.plan.ensures.world)) in
    omega (arith, ap (λ (l : List MemoryRow). length l) same, below)

pub returns-in-Memory-clause-there : goal.returns-in-Memory-clause-there
returns-in-Memory-clause-there g c = there g c

pub returns-in-Memory-clause-latency : goal.returns-in-Memory-clause-latency
returns-in-Memory-clause-latency g c =
    let p = g.N.Naming.frame.world.platform in
    let m = c.in-Memory.memory in
    let within : m < length c.as_slice.result.now = omega (arith, ap (λ (l : List MemoryRow). length l) (rows g c), there g c) in
    let row = row_at c.as_slice.result.now p.memories m c.index-as_slice-memory.result (rows g c) within c.index-as_slice-memory.is in
    sym (latency_at p c.args.hop c.in-Some.field-0 (at g c) ∙ (ap (latency_by p) c.in-Memory.is ∙ ap (λ (o : Option MemoryRow). (to_memory Accept o).latency) row))
