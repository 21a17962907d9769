use Rattle.std.proofs.Common.{◌≡◌, ◌≤◌, length, ap, subst, ◌∙◌, arith}
use Rattle.std.proofs.lemmas.Result.{IfOk-weaker}
use Rattle.tlm_model.specs.declared.platform.MemoryRow.{MemoryRow}
use Rattle.tlm_model.specs.declared.platform.Platform.{Platform}
use Rattle.tlm_model.specs.Plan.{Plan}
use Rattle.cargo_model.specs.Known.{objects_of}
use Rattle.plat_end.specs.Room.{HasRoom}
use Rattle.plat_net.proofs.ObjectLemmas.{few_objects}
use Rattle.plat_end.proofs.RoomLemmas.{room_for_fewer}
use Rattle.plat_end.proofs.apart.Apart.room_for.Goals as goal

pub returns : goal.returns
returns g c =
    let p : Platform = g.N.Naming.frame.world.platform in
    let here : Plan = c.plan.result.now in
    let world : here ≡ g.N.Naming.frame.world = c.plan.ensures.plan ∙ c.plan.ensures.world in
    let objects : length (objects_of p) ≤ 336 = subst (λ (q : Plan). length (objects_of q.platform) ≤ 336) world (few_objects here.platform c.platform.ensures.valid.shape.bounded) in
    let made = length c.as_slice-memories.result.now in
    let rows : c.as_slice-memories.result.now ≡ here.platform.memories = c.as_slice-memories.ensures ∙ ap (λ (q : Platform). q.memories) c.platform.ensures.same in
    let long : made ≡ length here.platform.memories = ap (length {A = MemoryRow}) rows in
    let memories : length p.memories ≤ made = subst (λ (q : Plan). length q.platform.memories ≤ made) world (omega (arith, long)) in
    IfOk-weaker c.with_room.result (HasRoom 336 made) (HasRoom (length (objects_of p)) (length p.memories)) (λ a room. room_for_fewer 336 made (length (objects_of p)) (length p.memories) a objects memories room) c.with_room.ensures
