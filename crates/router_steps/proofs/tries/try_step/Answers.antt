use Rattle.std.proofs.Common.{◌≤◌, false, length, refl, arith}
use Rattle.std.specs.Prelude.{vec_capacity}
use Rattle.router_node.specs.Node.{HasSwept, Sweeps}
use Rattle.router_node.proofs.Holds.{keeps, stray_more}
use Rattle.router_steps.proofs.Trying.{tried_as}
use Rattle.router_steps.proofs.tries.try_step.Goals as goal

pub try_each-requires-clause-note : goal.try_each-requires-clause-note
try_each-requires-clause-note g c = c.requires.note

pub try_each-requires-clause-below : goal.try_each-requires-clause-below
try_each-requires-clause-below g c = c.requires.below

pub try_each-requires-clause-held : goal.try_each-requires-clause-held
try_each-requires-clause-held g c = c.requires.router.held

pub returns-clause-note : goal.returns-clause-note
returns-clause-note g c = c.try_each.ensures.note

pub returns-clause-knew : goal.returns-clause-knew
returns-clause-knew g c = c.try_each.ensures.knew

pub returns-clause-below : goal.returns-clause-below
returns-clause-below g c = c.try_each.ensures.below

pub returns-clause-router : goal.returns-clause-router
returns-clause-router g c =
    let frame = g.N.Naming.frame in
    let tokens = g.N.Naming.tokens in
    let r = c.args.node.now in
    let is = c.requires.router in
    let e = c.try_each.ensures in
    let known = c.args.note.knows.known in
    let more = c.try_each.result.1.knows.known in
    let few : length c.try_each.new.held.items ≤ r.room = omega (arith, e.few, is.few) in
    let room : r.room ≤ vec_capacity c.try_each.new.held = omega (arith, is.room, e.capacity) in
    keeps frame tokens known more e.knew r (record r { held = c.try_each.new.held }) refl is e.held few room (stray_more frame tokens known more e.knew r.stray is.stray)

pub returns-clause-tried : goal.returns-clause-tried
returns-clause-tried g c =
    let frame = g.N.Naming.frame in
    let tokens = g.N.Naming.tokens in
    let r = c.args.node.now in
    let new = record r { held = c.try_each.new.held } in
    let was = c.args.note.knows in
    let is = c.try_each.result.1.knows in
    let old_few = (let i = c.requires.router in i.few) in
    tried_as frame tokens is.known (length c.try_each.new.held.items) (length r.held.items) r.room (Sweeps frame false c.args.what r.held.items c.try_each.new.held.items was is false) (HasSwept frame tokens false c.args.what r new was is false) c.try_each.result.0 old_few
    (λ s. record { swept = s; knew = c.try_each.ensures.knew; same = refl }) c.try_each.ensures.tried

pub returns-clause-adds : goal.returns-clause-adds
returns-clause-adds g c = c.try_each.ensures.adds
