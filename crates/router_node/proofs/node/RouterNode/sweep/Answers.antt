use Rattle.std.proofs.Common.{◌≤◌, length, refl, arith}
use Rattle.std.specs.Prelude.{vec_capacity}
use Rattle.router_node.proofs.Holds.{keeps, stray_more}
use Rattle.router_node.proofs.Skips.{all_left_out}
use Rattle.router_node.proofs.Sweeps.{sweeps_few}
use Rattle.router_node.proofs.node.RouterNode.sweep.Goals as goal

pub returns-clause-router : goal.returns-clause-router
returns-clause-router g c =
    let frame = g.N.Naming.frame in
    let tokens = g.N.Naming.tokens in
    let r = c.args.self.now in
    let is = c.requires.router in
    let e = c.sweep.ensures in
    let known = c.args.note.knows.known in
    let more = c.sweep.result.1.knows.known in
    let count = sweeps_few frame c.args.hasty c.args.what r.held.items c.sweep.new.held.items c.args.note.knows c.sweep.result.1.knows c.sweep.result.0 e.swept in
    let few : length c.sweep.new.held.items ≤ r.room = omega (arith, count, is.few) in
    let room : r.room ≤ vec_capacity c.sweep.new.held = omega (arith, is.room, e.capacity) in
    keeps frame tokens known more e.knew r (record r { held = c.sweep.new.held }) refl is e.held few room (stray_more frame tokens known more e.knew r.stray is.stray)

pub sweep-requires-clause-note : goal.sweep-requires-clause-note
sweep-requires-clause-note g c = c.requires.note

pub sweep-requires-clause-below : goal.sweep-requires-clause-below
sweep-requires-clause-below g c = c.requires.below

pub sweep-requires-clause-held : goal.sweep-requires-clause-held
sweep-requires-clause-held g c = c.requires.router.held

pub returns-clause-note : goal.returns-clause-note
returns-clause-note g c = c.sweep.ensures.note

pub returns-clause-knew : goal.returns-clause-knew
returns-clause-knew g c = c.sweep.ensures.knew

pub returns-clause-below : goal.returns-clause-below
returns-clause-below g c = c.sweep.ensures.below

pub returns-then-end-eq0-clause-swept : goal.returns-then-end-eq0-clause-swept
returns-then-end-eq0-clause-swept g c = record {
  swept = all_left_out g.N.Naming.frame c.args.hasty c.args.what c.args.self.now.held.items c.args.note.knows c.if-hasty.true;
  knew = λ x has. has;
  same = refl;
}

pub returns-then-end-eq0-clause-router : goal.returns-then-end-eq0-clause-router
returns-then-end-eq0-clause-router g c = c.requires.router

pub returns-then-end-eq0-clause-note : goal.returns-then-end-eq0-clause-note
returns-then-end-eq0-clause-note g c = c.requires.note

pub returns-then-end-eq0-clause-knew : goal.returns-then-end-eq0-clause-knew
returns-then-end-eq0-clause-knew g c = λ x has. has

pub returns-then-end-eq0-clause-below : goal.returns-then-end-eq0-clause-below
returns-then-end-eq0-clause-below g c = c.requires.below
