use Rattle.std.proofs.Common.{◌+◌, ◌<◌, false, length, refl, arith}
use Rattle.node_hops.proofs.Looks.{within_on}
use Rattle.router_node.specs.Node.{MovesAt, Sweeps}
use Rattle.router_node.proofs.Sweeps.{part_end, part_here, part_next, part_start}
use Rattle.router_steps.proofs.Trying.{any_moved, was_nothing}
use Rattle.router_steps.proofs.Adds.{try_after}
use Rattle.router_steps.proofs.tries.try_each.Goals as goal

pub loop-at-init : goal.loop-at-init
loop-at-init g c = record {
  note = c.requires.note;
  knew = λ x has. has;
  below = c.requires.below;
  held = c.requires.held;
  capacity = omega arith;
  few = omega arith;
  swept = part_start g.N.Naming.frame false c.args.what c.args.held.now.items c.args.note.knows;
}

pub try_one-tried-requires-clause-there : goal.try_one-tried-requires-clause-there
try_one-tried-requires-clause-there g c =
    let old = c.args.held.now.items in
    let below : c.loop-at.at < length old = omega (arith, c.loop-at-test.true, c.len-at-end.ensures, c.args.held.now.ok.0) in
    part_here g.N.Naming.frame false c.args.what old c.loop-at.at c.loop-at.at c.loop-at.held.items c.args.note.knows c.loop-at.note.knows false below c.loop-at.invariant.swept

pub try_one-tried-requires-clause-note : goal.try_one-tried-requires-clause-note
try_one-tried-requires-clause-note g c = c.loop-at.invariant.note

pub try_one-tried-requires-clause-below : goal.try_one-tried-requires-clause-below
try_one-tried-requires-clause-below g c = c.loop-at.invariant.below

pub try_one-tried-requires-clause-held : goal.try_one-tried-requires-clause-held
try_one-tried-requires-clause-held g c = c.loop-at.invariant.held

pub returns-then-has_moved-clause-note : goal.returns-then-has_moved-clause-note
returns-then-has_moved-clause-note g c = c.try_one-tried.ensures.note

pub returns-then-has_moved-clause-knew : goal.returns-then-has_moved-clause-knew
returns-then-has_moved-clause-knew g c = within_on c.args.note.knows.known c.loop-at.note.knows.known c.try_one-tried.result.1.knows.known c.loop-at.invariant.knew c.try_one-tried.ensures.knew

pub returns-then-has_moved-clause-below : goal.returns-then-has_moved-clause-below
returns-then-has_moved-clause-below g c = c.try_one-tried.ensures.below

pub returns-then-has_moved-clause-held : goal.returns-then-has_moved-clause-held
returns-then-has_moved-clause-held g c = c.try_one-tried.ensures.held

pub returns-then-has_moved-clause-tried : goal.returns-then-has_moved-clause-tried
returns-then-has_moved-clause-tried g c =
    let frame = g.N.Naming.frame in
    let old = c.args.held.now.items in
    let mid = c.loop-at.held.items in
    let new = c.try_one-tried.new.held.items in
    let is = c.try_one-tried.result.1.knows in
    any_moved frame g.N.Naming.tokens is.known (length new) (length mid) (length old) (MovesAt frame false c.args.what c.loop-at.at mid new c.loop-at.note.knows is (c.loop-at.at + 1) false) (Sweeps frame false c.args.what old new c.args.note.knows is false) c.try_one-tried.result.0
    c.loop-at.invariant.few (c.has_moved.ensures.some c.if-has_moved.true) c.try_one-tried.ensures.tried

pub loop-at-preserved : goal.loop-at-preserved
loop-at-preserved g c =
    let frame = g.N.Naming.frame in
    let i = c.loop-at.invariant in
    let e = c.try_one-tried.ensures in
    let old = c.args.held.now.items in
    let mid = c.loop-at.held.items in
    let new = c.try_one-tried.new.held.items in
    let is = c.try_one-tried.result.1.knows in
    let below : c.loop-at.at < length old = omega (arith, c.loop-at-test.true, c.len-at-end.ensures, c.args.held.now.ok.0) in
    let still : MovesAt frame false c.args.what c.loop-at.at mid new c.loop-at.note.knows is (c.loop-at.at + 1) false =
    was_nothing frame g.N.Naming.tokens is.known (length new) (length mid) (MovesAt frame false c.args.what c.loop-at.at mid new c.loop-at.note.knows is (c.loop-at.at + 1) false) c.try_one-tried.result.0 (c.has_moved.ensures.none c.if-has_moved.false) e.tried in
    record {
      note = e.note;
      knew = within_on c.args.note.knows.known c.loop-at.note.knows.known is.known i.knew e.knew;
      below = e.below;
      held = e.held;
      capacity = (let a = i.capacity in let b = e.capacity in omega (arith, a, b));
      few = (let a = i.few in let b = e.few in omega (arith, a, b));
      swept = part_next frame false c.args.what old c.loop-at.at c.loop-at.at (c.loop-at.at + 1) mid new c.args.note.knows c.loop-at.note.knows is false false false refl below i.swept e.knew still;
    }

pub returns-clause-note : goal.returns-clause-note
returns-clause-note g c = c.loop-at.invariant.note

pub returns-clause-knew : goal.returns-clause-knew
returns-clause-knew g c = c.loop-at.invariant.knew

pub returns-clause-below : goal.returns-clause-below
returns-clause-below g c = c.loop-at.invariant.below

pub returns-clause-held : goal.returns-clause-held
returns-clause-held g c = c.loop-at.invariant.held

pub returns-clause-tried : goal.returns-clause-tried
returns-clause-tried g c =
    let old = c.args.held.now.items in
    part_end g.N.Naming.frame false c.args.what old c.loop-at.at c.loop-at.at c.loop-at.held.items c.args.note.knows c.loop-at.note.knows false (λ l. omega (arith, l, c.loop-at-test.false, c.len-at-end.ensures, c.args.held.now.ok.0)) c.loop-at.invariant.swept

pub returns-then-has_moved-clause-adds : goal.returns-then-has_moved-clause-adds
returns-then-has_moved-clause-adds g c = try_after g.N.Naming.frame.world c.args.note.knows.known c.loop-at.note.knows.known c.try_one-tried.result.1.knows.known c.try_one-tried.result.0 c.loop-at.invariant.knew c.try_one-tried.ensures.adds

pub returns-clause-adds : goal.returns-clause-adds
returns-clause-adds g c = tt
