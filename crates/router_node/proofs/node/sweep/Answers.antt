use Rattle.std.proofs.Common.{◌<◌, ◌≤◌, List, length, refl, sym, subst, ◌∙◌, arith}
use Rattle.router_node.specs.declared.stage.Stage.{Stage}
use Rattle.node_hops.proofs.Looks.{within_on}
use Rattle.router_node.proofs.Skips.{none_left, on_end, on_more, on_start, on_to, on_within}
use Rattle.router_node.proofs.node.sweep.Goals as goal

pub next_place-at-requires : goal.next_place-at-requires
next_place-at-requires g c =
    subst (λ (l : List Stage). c.loop-k.at ≤ length l) (sym {A = List Stage} c.deref.ensures.value)
    (on_within g.N.Naming.frame c.args.hasty c.args.what c.args.held.now.items c.loop-k._k c.loop-k.at c.loop-k.held.items c.args.note.knows c.loop-k.note.knows c.loop-k.moved c.loop-k.invariant.swept)

pub come_by-next-requires-clause-there : goal.come_by-next-requires-clause-there
come_by-next-requires-clause-there g c = let h = c.loop-k.held.ok in omega (arith, c.if-at-len.false, c.len.ensures, h)

pub returns-then-at-len-clause-swept : goal.returns-then-at-len-clause-swept
returns-then-at-len-clause-swept g c =
    let e = c.next_place-at.ensures in
    let within : c.next_place-at.result ≤ length c.loop-k.held.items = subst (λ (l : List Stage). c.next_place-at.result ≤ length l) c.deref.ensures.value e.within in
    let h = c.loop-k.held.ok in
    none_left g.N.Naming.frame c.args.hasty c.args.what c.args.held.now.items c.loop-k._k c.next_place-at.result c.loop-k.held.items c.args.note.knows c.loop-k.note.knows c.loop-k.moved (λ l. omega (arith, l, c.if-at-len.true, c.len.ensures, h))
    (on_to g.N.Naming.frame c.args.hasty c.args.what c.args.held.now.items c.loop-k._k c.loop-k.at c.next_place-at.result c.loop-k.held.items c.args.note.knows c.loop-k.note.knows c.loop-k.moved e.on within e.each c.loop-k.invariant.swept)

pub loop-k-init : goal.loop-k-init
loop-k-init g c = record {
  note = c.requires.note;
  knew = λ e has. has;
  below = c.requires.below;
  held = c.requires.held;
  capacity = refl;
  swept = on_start g.N.Naming.frame c.args.hasty c.args.what c.args.held.now.items c.args.note.knows;
}

pub loop-k-preserved : goal.loop-k-preserved
loop-k-preserved g c =
    let frame = g.N.Naming.frame in
    let i = c.loop-k.invariant in
    let e = c.next_place-at.ensures in
    let within : c.next_place-at.result ≤ length c.loop-k.held.items = subst (λ (l : List Stage). c.next_place-at.result ≤ length l) c.deref.ensures.value e.within in
    let d = c.come_by-next.ensures in
    let old = c.args.held.now.items in
    let at = c.next_place-at.result in
    let r = c.come_by-next.result in
    let h = c.loop-k.held.ok in
    let there : at < length c.loop-k.held.items = omega (arith, c.if-at-len.false, c.len.ensures, h) in
    record {
      note = d.note;
      knew = within_on c.args.note.knows.known c.loop-k.note.knows.known r.2.knows.known i.knew d.knew;
      below = d.below;
      held = d.held;
      capacity = d.capacity ∙ i.capacity;
      swept = on_more frame c.args.hasty c.args.what old c.loop-k._k at r.0 c.loop-k.held.items c.come_by-next.new.held.items c.args.note.knows c.loop-k.note.knows r.2.knows c.loop-k.moved r.1 c.either-moved.result c.either-moved.ensures there
          (on_to frame c.args.hasty c.args.what old c.loop-k._k c.loop-k.at at c.loop-k.held.items c.args.note.knows c.loop-k.note.knows c.loop-k.moved e.on within e.each i.swept) d.knew d.moved;
    }

pub come_by-next-requires-clause-note : goal.come_by-next-requires-clause-note
come_by-next-requires-clause-note g c = c.loop-k.invariant.note

pub come_by-next-requires-clause-below : goal.come_by-next-requires-clause-below
come_by-next-requires-clause-below g c = c.loop-k.invariant.below

pub come_by-next-requires-clause-held : goal.come_by-next-requires-clause-held
come_by-next-requires-clause-held g c = c.loop-k.invariant.held

pub returns-then-at-len-clause-note : goal.returns-then-at-len-clause-note
returns-then-at-len-clause-note g c = c.loop-k.invariant.note

pub returns-then-at-len-clause-knew : goal.returns-then-at-len-clause-knew
returns-then-at-len-clause-knew g c = c.loop-k.invariant.knew

pub returns-then-at-len-clause-below : goal.returns-then-at-len-clause-below
returns-then-at-len-clause-below g c = c.loop-k.invariant.below

pub returns-then-at-len-clause-held : goal.returns-then-at-len-clause-held
returns-then-at-len-clause-held g c = c.loop-k.invariant.held

pub returns-then-at-len-clause-capacity : goal.returns-then-at-len-clause-capacity
returns-then-at-len-clause-capacity g c = c.loop-k.invariant.capacity

pub returns-clause-note : goal.returns-clause-note
returns-clause-note g c = c.loop-k.invariant.note

pub returns-clause-knew : goal.returns-clause-knew
returns-clause-knew g c = c.loop-k.invariant.knew

pub returns-clause-below : goal.returns-clause-below
returns-clause-below g c = c.loop-k.invariant.below

pub returns-clause-held : goal.returns-clause-held
returns-clause-held g c = c.loop-k.invariant.held

pub returns-clause-capacity : goal.returns-clause-capacity
returns-clause-capacity g c = c.loop-k.invariant.capacity

pub returns-clause-swept : goal.returns-clause-swept
returns-clause-swept g c =
    let h = c.args.held.now.ok in
    on_end g.N.Naming.frame c.args.hasty c.args.what c.args.held.now.items c.loop-k._k c.loop-k.at c.loop-k.held.items c.args.note.knows c.loop-k.note.knows c.loop-k.moved (λ l. omega (arith, l, c.loop-k-test.false, c.len-k-end.ensures, h)) c.loop-k.invariant.swept
