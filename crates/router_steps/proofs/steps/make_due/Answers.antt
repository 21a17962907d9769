use Rattle.std.proofs.Common.{◌≡◌, ◌+◌, ◌≤◌, List, length, refl, sym, ap, subst, ◌∙◌, arith}
use Rattle.std.specs.List.{AllByRecursion}
use Rattle.std.specs.Prelude.{vec_capacity}
use Rattle.std.proofs.lemmas.List.Edits.{length-insert}
use Rattle.router_node.specs.Stages.{IsStage}
use Rattle.router_steps.specs.Stepped.{IsDue}
use Rattle.router_node.specs.declared.stage.Stage.{Stage}
use Rattle.router_steps.specs.declared.steps.Due.{Due}
use Rattle.router_steps.proofs.Dues.{begun_on, settled_on}
use Rattle.router_node.proofs.Holds.{all_more, keeps, router_more, stray_more}
use Rattle.router_node.proofs.Staged.{settled}
use Rattle.router_steps.proofs.Trying.{all_insert, dues_room}
use Rattle.router_node.proofs.Adding.{at_hop, at_memory, in_pool}
use Rattle.router_steps.proofs.steps.make_due.Goals as goal

pub end_above-held-requires-clause-owed : goal.end_above-held-requires-clause-owed
end_above-held-requires-clause-owed g c =
    let frame = g.N.Naming.frame in
    let tokens = g.N.Naming.tokens in
    let r = c.args.node.now in
    let known = c.args.note.knows.known in
    let d = subst (λ (x : Due). IsDue frame tokens known (length r.held.items) r.room x) c.in-EndAbove.is c.requires.due in
    d.1

pub end_above-held-requires-clause-gone : goal.end_above-held-requires-clause-gone
end_above-held-requires-clause-gone g c =
    let frame = g.N.Naming.frame in
    let tokens = g.N.Naming.tokens in
    let r = c.args.node.now in
    let known = c.args.note.knows.known in
    let d = subst (λ (x : Due). IsDue frame tokens known (length r.held.items) r.room x) c.in-EndAbove.is c.requires.due in
    let n = d.2 in
    n.gone

pub hold_below-due-requires-clause-place : goal.hold_below-due-requires-clause-place
hold_below-due-requires-clause-place g c =
    let frame = g.N.Naming.frame in
    let tokens = g.N.Naming.tokens in
    let r = c.args.node.now in
    let known = c.args.note.knows.known in
    let d = subst (λ (x : Due). IsDue frame tokens known (length r.held.items) r.room x) c.in-EndAbove.is c.requires.due in
    let p = d.0 in
    let is = c.requires.router in
    record { there = p.there; free = omega (arith, p.free, is.room) }

pub hold_below-due-requires-clause-held : goal.hold_below-due-requires-clause-held
hold_below-due-requires-clause-held g c =
    let frame = g.N.Naming.frame in
    let tokens = g.N.Naming.tokens in
    let r = c.args.node.now in
    let known = c.args.note.knows.known in
    all_more frame tokens known c.end_above-held.result.1.knows.known c.end_above-held.ensures.knew r.held.items (let is = c.requires.router in is.held)

pub hold_below-due-requires-clause-settled : goal.hold_below-due-requires-clause-settled
hold_below-due-requires-clause-settled g c =
    let frame = g.N.Naming.frame in
    let tokens = g.N.Naming.tokens in
    let r = c.args.node.now in
    let known = c.args.note.knows.known in
    let d = subst (λ (x : Due). IsDue frame tokens known (length r.held.items) r.room x) c.in-EndAbove.is c.requires.due in
    let more = c.end_above-held.result.1.knows.known in
    let h = c.in-EndAbove.held in
    let n = d.2 in
    settled_on frame tokens known more c.end_above-held.ensures.knew h c.end_above-held.result.0 n.there (settled frame tokens known more c.end_above-held.ensures.knew h c.in-EndAbove.time c.end_above-held.result.0 n.gone c.end_above-held.ensures.ended)

pub hold_below-due-requires-clause-begun : goal.hold_below-due-requires-clause-begun
hold_below-due-requires-clause-begun g c =
    let frame = g.N.Naming.frame in
    let tokens = g.N.Naming.tokens in
    let r = c.args.node.now in
    let known = c.args.note.knows.known in
    let d = subst (λ (x : Due). IsDue frame tokens known (length r.held.items) r.room x) c.in-EndAbove.is c.requires.due in
    let more = c.end_above-held.result.1.knows.known in
    let h = c.in-EndAbove.held in
    let n = d.2 in
    begun_on frame tokens known more c.end_above-held.ensures.knew h c.end_above-held.result.0 c.in-EndAbove.begun (settled frame tokens known more c.end_above-held.ensures.knew h c.in-EndAbove.time c.end_above-held.result.0 n.gone c.end_above-held.ensures.ended) n.begun_is

pub returns-in-EndAbove-clause-router : goal.returns-in-EndAbove-clause-router
returns-in-EndAbove-clause-router g c =
    let frame = g.N.Naming.frame in
    let tokens = g.N.Naming.tokens in
    let r = c.args.node.now in
    let known = c.args.note.knows.known in
    let d = subst (λ (x : Due). IsDue frame tokens known (length r.held.items) r.room x) c.in-EndAbove.is c.requires.due in
    let more = c.end_above-held.result.1.knows.known in
    let w = c.end_above-held.ensures.knew in
    let is = c.requires.router in
    let e = c.hold_below-due.ensures in
    let p = d.0 in
    let few : length c.hold_below-due.new.held.items ≤ r.room = omega (arith, e.few, p.free) in
    let room : r.room ≤ vec_capacity c.hold_below-due.new.held = omega (arith, is.room, e.capacity) in
    keeps frame tokens known more w r (record r { held = c.hold_below-due.new.held }) refl is e.held few room (stray_more frame tokens known more w r.stray is.stray)

pub returns-in-EndAbove-clause-due : goal.returns-in-EndAbove-clause-due
returns-in-EndAbove-clause-due g c =
    let frame = g.N.Naming.frame in
    let tokens = g.N.Naming.tokens in
    let r = c.args.node.now in
    let known = c.args.note.knows.known in
    let d = subst (λ (x : Due). IsDue frame tokens known (length r.held.items) r.room x) c.in-EndAbove.is c.requires.due in
    let p = d.0 in
    dues_room frame tokens c.end_above-held.result.1.knows.known (length c.hold_below-due.new.held.items) (length r.held.items + 1) r.room c.hold_below-due.result (omega (arith, p.free)) c.hold_below-due.ensures.due

pub serve-stage-requires-clause-settled : goal.serve-stage-requires-clause-settled
serve-stage-requires-clause-settled g c =
    let frame = g.N.Naming.frame in
    let tokens = g.N.Naming.tokens in
    let r = c.args.node.now in
    let known = c.args.note.knows.known in
    let d = subst (λ (x : Due). IsDue frame tokens known (length r.held.items) r.room x) c.in-Serve.is c.requires.due in
    d.1

pub serve-stage-requires-clause-begun : goal.serve-stage-requires-clause-begun
serve-stage-requires-clause-begun g c =
    let frame = g.N.Naming.frame in
    let tokens = g.N.Naming.tokens in
    let r = c.args.node.now in
    let known = c.args.note.knows.known in
    let d = subst (λ (x : Due). IsDue frame tokens known (length r.held.items) r.room x) c.in-Serve.is c.requires.due in
    d.2

pub put_in-requires : goal.put_in-requires
put_in-requires g c =
    let frame = g.N.Naming.frame in
    let tokens = g.N.Naming.tokens in
    let r = c.args.node.now in
    let known = c.args.note.knows.known in
    let d = subst (λ (x : Due). IsDue frame tokens known (length r.held.items) r.room x) c.in-Serve.is c.requires.due in
    let p = d.0 in
    let is = c.requires.router in
    record { there = p.there; free = omega (arith, p.free, is.room) }

pub returns-in-Serve-clause-router : goal.returns-in-Serve-clause-router
returns-in-Serve-clause-router g c =
    let frame = g.N.Naming.frame in
    let tokens = g.N.Naming.tokens in
    let r = c.args.node.now in
    let known = c.args.note.knows.known in
    let d = subst (λ (x : Due). IsDue frame tokens known (length r.held.items) r.room x) c.in-Serve.is c.requires.due in
    let more = c.serve-stage.result.1.knows.known in
    let w = c.serve-stage.ensures.knew in
    let is = c.requires.router in
    let items = r.held.items in
    let stage = c.serve-stage.result.0 in
    let e = c.put_in.ensures in
    let p = d.0 in
    let held = subst (λ (l : List Stage). AllByRecursion (IsStage frame tokens more) l) (sym {A = List Stage} e.items) (all_insert (IsStage frame tokens more) items c.in-Serve.at stage (all_more frame tokens known more w items is.held) c.serve-stage.ensures.stage) in
    let count : length c.put_in.new.held.items ≡ length items + 1 = ap (λ (l : List Stage). length l) e.items ∙ length-insert items c.in-Serve.at stage p.there in
    let few : length c.put_in.new.held.items ≤ r.room = omega (arith, count, p.free) in
    let room : r.room ≤ vec_capacity c.put_in.new.held = omega (arith, is.room, e.capacity) in
    keeps frame tokens known more w r (record r { held = c.put_in.new.held }) refl is held few room (stray_more frame tokens known more w r.stray is.stray)

pub returns-in-Serve-clause-due : goal.returns-in-Serve-clause-due
returns-in-Serve-clause-due g c = tt

pub release-requires-clause-done : goal.release-requires-clause-done
release-requires-clause-done g c =
    let frame = g.N.Naming.frame in
    let tokens = g.N.Naming.tokens in
    let r = c.args.node.now in
    let known = c.args.note.knows.known in
    let d = subst (λ (x : Due). IsDue frame tokens known (length r.held.items) r.room x) c.in-Release.is c.requires.due in
    d.0

pub release-requires-clause-rest : goal.release-requires-clause-rest
release-requires-clause-rest g c =
    let frame = g.N.Naming.frame in
    let tokens = g.N.Naming.tokens in
    let r = c.args.node.now in
    let known = c.args.note.knows.known in
    let d = subst (λ (x : Due). IsDue frame tokens known (length r.held.items) r.room x) c.in-Release.is c.requires.due in
    d.1

pub returns-in-Release-clause-router : goal.returns-in-Release-clause-router
returns-in-Release-clause-router g c =
    let frame = g.N.Naming.frame in
    let tokens = g.N.Naming.tokens in
    let r = c.args.node.now in
    let known = c.args.note.knows.known in
    router_more frame tokens known c.release.result.knows.known c.release.ensures.knew r c.requires.router

pub returns-in-Release-clause-due : goal.returns-in-Release-clause-due
returns-in-Release-clause-due g c = tt

pub returns-in-EndAbove-clause-adds : goal.returns-in-EndAbove-clause-adds
returns-in-EndAbove-clause-adds g c =
    let frame = g.N.Naming.frame in
    let tokens = g.N.Naming.tokens in
    let r = c.args.node.now in
    let known = c.args.note.knows.known in
    let d = subst (λ (x : Due). IsDue frame tokens known (length r.held.items) r.room x) c.in-EndAbove.is c.requires.due in
    let n = d.2 in
    at_hop frame.world c.args.note.knows c.end_above-held.result.1.knows c.requires.below c.in-EndAbove.held.above n.there c.end_above-held.ensures.adds

pub returns-in-Serve-clause-adds : goal.returns-in-Serve-clause-adds
returns-in-Serve-clause-adds g c =
    let frame = g.N.Naming.frame in
    let tokens = g.N.Naming.tokens in
    let r = c.args.node.now in
    let known = c.args.note.knows.known in
    let d = subst (λ (x : Due). IsDue frame tokens known (length r.held.items) r.room x) c.in-Serve.is c.requires.due in
    let b = d.2 in
    let h = b.held in
    at_memory frame.world c.args.note.knows c.serve-stage.result.1.knows c.requires.below c.in-Serve.held.txn b.pass h.passes c.serve-stage.ensures.adds

pub returns-in-Release-clause-adds : goal.returns-in-Release-clause-adds
returns-in-Release-clause-adds g c =
    let frame = g.N.Naming.frame in
    let tokens = g.N.Naming.tokens in
    let r = c.args.node.now in
    let known = c.args.note.knows.known in
    let d = subst (λ (x : Due). IsDue frame tokens known (length r.held.items) r.room x) c.in-Release.is c.requires.due in
    let i = d.1 in
    let q = i.rest in
    in_pool frame.world c.args.note.knows c.release.result.knows c.requires.below c.in-Release.rest.txn i.pass q.passes c.release.ensures.adds
