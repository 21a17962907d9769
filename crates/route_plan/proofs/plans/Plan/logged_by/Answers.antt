use Rattle.std.proofs.Common.{◌≤◌, sym, ap, subst}
use Rattle.route_plan.specs.declared.shares.Share.{Share}
use Rattle.route_plan.proofs.KeptLemmas.{few_shared_bytes, initiator_within, kept_by_parts, memory_below, place_within, share_read, valid_by_parts}
use Rattle.route_plan.proofs.plans.Plan.logged_by.Goals as goal

pub bounds-as_slice-memory : goal.bounds-as_slice-memory
bounds-as_slice-memory c =
    let p = c.args.self.now in
    place_within p c.self.inside.shares c.as_slice.result.now c.args.memory (kept_by_parts c.self.inside p c.self.view_is c.self.invariant) c.as_slice.ensures (memory_below p c.args.memory c.requires.memory)

pub bounds-as_slice-initiator : goal.bounds-as_slice-initiator
bounds-as_slice-initiator c =
    let p = c.args.self.now in
    initiator_within p c.self.inside.shares c.as_slice.result.now c.args.memory c.args.initiator c.index-as_slice-memory.result c.as_slice-2.result.now (kept_by_parts c.self.inside p c.self.view_is c.self.invariant) c.as_slice.ensures
    (memory_below p c.args.memory c.requires.memory) c.index-as_slice-memory.is c.as_slice-2.ensures c.requires.initiator

pub returns : goal.returns
returns c =
    let p = c.args.self.now in
    let n = c.args.initiator in
    let m = c.args.memory in
    let none : Share = record { entries = 0; logged = 0 } in
    let read =
    share_read p c.self.inside.shares c.as_slice.result.now m n c.index-as_slice-memory.result c.as_slice-2.result.now none (kept_by_parts c.self.inside p c.self.view_is c.self.invariant) c.as_slice.ensures (memory_below p c.args.memory c.requires.memory)
    c.index-as_slice-memory.is c.as_slice-2.ensures c.requires.initiator in
    let share = ap (λ (s : Share). s.logged) read in
    let few = few_shared_bytes p n m (valid_by_parts c.self.inside p c.self.view_is c.self.invariant) c.requires.memory c.requires.initiator in
    record { share = share; few = subst (λ k. k ≤ 67108864) (sym share) few }
