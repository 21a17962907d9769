use Rattle.std.proofs.Common.{◌≡◌, sym, ◌∙◌, arith}
use Rattle.route_plan.specs.Planned.{logged_bytes}
use Rattle.route_plan.proofs.KeptLemmas.{bytes_read, kept_by_parts, memory_below, place_within, valid_by_parts}
use Rattle.route_plan.proofs.TotalLemmas.{bytes_add_up, few_bytes}
use Rattle.route_plan.proofs.plans.Plan.logged.Goals as goal

pub bounds-as_slice-memory : goal.bounds-as_slice-memory
bounds-as_slice-memory c =
    let p = c.args.self.now in
    place_within p c.self.inside.shares c.as_slice.result.now c.args.memory (kept_by_parts c.self.inside p c.self.view_is c.self.invariant) c.as_slice.ensures (memory_below p c.args.memory c.requires)

pub returns : goal.returns
returns c =
    let p = c.args.self.now in
    let made = valid_by_parts c.self.inside p c.self.view_is c.self.invariant in
    let kept = kept_by_parts c.self.inside p c.self.view_is c.self.invariant in
    let read : c.logged_in.result ≡ logged_bytes p c.args.memory =
    bytes_read p c.self.inside.shares c.as_slice.result.now c.args.memory c.logged_in.result c.index-as_slice-memory.result c.as_slice-2.result.now made kept c.as_slice.ensures c.requires c.index-as_slice-memory.is c.as_slice-2.ensures
    c.logged_in.ensures in
    record { logged = read; shares = read ∙ sym (bytes_add_up p c.args.memory made.scripts); few = omega (arith, read, few_bytes p c.args.memory made.limits c.requires) }
