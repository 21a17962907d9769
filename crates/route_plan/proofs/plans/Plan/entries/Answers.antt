use Rattle.std.proofs.Common.{◌≡◌, ◌<◌, sym, ◌∙◌, arith}
use Rattle.route_plan.specs.Planned.{planned_at}
use Rattle.route_plan.proofs.KeptLemmas.{entries_read, kept_by_parts, place_below, place_by_parts, place_fits, place_within, valid_by_parts}
use Rattle.route_plan.proofs.TotalLemmas.{few_entries, shares_add_up}
use Rattle.route_plan.proofs.plans.Plan.entries.Goals as goal

pub offset_bounds-as_slice-place : goal.offset_bounds-as_slice-place
offset_bounds-as_slice-place c =
    let fits : c.place-place.result < 336 = place_fits c.self.inside c.args.self.now c.args.object c.place-place.result c.self.view_is c.self.invariant c.place-place.ensures c.requires in
    omega (arith, fits)

pub bounds-as_slice-place : goal.bounds-as_slice-place
bounds-as_slice-place c =
    let p = c.args.self.now in
    let place = place_by_parts c.self.inside p c.args.object c.place-place.result c.self.view_is c.place-place.ensures in
    place_within p c.self.inside.shares c.as_slice.result.now c.place-place.result (kept_by_parts c.self.inside p c.self.view_is c.self.invariant) c.as_slice.ensures (place_below p c.args.object c.place-place.result place c.requires)

pub returns : goal.returns
returns c =
    let p = c.args.self.now in
    let o = c.args.object in
    let made = valid_by_parts c.self.inside p c.self.view_is c.self.invariant in
    let kept = kept_by_parts c.self.inside p c.self.view_is c.self.invariant in
    let place = place_by_parts c.self.inside p o c.place-place.result c.self.view_is c.place-place.ensures in
    let read : c.entries_in.result ≡ planned_at p o =
    entries_read p c.self.inside.shares c.as_slice.result.now c.place-place.result c.entries_in.result o c.index-as_slice-place.result c.as_slice-2.result.now made kept c.as_slice.ensures place c.requires
    c.index-as_slice-place.is c.as_slice-2.ensures c.entries_in.ensures in
    record { planned = read; shares = read ∙ sym (shares_add_up p o made.scripts); few = omega (arith, read, few_entries p o made.limits c.requires) }
