use Rattle.std.proofs.Common.{◌<◌, ◌≤◌, sym, ap, subst, ◌∙◌, arith}
use Rattle.route_plan.specs.declared.shares.Share.{Share}
use Rattle.route_plan.specs.Counted.{share_at}
use Rattle.route_plan.proofs.KeptLemmas.{few_shares, initiator_within, kept_by_parts, object_here, place_below, place_by_parts, place_fits, place_within, share_read, valid_by_parts}
use Rattle.route_plan.proofs.plans.Plan.share.Goals as goal

pub offset_bounds-as_slice-place : goal.offset_bounds-as_slice-place
offset_bounds-as_slice-place c =
    let fits : c.place-place.result < 336 = place_fits c.self.inside c.args.self.now c.args.object c.place-place.result c.self.view_is c.self.invariant c.place-place.ensures c.requires.object in
    omega (arith, fits)

pub bounds-as_slice-place : goal.bounds-as_slice-place
bounds-as_slice-place c =
    let p = c.args.self.now in
    let place = place_by_parts c.self.inside p c.args.object c.place-place.result c.self.view_is c.place-place.ensures in
    place_within p c.self.inside.shares c.as_slice.result.now c.place-place.result (kept_by_parts c.self.inside p c.self.view_is c.self.invariant) c.as_slice.ensures (place_below p c.args.object c.place-place.result place c.requires.object)

pub bounds-as_slice-initiator : goal.bounds-as_slice-initiator
bounds-as_slice-initiator c =
    let p = c.args.self.now in
    let place = place_by_parts c.self.inside p c.args.object c.place-place.result c.self.view_is c.place-place.ensures in
    initiator_within p c.self.inside.shares c.as_slice.result.now c.place-place.result c.args.initiator c.index-as_slice-place.result c.as_slice-2.result.now (kept_by_parts c.self.inside p c.self.view_is c.self.invariant) c.as_slice.ensures
    (place_below p c.args.object c.place-place.result place c.requires.object) c.index-as_slice-place.is c.as_slice-2.ensures c.requires.initiator

pub returns : goal.returns
returns c =
    let p = c.args.self.now in
    let n = c.args.initiator in
    let o = c.args.object in
    let none : Share = record { entries = 0; logged = 0 } in
    let place = place_by_parts c.self.inside p o c.place-place.result c.self.view_is c.place-place.ensures in
    let read =
    share_read p c.self.inside.shares c.as_slice.result.now c.place-place.result n c.index-as_slice-place.result c.as_slice-2.result.now none (kept_by_parts c.self.inside p c.self.view_is c.self.invariant) c.as_slice.ensures
    (place_below p o c.place-place.result place c.requires.object) c.index-as_slice-place.is c.as_slice-2.ensures c.requires.initiator in
    let share = ap (λ (s : Share). s.entries) read ∙ ap (share_at p n) (object_here p o c.place-place.result place c.requires.object) in
    let few = few_shares p n o (valid_by_parts c.self.inside p c.self.view_is c.self.invariant) c.requires.object c.requires.initiator in
    record { share = share; few = subst (λ k. k ≤ 1000000) (sym share) few }
