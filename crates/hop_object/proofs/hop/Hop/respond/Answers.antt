use Rattle.std.proofs.Common.{◌⊎◌, false, Some, List, get_or, length, ◌<◌, subst, ap, ◌≡◌, suc, take, drop, true, refl, sym, ◌∙◌, arith}
use Rattle.std.specs.Prelude.{find}
use Rattle.std.specs.List.{list_any, All}
use Rattle.base_phases.specs.declared.phases.LaneState.TheVariants.{Requested, Waiting}
use Rattle.hop_object.specs.declared.lane.Lane.{Lane}
use Rattle.hop_object.specs.View.{HopView}
use Rattle.hop_object.specs.Inside.{view_of}
use Rattle.hop_object.specs.Lanes.{any_responding, has_leg, legs_out, HasPosition}
use Rattle.hop_object.specs.Hops.{IsLegOf, MayCall}
use Rattle.hop_object.proofs.Places.{at_place, found_any}
use Rattle.hop_object.proofs.LegLemmas.{leg_parts}
use Rattle.hop_object.proofs.Keeps.{kept_respond, Redeemed}
use Rattle.hop_object.proofs.hop.Hop.respond.Goals as goal

pub let_go-requires : goal.let_go-requires
let_go-requires g c =
    let lane = c.index-lane.result.now in
    let has : has_leg c.args.leg.name lane ≡ true = at_place (λ (l : Lane g.row.T.Denot). has_leg c.args.leg.name l ≡ true) c.deref.result.now c.self.inside.lanes.items lane c.redeem-index.result c.redeem-index.ensures.leg c.deref.ensures.value c.index-lane.ensures in
    (c.change-was.ensures.lanes lane c.index-lane.ensures).carried ∙ (leg_parts c.args.leg.name lane has).0

pub push-requires : goal.push-requires
push-requires g c =
    let lane = c.index-lane.result.now in
    let i = c.redeem-index.result in
    let xs = c.self.inside.lanes.items in
    let is : find (has_leg c.args.leg.name) xs ≡ Some lane = ap (find (has_leg c.args.leg.name)) (sym c.deref.ensures.value) ∙ c.redeem-index.ensures.found lane (c.index-lane.ensures ∙ ap (λ (ys : List (Lane g.row.T.Denot)). get_or ys i lane) (sym c.deref.ensures.value)) in
    let may = c.requires.may (ap (λ (v : HopView g.row.T.Denot). list_any (has_leg c.args.leg.name) v.lanes) (sym c.self.view_is) ∙ found_any (has_leg c.args.leg.name) xs lane is) in
    subst (λ (v : HopView g.row.T.Denot). length v.log.events < v.log.room) (sym c.self.view_is) may.room

pub invariant_of-self : goal.invariant_of-self
invariant_of-self g c =
    let lane = c.index-lane.result.now in
    let i = c.redeem-index.result in
    let xs = c.self.inside.lanes.items in
    let v = view_of c.self.inside in
    let k = c.self.invariant in
    let d = c.change-was.ensures.lanes lane c.index-lane.ensures in
    let has : has_leg c.args.leg.name lane ≡ true = at_place (λ (l : Lane g.row.T.Denot). has_leg c.args.leg.name l ≡ true) c.deref.result.now xs lane i c.redeem-index.ensures.leg c.deref.ensures.value c.index-lane.ensures in
    let is : find (has_leg c.args.leg.name) xs ≡ Some lane = ap (find (has_leg c.args.leg.name)) (sym c.deref.ensures.value) ∙ c.redeem-index.ensures.found lane (c.index-lane.ensures ∙ ap (λ (ys : List (Lane g.row.T.Denot)). get_or ys i lane) (sym c.deref.ensures.value)) in
    let may = c.requires.may (ap (λ (w : HopView g.row.T.Denot). list_any (has_leg c.args.leg.name) w.lanes) (sym c.self.view_is) ∙ found_any (has_leg c.args.leg.name) xs lane is) in
    let may_here : MayCall v c.args.position = subst (λ (w : HopView g.row.T.Denot). MayCall w c.args.position) (sym c.self.view_is) may in
    let t = c.max-time.result in
    let free : any_responding v.lanes ≡ false = ap (λ (w : HopView g.row.T.Denot). any_responding w.lanes) c.self.view_is ∙ c.requires.turn in
    let own : IsLegOf v c.args.leg Requested ⊎ IsLegOf v c.args.leg Waiting = subst (λ (w : HopView g.row.T.Denot). IsLegOf w c.args.leg Requested ⊎ IsLegOf w c.args.leg Waiting) (sym c.self.view_is) c.requires.leg in
    let redeemed : Redeemed v c.args.leg (take i xs) lane (drop (suc i) xs) = record { here = d.here; has = has; one = c.redeem-index.ensures.one; was = c.redeem-index.ensures.out } in
    let kept = kept_respond v c.args.leg (take i xs) lane (drop (suc i) xs) c.args.position t c.args.item k.kept may_here.past redeemed (omega (arith, c.max-time.ensures, c.max-early.ensures)) (omega (arith, c.max-time.ensures)) free own in
    record {
      kept = rw (d.after, c.push.ensures, c.of_call-event.ensures, c.redeem-index.ensures.book, c.request_end_responded-self-inside.ensures, c.response_end_responded-self-inside.ensures, c.state_by-next.ensures, c.mark_of.ensures, c.response_answer-answer.ensures) kept;
      roomy = omega (arith, c.change-was.ensures.capacity, k.roomy);
    }

pub returns : goal.returns
returns g c =
    let lane = c.index-lane.result.now in
    let i = c.redeem-index.result in
    let xs = c.self.inside.lanes.items in
    let d = c.change-was.ensures.lanes lane c.index-lane.ensures in
    rw (← c.self.view_is) (record {
      before = take i xs;
      lane = lane;
      behind = drop (suc i) xs;
      here = d.here;
      leg_is = ap (find (has_leg c.args.leg.name)) (sym c.deref.ensures.value) ∙ c.redeem-index.ensures.found lane (c.index-lane.ensures ∙ ap (λ (ys : List (Lane g.row.T.Denot)). get_or ys i lane) (sym c.deref.ensures.value));
      time = c.max-time.result;
      time_is = rw (c.max-time.ensures, c.max-early.ensures) refl;
      after = rw (d.after, c.push.ensures, c.of_call-event.ensures, c.redeem-index.ensures.book, c.request_end_responded-self-inside.ensures, c.response_end_responded-self-inside.ensures, c.state_by-next.ensures, c.mark_of.ensures, c.response_answer-answer.ensures) refl;
      answer_is = rw c.response_answer-answer.ensures refl;
    })

pub redeem-index-requires-clause-tokens : goal.redeem-index-requires-clause-tokens
redeem-index-requires-clause-tokens g c = ap (λ (v : HopView g.row.T.Denot). v.book.table) c.self.view_is ∙ c.requires.tokens

pub redeem-index-requires-clause-placed : goal.redeem-index-requires-clause-placed
redeem-index-requires-clause-placed g c = subst (λ (ls : List (Lane g.row.T.Denot)). All HasPosition ls) (sym c.deref.ensures.value) c.self.invariant.kept.placed

pub redeem-index-requires-clause-legs : goal.redeem-index-requires-clause-legs
redeem-index-requires-clause-legs g c = λ n. c.self.invariant.kept.legs n ∙ ap (legs_out n) (sym c.deref.ensures.value)

pub change-was-requires : goal.change-was-requires
change-was-requires g c = subst (λ (ls : List (Lane g.row.T.Denot)). c.redeem-index.result < length ls) c.deref.ensures.value c.redeem-index.ensures.place
