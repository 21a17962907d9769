use Rattle.std.proofs.Common.{Some, List, get_or, length, ◌<◌, subst, ap, ◌≡◌, suc, take, drop, true, refl, sym, ◌∙◌, arith}
use Rattle.std.specs.Prelude.{find}
use Rattle.std.specs.List.{list_any, All}
use Rattle.base_phases.specs.declared.phases.LaneState.TheVariants.{Responding}
use Rattle.hop_object.specs.declared.lane.Lane.{Lane}
use Rattle.hop_object.specs.View.{HopView}
use Rattle.hop_object.specs.Inside.{view_of}
use Rattle.hop_object.specs.Lanes.{has_leg, legs_out, HasPosition}
use Rattle.hop_object.specs.Hops.{IsLegOf, MayCall}
use Rattle.hop_object.proofs.Places.{at_place, found_any}
use Rattle.hop_object.proofs.LegLemmas.{leg_parts}
use Rattle.hop_object.proofs.Keeps.{kept_end_resp}
use Rattle.hop_object.proofs.hop.Hop.end_resp.Goals as goal

pub let_go-requires : goal.let_go-requires
let_go-requires g c =
    let lane = c.index-lane.result.now in
    let has : has_leg c.args.leg.name lane ≡ true = at_place (λ (l : Lane g.row.T.Denot). has_leg c.args.leg.name l ≡ true) c.deref.result.now c.self.inside.lanes.items lane c.redeem-index.result c.redeem-index.ensures.leg c.deref.ensures.value c.index-lane.ensures in
    (c.take_out-was.ensures.lanes lane c.index-lane.ensures).carried ∙ (leg_parts c.args.leg.name lane has).0

pub push-requires : goal.push-requires
push-requires g c =
    let lane = c.index-lane.result.now in
    let i = c.redeem-index.result in
    let xs = c.self.inside.lanes.items in
    let is : find (has_leg c.args.leg.name) xs ≡ Some lane = ap (find (has_leg c.args.leg.name)) (sym c.deref.ensures.value) ∙ c.redeem-index.ensures.found lane (c.index-lane.ensures ∙ ap (λ (ys : List (Lane g.row.T.Denot)). get_or ys i lane) (sym c.deref.ensures.value)) in
    let may = c.requires.may (ap (λ (v : HopView g.row.T.Denot). list_any (has_leg c.args.leg.name) v.lanes) (sym c.self.view_is) ∙ found_any (has_leg c.args.leg.name) xs lane is) in
    subst (λ (v : HopView g.row.T.Denot). length v.log.events < v.log.room) (sym c.self.view_is) may.room

pub invariant_of-self : goal.invariant_of-self
invariant_of-self g c =
    let lane = c.index-lane.result.now in
    let i = c.redeem-index.result in
    let xs = c.self.inside.lanes.items in
    let v = view_of c.self.inside in
    let k = c.self.invariant in
    let d = c.take_out-was.ensures.lanes lane c.index-lane.ensures in
    let has : has_leg c.args.leg.name lane ≡ true = at_place (λ (l : Lane g.row.T.Denot). has_leg c.args.leg.name l ≡ true) c.deref.result.now xs lane i c.redeem-index.ensures.leg c.deref.ensures.value c.index-lane.ensures in
    let is : find (has_leg c.args.leg.name) xs ≡ Some lane = ap (find (has_leg c.args.leg.name)) (sym c.deref.ensures.value) ∙ c.redeem-index.ensures.found lane (c.index-lane.ensures ∙ ap (λ (ys : List (Lane g.row.T.Denot)). get_or ys i lane) (sym c.deref.ensures.value)) in
    let may = c.requires.may (ap (λ (w : HopView g.row.T.Denot). list_any (has_leg c.args.leg.name) w.lanes) (sym c.self.view_is) ∙ found_any (has_leg c.args.leg.name) xs lane is) in
    let may_here : MayCall v c.args.position = subst (λ (w : HopView g.row.T.Denot). MayCall w c.args.position) (sym c.self.view_is) may in
    let own : IsLegOf v c.args.leg Responding = subst (λ (w : HopView g.row.T.Denot). IsLegOf w c.args.leg Responding) (sym c.self.view_is) c.requires.leg in
    let kept = kept_end_resp v c.args.leg (take i xs) lane (drop (suc i) xs) c.args.position c.max-time.result k.kept may_here.past (record { here = d.here; has = has; one = c.redeem-index.ensures.one; was = c.redeem-index.ensures.out }) own (omega (arith, c.max-time.ensures)) in
    record {
      kept = rw (d.after, c.push.ensures, c.redeem-index.ensures.book, c.max-self-inside.ensures) kept;
      roomy = omega (arith, c.take_out-was.ensures.capacity, k.roomy);
    }

pub returns : goal.returns
returns g c =
    let lane = c.index-lane.result.now in
    let i = c.redeem-index.result in
    let xs = c.self.inside.lanes.items in
    let d = c.take_out-was.ensures.lanes lane c.index-lane.ensures in
    rw (← c.self.view_is) (record {
      before = take i xs;
      lane = lane;
      behind = drop (suc i) xs;
      here = d.here;
      leg_is = ap (find (has_leg c.args.leg.name)) (sym c.deref.ensures.value) ∙ c.redeem-index.ensures.found lane (c.index-lane.ensures ∙ ap (λ (ys : List (Lane g.row.T.Denot)). get_or ys i lane) (sym c.deref.ensures.value));
      time_is = c.max-time.ensures;
      after = rw (d.after, c.push.ensures, c.redeem-index.ensures.book, c.max-self-inside.ensures) refl;
    })

pub redeem-index-requires-clause-tokens : goal.redeem-index-requires-clause-tokens
redeem-index-requires-clause-tokens g c = ap (λ (v : HopView g.row.T.Denot). v.book.table) c.self.view_is ∙ c.requires.tokens

pub redeem-index-requires-clause-leg : goal.redeem-index-requires-clause-leg
redeem-index-requires-clause-leg g c = (c.requires.leg.table ∙ c.requires.tokens, c.requires.leg.owner ∙ sym (ap (λ (v : HopView g.row.T.Denot). v.book.owner) c.self.view_is))

pub redeem-index-requires-clause-placed : goal.redeem-index-requires-clause-placed
redeem-index-requires-clause-placed g c = subst (λ (ls : List (Lane g.row.T.Denot)). All HasPosition ls) (sym c.deref.ensures.value) c.self.invariant.kept.placed

pub redeem-index-requires-clause-legs : goal.redeem-index-requires-clause-legs
redeem-index-requires-clause-legs g c = λ n. c.self.invariant.kept.legs n ∙ ap (legs_out n) (sym c.deref.ensures.value)

pub take_out-was-requires : goal.take_out-was-requires
take_out-was-requires g c = subst (λ (ls : List (Lane g.row.T.Denot)). c.redeem-index.result < length ls) c.deref.ensures.value c.redeem-index.ensures.place
