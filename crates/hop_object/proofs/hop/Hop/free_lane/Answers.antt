use Rattle.std.proofs.Common.{◌≡◌, suc, take, drop, Some, sym, ap, refl, ◌∙◌, arith, ◌<◌, length, subst, Option}
use Rattle.base_phases.specs.declared.phases.LaneState.TheVariants.{Free}
use Rattle.hop_object.specs.declared.lane.Lane.{Lane}
use Rattle.hop_object.specs.View.{HopView}
use Rattle.hop_object.specs.Inside.{view_of}
use Rattle.hop_object.proofs.Places.{at_place}
use Rattle.hop_object.proofs.Keeps.{kept_freed}
use Rattle.std.specs.Option.{IsSome}
use Rattle.hop_object.proofs.hop.Hop.free_lane.Goals as goal

pub invariant_of-self : goal.invariant_of-self
invariant_of-self g c =
    let lane = c.index-lane.result.now in
    let i = c.args.index in
    let xs = c.self.inside.lanes.items in
    let k = c.self.invariant in
    let d = c.take_out-was.ensures.lanes lane c.index-lane.ensures in
    let carried : lane.item ≡ Some c.unwrap.result = sym d.carried ∙ c.unwrap.ensures in
    let free : lane.state ≡ Free = at_place (λ (l : Lane g.row.T.Denot). l.state ≡ Free) c.args.self.now.lanes xs lane i c.requires.ended (sym (ap (λ (v : HopView g.row.T.Denot). v.lanes) c.self.view_is)) c.index-lane.ensures in
    let kept = kept_freed (view_of c.self.inside) (take i xs) lane (drop (suc i) xs) c.unwrap.result k.kept d.here carried free in
    record { kept = rw (d.after) kept; roomy = omega (arith, c.take_out-was.ensures.capacity, k.roomy) }

pub returns : goal.returns
returns g c =
    let lane = c.index-lane.result.now in
    let i = c.args.index in
    let xs = c.self.inside.lanes.items in
    let d = c.take_out-was.ensures.lanes lane c.index-lane.ensures in
    rw (← c.self.view_is) (record {
      lane = lane;
      here = d.here;
      carried = sym d.carried ∙ c.unwrap.ensures;
      ended = at_place (λ (l : Lane g.row.T.Denot). l.state ≡ Free) c.args.self.now.lanes xs lane i c.requires.ended (sym (ap (λ (v : HopView g.row.T.Denot). v.lanes) c.self.view_is)) c.index-lane.ensures;
      after = rw (d.after) refl;
      txn_is = refl;
      time_is = refl;
    })

pub take_out-was-requires : goal.take_out-was-requires
take_out-was-requires g c = subst (λ (v : HopView g.row.T.Denot). c.args.index < length v.lanes) (sym c.self.view_is) c.requires.place

pub unwrap-requires : goal.unwrap-requires
unwrap-requires g c =
    let lane = c.index-lane.result.now in
    let some = at_place (λ (l : Lane g.row.T.Denot). IsSome l.item) c.args.self.now.lanes c.self.inside.lanes.items lane c.args.index c.requires.carries (ap (λ (v : HopView g.row.T.Denot). v.lanes) (sym c.self.view_is)) c.index-lane.ensures in
    subst (λ (o : Option g.row.T.Denot). IsSome o) (sym (c.take_out-was.ensures.lanes lane c.index-lane.ensures).carried) some
