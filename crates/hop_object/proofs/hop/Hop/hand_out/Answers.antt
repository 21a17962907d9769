use Rattle.std.proofs.Common.{◌≡◌, ◌<◌, Option, suc, take, drop, length, Some, sym, ap, subst, refl, ◌∙◌, arith}
use Rattle.std.specs.Option.{IsSome}
use Rattle.hop_object.specs.declared.lane.Lane.{Lane}
use Rattle.hop_object.specs.View.{HopView}
use Rattle.hop_object.specs.Inside.{view_of}
use Rattle.hop_object.proofs.Places.{at_place}
use Rattle.hop_object.proofs.Keeps.{few_out, kept_handed}
use Rattle.hop_object.specs.Lanes.{HasPosition}
use Rattle.hop_object.proofs.hop.Hop.hand_out.Goals as goal

pub invariant_of-self : goal.invariant_of-self
invariant_of-self g c =
    let lane = c.index-lane.result.now in
    let i = c.args.index in
    let xs = c.self.inside.lanes.items in
    let k = c.self.invariant in
    let d = c.change.ensures.lanes lane c.index-lane.ensures in
    let carried : lane.item ≡ Some c.unwrap-item.result = sym d.carried ∙ c.unwrap-item.ensures in
    let kept = kept_handed (view_of c.self.inside) (take i xs) lane (drop (suc i) xs) c.unwrap-item.result k.kept d.here carried in
    record { kept = rw (d.after, c.issue-leg.ensures.book) kept; roomy = omega (arith, c.change.ensures.capacity, k.roomy) }

pub returns : goal.returns
returns g c =
    let lane = c.index-lane.result.now in
    let d = c.change.ensures.lanes lane c.index-lane.ensures in
    rw (← c.self.view_is) (record {
      lane = lane;
      here = d.here;
      carried = sym d.carried ∙ c.unwrap-item.ensures;
      after = rw (d.after, c.issue-leg.ensures.book) refl;
      leg_is = c.issue-leg.ensures.leg;
      state_is = refl;
      txn_is = refl;
      time_is = refl;
    })

pub change-requires : goal.change-requires
change-requires g c = subst (λ (v : HopView g.row.T.Denot). c.args.index < length v.lanes) (sym c.self.view_is) c.requires.place

pub unwrap-item-requires : goal.unwrap-item-requires
unwrap-item-requires g c =
    let lane = c.index-lane.result.now in
    let some = at_place (λ (l : Lane g.row.T.Denot). IsSome l.item) c.args.self.now.lanes c.self.inside.lanes.items lane c.args.index c.requires.carries (ap (λ (v : HopView g.row.T.Denot). v.lanes) (sym c.self.view_is)) c.index-lane.ensures in
    subst (λ (o : Option g.row.T.Denot). IsSome o) (sym (c.change.ensures.lanes lane c.index-lane.ensures).carried) some

pub issue-leg-requires-clause-tokens : goal.issue-leg-requires-clause-tokens
issue-leg-requires-clause-tokens g c = ap (λ (v : HopView g.row.T.Denot). v.book.table) c.self.view_is ∙ c.requires.tokens

pub issue-leg-requires-clause-few : goal.issue-leg-requires-clause-few
issue-leg-requires-clause-few g c = λ n. few_out (view_of c.self.inside) c.self.invariant.kept n

pub issue-leg-requires-clause-position : goal.issue-leg-requires-clause-position
issue-leg-requires-clause-position g c =
    let lane = c.index-lane.result.now in
    let below = subst (λ (v : HopView g.row.T.Denot). c.args.index < length v.lanes) (sym c.self.view_is) c.requires.place in
    subst (λ (l : Lane g.row.T.Denot). HasPosition l) (sym c.index-lane.ensures) (c.self.invariant.kept.placed c.args.index lane below)
