use Rattle.std.proofs.Common.{Option, ℕ, take, subst, sym, ◌∙◌, arith}
use Rattle.std.proofs.lemmas.List.{length-take-le}
use Rattle.hop_object.specs.Lanes.{FindsFirst}
use Rattle.hop_object.proofs.Firsts.{alone_at, newer_at, older_at, passed_over}
use Rattle.hop_object.proofs.lane.first_of.Goals as goal

pub returns-in-None : goal.returns-in-None
returns-in-None g c =
    let was = subst (λ (o : Option ℕ). FindsFirst c.args.side (take c.args.place c.args.lanes.now) o) c.in-None.is c.requires.best in
    alone_at c.args.side c.args.lanes.now c.args.place c.index-lanes-place.result c.requires.place c.index-lanes-place.is (sym c.waits.ensures ∙ c.if-not-waits.false) was

pub returns-then-is_sooner : goal.returns-then-is_sooner
returns-then-is_sooner g c =
    let was = subst (λ (o : Option ℕ). FindsFirst c.args.side (take c.args.place c.args.lanes.now) o) c.in-Some.is c.requires.best in
    newer_at c.args.side c.args.lanes.now c.args.place c.index-lanes-place.result c.index-lanes-old.result c.in-Some.old c.requires.place c.index-lanes-place.is (sym c.waits.ensures ∙ c.if-not-waits.false) was c.index-lanes-old.is (c.is_sooner.ensures.yes c.if-is_sooner.true)

pub returns-else-is_sooner : goal.returns-else-is_sooner
returns-else-is_sooner g c =
    let was = subst (λ (o : Option ℕ). FindsFirst c.args.side (take c.args.place c.args.lanes.now) o) c.in-Some.is c.requires.best in
    older_at c.args.side c.args.lanes.now c.args.place c.index-lanes-place.result c.index-lanes-old.result c.in-Some.old c.requires.place c.index-lanes-place.is was c.index-lanes-old.is (c.is_sooner.ensures.no c.if-is_sooner.false)

pub returns-then-not-waits : goal.returns-then-not-waits
returns-then-not-waits g c = passed_over c.args.side c.args.lanes.now c.args.place c.index-lanes-place.result c.args.best c.requires.place c.index-lanes-place.is (sym c.waits.ensures ∙ c.if-not-waits.true) c.requires.best

pub bounds-lanes-old : goal.bounds-lanes-old
bounds-lanes-old g c =
    let was = subst (λ (o : Option ℕ). FindsFirst c.args.side (take c.args.place c.args.lanes.now) o) c.in-Some.is c.requires.best in
    let n = was.place in
    let t = length-take-le c.args.place c.args.lanes.now (omega (arith, c.requires.place)) in
    omega (arith, n, t)
