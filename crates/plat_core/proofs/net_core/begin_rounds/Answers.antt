use Rattle.std.proofs.Common.{◌≡◌, ◌<◌, ℕ, Some, ap, sym, subst, ◌∙◌, arith}
use Rattle.std.proofs.lemmas.Option.{slice_get-get_or}
use Rattle.stepped_actors.specs.declared.actor.SteppedActor.{SteppedActor}
use Rattle.plat_core.proofs.NetBegun.{AreLeftOut, all_left_out, none_left_out, one_left_out}
use Rattle.plat_core.proofs.net_core.begin_rounds.Goals as goal

pub loop-number-init : goal.loop-number-init
loop-number-init c = none_left_out c.args.actors.now c.args.count _ c.in_ok-rounds.ensures

pub loop-number-preserved : goal.loop-number-preserved
loop-number-preserved c =
    let k = c.loop-number.number in
    let actors = c.args.actors.now in
    let less : k < c.args.count = c.loop-number-test.true in
    one_left_out actors c.args.count k c.loop-number.rounds c.leave_out.new.rounds c.index-actors-number.result less
    (slice_get-get_or actors k c.index-actors-number.result (omega (arith, c.requires)) ∙ ap (λ (a : SteppedActor). Some a) (sym c.index-actors-number.is))
    c.leave_out.ensures c.loop-number.invariant

pub returns : goal.returns
returns c =
    let i = c.loop-number in
    let last : i.number ≡ c.args.count = omega (arith, i.auto.number-end, c.loop-number-test.false) in
    all_left_out c.args.actors.now c.args.count i.rounds (subst (λ (k : ℕ). AreLeftOut c.args.actors.now c.args.count k i.rounds) last i.invariant)
