use Rattle.std.proofs.Common.{◌≡◌, ◌∙◌, length, take, ap, subst, refl, sym, arith}
use Rattle.std.specs.List.{AllByRecursion}
use Rattle.std.proofs.lemmas.Bool.{false≢true}
use Rattle.tlm_model.specs.declared.platform.Platform.{Platform}
use Rattle.tlm_model.proofs.HistoryLemmas.{AllByRecursion-push}
use Rattle.run_outcome.proofs.ListLemmas.{take_all, take_next}
use Rattle.plat_core.proofs.QuietLemmas.{IsQuiet, quiet_plan, quiet_script}
use Rattle.plat_core.proofs.plans.are_quiet.Goals as goal

pub returns-then-not-is_quiet : goal.returns-then-not-is_quiet
returns-then-not-is_quiet c = (
  λ wrong. absurd (false≢true wrong),
  λ none. sym c.if-not-is_quiet.true ∙ c.is_quiet.ensures.1 (quiet_script c.args.plan.now c.loop-number.number c.script.result.now c.script.ensures.each c.script.ensures.script none),
)

pub loop-number-preserved : goal.loop-number-preserved
loop-number-preserved c =
    let scripts = c.args.plan.now.scripts in
    subst (AllByRecursion IsQuiet) (sym (take_next scripts c.loop-number.number c.script.result.now c.script.ensures.script))
    (AllByRecursion-push IsQuiet (take c.loop-number.number scripts) c.script.result.now c.loop-number.invariant (c.is_quiet.ensures.0 c.if-not-is_quiet.false))

pub returns : goal.returns
returns c =
    let p = c.args.plan.now in
    let rows : length c.as_slice-number-end.result.now ≡ length p.platform.initiators = ap length (c.as_slice-number-end.ensures ∙ ap (λ (x : Platform). x.initiators) c.platform.ensures.same) in (
      λ yes. quiet_plan p (subst (AllByRecursion IsQuiet) (take_all c.loop-number.number p.scripts (omega (arith, rows, c.platform.ensures.valid.scripts, c.loop-number-test.false))) c.loop-number.invariant),
      λ all. refl,
    )
