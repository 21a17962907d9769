use Rattle.std.proofs.Common.{◌≡◌, ◌<◌, ◌*◌, ◌∙◌, List, ℕ, Some, ap, sym, subst, arith, length}
use Rattle.std.proofs.lemmas.List.{length-map}
use Rattle.tlm_model.specs.declared.operation.Operation.{Operation}
use Rattle.tlm_model.specs.declared.platform.Platform.{Platform}
use Rattle.tlm_model.specs.Plan.{initiators_of}
use Rattle.plat_core.specs.Core.{begun_run, no_runs}
use Rattle.initiator_run.specs.Run.{Run, fresh_run}
use Rattle.plat_core.proofs.BeginLemmas.{no_run_at}
use Rattle.route_plan.proofs.ShareLemmas.{count_initiators}
use Rattle.run_outcome.proofs.ListLemmas.{take_all, take_push}
use Rattle.plat_core.proofs.steps.begin_runs.Goals as goal

pub loop-number-preserved : goal.loop-number-preserved
loop-number-preserved c =
    let p = c.args.plan.now in
    let k = c.loop-number.number in
    let rows : length c.as_slice-number-end.result.now ≡ length p.platform.initiators = ap length (c.as_slice-number-end.ensures ∙ ap (λ (x : Platform). x.initiators) c.platform-2.ensures.same) in
    let run_is : c.in_ok-new.field-0 ≡ fresh_run k c.script.result.now p.platform.quantum (2 * length c.script.result.now) =
    c.in_ok-new.ensures.run
    ∙ (ap (λ (q : ℕ). fresh_run k c.in_ok-script.script q (2 * length c.in_ok-script.script)) (ap (λ (x : Platform). x.quantum) c.platform.ensures.same)
    ∙ ap (λ (s : List Operation). fresh_run k s p.platform.quantum (2 * length s)) c.in_ok-script.ensures.same) in
    take_push (no_runs p) c.loop-number.runs.items c.push.new.self.items k c.in_ok-new.field-0 c.loop-number.invariant c.in_ok-push.ensures.items
    (no_run_at p k c.script.result.now c.script.ensures.script (subst (λ (n : ℕ). k < n) rows c.loop-number-test.true) ∙ ap (λ (r : Run). Some r) (sym run_is))

pub returns : goal.returns
returns c =
    let p = c.args.plan.now in
    let rows : length c.as_slice-number-end.result.now ≡ length p.platform.initiators = ap length (c.as_slice-number-end.ensures ∙ ap (λ (x : Platform). x.initiators) c.platform-2.ensures.same) in
    c.loop-number.invariant ∙ take_all c.loop-number.number (no_runs p) (omega (arith, length-map (initiators_of p) (begun_run p), count_initiators 0 p.platform.initiators p.scripts c.platform-2.ensures.valid.scripts, rows, c.loop-number-test.false))
