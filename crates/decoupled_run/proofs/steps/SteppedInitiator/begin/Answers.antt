use Rattle.std.proofs.Common.{◌≡◌, ◌≢◌, ℕ, ◌*◌, ◌<◌, length, Some, ap, subst, ◌∙◌}
use Rattle.std.specs.Prelude.{IsSomeAnd, slice_get}
use Rattle.tlm_model.specs.declared.platform.InitiatorRow.{InitiatorRow}
use Rattle.tlm_model.specs.declared.platform.Platform.{Platform}
use Rattle.tlm_model.specs.declared.platform.Style.TheVariants.{FourPhase}
use Rattle.tlm_model.specs.Plan.{Plan}
use Rattle.route_plan.specs.Valid.{IsValid}
use Rattle.decoupled_run.specs.Job.{IsJob, goes_direct}
use Rattle.decoupled_run.proofs.BeginLemmas.{job_begun, stepped_begun}
use Rattle.decoupled_run.proofs.steps.SteppedInitiator.begin.Goals as goal

pub returns : goal.returns
returns g c =
    let n = g.N.Naming in
    let plan = c.plan-plan.ensures in
    let script = c.script.result.now in
    let there : c.plan-plan.result.now ≡ n.frame.world = plan.plan ∙ plan.world in
    let valid : IsValid n.frame.world = subst IsValid there c.platform.ensures.valid in
    let scripted : slice_get n.frame.world.scripts c.args.number ≡ Some script = subst (λ (p : Plan). slice_get p.scripts c.args.number ≡ Some script) there c.script.ensures.script in
    let quantum : c.platform.result.now.quantum ≡ n.frame.world.platform.quantum = ap (λ (p : Platform). p.quantum) c.platform.ensures.same ∙ ap (λ (p : Plan). p.platform.quantum) there in
    let room : 2 * c.len.result ≡ 2 * length script = ap (λ (k : ℕ). 2 * k) c.len.ensures.counted in
    let job : IsJob n.table n.tokens n.frame c.is_direct-is_direct.result c.in_ok-run.run' c.args.start.payload c.args.start.note c.args.start.wallet c.in_ok-grants.grants =
    job_begun n.frame n.table n.tokens c.is_direct-is_direct.result c.args.number c.args.start c.in_ok-run.run' c.platform.result.now.quantum (2 * c.len.result) script c.grants_for.result c.in_ok-grants.grants valid
    (subst (λ (p : Plan). c.args.number < length p.platform.initiators) plan.world c.requires.number)
    (subst (λ (p : Plan). IsSomeAnd (slice_get p.platform.initiators c.args.number) (λ (row : InitiatorRow). row.style ≢ FourPhase)) plan.world c.requires.decoupled)
    (c.is_direct-is_direct.ensures ∙ ap (λ (p : Plan). goes_direct p c.args.number) plan.world) c.grants_for.ensures c.requires.start scripted quantum room c.in_ok-run.ensures c.in_ok-grants.ensures in
    stepped_begun n.frame n.table n.tokens c.is_direct-is_direct.result c.args.number c.args.start c.in_ok-run.run' c.platform.result.now.quantum (2 * c.len.result) script c.in_ok-grants.grants valid c.requires.start scripted quantum room c.in_ok-run.ensures job
