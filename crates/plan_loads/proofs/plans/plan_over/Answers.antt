use Rattle.std.proofs.Common.{ℕ, ◌∙◌, ◌≤◌, List, length, ap, sym, subst}
use Rattle.std.proofs.lemmas.Result.{err_from_is_err_and}
use Rattle.tlm_model.specs.declared.platform.InitiatorRow.{InitiatorRow}
use Rattle.tlm_model.specs.declared.platform.Platform.{Platform}
use Rattle.command_words.specs.Commands.{line_of}
use Rattle.plan_loads.specs.Files.{Holding, IsPlatform}
use Rattle.plan_loads.specs.Loads.{IsFirstFault}
use Rattle.plan_loads.proofs.Loading.{files, held}
use Rattle.plan_loads.proofs.Planning.{AreScripts-length, AreScripts-moved, planned_is, plan_refused, scripts_refused, refusal-earlier}
use Rattle.plan_loads.proofs.plans.plan_over.Goals as goal

pub load_scripts-requires : goal.load_scripts-requires
load_scripts-requires g c =
    let rows = c.as_slice.ensures ∙ ap (λ (p : Platform). p.initiators) c.platform-2.ensures.same in
    record { few = subst (λ (rs : List InitiatorRow). length rs ≤ 32) (sym rows) c.platform.ensures.shape.bounded.initiator_count }

pub returns-in_err-scripts-clause-refused : goal.returns-in_err-scripts-clause-refused
returns-in_err-scripts-clause-refused g c =
    let p = err_from_is_err_and c.from_residual-in_err-scripts.result c.from_residual-in_err-scripts.ensures.1 in
    let rows = c.as_slice.ensures ∙ ap (λ (q : Platform). q.initiators) c.platform-2.ensures.same in
    let version = ap (λ (q : Platform). q.version) c.platform.ensures.same in
    let h0 : Holding = g.L.Library.holds c.args.lib.now in
    let h : Holding = g.L.Library.holds c.shape_of.new.lib in
    let f = files h (g.L.Library.faults c.shape_of.new.lib) (g.L.Library.faults c.load_scripts.new.lib) in
    let exit = c.in_err-scripts.field-0.0 in
    rw (p.1, p.2)
    (refusal-earlier h0 h (g.L.Library.faults c.args.lib.now) (g.L.Library.faults c.shape_of.new.lib) (g.L.Library.faults c.load_scripts.new.lib) (line_of c.args.command) exit
    c.in_ok-shape.ensures.same c.in_ok-shape.ensures.later
    (scripts_refused f (line_of c.args.command) c.in_ok-shape.shape exit
    (subst (λ (x : Holding). IsPlatform x (line_of c.args.command) c.in_ok-shape.shape) (sym (held h0 h c.in_ok-shape.ensures.same)) c.in_ok-shape.ensures.platform)
    (subst (λ (v : ℕ). IsFirstFault f v c.in_ok-shape.shape.initiators exit) version (subst (λ (rs : List InitiatorRow). IsFirstFault f c.platform.result.now.version rs exit) rows c.in_err-scripts.ensures.fault))))

pub plan-requires : goal.plan-requires
plan-requires g c =
    let rows = c.as_slice.ensures ∙ ap (λ (q : Platform). q.initiators) c.platform-2.ensures.same in
    let version = ap (λ (q : Platform). q.version) c.platform.ensures.same in
    ap length c.as_slice-2.ensures.value ∙ (AreScripts-length _ _ _ _ c.in_ok-scripts.ensures.scripts ∙ ap length rows)

pub returns-clause-plan : goal.returns-clause-plan
returns-clause-plan g c =
    let rows = c.as_slice.ensures ∙ ap (λ (q : Platform). q.initiators) c.platform-2.ensures.same in
    let version = ap (λ (q : Platform). q.version) c.platform.ensures.same in
    let h0 : Holding = g.L.Library.holds c.args.lib.now in
    let h : Holding = g.L.Library.holds c.shape_of.new.lib in
    let scripts = AreScripts-moved h0 h c.platform.result.now.version c.in_ok-shape.shape.version c.as_slice.result.now c.in_ok-shape.shape.initiators c.in_ok-scripts.scripts.items c.as_slice-2.result.now c.in_ok-shape.ensures.same version rows c.as_slice-2.ensures.value c.in_ok-scripts.ensures.scripts in
    planned_is h0 (line_of c.args.command) (record { platform = c.in_ok-shape.shape; scripts = c.as_slice-2.result.now }) c.in_ok-plan.field-0 c.in_ok-shape.ensures.platform scripts c.in_ok-plan.ensures.read

pub returns-in_err-plan-clause-refused : goal.returns-in_err-plan-clause-refused
returns-in_err-plan-clause-refused g c =
    let p = err_from_is_err_and c.from_residual-in_err-plan.result c.from_residual-in_err-plan.ensures.1 in
    let rows = c.as_slice.ensures ∙ ap (λ (q : Platform). q.initiators) c.platform-2.ensures.same in
    let version = ap (λ (q : Platform). q.version) c.platform.ensures.same in
    let h0 : Holding = g.L.Library.holds c.args.lib.now in
    let h : Holding = g.L.Library.holds c.shape_of.new.lib in
    let scripts = AreScripts-moved h0 h c.platform.result.now.version c.in_ok-shape.shape.version c.as_slice.result.now c.in_ok-shape.shape.initiators c.in_ok-scripts.scripts.items c.as_slice-2.result.now c.in_ok-shape.ensures.same version rows c.as_slice-2.ensures.value c.in_ok-scripts.ensures.scripts in
    rw (p.1, p.2)
    (plan_refused h0 (g.L.Library.faults c.args.lib.now) (g.L.Library.faults c.load_scripts.new.lib) (line_of c.args.command) (record { platform = c.in_ok-shape.shape; scripts = c.as_slice-2.result.now }) c.in_err-plan.field-0.0 c.in_ok-shape.ensures.platform scripts c.in_err-plan.ensures.read)
