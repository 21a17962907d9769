use Rattle.std.proofs.Common.{◌≡◌, List, Ok, length, refl, sym, ap, subst, ◌∙◌}
use Rattle.std.specs.List.{AllByRecursion}
use Rattle.std.proofs.lemmas.Result.{IfOk-from_err}
use Rattle.platform_model.specs.declared.fault.PlatformFault.TheVariants as fault
use Rattle.platform_model.specs.Reading.{Fails}
use Rattle.tlm_model.specs.declared.operation.Operation.{Operation}
use Rattle.tlm_model.specs.declared.platform.Platform.{Platform}
use Rattle.tlm_model.specs.Plan.{Plan}
use Rattle.traffic_script.specs.Proper.{AreProper}
use Rattle.platform_shape.specs.Shape.{IsShape}
use Rattle.platform_shape.proofs.Chains.{returned}
use Rattle.route_plan.specs.declared.shares.Share.{Share}
use Rattle.route_plan.specs.Shares.{checked_shares, shares_of, with_scripts, HavePassed}
use Rattle.route_plan.specs.Valid.{checked_plan, planned, IsValid}
use Rattle.route_plan.proofs.TotalLemmas.{limits_by_shares, planned_fails, planned_ok}
use Rattle.route_plan.proofs.planning.plan.Goals as goal

pub returns-in_err-shares : goal.returns-in_err-shares
returns-in_err-shares c =
    let p = c.in_ok-routes.routes in
    let scripts = c.in_ok-scripts.scripts in
    let texts = c.as_slice.result.now in
    let copied : scripts ≡ c.args.scripts.now = c.in_ok-scripts.ensures.same in
    let routed : p ≡ c.args.shape = c.in_ok-routes.ensures in
    let same : length scripts ≡ length p.initiators = ap length copied ∙ c.requires ∙ ap (λ (q : Platform). length q.initiators) (sym routed) in
    let seen : shares_of (with_scripts p texts) ≡ shares_of (with_scripts p scripts) = ap (λ texts. shares_of (with_scripts p texts)) c.as_slice.ensures in
    let checked : checked_shares (shares_of (with_scripts p texts)) ≡ checked_plan (with_scripts p scripts) =
    limits_by_shares p scripts (shares_of (with_scripts p texts)) (shares_of (with_scripts p texts)) same seen refl in
    let asked : with_scripts p scripts ≡ with_scripts c.args.shape c.args.scripts.now = ap (λ (q : Platform). with_scripts q scripts) routed ∙ ap (with_scripts c.args.shape) copied in
    let fault = c.in_err-shares.field-0.0 in
    let failed : Fails fault (planned (with_scripts p scripts)) = planned_fails fault (with_scripts p scripts) (subst (λ read. Fails fault read) checked c.in_err-shares.ensures.refused) in
    record {
      read = returned _ fault _ c.from_residual-in_err-shares.ensures.1 (subst (λ (q : Plan). Fails fault (planned q)) asked failed);
      valid = IfOk-from_err _ _ c.from_residual-in_err-shares.ensures.0;
      platform = IfOk-from_err _ _ c.from_residual-in_err-shares.ensures.0;
    }

-- a plan of copies whose shares have passed
valid_by : (shape p : Platform) (given scripts texts : List (List Operation)) (shares : List (List Share)) → IsShape p → p ≡ shape → length given ≡ length shape.initiators → scripts ≡ given
    → AllByRecursion AreProper scripts → texts ≡ scripts → shares ≡ shares_of (with_scripts p texts) → HavePassed shares → IsValid (with_scripts p scripts)
valid_by shape p given scripts texts shares good routed asked copied proper seen shared passed =
    let same : length scripts ≡ length p.initiators = ap length copied ∙ asked ∙ ap (λ (q : Platform). length q.initiators) (sym routed) in
    let counted : shares ≡ shares_of (with_scripts p scripts) = shared ∙ ap (λ texts. shares_of (with_scripts p texts)) seen in
    record { shape = good; scripts = same; proper = proper; limits = sym (limits_by_shares p scripts shares shares same counted refl) ∙ passed }

pub of_parts-requires-clause-valid : goal.of_parts-requires-clause-valid
of_parts-requires-clause-valid c =
    valid_by c.args.shape c.in_ok-routes.routes c.args.scripts.now c.in_ok-scripts.scripts c.as_slice.result.now c.in_ok-shares.shares
    c.platform.ensures.shape c.in_ok-routes.ensures c.requires c.in_ok-scripts.ensures.same c.in_ok-scripts.ensures.proper c.as_slice.ensures c.in_ok-shares.ensures.counted c.in_ok-shares.ensures.passed

pub returns-clause-valid : goal.returns-clause-valid
returns-clause-valid c =
    subst IsValid (sym c.of_parts.ensures)
    (valid_by c.args.shape c.in_ok-routes.routes c.args.scripts.now c.in_ok-scripts.scripts c.as_slice.result.now c.in_ok-shares.shares
    c.platform.ensures.shape c.in_ok-routes.ensures c.requires c.in_ok-scripts.ensures.same c.in_ok-scripts.ensures.proper c.as_slice.ensures c.in_ok-shares.ensures.counted c.in_ok-shares.ensures.passed)

pub returns-clause-read : goal.returns-clause-read
returns-clause-read c =
    let p = c.in_ok-routes.routes in
    let scripts = c.in_ok-scripts.scripts in
    let copied : scripts ≡ c.args.scripts.now = c.in_ok-scripts.ensures.same in
    let routed : p ≡ c.args.shape = c.in_ok-routes.ensures in
    let same : length scripts ≡ length p.initiators = ap length copied ∙ c.requires ∙ ap (λ (q : Platform). length q.initiators) (sym routed) in
    let counted : c.in_ok-shares.shares ≡ shares_of (with_scripts p scripts) = c.in_ok-shares.ensures.counted ∙ ap (λ texts. shares_of (with_scripts p texts)) c.as_slice.ensures in
    let limits : checked_plan (with_scripts p scripts) ≡ Ok tt =
    sym (limits_by_shares p scripts c.in_ok-shares.shares c.in_ok-shares.shares same counted refl) ∙ c.in_ok-shares.ensures.passed in
    let asked : with_scripts c.args.shape c.args.scripts.now ≡ with_scripts p scripts = ap (λ (q : Platform). with_scripts q c.args.scripts.now) (sym routed) ∙ ap (with_scripts p) (sym copied) in
    ap planned asked ∙ planned_ok (with_scripts p scripts) limits ∙ ap Ok (sym c.of_parts.ensures)

pub returns-in_err-routes : goal.returns-in_err-routes
returns-in_err-routes c = record {
  read = returned _ fault.Memory _ c.from_residual.ensures.1 tt;
  valid = IfOk-from_err _ _ c.from_residual.ensures.0;
  platform = IfOk-from_err _ _ c.from_residual.ensures.0;
}

pub returns-in_err-scripts : goal.returns-in_err-scripts
returns-in_err-scripts c = record {
  read = returned _ fault.Memory _ c.from_residual-in_err-scripts.ensures.1 tt;
  valid = IfOk-from_err _ _ c.from_residual-in_err-scripts.ensures.0;
  platform = IfOk-from_err _ _ c.from_residual-in_err-scripts.ensures.0;
}

pub counted_shares-requires : goal.counted_shares-requires
counted_shares-requires c = ap length (c.as_slice.ensures ∙ c.in_ok-scripts.ensures.same) ∙ c.requires ∙ ap (λ (q : Platform). length q.initiators) (sym c.in_ok-routes.ensures)

pub of_parts-requires-clause-shares : goal.of_parts-requires-clause-shares
of_parts-requires-clause-shares c = c.in_ok-shares.ensures.counted ∙ ap (λ texts. shares_of (with_scripts c.in_ok-routes.routes texts)) c.as_slice.ensures

pub returns-clause-platform : goal.returns-clause-platform
returns-clause-platform c = ap (λ (q : Plan). q.platform) c.of_parts.ensures ∙ c.in_ok-routes.ensures
