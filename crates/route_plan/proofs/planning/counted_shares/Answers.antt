use Rattle.std.proofs.Common.{◌≡◌, List, Result, Ok, Err, sym, ap, subst, ◌∙◌}
use Rattle.std.specs.Prelude.{IfErr, IsErrAnd}
use Rattle.std.proofs.lemmas.Result.{IfOk-from_err}
use Rattle.platform_model.specs.declared.fault.PlatformFault.{PlatformFault}
use Rattle.platform_model.specs.declared.fault.PlatformFault.TheVariants as fault
use Rattle.platform_model.specs.Reading.{PlatformRefusal, Fails}
use Rattle.route_plan.specs.declared.shares.Share.{Share}
use Rattle.route_plan.specs.Shares.{checked_shares}
use Rattle.route_plan.proofs.planning.counted_shares.Goals as goal

-- what is returned early is the fault of a test that fails
refused_early : {A B : Type 0} (result : Result A PlatformFault) (f : PlatformFault) (read : Result B PlatformRefusal) → IsErrAnd result (λ e. e ≡ f) → Fails f read → IfErr result (λ e. Fails e read)
refused_early (Ok x) f read early fails = absurd early
refused_early (Err e) f read early fails = subst (λ (e : PlatformFault). Fails e read) (sym early) fails

pub returns-in_err-shares : goal.returns-in_err-shares
returns-in_err-shares c = record {
  counted = IfOk-from_err _ _ c.from_residual.ensures.0;
  passed = IfOk-from_err _ _ c.from_residual.ensures.0;
  refused = refused_early _ fault.Memory _ c.from_residual.ensures.1 tt;
}

pub returns-in_err-check_shares : goal.returns-in_err-check_shares
returns-in_err-check_shares c =
    let fault = c.in_err-check_shares.field-0.0 in
    record {
      counted = IfOk-from_err _ _ c.from_residual-in_err-check_shares.ensures.0;
      passed = IfOk-from_err _ _ c.from_residual-in_err-check_shares.ensures.0;
      refused = refused_early _ fault _ c.from_residual-in_err-check_shares.ensures.1
          (subst (λ (l : List (List Share)). Fails fault (checked_shares l)) (c.as_slice.ensures ∙ c.in_ok-shares.ensures) c.in_err-check_shares.ensures);
    }

pub returns-clause-passed : goal.returns-clause-passed
returns-clause-passed c = ap checked_shares (sym c.as_slice.ensures) ∙ c.in_ok-check_shares.ensures
