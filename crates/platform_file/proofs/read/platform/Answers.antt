use Rattle.std.proofs.Common.{◌≡◌, ◌∙◌, List, Ok, Result, refl, subst, sym}
use Rattle.platform_model.specs.Reading.{Fails, PlatformRefusal}
use Rattle.tlm_model.specs.declared.platform.MemoryRow.{MemoryRow}
use Rattle.tlm_model.specs.declared.platform.Platform.{Platform}
use Rattle.toml.specs.View.{table_view}
use Rattle.platform_file.specs.Platform.{checked_sums, platform_of_table}
use Rattle.platform_file.proofs.Apart.{summed, table_apart}
use Rattle.platform_file.proofs.Chains.{returned, fails_now, fails_later, reads_on}
use Rattle.platform_file.proofs.read.platform.Goals as goal

pub returns-in_err-keys : goal.returns-in_err-keys
unfolding platform_of_table
returns-in_err-keys c =
    returned _ _ _ c.from_residual.ensures.1
    (fails_now _ _ _ c.in_err-keys.ensures.read)

pub returns-in_err-bound : goal.returns-in_err-bound
returns-in_err-bound c =
    returned _ _ _ c.from_residual-in_err-bound.ensures.1
    (subst (λ (r : Result Platform PlatformRefusal). Fails c.in_err-bound.field-0.0 r) (table_apart (table_view c.args.table.now) c.in_ok-keys.keys c.in_ok-keys.ensures.read)
    (fails_now _ _ (summed c.in_ok-keys.keys) c.in_err-bound.ensures))

pub returns-in_err-check_sums : goal.returns-in_err-check_sums
returns-in_err-check_sums c =
    let fault = c.in_err-check_sums.field-0.0 in
    returned _ _ _ c.from_residual-in_err-check_sums.ensures.1
    (subst (λ (r : Result Platform PlatformRefusal). Fails fault r) (table_apart (table_view c.args.table.now) c.in_ok-keys.keys c.in_ok-keys.ensures.read)
    (fails_later _ _ _ (summed c.in_ok-keys.keys) c.in_ok-bound.ensures
    (fails_now _ _ _ (subst (λ (l : List MemoryRow). Fails fault (checked_sums l)) c.as_slice.ensures c.in_err-check_sums.ensures))))

pub returns : goal.returns
returns c =
    sym (table_apart (table_view c.args.table.now) c.in_ok-keys.keys c.in_ok-keys.ensures.read)
    ∙ reads_on _ _ (summed c.in_ok-keys.keys) _ c.in_ok-bound.ensures
    (reads_on _ _ _ _ (subst (λ (l : List MemoryRow). checked_sums l ≡ Ok tt) c.as_slice.ensures c.in_ok-check_sums.ensures) refl)
