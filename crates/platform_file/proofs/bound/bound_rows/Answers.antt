use Rattle.std.proofs.Common.{refl}
use Rattle.platform_file.specs.Bound.{bound_rows}
use Rattle.platform_file.proofs.Chains.{returned, fails_now, fails_later, reads_on, rows_same, rows_fail_same}
use Rattle.platform_file.proofs.bound.bound_rows.Goals as goal

pub returns-in_err-names : goal.returns-in_err-names
unfolding bound_rows
returns-in_err-names c =
    returned _ _ _ c.from_residual.ensures.1
    (fails_now _ _ _ c.in_err-names.ensures)

pub returns-in_err-initiators : goal.returns-in_err-initiators
unfolding bound_rows
returns-in_err-initiators c =
    returned _ _ _ c.from_residual-in_err-initiators.ensures.1
    (fails_later _ _ _ _ c.in_ok-names.ensures
    (fails_now _ _ _ (rows_fail_same _ _ _ _ c.as_slice.ensures c.in_err-initiators.ensures.read)))

pub returns-in_err-routers : goal.returns-in_err-routers
unfolding bound_rows
returns-in_err-routers c =
    returned _ _ _ c.from_residual-in_err-routers.ensures.1
    (fails_later _ _ _ _ c.in_ok-names.ensures
    (fails_later _ _ _ _ (rows_same _ _ _ _ c.as_slice.ensures c.in_ok-initiators.ensures.read)
    (fails_now _ _ _ (rows_fail_same _ _ _ _ c.as_slice-2.ensures c.in_err-routers.ensures.read))))

pub returns-in_err-rows : goal.returns-in_err-rows
unfolding bound_rows
returns-in_err-rows c =
    returned _ _ _ c.from_residual-in_err-rows.ensures.1
    (fails_later _ _ _ _ c.in_ok-names.ensures
    (fails_later _ _ _ _ (rows_same _ _ _ _ c.as_slice.ensures c.in_ok-initiators.ensures.read)
    (fails_later _ _ _ _ (rows_same _ _ _ _ c.as_slice-2.ensures c.in_ok-routers.ensures.read)
    (fails_now _ _ _ (rows_fail_same _ _ _ _ c.as_slice-3.ensures c.in_err-rows.ensures.read)))))

pub returns : goal.returns
unfolding bound_rows
returns c =
    reads_on _ _ _ _ c.in_ok-names.ensures
    (reads_on _ _ _ _ (rows_same _ _ _ _ c.as_slice.ensures c.in_ok-initiators.ensures.read)
    (reads_on _ _ _ _ (rows_same _ _ _ _ c.as_slice-2.ensures c.in_ok-routers.ensures.read)
    (reads_on _ _ _ _ (rows_same _ _ _ _ c.as_slice-3.ensures c.in_ok-rows.ensures.read) refl)))
