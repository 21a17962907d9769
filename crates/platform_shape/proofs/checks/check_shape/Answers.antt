use Rattle.std.proofs.Common.{refl}
use Rattle.platform_shape.specs.Shape.{checked_shape}
use Rattle.platform_shape.proofs.Chains.{returned, fails_now, fails_later, reads_on, rows_same, rows_fail_same}
use Rattle.platform_shape.proofs.checks.check_shape.Goals as goal

pub returns-in_err-rows : goal.returns-in_err-rows
unfolding checked_shape
returns-in_err-rows c =
    returned _ _ _ c.from_residual.ensures.1
    (fails_now _ _ _ (rows_fail_same _ _ _ _ c.as_slice-routers.ensures c.in_err-rows.ensures.read))

pub returns-in_err-rows-2 : goal.returns-in_err-rows-2
unfolding checked_shape
returns-in_err-rows-2 c =
    returned _ _ _ c.from_residual-in_err-rows-2.ensures.1
    (fails_later _ _ _ _ (rows_same _ _ _ _ c.as_slice-routers.ensures c.in_ok-rows.ensures.read)
    (fails_now _ _ _ (rows_fail_same _ _ _ _ c.as_slice-routers.ensures c.in_err-rows-2.ensures.read)))

pub returns-in_err-rows-3 : goal.returns-in_err-rows-3
unfolding checked_shape
returns-in_err-rows-3 c =
    returned _ _ _ c.from_residual-in_err-rows-3.ensures.1
    (fails_later _ _ _ _ (rows_same _ _ _ _ c.as_slice-routers.ensures c.in_ok-rows.ensures.read)
    (fails_later _ _ _ _ (rows_same _ _ _ _ c.as_slice-routers.ensures c.in_ok-rows-2.ensures.read)
    (fails_now _ _ _ (rows_fail_same _ _ _ _ c.as_slice.ensures c.in_err-rows-3.ensures.read))))

pub returns-in_err-rows-4 : goal.returns-in_err-rows-4
unfolding checked_shape
returns-in_err-rows-4 c =
    returned _ _ _ c.from_residual-in_err-rows-4.ensures.1
    (fails_later _ _ _ _ (rows_same _ _ _ _ c.as_slice-routers.ensures c.in_ok-rows.ensures.read)
    (fails_later _ _ _ _ (rows_same _ _ _ _ c.as_slice-routers.ensures c.in_ok-rows-2.ensures.read)
    (fails_later _ _ _ _ (rows_same _ _ _ _ c.as_slice.ensures c.in_ok-rows-3.ensures.read)
    (fails_now _ _ _ (rows_fail_same _ _ _ _ c.as_slice-routers.ensures c.in_err-rows-4.ensures.read)))))

pub returns-in_err-rows-5 : goal.returns-in_err-rows-5
unfolding checked_shape
returns-in_err-rows-5 c =
    returned _ _ _ c.from_residual-in_err-rows-5.ensures.1
    (fails_later _ _ _ _ (rows_same _ _ _ _ c.as_slice-routers.ensures c.in_ok-rows.ensures.read)
    (fails_later _ _ _ _ (rows_same _ _ _ _ c.as_slice-routers.ensures c.in_ok-rows-2.ensures.read)
    (fails_later _ _ _ _ (rows_same _ _ _ _ c.as_slice.ensures c.in_ok-rows-3.ensures.read)
    (fails_later _ _ _ _ (rows_same _ _ _ _ c.as_slice-routers.ensures c.in_ok-rows-4.ensures.read)
    (fails_now _ _ _ (rows_fail_same _ _ _ _ c.as_slice-initiators.ensures c.in_err-rows-5.ensures.read))))))

pub returns-in_err-rows-6 : goal.returns-in_err-rows-6
unfolding checked_shape
returns-in_err-rows-6 c =
    returned _ _ _ c.from_residual-in_err-rows-6.ensures.1
    (fails_later _ _ _ _ (rows_same _ _ _ _ c.as_slice-routers.ensures c.in_ok-rows.ensures.read)
    (fails_later _ _ _ _ (rows_same _ _ _ _ c.as_slice-routers.ensures c.in_ok-rows-2.ensures.read)
    (fails_later _ _ _ _ (rows_same _ _ _ _ c.as_slice.ensures c.in_ok-rows-3.ensures.read)
    (fails_later _ _ _ _ (rows_same _ _ _ _ c.as_slice-routers.ensures c.in_ok-rows-4.ensures.read)
    (fails_later _ _ _ _ (rows_same _ _ _ _ c.as_slice-initiators.ensures c.in_ok-rows-5.ensures.read)
    (fails_now _ _ _ (rows_fail_same _ _ _ _ c.as_slice-initiators.ensures c.in_err-rows-6.ensures.read)))))))

pub returns : goal.returns
unfolding checked_shape
returns c =
    reads_on _ _ _ _ (rows_same _ _ _ _ c.as_slice-routers.ensures c.in_ok-rows.ensures.read)
    (reads_on _ _ _ _ (rows_same _ _ _ _ c.as_slice-routers.ensures c.in_ok-rows-2.ensures.read)
    (reads_on _ _ _ _ (rows_same _ _ _ _ c.as_slice.ensures c.in_ok-rows-3.ensures.read)
    (reads_on _ _ _ _ (rows_same _ _ _ _ c.as_slice-routers.ensures c.in_ok-rows-4.ensures.read)
    (reads_on _ _ _ _ (rows_same _ _ _ _ c.as_slice-initiators.ensures c.in_ok-rows-5.ensures.read)
    (reads_on _ _ _ _ (rows_same _ _ _ _ c.as_slice-initiators.ensures c.in_ok-rows-6.ensures.read) refl)))))
