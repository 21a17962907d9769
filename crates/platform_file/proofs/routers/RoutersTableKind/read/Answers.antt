use Rattle.std.proofs.Common.{refl}
use Rattle.platform_file.specs.Tables.{router_keys}
use Rattle.platform_file.proofs.Chains.{returned, fails_now, fails_later, reads_on, tables_same, tables_fail_same}
use Rattle.platform_file.proofs.routers.RoutersTableKind.read.Goals as goal

pub returns-in_err-known : goal.returns-in_err-known
unfolding router_keys
returns-in_err-known c =
    returned _ _ _ c.from_residual.ensures.1
    (fails_now _ _ _ c.in_err-known.ensures)

pub returns-in_err-name : goal.returns-in_err-name
unfolding router_keys
returns-in_err-name c =
    returned _ _ _ c.from_residual-in_err-name.ensures.1
    (fails_later _ _ _ _ c.in_ok-known.ensures
    (fails_now _ _ _ c.in_err-name.ensures))

pub returns-in_err-latency : goal.returns-in_err-latency
unfolding router_keys
returns-in_err-latency c =
    returned _ _ _ c.from_residual-in_err-latency.ensures.1
    (fails_later _ _ _ _ c.in_ok-known.ensures
    (fails_later _ _ _ _ c.in_ok-name.ensures
    (fails_now _ _ _ c.in_err-latency.ensures)))

pub returns-in_err-accept : goal.returns-in_err-accept
unfolding router_keys
returns-in_err-accept c =
    returned _ _ _ c.from_residual-in_err-accept.ensures.1
    (fails_later _ _ _ _ c.in_ok-known.ensures
    (fails_later _ _ _ _ c.in_ok-name.ensures
    (fails_later _ _ _ _ c.in_ok-latency.ensures
    (fails_now _ _ _ c.in_err-accept.ensures))))

pub returns-in_err-lanes : goal.returns-in_err-lanes
unfolding router_keys
returns-in_err-lanes c =
    returned _ _ _ c.from_residual-in_err-lanes.ensures.1
    (fails_later _ _ _ _ c.in_ok-known.ensures
    (fails_later _ _ _ _ c.in_ok-name.ensures
    (fails_later _ _ _ _ c.in_ok-latency.ensures
    (fails_later _ _ _ _ c.in_ok-accept.ensures
    (fails_now _ _ _ c.in_err-lanes.ensures)))))

pub returns-in_err-windows : goal.returns-in_err-windows
unfolding router_keys
returns-in_err-windows c =
    returned _ _ _ c.from_residual-in_err-windows.ensures.1
    (fails_later _ _ _ _ c.in_ok-known.ensures
    (fails_later _ _ _ _ c.in_ok-name.ensures
    (fails_later _ _ _ _ c.in_ok-latency.ensures
    (fails_later _ _ _ _ c.in_ok-accept.ensures
    (fails_later _ _ _ _ c.in_ok-lanes.ensures
    (fails_now _ _ _ c.in_err-windows.ensures.read))))))

pub returns-in_err-windows-2 : goal.returns-in_err-windows-2
unfolding router_keys
returns-in_err-windows-2 c =
    returned _ _ _ c.from_residual-in_err-windows-2.ensures.1
    (fails_later _ _ _ _ c.in_ok-known.ensures
    (fails_later _ _ _ _ c.in_ok-name.ensures
    (fails_later _ _ _ _ c.in_ok-latency.ensures
    (fails_later _ _ _ _ c.in_ok-accept.ensures
    (fails_later _ _ _ _ c.in_ok-lanes.ensures
    (fails_later _ _ _ _ c.in_ok-windows.ensures.read
    (fails_now _ _ _ (tables_fail_same _ _ _ _ c.as_slice.ensures.value c.in_err-windows-2.ensures.read))))))))

pub returns : goal.returns
unfolding router_keys
returns c =
    reads_on _ _ _ _ c.in_ok-known.ensures
    (reads_on _ _ _ _ c.in_ok-name.ensures
    (reads_on _ _ _ _ c.in_ok-latency.ensures
    (reads_on _ _ _ _ c.in_ok-accept.ensures
    (reads_on _ _ _ _ c.in_ok-lanes.ensures
    (reads_on _ _ _ _ c.in_ok-windows.ensures.read
    (reads_on _ _ _ _ (tables_same _ _ _ _ c.as_slice.ensures.value c.in_ok-windows-2.ensures.read) refl))))))
