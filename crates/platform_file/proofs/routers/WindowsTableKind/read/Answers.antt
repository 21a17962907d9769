use Rattle.std.proofs.Common.{refl}
use Rattle.platform_file.specs.Tables.{window_keys}
use Rattle.platform_file.proofs.Chains.{returned, fails_now, fails_later, reads_on}
use Rattle.platform_file.proofs.routers.WindowsTableKind.read.Goals as goal

pub returns-in_err-known : goal.returns-in_err-known
unfolding window_keys
returns-in_err-known c = returned _ _ _ c.from_residual.ensures.1 (fails_now _ _ _ c.in_err-known.ensures)

pub returns-in_err-first : goal.returns-in_err-first
unfolding window_keys
returns-in_err-first c = returned _ _ _ c.from_residual-in_err-first.ensures.1 (fails_later _ _ _ _ c.in_ok-known.ensures (fails_now _ _ _ c.in_err-first.ensures))

pub returns-in_err-last : goal.returns-in_err-last
unfolding window_keys
returns-in_err-last c = returned _ _ _ c.from_residual-in_err-last.ensures.1 (fails_later _ _ _ _ c.in_ok-known.ensures (fails_later _ _ _ _ c.in_ok-first.ensures (fails_now _ _ _ c.in_err-last.ensures)))

pub returns-in_err-to : goal.returns-in_err-to
unfolding window_keys
returns-in_err-to c = returned _ _ _ c.from_residual-in_err-to.ensures.1 (fails_later _ _ _ _ c.in_ok-known.ensures (fails_later _ _ _ _ c.in_ok-first.ensures (fails_later _ _ _ _ c.in_ok-last.ensures (fails_now _ _ _ c.in_err-to.ensures))))

pub returns-in_err-base : goal.returns-in_err-base
unfolding window_keys
returns-in_err-base c = returned _ _ _ c.from_residual-in_err-base.ensures.1 (fails_later _ _ _ _ c.in_ok-known.ensures (fails_later _ _ _ _ c.in_ok-first.ensures (fails_later _ _ _ _ c.in_ok-last.ensures (fails_later _ _ _ _ c.in_ok-to.ensures (fails_now _ _ _ c.in_err-base.ensures)))))

pub returns : goal.returns
unfolding window_keys
returns c = reads_on _ _ _ _ c.in_ok-known.ensures (reads_on _ _ _ _ c.in_ok-first.ensures (reads_on _ _ _ _ c.in_ok-last.ensures (reads_on _ _ _ _ c.in_ok-to.ensures (reads_on _ _ _ _ c.in_ok-base.ensures refl))))
