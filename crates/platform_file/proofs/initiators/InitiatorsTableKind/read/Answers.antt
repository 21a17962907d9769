use Rattle.std.proofs.Common.{refl}
use Rattle.platform_file.specs.Tables.{initiator_keys}
use Rattle.platform_file.proofs.Chains.{returned, fails_now, fails_later, reads_on}
use Rattle.platform_file.proofs.initiators.InitiatorsTableKind.read.Goals as goal

pub returns-in_err-known : goal.returns-in_err-known
unfolding initiator_keys
returns-in_err-known c = returned _ _ _ c.from_residual.ensures.1 (fails_now _ _ _ c.in_err-known.ensures)

pub returns-in_err-name : goal.returns-in_err-name
unfolding initiator_keys
returns-in_err-name c = returned _ _ _ c.from_residual-in_err-name.ensures.1 (fails_later _ _ _ _ c.in_ok-known.ensures (fails_now _ _ _ c.in_err-name.ensures))

pub returns-in_err-style : goal.returns-in_err-style
unfolding initiator_keys
returns-in_err-style c = returned _ _ _ c.from_residual-in_err-style.ensures.1 (fails_later _ _ _ _ c.in_ok-known.ensures (fails_later _ _ _ _ c.in_ok-name.ensures (fails_now _ _ _ c.in_err-style.ensures)))

pub returns-in_err-script : goal.returns-in_err-script
unfolding initiator_keys
returns-in_err-script c = returned _ _ _ c.from_residual-in_err-script.ensures.1 (fails_later _ _ _ _ c.in_ok-known.ensures (fails_later _ _ _ _ c.in_ok-name.ensures (fails_later _ _ _ _ c.in_ok-style.ensures (fails_now _ _ _ c.in_err-script.ensures))))

pub returns-in_err-bind : goal.returns-in_err-bind
unfolding initiator_keys
returns-in_err-bind c = returned _ _ _ c.from_residual-in_err-bind.ensures.1 (fails_later _ _ _ _ c.in_ok-known.ensures (fails_later _ _ _ _ c.in_ok-name.ensures (fails_later _ _ _ _ c.in_ok-style.ensures (fails_later _ _ _ _ c.in_ok-script.ensures (fails_now _ _ _ c.in_err-bind.ensures)))))

pub returns-in_err-pool : goal.returns-in_err-pool
unfolding initiator_keys
returns-in_err-pool c = returned _ _ _ c.from_residual-in_err-pool.ensures.1 (fails_later _ _ _ _ c.in_ok-known.ensures (fails_later _ _ _ _ c.in_ok-name.ensures (fails_later _ _ _ _ c.in_ok-style.ensures (fails_later _ _ _ _ c.in_ok-script.ensures (fails_later _ _ _ _ c.in_ok-bind.ensures (fails_now _ _ _ c.in_err-pool.ensures))))))

pub returns-in_err-response : goal.returns-in_err-response
unfolding initiator_keys
returns-in_err-response c = returned _ _ _ c.from_residual-in_err-response.ensures.1 (fails_later _ _ _ _ c.in_ok-known.ensures (fails_later _ _ _ _ c.in_ok-name.ensures (fails_later _ _ _ _ c.in_ok-style.ensures (fails_later _ _ _ _ c.in_ok-script.ensures (fails_later _ _ _ _ c.in_ok-bind.ensures (fails_later _ _ _ _ c.in_ok-pool.ensures (fails_now _ _ _ c.in_err-response.ensures)))))))

pub returns : goal.returns
unfolding initiator_keys
returns c = reads_on _ _ _ _ c.in_ok-known.ensures (reads_on _ _ _ _ c.in_ok-name.ensures (reads_on _ _ _ _ c.in_ok-style.ensures (reads_on _ _ _ _ c.in_ok-script.ensures (reads_on _ _ _ _ c.in_ok-bind.ensures (reads_on _ _ _ _ c.in_ok-pool.ensures (reads_on _ _ _ _ c.in_ok-response.ensures refl))))))
