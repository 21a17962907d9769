use Rattle.std.proofs.Common.{refl}
use Rattle.platform_file.specs.Tables.{memory_traits}
use Rattle.platform_file.proofs.Chains.{returned, fails_now, fails_later, reads_on}
use Rattle.platform_file.proofs.memories.memory_traits.Goals as goal

pub returns-in_err-size : goal.returns-in_err-size
unfolding memory_traits
returns-in_err-size c = returned _ _ _ c.from_residual.ensures.1 (fails_now _ _ _ c.in_err-size.ensures)

pub returns-in_err-latency : goal.returns-in_err-latency
unfolding memory_traits
returns-in_err-latency c = returned _ _ _ c.from_residual-in_err-latency.ensures.1 (fails_later _ _ _ _ c.in_ok-size.ensures (fails_now _ _ _ c.in_err-latency.ensures))

pub returns-in_err-readable : goal.returns-in_err-readable
unfolding memory_traits
returns-in_err-readable c = returned _ _ _ c.from_residual-in_err-readable.ensures.1 (fails_later _ _ _ _ c.in_ok-size.ensures (fails_later _ _ _ _ c.in_ok-latency.ensures (fails_now _ _ _ c.in_err-readable.ensures)))

pub returns-in_err-writable : goal.returns-in_err-writable
unfolding memory_traits
returns-in_err-writable c = returned _ _ _ c.from_residual-in_err-writable.ensures.1 (fails_later _ _ _ _ c.in_ok-size.ensures (fails_later _ _ _ _ c.in_ok-latency.ensures (fails_later _ _ _ _ c.in_ok-readable.ensures (fails_now _ _ _ c.in_err-writable.ensures))))

pub returns-in_err-fetch_add : goal.returns-in_err-fetch_add
unfolding memory_traits
returns-in_err-fetch_add c = returned _ _ _ c.from_residual-in_err-fetch_add.ensures.1 (fails_later _ _ _ _ c.in_ok-size.ensures (fails_later _ _ _ _ c.in_ok-latency.ensures (fails_later _ _ _ _ c.in_ok-readable.ensures (fails_later _ _ _ _ c.in_ok-writable.ensures (fails_now _ _ _ c.in_err-fetch_add.ensures)))))

pub returns-in_err-enables : goal.returns-in_err-enables
unfolding memory_traits
returns-in_err-enables c = returned _ _ _ c.from_residual-in_err-enables.ensures.1 (fails_later _ _ _ _ c.in_ok-size.ensures (fails_later _ _ _ _ c.in_ok-latency.ensures (fails_later _ _ _ _ c.in_ok-readable.ensures (fails_later _ _ _ _ c.in_ok-writable.ensures (fails_later _ _ _ _ c.in_ok-fetch_add.ensures (fails_now _ _ _ c.in_err-enables.ensures))))))

pub returns-in_err-streaming : goal.returns-in_err-streaming
unfolding memory_traits
returns-in_err-streaming c = returned _ _ _ c.from_residual-in_err-streaming.ensures.1 (fails_later _ _ _ _ c.in_ok-size.ensures (fails_later _ _ _ _ c.in_ok-latency.ensures (fails_later _ _ _ _ c.in_ok-readable.ensures (fails_later _ _ _ _ c.in_ok-writable.ensures (fails_later _ _ _ _ c.in_ok-fetch_add.ensures (fails_later _ _ _ _ c.in_ok-enables.ensures (fails_now _ _ _ c.in_err-streaming.ensures)))))))

pub returns-in_err-dmi : goal.returns-in_err-dmi
unfolding memory_traits
returns-in_err-dmi c = returned _ _ _ c.from_residual-in_err-dmi.ensures.1 (fails_later _ _ _ _ c.in_ok-size.ensures (fails_later _ _ _ _ c.in_ok-latency.ensures (fails_later _ _ _ _ c.in_ok-readable.ensures (fails_later _ _ _ _ c.in_ok-writable.ensures (fails_later _ _ _ _ c.in_ok-fetch_add.ensures (fails_later _ _ _ _ c.in_ok-enables.ensures (fails_later _ _ _ _ c.in_ok-streaming.ensures (fails_now _ _ _ c.in_err-dmi.ensures))))))))

pub returns-in_err-gates : goal.returns-in_err-gates
unfolding memory_traits
returns-in_err-gates c = returned _ _ _ c.from_residual-in_err-gates.ensures.1 (fails_later _ _ _ _ c.in_ok-size.ensures (fails_later _ _ _ _ c.in_ok-latency.ensures (fails_later _ _ _ _ c.in_ok-readable.ensures (fails_later _ _ _ _ c.in_ok-writable.ensures (fails_later _ _ _ _ c.in_ok-fetch_add.ensures (fails_later _ _ _ _ c.in_ok-enables.ensures (fails_later _ _ _ _ c.in_ok-streaming.ensures (fails_later _ _ _ _ c.in_ok-dmi.ensures (fails_now _ _ _ c.in_err-gates.ensures)))))))))

pub returns : goal.returns
unfolding memory_traits
returns c = reads_on _ _ _ _ c.in_ok-size.ensures (reads_on _ _ _ _ c.in_ok-latency.ensures (reads_on _ _ _ _ c.in_ok-readable.ensures (reads_on _ _ _ _ c.in_ok-writable.ensures (reads_on _ _ _ _ c.in_ok-fetch_add.ensures (reads_on _ _ _ _ c.in_ok-enables.ensures (reads_on _ _ _ _ c.in_ok-streaming.ensures (reads_on _ _ _ _ c.in_ok-dmi.ensures (reads_on _ _ _ _ c.in_ok-gates.ensures refl))))))))
