use Rattle.platform_file.specs.Tables.{memory_row}
use Rattle.platform_file.proofs.Chains.{returned, fails_now, fails_later}
use Rattle.platform_file.proofs.memories.MemoriesTableKind.read.Goals as goal

pub returns-in_err-known : goal.returns-in_err-known
unfolding memory_row
returns-in_err-known c =
    returned _ _ _ c.from_residual.ensures.1
    (fails_now _ _ _ c.in_err-known.ensures)

pub returns-in_err-name : goal.returns-in_err-name
unfolding memory_row
returns-in_err-name c =
    returned _ _ _ c.from_residual-in_err-name.ensures.1
    (fails_later _ _ _ _ c.in_ok-known.ensures
    (fails_now _ _ _ c.in_err-name.ensures))

pub returns-in_err-traits : goal.returns-in_err-traits
unfolding memory_row
returns-in_err-traits c =
    returned _ _ _ c.from_residual-in_err-traits.ensures.1
    (fails_later _ _ _ _ c.in_ok-known.ensures
    (fails_later _ _ _ _ c.in_ok-name.ensures
    (fails_now _ _ _ c.in_err-traits.ensures)))

pub returns-in_err-reply : goal.returns-in_err-reply
unfolding memory_row
returns-in_err-reply c =
    returned _ _ _ c.from_residual-in_err-reply.ensures.1
    (fails_later _ _ _ _ c.in_ok-known.ensures
    (fails_later _ _ _ _ c.in_ok-name.ensures
    (fails_later _ _ _ _ c.in_ok-traits.ensures
    (fails_now _ _ _ c.in_err-reply.ensures))))

pub returns-in_err-lanes : goal.returns-in_err-lanes
unfolding memory_row
returns-in_err-lanes c =
    returned _ _ _ c.from_residual-in_err-lanes.ensures.1
    (fails_later _ _ _ _ c.in_ok-known.ensures
    (fails_later _ _ _ _ c.in_ok-name.ensures
    (fails_later _ _ _ _ c.in_ok-traits.ensures
    (fails_later _ _ _ _ c.in_ok-reply.ensures
    (fails_now _ _ _ c.in_err-lanes.ensures)))))
