use Rattle.std.proofs.Common.{sym, arith}
use Rattle.addr_router.specs.declared.window.Window.{Window}
use Rattle.addr_router.specs.Windows.{IsProper, is_within}
use Rattle.addr_router.proofs.FindLemmas.{All-found, find_found}
use Rattle.addr_router.proofs.FaultLemmas.{within_parts}
use Rattle.addr_router.proofs.windows.Windows.decode.Goals as goal

pub overflow_sub-result : goal.overflow_sub-result
overflow_sub-result c =
    let w = c.in_ok-window.window.now in
    let found = find_found (λ (v : Window). is_within v c.args.address) c.args.self.now w (sym c.in_ok-window.ensures.found) in
    (within_parts w c.args.address found.passes).0

pub overflow_add-result : goal.overflow_add-result
overflow_add-result c =
    let w = c.in_ok-window.window.now in
    let found = find_found (λ (v : Window). is_within v c.args.address) c.args.self.now w (sym c.in_ok-window.ensures.found) in
    let within = within_parts w c.args.address found.passes in
    let proper = All-found IsProper (λ (v : Window). is_within v c.args.address) c.args.self.now w c.window_at.ensures.valid.each found in
    omega arith
