use Rattle.std.proofs.Common.{sym, ◌==◌}
use Rattle.addr_router.specs.declared.window.Window.{Window}
use Rattle.addr_router.specs.Windows.{IsProper}
use Rattle.addr_router.proofs.FindLemmas.{All-found, find_found}
use Rattle.addr_router.proofs.windows.Windows.translate_up.Goals as goal

pub part_up-requires : goal.part_up-requires
part_up-requires c =
    let w = c.in_ok-window.window.now in
    let found = find_found (λ (v : Window). v.port == c.args.port) c.deref.result.now w (sym c.in_ok-window.ensures) in
    All-found IsProper (λ (v : Window). v.port == c.args.port) c.self.inside.rows.items w c.self.invariant.0.each (rw c.deref.ensures.value at found)
