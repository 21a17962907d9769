use Rattle.std.proofs.Common.{◌+◌, ◌-◌, ◌≡◌, length, sym, ap, ◌∙◌, arith}
use Rattle.router_node.specs.Stages.{is_down}
use Rattle.router_steps.proofs.Trying.{is_last, isnt_down}
use Rattle.router_steps.proofs.tries.goes_down.Goals as goal

pub returns-in_default : goal.returns-in_default
returns-in_default c = λ before last is.
    let held = c.args.held.now in
    let count : (length held - 1) + 1 ≡ length held = omega (arith, c.requires) in
    let same = is_last held before last c.index-held-held.result (length held - 1) is count c.index-held-held.is in
    sym (ap is_down (sym same) ∙ isnt_down c.index-held-held.result c.in_default.not-Down)

pub returns-in-Down : goal.returns-in-Down
returns-in-Down c = λ before last is.
    let held = c.args.held.now in
    let count : (length held - 1) + 1 ≡ length held = omega (arith, c.requires) in
    let same = is_last held before last c.index-held-held.result (length held - 1) is count c.index-held-held.is in
    sym (ap is_down (sym same) ∙ ap is_down c.in-Down.is)
