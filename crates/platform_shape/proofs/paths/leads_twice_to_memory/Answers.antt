use Rattle.std.proofs.Common.{◌<◌, sym, ap, ◌∙◌, length, nat_lt, arith}
use Rattle.tlm_model.specs.declared.platform.Target.TheVariants.{Memory}
use Rattle.platform_shape.specs.Paths.{paths_to}
use Rattle.platform_shape.proofs.PathLemmas.{number_found, number_more}
use Rattle.platform_shape.proofs.paths.leads_twice_to_memory.Goals as goal

pub returns-then-branch : goal.returns-then-branch
returns-then-branch c =
    let below : c.loop-number.number < length c.args.platform.now.memories = omega (arith, ap length c.as_slice-number-end.ensures) in
    number_found (λ n. nat_lt 1 (paths_to (length c.args.platform.now.routers) c.args.platform.now c.args.from (Memory n))) (length c.args.platform.now.memories) c.loop-number.number below
    (sym c.in_ok-leads_twice.ensures ∙ c.if-branch.true)

pub loop-number-preserved : goal.loop-number-preserved
loop-number-preserved c =
    number_more (λ n. nat_lt 1 (paths_to (length c.args.platform.now.routers) c.args.platform.now c.args.from (Memory n))) c.loop-number.number
    (sym c.in_ok-leads_twice.ensures ∙ c.if-branch.false) c.loop-number.invariant
