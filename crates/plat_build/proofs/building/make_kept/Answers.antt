use Rattle.std.proofs.Common.{◌≡◌, ℕ, length, sym, subst}
use Rattle.tlm_model.specs.Plan.{Plan}
use Rattle.plat_build.specs.Tickets.{AreStocked}
use Rattle.plat_build.proofs.building.make_kept.Goals as goal

pub new-requires-clause-wallets : goal.new-requires-clause-wallets
new-requires-clause-wallets g c =
    let tokens = g.N.Naming.tokens in
    let wallets = c.into_wallets.result.items in
    subst (λ (n : ℕ). AreStocked tokens c.args.plan.now n wallets) c.requires.supplies
    (subst (λ (p : Plan). AreStocked tokens p c.args.supplies wallets) (sym c.requires.plan) c.into_wallets.ensures)
