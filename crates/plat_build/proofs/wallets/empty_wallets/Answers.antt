use Rattle.std.proofs.Common.{◌≡◌, ℕ, ◌+◌, List, [], ◌∷◌, length, ap, subst, ◌∙◌, length-append}
use mathlib.Core.Option.{some}
use lib.ListN.{get_elem?}
use Rattle.view_lists.proofs.Places.{each_end}
use Rattle.token_book.specs.Purse.{Purse, empty_purse}
use Rattle.plat_build.specs.Tickets.{IsStocked}
use Rattle.plat_build.proofs.WalletLemmas.{stocked_none}
use Rattle.plat_build.proofs.wallets.empty_wallets.Goals as goal

pub loop-initiator-preserved : goal.loop-initiator-preserved
loop-initiator-preserved c =
    let i = c.loop-initiator.invariant in
    let wallets : List Purse = c.loop-initiator.wallets.items in
    let new : Purse = c.in_ok-new.field-0 in
    let items = c.in_ok-push.ensures.items in
    let tokens = c.args.tickets.now in
    let p = c.args.plan.now in
    record {
      count = ap length items ∙ (length-append wallets (new ∷ []) ∙ ap (λ (n : ℕ). n + 1) i.count);
      each = λ k w at. each_end (λ j u. IsStocked tokens p 0 j u) wallets new i.each
          (stocked_none tokens p (length wallets) new (c.in_ok-new.ensures.wallet ∙ ap empty_purse c.requires) (c.in_ok-new.ensures.of tokens))
          k w (subst (λ (l : List Purse). get_elem? l k ≡ some w) items at);
    }
