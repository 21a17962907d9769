use Rattle.std.proofs.Common.{◌≡◌, sym, ◌∙◌, inl, inr, ⊎_elim}
use Rattle.token_book.specs.Purse.{HasPlace}
use Rattle.dmi_grants.proofs.Tickets.{roomy_kept}
use Rattle.dmi_grants.proofs.made.make_paid.Goals as goal

pub returns-clause-rooms : goal.returns-clause-rooms
returns-clause-rooms g c = λ m room.
    roomy_kept c.args.wallet.now c.put_back.new.wallet c.args.memory m (sym c.put_back.ensures.back.places ∙ c.take-ticket.ensures.spent.places) c.requires.left
    (λ o has. ⊎_elim
    (λ (here : o ≡ c.args.memory). inl here)
    (λ (was : HasPlace c.take-ticket.new.wallet o). inr (c.take-ticket.ensures.held o was))
    (c.put_back.ensures.held o has))
    room
