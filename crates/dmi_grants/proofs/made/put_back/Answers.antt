use Rattle.std.proofs.Common.{◌≡◌, sym, ap}
use Rattle.token_book.specs.Account.{Slip}
use Rattle.dmi_grants.proofs.Tickets.{has_room, place_put, roomy_put}
use Rattle.dmi_grants.proofs.made.put_back.Goals as goal

pub put_one-requires-clause-owner : goal.put_one-requires-clause-owner
put_one-requires-clause-owner g c = ap (λ (s : Slip). s.owner) (sym (c.requires.ticket c.in-Some.field-0 c.in-Some.is).0)

pub put_one-requires-clause-room : goal.put_one-requires-clause-room
put_one-requires-clause-room g c =
    let own : c.in-Some.field-0.entry.owner ≡ c.args.memory = ap (λ (s : Slip). s.owner) (c.requires.ticket c.in-Some.field-0 c.in-Some.is).0 in
    has_room c.args.wallet.now c.args.memory c.in-Some.field-0.entry.owner own c.requires.room

pub returns-clause-room : goal.returns-clause-room
returns-clause-room g c =
    let own : c.in-Some.field-0.entry.owner ≡ c.args.memory = ap (λ (s : Slip). s.owner) (c.requires.ticket c.in-Some.field-0 c.in-Some.is).0 in
    roomy_put c.args.wallet.now c.put_one.new.self c.args.memory c.in-Some.field-0.entry c.put_one.ensures.wallet own c.requires.room

pub returns-clause-held : goal.returns-clause-held
returns-clause-held g c =
    let own : c.in-Some.field-0.entry.owner ≡ c.args.memory = ap (λ (s : Slip). s.owner) (c.requires.ticket c.in-Some.field-0 c.in-Some.is).0 in
    λ o has. place_put c.args.wallet.now c.put_one.new.self c.args.memory c.in-Some.field-0.entry c.put_one.ensures.wallet own o has
