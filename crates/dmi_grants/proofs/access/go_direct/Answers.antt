use Rattle.std.proofs.Common.{◌≡◌, ℕ, ◌+◌, ◌-◌, ◌==◌, refl, ap, ◌∙◌, subst, arith}
use Rattle.std.specs.Prelude.{if◌then◌else◌}
use Rattle.atomic_table.specs.Seated.{TableId}
use Rattle.token_book.specs.Purse.{IsOf, Purse, bytes_of}
use Rattle.token_book.specs.Ticket.{IsTicket}
use Rattle.region_object.specs.Call.{payload_cost}
use Rattle.route_plan.specs.Valid.{IsValid}
use Rattle.dmi_grants.specs.Using.{at_offset}
use Rattle.dmi_grants.proofs.Tickets.{roomy_less}
use Rattle.dmi_grants.proofs.Uses.{fits_direct, gone_direct, offset_inside}
use Rattle.dmi_grants.proofs.access.go_direct.Goals as goal

pub overflow_add-held : goal.overflow_add-held
overflow_add-held g c =
    let inside = offset_inside g.N.Naming.frame c.args.payload c.args.note.knows c.args.wallet.now c.args.held c.requires.may in
    let low = inside.0 in
    let high = inside.1 in
    let some = c.requires.may.some_bytes in
    let is = c.address.ensures in
    omega arith

pub make_inside-reply-requires-clause-may : goal.make_inside-reply-requires-clause-may
make_inside-reply-requires-clause-may g c =
    let is : c.set_address.new.self ≡ at_offset c.args.held c.args.payload = c.set_address.ensures ∙ ap (λ (a : ℕ). record c.args.payload { address = c.args.held.base + (a - c.args.held.low) }) c.address.ensures in
    let cost : payload_cost c.set_address.new.self ≡ payload_cost c.args.payload = ap payload_cost is in
    let paid = c.pull-ticket.ensures.amount in
    let bytes = c.payload_cost-bytes.ensures in (
      refl,
      fits_direct g.N.Naming.frame c.args.payload c.set_address.new.self c.args.note.knows c.args.wallet.now c.args.held c.requires.may is,
      c.requires.passage,
      (subst (λ (t : TableId). IsTicket t c.args.held.memory c.pull-ticket.result) c.tickets.ensures c.pull-ticket.ensures.ticket, omega (arith, cost, paid, bytes)),
    )

pub returns-clause-used : goal.returns-clause-used
returns-clause-used g c =
    let is : c.set_address.new.self ≡ at_offset c.args.held c.args.payload = c.set_address.ensures ∙ ap (λ (a : ℕ). record c.args.payload { address = c.args.held.base + (a - c.args.held.low) }) c.address.ensures in
    let m = c.args.held.memory in
    let valid : IsValid g.N.Naming.frame.world = subst IsValid (c.plan.ensures.plan ∙ c.plan.ensures.world) c.platform.ensures.valid in (
      gone_direct g.N.Naming.frame g.N.Naming.tokens c.args.held c.args.payload c.set_address.new.self c.in-Direct.payload c.args.txn c.args.at c.args.note.knows c.make_inside-reply.result.note.knows c.args.wallet.now c.pull-ticket.new.self
          c.make_inside-reply.result.position c.make_inside-reply.result.reply c.direct_accesses_are_ok.ensures valid c.requires.may is c.make_inside-reply.ensures.made c.in-Direct.is
          (record {
            places = ap (λ (w : Purse). w.places) c.pull-ticket.ensures.wallet;
            left = c.pull-ticket.ensures.left;
            bytes_left = λ o. subst (λ (n : ℕ). bytes_of c.pull-ticket.new.self o ≡ (if o == m then bytes_of c.args.wallet.now m - n else bytes_of c.args.wallet.now o)) c.payload_cost-bytes.ensures (c.pull-ticket.ensures.bytes o);
            held = c.pull-ticket.ensures.held;
          }),
      refl,
    )

pub returns-clause-room : goal.returns-clause-room
returns-clause-room g c = λ m room. roomy_less c.tickets.result.now c.args.wallet.now c.pull-ticket.new.self m c.args.held.memory c.payload_cost-bytes.result c.pull-ticket.ensures.wallet c.requires.may.left room

pub returns-clause-wallet : goal.returns-clause-wallet
returns-clause-wallet g c = subst (λ (t : TableId). IsOf t c.pull-ticket.new.self) c.tickets.ensures c.pull-ticket.ensures.of
