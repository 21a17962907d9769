use Rattle.std.proofs.Common.{◌≡◌, ℕ, Some, sym, ap, ◌∙◌, subst}
use Rattle.tlm_types.specs.declared.words.Kind.{Kind}
use Rattle.tlm_model.specs.Plan.{Plan}
use Rattle.region_object.specs.declared.call.RegionReply.{RegionReply}
use Rattle.region_object.specs.declared.call.RegionReply.TheVariants.{Granted}
use Rattle.dmi_grants.specs.declared.table.Held.{Held}
use Rattle.dmi_grants.specs.Ranges.{AreAddressesOf, lifted_at}
use Rattle.dmi_grants.proofs.Asks.{ask_denied, ask_room, ask_taken, ask_inside, ask_memory}
use Rattle.dmi_grants.proofs.table.GrantTable.ask_at.Goals as goal

-- what is held is what was granted
granted_as : (o : RegionReply) (gate first last : ℕ) (kind : Kind) (h : Held) → o ≡ Granted gate first last kind → (h.gate ≡ gate) × (h.first ≡ first) × (h.last ≡ last) × (h.kind ≡ kind) → o ≡ Granted h.gate h.first h.last h.kind
granted_as o gate first last kind h is same = cc (is, same.0, same.1, same.2, same.3)

pub make_paid-reply-requires-clause-memory : goal.make_paid-reply-requires-clause-memory
make_paid-reply-requires-clause-memory g c = ask_memory g.N.Naming.frame.world c.args.wish.command c.args.self.now c.args.note.knows c.args.wallet.now c.args.route c.requires.may

pub held_for-held-requires-clause-inside : goal.held_for-held-requires-clause-inside
held_for-held-requires-clause-inside g c =
    let r = c.make_paid-reply.result in
    ask_inside g.N.Naming.frame c.args.wish.command c.args.wish.address c.args.route c.args.wish.txn c.args.wish.at c.args.self.now c.args.note.knows r.2.knows c.args.wallet.now c.requires.may r.1 r.0 c.make_paid-reply.ensures.made c.in-Granted.gate c.in-Granted.first c.in-Granted.last c.in-Granted.kind c.in-Granted.is

pub hold-which-requires : goal.hold-which-requires
hold-which-requires g c =
    let r = c.make_paid-reply.result in
    record { room = ask_room g.N.Naming.frame c.args.wish.command c.args.wish.address c.args.route c.args.wish.txn c.args.wish.at c.args.self.now c.args.note.knows r.2.knows c.args.wallet.now c.requires.may r.1 r.0 c.make_paid-reply.ensures.made c.in-Granted.gate c.in-Granted.first c.in-Granted.last c.in-Granted.kind c.in-Granted.is }

pub returns-in-Some-clause-asked : goal.returns-in-Some-clause-asked
returns-in-Some-clause-asked g c =
    let r = c.make_paid-reply.result in
    let h = c.held_for-held.result in
    let says = c.held_for-held.ensures in
    let plan = c.plan.ensures.plan ∙ c.plan.ensures.world in
    ask_taken g.N.Naming.frame c.args.wish.command c.args.wish.address c.args.route c.args.wish.txn c.args.wish.at c.args.self.now c.args.note.knows r.2.knows c.args.wallet.now c.requires.may r.1 r.0 c.make_paid-reply.ensures.made
    c.args.wish.who c.hold-which.result h c.hold-which.new.self c.make_paid-reply.new.wallet
    (granted_as r.0 c.in-Granted.gate c.in-Granted.first c.in-Granted.last c.in-Granted.kind h c.in-Granted.is says.given)
    (c.in-Some.is ∙ ap (λ (n : ℕ). Some n) (sym says.entry.1))
    says.entry.0 (says.entry.2, says.entry.3) c.hold-which.ensures.held c.hold-which.ensures.which
    (subst (λ (p : Plan). lifted_at p c.args.wish.who c.args.wish.address (h.first, h.last) ≡ Some (h.low, h.high)) plan says.range)
    (subst (λ (p : Plan). AreAddressesOf p c.args.wish.who c.args.route.memory h.first h.last h.low h.high h.base) plan says.all)
    says.within says.base says.inside c.make_paid-reply.ensures.spent

pub returns-in-Denied-clause-asked : goal.returns-in-Denied-clause-asked
returns-in-Denied-clause-asked g c =
    let r = c.make_paid-reply.result in
    ask_denied g.N.Naming.frame c.args.wish.command c.args.wish.address c.args.route c.args.wish.txn c.args.wish.at c.args.self.now c.args.note.knows r.2.knows c.args.wallet.now c.requires.may r.1 r.0 c.make_paid-reply.ensures.made c.in-Denied.denial c.make_paid-reply.new.wallet c.in-Denied.is c.make_paid-reply.ensures.spent
