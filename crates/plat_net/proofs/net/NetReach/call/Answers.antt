use Rattle.std.proofs.Common.{◌≡◌, Bool, ℕ, ◌++◌, ◌-◌, ◌==◌, if◌then◌else◌, get_or, slice_set, map, true, refl, sym, ap, subst, arith, ◌≤◌, ◌∙◌}
use Rattle.std.proofs.lemmas.List.{set-get_or}
use Rattle.atomic_table.specs.Seated.{TableId}
use Rattle.view_lists.specs.Lists.{Within}
use Rattle.shared_object.specs.Standing.{Numbers}
use Rattle.shared_object.specs.Steps.{Enters}
use Rattle.shared_object.specs.Written.{placed, written_at, wrote}
use Rattle.token_book.specs.Purse.{IsOf, Purse, bytes_of}
use Rattle.token_book.specs.Ticket.{IsTicket}
use Rattle.generic_payload.specs.Payload.{PayloadView}
use Rattle.one_history.specs.declared.entry.Sign.{Sign}
use Rattle.one_history.specs.Moves.{IsAtGate}
use Rattle.region_object.specs.declared.call.RegionReply.{RegionReply}
use Rattle.region_object.proofs.Transports.{transport_admitted, transport_fits, transport_plain}
use Rattle.region_object.specs.Written.{built_of, content_of, written_from}
use Rattle.cargo_net.specs.Traffic.{Backs, IsMemoryBuilt}
use Rattle.region_object.specs.Call.{HasPayload, returned}
use Rattle.plat_net.specs.Calls.{IsCalled}
use Rattle.plat_net.specs.Net.{AreMemories}
use Rattle.plat_net.proofs.CallLemmas.{backed_without_passage, transport_returns, returned_room, called, memory_read}
use Rattle.plat_net.proofs.net.NetReach.call.Goals as goal

pub step_alone-stepped-requires-clause-ticket : goal.step_alone-stepped-requires-clause-ticket
step_alone-stepped-requires-clause-ticket g c = λ o built lawful admitted.
    let m = c.args.memory in
    let place = c.index_mut-place.result.now in
    let num : place.number ≡ m = ap (λ (x : Numbers). x.number) (memory_read c.self.inside.plan g.N.Naming.frame.world c.self.inside.memories.items m place c.self.invariant.4 c.self.invariant.0 c.requires.memory c.index_mut-place.ensures.value) in (
      subst (λ (k : ℕ). IsTicket g.N.Naming.tokens k c.pull-ticket.result) (sym num)
          (subst (λ (t : TableId). IsTicket t m c.pull-ticket.result) c.self.invariant.3 c.pull-ticket.ensures.ticket),
      omega (arith, c.pull-ticket.ensures.amount, c.cost.ensures),
    )

pub step_alone-stepped-requires-clause-backed : goal.step_alone-stepped-requires-clause-backed
step_alone-stepped-requires-clause-backed g c = λ o position meets admitted late.
    let m = c.args.memory in
    let world = g.N.Naming.frame.world in
    let known = c.args.note.knows.known in
    let place = c.index_mut-place.result.now in
    let num : place.number ≡ m = ap (λ (x : Numbers). x.number) (memory_read c.self.inside.plan world c.self.inside.memories.items m place c.self.invariant.4 c.self.invariant.0 c.requires.memory c.index_mut-place.ensures.value) in
    subst (λ (k : ℕ). Backs world (map (placed k) (written_from 0 o.log.entries) ++ known) (placed k (wrote position (content_of o c.args.call)))) (sym num)
    (backed_without_passage world world (map (placed m) (written_from 0 o.log.entries) ++ known) m position (content_of o c.args.call) refl c.requires.memory c.requires.passage)

pub step_alone-stepped-requires-clause-fits : goal.step_alone-stepped-requires-clause-fits
step_alone-stepped-requires-clause-fits g c = λ o built. transport_fits (written_at c.index_mut-place.result.now.number c.args.note.knows.known) c.args.call c.requires.fit

pub step_alone-stepped-requires-clause-gates : goal.step_alone-stepped-requires-clause-gates
step_alone-stepped-requires-clause-gates g c = λ o meets admitted. subst (λ (s : Sign). IsAtGate c.args.note.knows s) (sym (transport_plain o c.args.call c.requires.fit)) tt

pub returned-requires : goal.returned-requires
returned-requires g c =
    let s = c.step_alone-stepped.ensures.answer in
    subst (λ (r : RegionReply). HasPayload r) (sym s.4.1) (transport_returns s.0 c.args.call c.requires.fit)

pub returns-clause-entry : goal.returns-clause-entry
returns-clause-entry g c =
    let m = c.args.memory in
    let place = c.index_mut-place.result.now in
    let num : place.number ≡ m = ap (λ (x : Numbers). x.number) (memory_read c.self.inside.plan g.N.Naming.frame.world c.self.inside.memories.items m place c.self.invariant.4 c.self.invariant.0 c.requires.memory c.index_mut-place.ensures.value) in
    let world = g.N.Naming.frame.world in
    let s = c.step_alone-stepped.ensures.answer in
    let back = c.step_alone-stepped.result.note.knows in
    let note = c.args.note.knows in
    let built : IsMemoryBuilt world m (built_of s.0) = subst (λ (k : ℕ). IsMemoryBuilt world k (built_of s.0)) num s.2.built_for.world in
    let known : Within (written_at m note.known) (written_from 0 s.0.log.entries) = subst (λ (k : ℕ). Within (written_at k note.known) (written_from 0 s.0.log.entries)) num s.2.knows in
    let enters : Enters g.N.Naming.frame m (written_from 0 s.0.log.entries) (written_from 0 s.1.log.entries) true (content_of s.0 c.args.call) note back c.step_alone-stepped.result.position =
    subst (λ (k : ℕ). Enters g.N.Naming.frame k (written_from 0 s.0.log.entries) (written_from 0 s.1.log.entries) true (content_of s.0 c.args.call) note back c.step_alone-stepped.result.position) num (subst (λ (b : Bool). Enters g.N.Naming.frame place.number (written_from 0 s.0.log.entries) (written_from 0 s.1.log.entries) b (content_of s.0 c.args.call) note back c.step_alone-stepped.result.position) (transport_admitted s.0 c.args.call c.requires.fit) s.3) in
    let is : c.returned.result ≡ returned c.step_alone-stepped.result.reply = c.returned.ensures in
    subst (λ (x : PayloadView). IsCalled world m c.args.call note back x) (sym is)
    (called g.N.Naming.frame world m c.args.call note back c.step_alone-stepped.result.position c.step_alone-stepped.result.reply s.0 s.1 built s.2.state.0 known enters s.4)

pub returns-clause-wallet : goal.returns-clause-wallet
returns-clause-wallet g c = subst (λ (t : TableId). IsOf t c.pull-ticket.new.self) c.self.invariant.3 c.pull-ticket.ensures.of

pub pull-ticket-requires-clause-of : goal.pull-ticket-requires-clause-of
pull-ticket-requires-clause-of g c = subst (λ (t : TableId). IsOf t c.args.wallet.now) (sym c.self.invariant.3) c.requires.wallet

pub pull-ticket-requires-clause-left : goal.pull-ticket-requires-clause-left
pull-ticket-requires-clause-left g c = c.requires.ticket.0

pub pull-ticket-requires-clause-bytes : goal.pull-ticket-requires-clause-bytes
pull-ticket-requires-clause-bytes g c = subst (λ (n : ℕ). n ≤ bytes_of c.args.wallet.now c.args.memory) (sym c.cost.ensures) c.requires.ticket.1

pub step_alone-stepped-requires-clause-note : goal.step_alone-stepped-requires-clause-note
step_alone-stepped-requires-clause-note g c = c.requires.note

pub step_alone-stepped-requires-clause-history : goal.step_alone-stepped-requires-clause-history
step_alone-stepped-requires-clause-history g c = (c.self.invariant.1, c.self.invariant.2)

pub step_alone-stepped-requires-clause-tickets : goal.step_alone-stepped-requires-clause-tickets
step_alone-stepped-requires-clause-tickets g c = c.self.invariant.3

pub returns-clause-note : goal.returns-clause-note
returns-clause-note g c = c.step_alone-stepped.ensures.note

pub invariant_of-self : goal.invariant_of-self
invariant_of-self g c =
    let i = c.self.invariant in
    let memories = c.self.inside.memories.items in
    let m = c.args.memory in
    let place = c.index_mut-place.result.now in
    let new : c.step_alone-stepped.new.self ≡ get_or memories m place = c.step_alone-stepped.ensures.numbers ∙ c.index_mut-place.ensures.value in
    let same : slice_set memories m c.step_alone-stepped.new.self ≡ memories = ap (slice_set memories m) new ∙ set-get_or memories m place in
    (i.0, i.1, i.2, i.3, subst (AreMemories c.self.inside.plan) (sym same) i.4, i.5, i.6, i.7)

pub returns-clause-room : goal.returns-clause-room
returns-clause-room g c =
    let s = c.step_alone-stepped.ensures.answer in
    ap (λ (p : PayloadView). p.room) c.returned.ensures ∙ ap (λ (r : RegionReply). (returned r).room) s.4.1 ∙ returned_room s.0 c.args.call c.requires.fit

pub returns-clause-ticket : goal.returns-clause-ticket
returns-clause-ticket g c =
    let m = c.args.memory in
    let old = c.args.wallet.now in
    let new = c.pull-ticket.new.self in record {
      places = ap (λ (p : Purse). p.places) c.pull-ticket.ensures.wallet;
      left = c.pull-ticket.ensures.left;
      bytes_left = subst (λ (n : ℕ). (o : ℕ) → bytes_of new o ≡ (if o == m then bytes_of old m - n else bytes_of old o)) c.cost.ensures c.pull-ticket.ensures.bytes;
      held = c.pull-ticket.ensures.held;
    }
