use Rattle.std.proofs.Common.{◌≡◌, Bool, ℕ, ◌<◌, ◌++◌, length, map, true, sym, ap, subst, ◌≤◌}
use Rattle.atomic_table.specs.Seated.{TableId}
use Rattle.view_lists.specs.Lists.{Within}
use Rattle.shared_object.specs.Standing.{Numbers}
use Rattle.shared_object.specs.Steps.{Enters}
use Rattle.shared_object.specs.Written.{placed, written_at, wrote}
use Rattle.token_book.specs.Purse.{IsOf, bytes_of}
use Rattle.tlm_model.specs.Plan.{Plan}
use Rattle.generic_payload.specs.Payload.{PayloadView}
use Rattle.one_history.specs.declared.entry.Sign.{Sign}
use Rattle.one_history.specs.Moves.{IsAtGate}
use Rattle.region_object.specs.declared.call.RegionReply.{RegionReply}
use Rattle.region_object.proofs.Transports.{transport_admitted, transport_fits, transport_plain}
use Rattle.region_object.specs.Written.{built_of, content_of, written_from}
use Rattle.cargo_net.specs.Traffic.{Backs, IsMemoryBuilt}
use Rattle.region_object.specs.Call.{HasPayload, returned}
use Rattle.plat_net.specs.Calls.{IsCalled}
use Rattle.plat_net.proofs.CallLemmas.{backed_without_passage, transport_returns, called}
use Rattle.plat_net.proofs.net.Net.call_memory.Goals as goal

pub step-stepped-requires-clause-backed : goal.step-stepped-requires-clause-backed
step-stepped-requires-clause-backed g c = λ o position meets admitted late.
    let m = c.args.memory in
    let world = g.N.Naming.frame.world in
    let known = c.args.note.knows.known in
    let num : c.memory-place.result.now.number ≡ m = ap (λ (x : Numbers). x.number) c.memory-place.ensures in
    let below : m < length world.platform.memories = subst (λ (w : Plan). m < length w.platform.memories) c.plan.ensures.world c.requires.memory in
    subst (λ (k : ℕ). Backs world (map (placed k) (written_from 0 o.log.entries) ++ known) (placed k (wrote position (content_of o c.args.call)))) (sym num)
    (backed_without_passage c.args.self.now world (map (placed m) (written_from 0 o.log.entries) ++ known) m position (content_of o c.args.call) c.plan.ensures.world below c.requires.passage)

pub step-stepped-requires-clause-fits : goal.step-stepped-requires-clause-fits
step-stepped-requires-clause-fits g c = λ o built. transport_fits (written_at c.memory-place.result.now.number c.args.note.knows.known) c.args.call c.requires.fit

pub step-stepped-requires-clause-gates : goal.step-stepped-requires-clause-gates
step-stepped-requires-clause-gates g c = λ o meets admitted. subst (λ (s : Sign). IsAtGate c.args.note.knows s) (sym (transport_plain o c.args.call c.requires.fit)) tt

pub returned-requires : goal.returned-requires
returned-requires g c =
    let s = c.step-stepped.ensures.answer in
    subst (λ (r : RegionReply). HasPayload r) (sym s.4.1) (transport_returns s.0 c.args.call c.requires.fit)

pub returns-clause-entry : goal.returns-clause-entry
returns-clause-entry g c =
    let m = c.args.memory in
    let s = c.step-stepped.ensures.answer in
    let back = c.step-stepped.result.note.knows in
    let note = c.args.note.knows in
    let num : c.memory-place.result.now.number ≡ m = ap (λ (x : Numbers). x.number) c.memory-place.ensures in
    let built : IsMemoryBuilt c.args.self.now m (built_of s.0) =
    subst (λ (w : Plan). IsMemoryBuilt w m (built_of s.0)) (sym c.plan.ensures.world) (subst (λ (k : ℕ). IsMemoryBuilt g.N.Naming.frame.world k (built_of s.0)) num s.2.built_for.world) in
    let known : Within (written_at m note.known) (written_from 0 s.0.log.entries) = subst (λ (k : ℕ). Within (written_at k note.known) (written_from 0 s.0.log.entries)) num s.2.knows in
    let enters : Enters g.N.Naming.frame m (written_from 0 s.0.log.entries) (written_from 0 s.1.log.entries) true (content_of s.0 c.args.call) note back c.step-stepped.result.position =
    subst (λ (k : ℕ). Enters g.N.Naming.frame k (written_from 0 s.0.log.entries) (written_from 0 s.1.log.entries) true (content_of s.0 c.args.call) note back c.step-stepped.result.position) num (subst (λ (b : Bool). Enters g.N.Naming.frame c.memory-place.result.now.number (written_from 0 s.0.log.entries) (written_from 0 s.1.log.entries) b (content_of s.0 c.args.call) note back c.step-stepped.result.position) (transport_admitted s.0 c.args.call c.requires.fit) s.3) in
    let same : c.returned.result ≡ returned c.step-stepped.result.reply = c.returned.ensures in
    subst (λ (x : PayloadView). IsCalled c.args.self.now m c.args.call note back x) (sym same)
    (called g.N.Naming.frame c.args.self.now m c.args.call note back c.step-stepped.result.position c.step-stepped.result.reply s.0 s.1 built s.2.state.0 known enters s.4)

pub returns-clause-wallet : goal.returns-clause-wallet
returns-clause-wallet g c = subst (λ (t : TableId). IsOf t c.pull-ticket.new.self) c.tickets.ensures c.pull-ticket.ensures.of

pub pull-ticket-requires-clause-of : goal.pull-ticket-requires-clause-of
pull-ticket-requires-clause-of g c = subst (λ (t : TableId). IsOf t c.args.wallet.now) (sym c.tickets.ensures) c.requires.wallet

pub pull-ticket-requires-clause-left : goal.pull-ticket-requires-clause-left
pull-ticket-requires-clause-left g c = c.requires.ticket.0

pub pull-ticket-requires-clause-bytes : goal.pull-ticket-requires-clause-bytes
pull-ticket-requires-clause-bytes g c = subst (λ (n : ℕ). n ≤ bytes_of c.args.wallet.now c.args.memory) (sym c.cost.ensures) c.requires.ticket.1

pub memory-place-requires : goal.memory-place-requires
memory-place-requires g c = c.requires.memory

pub step-stepped-requires-clause-note : goal.step-stepped-requires-clause-note
step-stepped-requires-clause-note g c = c.requires.note

pub step-stepped-requires-clause-history : goal.step-stepped-requires-clause-history
step-stepped-requires-clause-history g c = c.history.ensures

pub step-stepped-requires-clause-tickets : goal.step-stepped-requires-clause-tickets
step-stepped-requires-clause-tickets g c = c.tickets-2.ensures

pub returns-clause-note : goal.returns-clause-note
returns-clause-note g c = c.step-stepped.ensures.note
