use Rattle.std.proofs.Common.{ℕ, sym, subst}
use Rattle.tlm_types.specs.declared.entry.What.TheVariants.{Closed}
use Rattle.node_hops.specs.Steps.{IsAccessOf}
use Rattle.dmi_grants.specs.Made.{HasSpent}
use Rattle.dmi_grants.specs.Revoking.{IsClosingEntry, IsEntryFor}
use Rattle.dmi_grants.proofs.Endings.{may_end, next_ended}
use Rattle.dmi_grants.proofs.Revoking.{access_by, has_revoked, new_as, new_before, revokes_more}
use Rattle.dmi_grants.proofs.Tickets.{spent_none}
use Rattle.dmi_grants.proofs.invalidation.end_next_grant.Goals as goal

pub end-closed-requires-clause-gate : goal.end-closed-requires-clause-gate
end-closed-requires-clause-gate g c = let k = c.args.revocation.now in (may_end g.N.Naming.frame k.memory c.requires.memory k.first k.last k.position c.in-Some.gate c.args.note.knows c.least_open-open.result.1.knows c.least_open-open.result.0 c.in-Some.is c.least_open-open.ensures.made).total

pub end-closed-requires-clause-granted : goal.end-closed-requires-clause-granted
end-closed-requires-clause-granted g c = let k = c.args.revocation.now in (may_end g.N.Naming.frame k.memory c.requires.memory k.first k.last k.position c.in-Some.gate c.args.note.knows c.least_open-open.result.1.knows c.least_open-open.result.0 c.in-Some.is c.least_open-open.ensures.made).given

pub end-closed-requires-clause-revoked : goal.end-closed-requires-clause-revoked
end-closed-requires-clause-revoked g c = let k = c.args.revocation.now in (may_end g.N.Naming.frame k.memory c.requires.memory k.first k.last k.position c.in-Some.gate c.args.note.knows c.least_open-open.result.1.knows c.least_open-open.result.0 c.in-Some.is c.least_open-open.ensures.made).revoked c.requires.told

pub end-closed-requires-clause-ticket : goal.end-closed-requires-clause-ticket
end-closed-requires-clause-ticket g c = let k = c.args.revocation.now in (may_end g.N.Naming.frame k.memory c.requires.memory k.first k.last k.position c.in-Some.gate c.args.note.knows c.least_open-open.result.1.knows c.least_open-open.result.0 c.in-Some.is c.least_open-open.ensures.made).pays _ c.requires.tickets

pub end-closed-requires-clause-below : goal.end-closed-requires-clause-below
end-closed-requires-clause-below g c = c.least_open-open.ensures.made.enters.below

pub returns-in-Some-clause-more : goal.returns-in-Some-clause-more
returns-in-Some-clause-more g c = λ goes before start is.
    let k = c.args.revocation.now in
    let one = next_ended g.N.Naming.frame k.memory c.requires.memory k.first k.last k.position c.in-Some.gate c.args.note.knows c.least_open-open.result.1.knows c.least_open-open.result.0 c.in-Some.is c.least_open-open.ensures.made k.txn k.at c.end-closed.result.1.knows c.args.wallet.now c.end-closed.new.wallet c.end-closed.ensures.closed in
    revokes_more g.N.Naming.frame k before c.args.note.knows c.end-closed.result.1.knows start c.args.wallet.now c.end-closed.new.wallet one.0 is one.1

pub returns-in-Some-clause-all : goal.returns-in-Some-clause-all
returns-in-Some-clause-all g c = λ returned. absurd (c.ended_by.ensures.ended returned)

pub returns-in-Some-clause-closed : goal.returns-in-Some-clause-closed
returns-in-Some-clause-closed g c = λ closed.
    let k = c.args.revocation.now in
    let p = g.N.Naming.frame.world in
    new_as (IsEntryFor p k.memory k.txn k.at (Closed c.in-Some.gate)) (IsClosingEntry p k) c.args.note.knows.known c.end-closed.result.1.knows.known (λ e is. (c.in-Some.gate, is))
    (new_before (IsEntryFor p k.memory k.txn k.at (Closed c.in-Some.gate)) c.args.note.knows.known c.least_open-open.result.1.knows.known c.end-closed.result.1.knows.known c.least_open-open.ensures.made.enters.knew (c.end-closed.ensures.adds (c.ended_by.ensures.own closed)))

pub returns-in-Some-clause-adds : goal.returns-in-Some-clause-adds
returns-in-Some-clause-adds g c = λ closed.
    let k = c.args.revocation.now in
    let p = g.N.Naming.frame.world in
    new_as (IsEntryFor p k.memory k.txn k.at (Closed c.in-Some.gate)) (IsAccessOf p k.txn.initiator) c.args.note.knows.known c.end-closed.result.1.knows.known (access_by p k.memory k.txn k.at (Closed c.in-Some.gate))
    (new_before (IsEntryFor p k.memory k.txn k.at (Closed c.in-Some.gate)) c.args.note.knows.known c.least_open-open.result.1.knows.known c.end-closed.result.1.knows.known c.least_open-open.ensures.made.enters.knew (c.end-closed.ensures.adds (c.ended_by.ensures.own closed)))

pub returns-in-Some-clause-keeps : goal.returns-in-Some-clause-keeps
returns-in-Some-clause-keeps g c = λ e has. c.end-closed.ensures.closed.keeps e (c.least_open-open.ensures.made.enters.knew e has)

pub returns-in-Some-clause-below : goal.returns-in-Some-clause-below
returns-in-Some-clause-below g c = c.end-closed.ensures.below

pub returns-in-None-clause-all : goal.returns-in-None-clause-all
returns-in-None-clause-all g c = λ yes' before start is.
    let k = c.args.revocation.now in
    let frame = g.N.Naming.frame in
    has_revoked frame k before c.args.note.knows c.least_open-open.result.1.knows start c.args.wallet.now c.requires.memory is c.least_open-open.result.0 c.in-None.is c.least_open-open.ensures.made

pub returns-in-None-clause-keeps : goal.returns-in-None-clause-keeps
returns-in-None-clause-keeps g c = c.least_open-open.ensures.made.enters.knew

pub returns-in-None-clause-below : goal.returns-in-None-clause-below
returns-in-None-clause-below g c = c.least_open-open.ensures.made.enters.below

pub returns-in-None-clause-note : goal.returns-in-None-clause-note
returns-in-None-clause-note g c = c.least_open-open.ensures.note

pub returns-in-Some-clause-note : goal.returns-in-Some-clause-note
returns-in-Some-clause-note g c = c.end-closed.ensures.note

pub returns-in-None-clause-wallet : goal.returns-in-None-clause-wallet
returns-in-None-clause-wallet g c = c.requires.wallet

pub returns-in-Some-clause-wallet : goal.returns-in-Some-clause-wallet
returns-in-Some-clause-wallet g c = c.end-closed.ensures.wallet

pub returns-in-None-clause-room : goal.returns-in-None-clause-room
returns-in-None-clause-room g c = c.requires.room

pub returns-in-Some-clause-room : goal.returns-in-Some-clause-room
returns-in-Some-clause-room g c = c.end-closed.ensures.room

pub returns-in-None-clause-rooms : goal.returns-in-None-clause-rooms
returns-in-None-clause-rooms g c = λ m room. room

pub returns-in-Some-clause-rooms : goal.returns-in-Some-clause-rooms
returns-in-Some-clause-rooms g c = c.end-closed.ensures.rooms

pub end-closed-requires-clause-memory : goal.end-closed-requires-clause-memory
end-closed-requires-clause-memory g c = c.requires.memory

pub end-closed-requires-clause-passage : goal.end-closed-requires-clause-passage
end-closed-requires-clause-passage g c = c.requires.passage

pub end-closed-requires-clause-wallet : goal.end-closed-requires-clause-wallet
end-closed-requires-clause-wallet g c = c.requires.wallet

pub end-closed-requires-clause-room : goal.end-closed-requires-clause-room
end-closed-requires-clause-room g c = c.requires.room

pub end-closed-requires-clause-note : goal.end-closed-requires-clause-note
end-closed-requires-clause-note g c = c.least_open-open.ensures.note

pub least_open-open-requires-clause-memory : goal.least_open-open-requires-clause-memory
least_open-open-requires-clause-memory g c = c.requires.memory

pub least_open-open-requires-clause-note : goal.least_open-open-requires-clause-note
least_open-open-requires-clause-note g c = c.requires.note

pub returns-in-Some-clause-spent : goal.returns-in-Some-clause-spent
returns-in-Some-clause-spent g c = subst (λ (n : ℕ). HasSpent c.args.revocation.now.memory n c.args.wallet.now c.end-closed.new.wallet) (sym c.ended_by.ensures.entries) c.end-closed.ensures.spent

pub returns-in-None-clause-spent : goal.returns-in-None-clause-spent
returns-in-None-clause-spent g c = spent_none c.args.revocation.now.memory c.args.wallet.now
