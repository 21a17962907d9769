use Rattle.std.proofs.Common.{refl}
use Rattle.joined_traffic.specs.Accesses.{txn_of}
use Rattle.fourphase_port.proofs.Revoked.{free_then, invalidates_as, may_as, moved_as, revoked_as, revoked_new, revokes_as, state_as, txn_is, who_stands}
use Rattle.fourphase_port.proofs.revokes.invalidate.Goals as goal

pub revoke-routed-requires-clause-who : goal.revoke-routed-requires-clause-who
revoke-routed-requires-clause-who g c = who_stands g.N.Naming.table g.N.Naming.tokens g.N.Naming.frame c.args.state.now c.args.note c.requires.port c.requires.settled c.args.seq c.args.address c.args.count c.requires.next c.initiator-initiator.result c.initiator-initiator.ensures

pub revoke-routed-requires-clause-may : goal.revoke-routed-requires-clause-may
revoke-routed-requires-clause-may g c = may_as g.N.Naming.table g.N.Naming.tokens g.N.Naming.frame c.args.state.now c.args.note c.requires.port c.requires.settled c.args.seq c.args.address c.args.count c.requires.next c.initiator-initiator.result (txn_of c.initiator-initiator.result c.args.seq) c.args.state.now.wallet c.initiator-initiator.ensures (txn_is g.N.Naming.table g.N.Naming.tokens g.N.Naming.frame c.args.state.now c.args.note c.requires.port c.requires.settled c.args.seq c.args.address c.args.count c.requires.next c.initiator-initiator.result c.initiator-initiator.ensures) refl

pub go_past-requires : goal.go_past-requires
go_past-requires g c = free_then g.N.Naming.table g.N.Naming.tokens g.N.Naming.frame c.args.state.now c.args.note c.requires.port c.requires.settled c.args.seq c.args.address c.args.count c.requires.next c.revoke-routed.new.state c.revoke-routed.new.state.wallet c.revoke-routed.ensures.state

pub returns-clause-port : goal.returns-clause-port
returns-clause-port g c = revoked_as g.N.Naming.table g.N.Naming.tokens g.N.Naming.frame c.args.state.now c.args.note c.requires.port c.requires.settled c.args.seq c.args.address c.args.count c.requires.next c.revoke-routed.result.1 c.revoke-routed.ensures.note c.revoke-routed.new.state.wallet (revokes_as g.N.Naming.table g.N.Naming.tokens g.N.Naming.frame c.args.state.now c.args.note c.requires.port c.requires.settled c.args.seq c.args.address c.args.count c.requires.next c.initiator-initiator.result (txn_of c.initiator-initiator.result c.args.seq) c.args.state.now.port.time c.args.state.now.wallet c.revoke-routed.new.state.wallet c.revoke-routed.result.1 c.initiator-initiator.ensures (txn_is g.N.Naming.table g.N.Naming.tokens g.N.Naming.frame c.args.state.now c.args.note c.requires.port c.requires.settled c.args.seq c.args.address c.args.count c.requires.next c.initiator-initiator.result c.initiator-initiator.ensures) refl refl c.revoke-routed.ensures.revoked) c.requires.free.0 c.go_past.new.self (state_as g.N.Naming.table g.N.Naming.tokens g.N.Naming.frame c.args.state.now c.args.note c.requires.port c.requires.settled c.args.seq c.args.address c.args.count c.requires.next c.revoke-routed.new.state c.go_past.new.self c.revoke-routed.new.state.wallet c.revoke-routed.ensures.state c.go_past.ensures)

pub returns-clause-invalidated : goal.returns-clause-invalidated
returns-clause-invalidated g c = invalidates_as g.N.Naming.table g.N.Naming.tokens g.N.Naming.frame c.args.state.now c.args.note c.requires.port c.requires.settled c.args.seq c.args.address c.args.count c.requires.next c.revoke-routed.result.1 c.revoke-routed.ensures.note c.revoke-routed.new.state.wallet (revokes_as g.N.Naming.table g.N.Naming.tokens g.N.Naming.frame c.args.state.now c.args.note c.requires.port c.requires.settled c.args.seq c.args.address c.args.count c.requires.next c.initiator-initiator.result (txn_of c.initiator-initiator.result c.args.seq) c.args.state.now.port.time c.args.state.now.wallet c.revoke-routed.new.state.wallet c.revoke-routed.result.1 c.initiator-initiator.ensures (txn_is g.N.Naming.table g.N.Naming.tokens g.N.Naming.frame c.args.state.now c.args.note c.requires.port c.requires.settled c.args.seq c.args.address c.args.count c.requires.next c.initiator-initiator.result c.initiator-initiator.ensures) refl refl c.revoke-routed.ensures.revoked) c.requires.free.0 c.go_past.new.self (state_as g.N.Naming.table g.N.Naming.tokens g.N.Naming.frame c.args.state.now c.args.note c.requires.port c.requires.settled c.args.seq c.args.address c.args.count c.requires.next c.revoke-routed.new.state c.go_past.new.self c.revoke-routed.new.state.wallet c.revoke-routed.ensures.state c.go_past.ensures)

pub returns-clause-moved : goal.returns-clause-moved
returns-clause-moved g c = moved_as g.N.Naming.table g.N.Naming.tokens g.N.Naming.frame c.args.state.now c.args.note c.requires.port c.requires.settled c.args.seq c.args.address c.args.count c.requires.next c.initiator-initiator.result c.revoke-routed.result.0 c.ends.result c.initiator-initiator.ensures c.revoke-routed.ensures.routed c.ends.ensures

pub returns-clause-adds : goal.returns-clause-adds
returns-clause-adds g c = λ entry. revoked_new g.N.Naming.table g.N.Naming.tokens g.N.Naming.frame c.args.state.now c.args.note c.requires.port c.requires.settled c.args.seq c.args.address c.args.count c.requires.next c.revoke-routed.result.1 c.revoke-routed.ensures.note c.revoke-routed.new.state.wallet (revokes_as g.N.Naming.table g.N.Naming.tokens g.N.Naming.frame c.args.state.now c.args.note c.requires.port c.requires.settled c.args.seq c.args.address c.args.count c.requires.next c.initiator-initiator.result (txn_of c.initiator-initiator.result c.args.seq) c.args.state.now.port.time c.args.state.now.wallet c.revoke-routed.new.state.wallet c.revoke-routed.result.1 c.initiator-initiator.ensures (txn_is g.N.Naming.table g.N.Naming.tokens g.N.Naming.frame c.args.state.now c.args.note c.requires.port c.requires.settled c.args.seq c.args.address c.args.count c.requires.next c.initiator-initiator.result c.initiator-initiator.ensures) refl refl c.revoke-routed.ensures.revoked) c.requires.free.0 c.ends.result (moved_as g.N.Naming.table g.N.Naming.tokens g.N.Naming.frame c.args.state.now c.args.note c.requires.port c.requires.settled c.args.seq c.args.address c.args.count c.requires.next c.initiator-initiator.result c.revoke-routed.result.0 c.ends.result c.initiator-initiator.ensures c.revoke-routed.ensures.routed c.ends.ensures) entry
