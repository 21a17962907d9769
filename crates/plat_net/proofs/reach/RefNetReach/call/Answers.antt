use Rattle.std.proofs.Common.{◌<◌, length, sym, subst}
use Rattle.tlm_model.specs.Plan.{Plan}
use Rattle.region_object.specs.Call.{txn_of}
use Rattle.plat_net.specs.Calls.{HasNoPassage, IsCalled}
use Rattle.plat_net.proofs.reach.RefNetReach.call.Goals as goal

pub call_memory-requires-clause-memory : goal.call_memory-requires-clause-memory
call_memory-requires-clause-memory g c = subst (λ (p : Plan). c.args.memory < length p.platform.memories) (sym c.plan.ensures.world) c.requires.memory

pub call_memory-requires-clause-fit : goal.call_memory-requires-clause-fit
call_memory-requires-clause-fit g c = c.requires.fit

pub call_memory-requires-clause-passage : goal.call_memory-requires-clause-passage
call_memory-requires-clause-passage g c = subst (λ (p : Plan). HasNoPassage p (txn_of c.args.call)) (sym c.plan.ensures.world) c.requires.passage

pub call_memory-requires-clause-note : goal.call_memory-requires-clause-note
call_memory-requires-clause-note g c = c.requires.note

pub call_memory-requires-clause-wallet : goal.call_memory-requires-clause-wallet
call_memory-requires-clause-wallet g c = c.requires.wallet

pub call_memory-requires-clause-ticket : goal.call_memory-requires-clause-ticket
call_memory-requires-clause-ticket g c = c.requires.ticket

pub returns-clause-entry : goal.returns-clause-entry
returns-clause-entry g c = subst (λ (p : Plan). IsCalled p c.args.memory c.args.call c.args.note.knows c.call_memory.result.1.knows c.call_memory.result.0) c.plan.ensures.world c.call_memory.ensures.entry

pub returns-clause-room : goal.returns-clause-room
returns-clause-room g c = c.call_memory.ensures.room

pub returns-clause-note : goal.returns-clause-note
returns-clause-note g c = c.call_memory.ensures.note

pub returns-clause-wallet : goal.returns-clause-wallet
returns-clause-wallet g c = c.call_memory.ensures.wallet

pub returns-clause-ticket : goal.returns-clause-ticket
returns-clause-ticket g c = c.call_memory.ensures.ticket
