use Rattle.std.proofs.Common.{subst}
use Rattle.payload_pool.specs.declared.call.PoolCall.TheVariants.{Live}
use Rattle.payload_pool.specs.declared.call.PoolReply.{PoolReply}
use Rattle.cargo_net.specs.Pools.{HasPooled}
use Rattle.cargo_net.proofs.pools.live.Goals as goal

pub returns-clause-answer : goal.returns-clause-answer
returns-clause-answer g c =
    subst (λ (r : PoolReply). HasPooled g.N.Naming.frame g.N.Naming.tokens c.args.pool.now.number c.args.pool.now.own c.args.note.knows c.step_pool-reply.result.1.knows Live r) c.counted.ensures c.step_pool-reply.ensures.pooled.pooled

pub step_pool-reply-requires-clause-history : goal.step_pool-reply-requires-clause-history
step_pool-reply-requires-clause-history g c = c.requires.history

pub step_pool-reply-requires-clause-tickets : goal.step_pool-reply-requires-clause-tickets
step_pool-reply-requires-clause-tickets g c = c.requires.tickets

pub step_pool-reply-requires-clause-note : goal.step_pool-reply-requires-clause-note
step_pool-reply-requires-clause-note g c = c.requires.note

pub returns-clause-note : goal.returns-clause-note
returns-clause-note g c = c.step_pool-reply.ensures.note
