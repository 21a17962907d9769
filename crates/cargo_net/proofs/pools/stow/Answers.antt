use Rattle.std.proofs.Common.{subst}
use Rattle.payload_pool.specs.declared.call.PoolCall.TheVariants.{Stow}
use Rattle.payload_pool.specs.declared.call.PoolReply.{PoolReply}
use Rattle.cargo_net.specs.Pools.{HasPooled}
use Rattle.cargo_net.proofs.PoolLemmas.{stow_backed, stowed}
use Rattle.cargo_net.proofs.pools.stow.Goals as goal

pub step_pool-reply-requires-clause-backed : goal.step_pool-reply-requires-clause-backed
step_pool-reply-requires-clause-backed g c = λ o q meets there. stow_backed g.N.Naming.frame g.N.Naming.tokens c.args.pool.now.number c.args.pool.now.own c.args.baton c.args.at c.args.note.knows c.requires.may o q meets there

pub returns-clause-stowed : goal.returns-clause-stowed
returns-clause-stowed g c =
    stowed g.N.Naming.frame g.N.Naming.tokens c.args.pool.now.number c.args.pool.now.own c.args.baton c.args.at c.args.note.knows c.requires.may c.step_pool-reply.result.1.knows c.released.result
    (subst (λ (r : PoolReply). HasPooled g.N.Naming.frame g.N.Naming.tokens c.args.pool.now.number c.args.pool.now.own c.args.note.knows c.step_pool-reply.result.1.knows (Stow c.args.baton c.args.at) r) c.released.ensures c.step_pool-reply.ensures.pooled.pooled)

pub step_pool-reply-requires-clause-history : goal.step_pool-reply-requires-clause-history
step_pool-reply-requires-clause-history g c = c.requires.history

pub step_pool-reply-requires-clause-tickets : goal.step_pool-reply-requires-clause-tickets
step_pool-reply-requires-clause-tickets g c = c.requires.tickets

pub step_pool-reply-requires-clause-note : goal.step_pool-reply-requires-clause-note
step_pool-reply-requires-clause-note g c = c.requires.note

pub returns-clause-note : goal.returns-clause-note
returns-clause-note g c = c.step_pool-reply.ensures.note

pub returns-clause-answer : goal.returns-clause-answer
returns-clause-answer g c =
    subst (λ (r : PoolReply). HasPooled g.N.Naming.frame g.N.Naming.tokens c.args.pool.now.number c.args.pool.now.own c.args.note.knows c.step_pool-reply.result.1.knows (Stow c.args.baton c.args.at) r) c.released.ensures c.step_pool-reply.ensures.pooled.pooled
