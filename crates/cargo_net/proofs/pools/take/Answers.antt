use Rattle.std.proofs.Common.{◌++◌, [], ◌∷◌, ◌≡◌, subst}
use Rattle.payload_pool.specs.Calls.{look_of}
use Rattle.payload_pool.specs.declared.call.PoolCall.TheVariants.{Take}
use Rattle.payload_pool.specs.declared.call.PoolReply.{PoolReply}
use Rattle.cargo_net.specs.Pools.{HasPooled}
use Rattle.cargo_net.proofs.PoolLemmas.{take_backed, taken}
use Rattle.cargo_net.proofs.pools.take.Goals as goal

pub step_pool-reply-requires-clause-backed : goal.step_pool-reply-requires-clause-backed
step_pool-reply-requires-clause-backed g c = λ o q meets there. take_backed g.N.Naming.frame g.N.Naming.tokens c.args.pool.now.number c.args.pool.now.own c.args.txn c.args.at c.args.note.knows c.requires.may o q

pub returns-in-Some-clause-taken : goal.returns-in-Some-clause-taken
returns-in-Some-clause-taken g c = (
  taken g.N.Naming.frame g.N.Naming.tokens c.args.pool.now.number c.args.pool.now.own c.args.txn c.args.at c.args.note.knows c.requires.may c.step_pool-reply.result.1.knows c.in-Some.baton
      (subst (λ (r : PoolReply). HasPooled g.N.Naming.frame g.N.Naming.tokens c.args.pool.now.number c.args.pool.now.own c.args.note.knows c.step_pool-reply.result.1.knows (Take c.args.txn c.args.at) r) c.in-Some.ensures c.step_pool-reply.ensures.pooled.pooled),
  subst (λ (r : PoolReply). c.step_pool-reply.result.1.knows.looks ≡ c.args.note.knows.looks ++ (c.args.pool.now.number, look_of r) ∷ []) c.in-Some.ensures c.step_pool-reply.ensures.look,
)

pub step_pool-reply-requires-clause-history : goal.step_pool-reply-requires-clause-history
step_pool-reply-requires-clause-history g c = c.requires.history

pub step_pool-reply-requires-clause-tickets : goal.step_pool-reply-requires-clause-tickets
step_pool-reply-requires-clause-tickets g c = c.requires.tickets

pub step_pool-reply-requires-clause-note : goal.step_pool-reply-requires-clause-note
step_pool-reply-requires-clause-note g c = c.requires.note

pub returns-in-Some-clause-note : goal.returns-in-Some-clause-note
returns-in-Some-clause-note g c = c.step_pool-reply.ensures.note

pub returns-in-Some-ticket-clause-note : goal.returns-in-Some-ticket-clause-note
returns-in-Some-ticket-clause-note g c = c.step_pool-reply.ensures.note
