use Rattle.std.proofs.Common.{subst}
use Rattle.payload_pool.specs.declared.call.PoolCall.TheVariants.{Acquire}
use Rattle.payload_pool.specs.declared.call.PoolReply.{PoolReply}
use Rattle.cargo_net.specs.Pools.{HasPooled}
use Rattle.cargo_net.proofs.PayloadWallets.{from_pull}
use Rattle.cargo_net.proofs.PoolLemmas.{acquire_backed, acquired}
use Rattle.cargo_net.proofs.pools.acquire.Goals as goal

pub step_pool-reply-requires-clause-backed : goal.step_pool-reply-requires-clause-backed
step_pool-reply-requires-clause-backed g c = λ o q meets there. acquire_backed g.N.Naming.frame g.N.Naming.tokens c.args.pool.now.number c.args.pool.now.own c.args.baton c.args.at c.args.note.knows c.requires.may c.pull-ticket.new.self o q meets there

pub returns-clause-acquired : goal.returns-clause-acquired
returns-clause-acquired g c = λ may. (
    let w = c.pull-ticket.new.self in
    acquired g.N.Naming.frame g.N.Naming.tokens c.args.pool.now.number c.args.pool.now.own c.args.baton c.args.at c.args.note.knows may c.pull-ticket.new.self c.step_pool-reply.result.1.knows c.acquired-baton.result.0 c.acquired-baton.result.1
    (subst (λ (r : PoolReply). HasPooled g.N.Naming.frame g.N.Naming.tokens c.args.pool.now.number c.args.pool.now.own c.args.note.knows c.step_pool-reply.result.1.knows (Acquire (let b = c.args.baton in record b { wallet = c.pull-ticket.new.self }) c.args.at) r) c.acquired-baton.ensures c.step_pool-reply.ensures.pooled.pooled)
    (from_pull g.N.Naming.tokens c.args.tickets.now c.args.pool.now.number c.number.result c.args.baton.wallet w c.number.ensures c.requires.tickets c.pull-ticket.ensures.wallet c.pull-ticket.ensures.of c.pull-ticket.ensures.left c.pull-ticket.ensures.bytes)
    )

pub step_pool-reply-requires-clause-history : goal.step_pool-reply-requires-clause-history
step_pool-reply-requires-clause-history g c = c.requires.history

pub step_pool-reply-requires-clause-tickets : goal.step_pool-reply-requires-clause-tickets
step_pool-reply-requires-clause-tickets g c = c.requires.tickets

pub step_pool-reply-requires-clause-note : goal.step_pool-reply-requires-clause-note
step_pool-reply-requires-clause-note g c = c.requires.note

pub returns-clause-note : goal.returns-clause-note
returns-clause-note g c = c.step_pool-reply.ensures.note

pub returns-clause-answer : goal.returns-clause-answer
returns-clause-answer g c = record {
  baton = (let b = c.args.baton in record b { wallet = c.pull-ticket.new.self });
  next = c.acquired-baton.result.0;
  hold = c.acquired-baton.result.1;
  pooled = subst (λ (r : PoolReply). HasPooled g.N.Naming.frame g.N.Naming.tokens c.args.pool.now.number c.args.pool.now.own c.args.note.knows c.step_pool-reply.result.1.knows (Acquire (let b = c.args.baton in record b { wallet = c.pull-ticket.new.self }) c.args.at) r) c.acquired-baton.ensures c.step_pool-reply.ensures.pooled.pooled;
}
