use Rattle.object_bench.proofs.ReadyPools.{ready_acquires}
use Rattle.object_bench.proofs.pools.Bench.acquire.Goals as goal

pub invariant_of-self : goal.invariant_of-self
invariant_of-self c =
    let s = c.args.self.now in
    record { ready = ready_acquires s.left s.position s.tokens s.pool s.ready c.requires.left c.args.baton c.args.at c.acquire-pair.result.0 c.acquire-pair.result.1 c.acquire-pair.new.self c.acquire-pair.ensures }
