use Rattle.std.proofs.Common.{◌≡◌, ℕ, List, length, slice_get, ap, refl, sym, ◌∙◌, arith}
use Rattle.std.proofs.lemmas.Option.{slice_get_within}
use Rattle.plat_net.proofs.ObjectLemmas.{count_of}
use Rattle.plat_build.proofs.PoolLemmas.{pools_long}
use Rattle.plat_end.proofs.TicketLemmas.{all_handed_back}
use Rattle.plat_end.proofs.TakenLemmas.{all_left}
use Rattle.plat_end.proofs.apart.take_apart.Goals as goal

pub take_hops-requires-clause-first : goal.take_hops-requires-clause-first
take_hops-requires-clause-first g c = c.take_memories.ensures.count ∙ c.requires.memories.count

pub take_pools-requires-clause-first : goal.take_pools-requires-clause-first
take_pools-requires-clause-first g c =
    let hops = c.requires.hops.count in
    let memories = c.requires.memories.count in
    let first = c.take_memories.ensures.count in
    omega (arith, c.take_hops.ensures.count, first, memories, hops)

pub returns-clause-left : goal.returns-clause-left
returns-clause-left g c =
    let n = g.N.Naming in
    let p = n.frame.world.platform in
    let taken = c.take_pools.ensures.taken _ (c.take_hops.ensures.taken _ c.take_memories.ensures.taken) in
    let pools = pools_long p (length p.initiators) c.args.pools.items c.requires.pools in
    all_left n.table n.frame _ _ _ _ taken (omega (arith, count_of p, pools, c.requires.hops.count, c.requires.memories.count, c.take_memories.ensures.count, c.take_hops.ensures.count, c.take_pools.ensures.count))

pub returns-clause-logs : goal.returns-clause-logs
returns-clause-logs g c = (c.take_pools.ensures.taken _ (c.take_hops.ensures.taken _ c.take_memories.ensures.taken)).logs_left

pub returns-clause-handed_back : goal.returns-clause-handed_back
returns-clause-handed_back g c =
    let n = g.N.Naming in
    all_handed_back n.table n.frame _ _ _ _ (c.take_pools.ensures.taken _ (c.take_hops.ensures.taken _ c.take_memories.ensures.taken)) c.requires.no_others

pub returns-clause-stores : goal.returns-clause-stores
returns-clause-stores g c =
    let p = g.N.Naming.frame.world.platform in
    let first = c.take_memories.new.apart in
    let last = c.take_pools.new.apart in
    let were = c.take_memories.ensures.stores in
    let beside = c.take_memories.ensures.taken.logs_left.count in
    let stores : last.stores.items ≡ first.stores.items = rw (c.take_pools.ensures.stores, c.take_hops.ensures.stores) refl in
    record {
      count = ap length stores ∙ were.count;
      each = λ m row log bytes at_row at_log at_bytes.
          let few = slice_get_within p.memories m row at_row in
          let logs : slice_get last.logs.items m ≡ slice_get first.logs.items m =
          c.take_pools.ensures.earlier m (omega (arith, few, c.requires.memories.count, c.take_memories.ensures.count, c.take_hops.ensures.count, c.take_hops.ensures.beside))
          ∙ c.take_hops.ensures.earlier m (omega (arith, few, c.requires.memories.count, c.take_memories.ensures.count, beside)) in
          were.each m row log bytes at_row (sym logs ∙ at_log) (ap (λ (bs : List (List ℕ)). slice_get bs m) (sym stores) ∙ at_bytes);
    }
