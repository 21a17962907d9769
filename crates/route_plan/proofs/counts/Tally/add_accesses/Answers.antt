use Rattle.std.proofs.Common.{◌*◌, ℕ}
use Rattle.tlm_model.specs.declared.ask.Ask.TheVariants.{Access as AnAccess, DebugRead as ADebugRead}
use Rattle.route_plan.specs.Counted.{Counted, counted_of, passed_at}
use Rattle.route_plan.specs.Counts.{entries_only}
use Rattle.route_plan.proofs.CountLemmas.{access_both, both_more}
use Rattle.route_plan.proofs.counts.Tally.add_accesses.Goals as goal

pub returns : goal.returns
returns c =
    let p = c.args.self.now.routes.now in
    let n = c.args.self.now.initiator in
    both_more (λ (x : Counted) (k : ℕ). counted_of x p n k (ADebugRead c.args.address c.args.bytes) * c.args.times) (λ (x : Counted) (k : ℕ). entries_only x (passed_at p n k c.args.address) * c.args.times)
    (λ (x : Counted) (k : ℕ). counted_of x p n k (AnAccess c.args.address c.args.bytes) * c.args.times) c.args.counts.now c.add_debug_reads.new.counts c.add_way.new.counts c.add_debug_reads.auto.counts
    (λ x k. access_both x p n k c.args.address c.args.bytes c.args.times) c.add_debug_reads.ensures c.add_way.ensures
