use Rattle.std.proofs.Common.{◌≡◌, ◌≤◌, ◌++◌, length, vec_capacity}
use Rattle.plat_core.specs.NetOutcome.{HaveLeftBy}
use Rattle.plat_core.proofs.net_schedule.hand_in.Given as goal

abbrev pub invariant-loop-actor : goal.invariant-loop-actor
invariant-loop-actor g l = record {
  whole : l.fn.actors.items ≡ l.yielded ++ l.actor-iterator.rest.items;
  left : HaveLeftBy g.N.Naming.table g.N.Naming.tokens g.N.Naming.frame.world (length l.yielded) l.note l.ends.items l.wallets.items;
  ends : length l.fn.actors.items ≤ vec_capacity l.ends;
  wallets : length l.fn.actors.items ≤ vec_capacity l.wallets;
}
