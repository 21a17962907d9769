use Rattle.std.proofs.Common.{◌≡◌, ◌≤◌, ◌++◌, length, vec_capacity}
use Rattle.plat_end.specs.End.{AreFinished}
use Rattle.plat_run.proofs.ending.hand_in.Given as goal

abbrev pub invariant-loop-job : goal.invariant-loop-job
invariant-loop-job g l = record {
  whole : l.fn.jobs.items ≡ l.yielded ++ l.job-iterator.rest.items;
  are : AreFinished g.N.Naming.table g.N.Naming.tokens g.N.Naming.frame.world (length l.yielded) l.ends.items l.wallets.items l.notes.items;
  ends : length l.fn.jobs.items ≤ vec_capacity l.ends;
  wallets : length l.fn.jobs.items ≤ vec_capacity l.wallets;
  notes : length l.fn.jobs.items ≤ vec_capacity l.notes;
}
