use Rattle.std.proofs.Common.{◌≡◌, ◌≤◌, take}
use Rattle.plan_loads.specs.Totals.{accesses_in, takes_in}
use Rattle.plan_loads.proofs.totals.counts.Given as goal

abbrev pub invariant-loop-position : goal.invariant-loop-position
invariant-loop-position l = record {
  same : l.reader ≡ l.initial.reader;
  accesses : l.accesses ≡ accesses_in (take l.position l.initial.reader.entries);
  payloads : l.payloads ≡ takes_in (take l.position l.initial.reader.entries);
  few : l.accesses ≤ l.position;
  fewer : l.payloads ≤ l.position;
}
