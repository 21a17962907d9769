-- A history whose entries are backed has the points.
use Rattle.std.proofs.Common.{sym, subst}
use Rattle.tlm_types.specs.declared.words.ObjectNo.TheVariants.{Pool}
use Rattle.flow_model.specs.Events.{at}
use Rattle.flow_model.specs.Counts.{KeepsCounts, TakesAtMostOnce}
use Rattle.flow_model.specs.Issue.{issue_time}
use Rattle.flow_model.specs.Platform.{world_of}
use Rattle.flow_model.specs.Traffic.{slots_of}
use Rattle.flow_model.proofs.CallLists.{entries-at}
use Rattle.flow_model.proofs.TheLaw.{law}
use Rattle.flow_model.specs.Plans.{IssueLaw, TrafficLaw}
use Rattle.flow_model.proofs.PoolCounts.{counted, taken_once}

pub traffic_law : TrafficLaw
traffic_law p h pr =
    let c = law (world_of p) (slots_of p) (issue_time p) h pr in
    record {
      phases = record { table = c.table; modes = c.modes };
      exclusive = record { hops = c.exclusive };
      passes = record { orders = c.orders; ends_in_turn = c.ends_in_turn };
      pools = record {
        counts = λ i. subst (KeepsCounts (slots_of p i)) (sym (entries-at (Pool i) h)) (counted (slots_of p i) (at (Pool i) h) (pr.pools i));
        one_take = λ i. subst TakesAtMostOnce (sym (entries-at (Pool i) h)) (taken_once (at (Pool i) h) (pr.one_take i));
        freed_last = c.freed_last;
      };
      times = c.times;
    }

pub issue_law : IssueLaw
issue_law p h t others waits = record {
  phases = t.phases;
  exclusive = t.exclusive;
  passes = t.passes;
  pools = t.pools;
  times = record { calls = t.times; others = others; waits = waits };
}
