use Rattle.std.proofs.Common.{◌≡◌, ◌≤◌, length, take, arith}
use Rattle.plat_core.specs.NetCore.{NetView, history_in, known_in}
use Rattle.plat_core.proofs.NetEnding.{cut_is_so, few_cut, known_numbered}
use Rattle.plat_core.proofs.net_core.NetCore.into_outcome.Goals as goal

pub cut_back-requires : goal.cut_back-requires
cut_back-requires g c =
    let n = g.N.Naming in
    let p = n.frame.world in
    let v = c.core.inside in
    let last : NetView = c.args.self in
    let whole = c.end-outcome.result.history.entries in
    let view : NetView = record { actors = v.actors.items; finished = v.finished.items; rounds = v.rounds; note = v.note } in
    let numbered = known_numbered n.table n.tokens n.frame view last v.made c.core.invariant c.core.view_is in
    let begins : history_in p last ≡ take (length (known_in last)) whole = c.end-outcome.ensures.tells (known_in last) numbered c.run_on.ensures.goes in
    let few : length (known_in last) ≤ length whole = few_cut p.platform (known_in last) whole begins in
    omega (arith, few, c.made-made.ensures.count)

pub returns : goal.returns
returns g c =
    let n = g.N.Naming in
    let p = n.frame.world in
    let v = c.core.inside in
    let last : NetView = c.args.self in
    let whole = c.end-outcome.result.history.entries in
    let view : NetView = record { actors = v.actors.items; finished = v.finished.items; rounds = v.rounds; note = v.note } in
    let numbered = known_numbered n.table n.tokens n.frame view last v.made c.core.invariant c.core.view_is in
    let begins : history_in p last ≡ take (length (known_in last)) whole = c.end-outcome.ensures.tells (known_in last) numbered c.run_on.ensures.goes in
    cut_is_so p last c.made-made.result c.made-made.ensures.count c.end-outcome.result begins c.end-outcome.ensures.whole c.end-outcome.ensures.core c.in_ok-so_far.so_far c.in_ok-so_far.ensures c.stores_are_those_after.ensures c.cut_back.result c.has_finished-complete.result c.made-made.ensures.rounds c.has_finished-complete.ensures c.cut_back.ensures
