use Rattle.std.proofs.Common.{◌≡◌, ◌||◌, Bool, ap, ◌∙◌}
use Rattle.node_hops.proofs.Looks.{within_on}
use Rattle.router_node.proofs.node.RouterNode.go_through.Goals as goal

pub returns-clause-gone : goal.returns-clause-gone
returns-clause-gone g c =
    let ends = c.sweep-ends.result.0 in
    let sends = c.sweep-sends.result.0 in
    let passes = c.sweep-passes.result.0 in
    let joins = c.take_back-joins.result.0 in
    let takes = c.take_in-takes.result.0 in
    let some : c.either-moved.result ≡ (ends || (sends || (passes || (joins || takes)))) =
    c.either-moved.ensures ∙ ap (λ (b : Bool). ends || b) (c.either-3.ensures ∙ ap (λ (b : Bool). sends || b) (c.either-2.ensures ∙ ap (λ (b : Bool). passes || b) c.either.ensures)) in
    record {
      ended = c.sweep-ends.new.self;
      after_end = c.sweep-ends.result.1;
      ends = ends;
      end_all = c.sweep-ends.ensures.swept;
      sent = c.sweep-sends.new.self;
      after_send = c.sweep-sends.result.1;
      sends = sends;
      send_all = c.sweep-sends.ensures.swept;
      passed = c.sweep-passes.new.self;
      after_pass = c.sweep-passes.result.1;
      passes = passes;
      pass_all = c.sweep-passes.ensures.swept;
      joined = c.take_back-joins.new.self;
      after_back = c.take_back-joins.result.1;
      joins = joins;
      take_back = c.take_back-joins.ensures.taken;
      knew_back = c.take_back-joins.ensures.knew;
      takes = takes;
      take_in = c.take_in-takes.ensures.taken;
      knew_in = c.take_in-takes.ensures.knew;
      moved_is = some;
    }

pub sweep-ends-requires-clause-router : goal.sweep-ends-requires-clause-router
sweep-ends-requires-clause-router g c = c.requires.router

pub sweep-ends-requires-clause-note : goal.sweep-ends-requires-clause-note
sweep-ends-requires-clause-note g c = c.requires.note

pub sweep-ends-requires-clause-below : goal.sweep-ends-requires-clause-below
sweep-ends-requires-clause-below g c = c.requires.below

pub sweep-sends-requires-clause-router : goal.sweep-sends-requires-clause-router
sweep-sends-requires-clause-router g c = c.sweep-ends.ensures.router

pub sweep-sends-requires-clause-note : goal.sweep-sends-requires-clause-note
sweep-sends-requires-clause-note g c = c.sweep-ends.ensures.note

pub sweep-sends-requires-clause-below : goal.sweep-sends-requires-clause-below
sweep-sends-requires-clause-below g c = c.sweep-ends.ensures.below

pub sweep-passes-requires-clause-router : goal.sweep-passes-requires-clause-router
sweep-passes-requires-clause-router g c = c.sweep-sends.ensures.router

pub sweep-passes-requires-clause-note : goal.sweep-passes-requires-clause-note
sweep-passes-requires-clause-note g c = c.sweep-sends.ensures.note

pub sweep-passes-requires-clause-below : goal.sweep-passes-requires-clause-below
sweep-passes-requires-clause-below g c = c.sweep-sends.ensures.below

pub take_back-joins-requires-clause-router : goal.take_back-joins-requires-clause-router
take_back-joins-requires-clause-router g c = c.sweep-passes.ensures.router

pub take_back-joins-requires-clause-note : goal.take_back-joins-requires-clause-note
take_back-joins-requires-clause-note g c = c.sweep-passes.ensures.note

pub take_back-joins-requires-clause-below : goal.take_back-joins-requires-clause-below
take_back-joins-requires-clause-below g c = c.sweep-passes.ensures.below

pub take_in-takes-requires-clause-router : goal.take_in-takes-requires-clause-router
take_in-takes-requires-clause-router g c = c.take_back-joins.ensures.router

pub take_in-takes-requires-clause-note : goal.take_in-takes-requires-clause-note
take_in-takes-requires-clause-note g c = c.take_back-joins.ensures.note

pub take_in-takes-requires-clause-below : goal.take_in-takes-requires-clause-below
take_in-takes-requires-clause-below g c = c.take_back-joins.ensures.below

pub returns-clause-router : goal.returns-clause-router
returns-clause-router g c = c.take_in-takes.ensures.router

pub returns-clause-note : goal.returns-clause-note
returns-clause-note g c = c.take_in-takes.ensures.note

pub returns-clause-below : goal.returns-clause-below
returns-clause-below g c = c.take_in-takes.ensures.below

pub returns-clause-knew : goal.returns-clause-knew
returns-clause-knew g c = within_on c.args.note.knows.known c.take_back-joins.result.1.knows.known c.take_in-takes.result.1.knows.known (within_on c.args.note.knows.known c.sweep-passes.result.1.knows.known c.take_back-joins.result.1.knows.known (within_on c.args.note.knows.known c.sweep-sends.result.1.knows.known c.sweep-passes.result.1.knows.known (within_on c.args.note.knows.known c.sweep-ends.result.1.knows.known c.sweep-sends.result.1.knows.known c.sweep-ends.ensures.knew c.sweep-sends.ensures.knew) c.sweep-passes.ensures.knew) c.take_back-joins.ensures.knew) c.take_in-takes.ensures.knew
