use Rattle.std.proofs.Common.{ap, ◌∙◌}
use Rattle.router_moves.specs.declared.items.PassedOn.{PassedOn}
use Rattle.router_node.proofs.ByReturn.{came_back, gone_of, went_down}
use Rattle.node_hops.proofs.Looks.{within_on}
use Rattle.router_node.proofs.stage.pass.Goals as goal

pub serve-stage-requires-clause-begun : goal.serve-stage-requires-clause-begun
serve-stage-requires-clause-begun g c = let s = c.settle-held-in-Now.ensures.settled in let passed = c.in-Now.ensures.passed in s.begun c.in-Now.begun passed.2

pub returns-in-Gone-clause-knew : goal.returns-in-Gone-clause-knew
returns-in-Gone-clause-knew g c = within_on c.args.note.knows.known c.in-Gone.note.knows.known c.settle-held.result.1.knows.known c.in-Gone.ensures.knew c.settle-held.ensures.knew

pub returns-in-Gone-clause-stepped : goal.returns-in-Gone-clause-stepped
returns-in-Gone-clause-stepped g c =
    let s = c.settle-held.ensures.settled in
    let passed = c.in-Gone.ensures.passed in (
      s.txn ∙ ap (λ (h : PassedOn). h.txn) passed.0,
      s.above ∙ ap (λ (h : PassedOn). h.above) passed.0,
      s.below ∙ ap (λ (h : PassedOn). h.below) passed.0,
      (c.in-Gone.at, went_down g.N.Naming.frame g.N.Naming.tokens c.in-Gone.note.knows.known c.settle-held.result.1.knows.known c.settle-held.ensures.knew c.args.down c.in-Gone.held c.in-Gone.at passed.0 passed.1 passed.2),
    )

pub returns-in-Now-clause-knew : goal.returns-in-Now-clause-knew
returns-in-Now-clause-knew g c =
    within_on c.args.note.knows.known c.in-Now.note.knows.known c.serve-stage.result.1.knows.known c.in-Now.ensures.knew
    (within_on c.in-Now.note.knows.known c.settle-held-in-Now.result.1.knows.known c.serve-stage.result.1.knows.known c.settle-held-in-Now.ensures.knew c.serve-stage.ensures.knew)

pub returns-in-Now-clause-stepped : goal.returns-in-Now-clause-stepped
returns-in-Now-clause-stepped g c =
    let frame = g.N.Naming.frame in
    let known = c.in-Now.note.knows.known in
    let more = c.serve-stage.result.1.knows.known in
    let s = c.settle-held-in-Now.ensures.settled in
    let passed = c.in-Now.ensures.passed in
    let w = within_on known c.settle-held-in-Now.result.1.knows.known more c.settle-held-in-Now.ensures.knew c.serve-stage.ensures.knew in
    came_back frame more c.args.down c.settle-held-in-Now.result.0 c.in-Now.begun c.serve-stage.result.0 (s.txn ∙ ap (λ (h : PassedOn). h.txn) passed.0) (s.above ∙ ap (λ (h : PassedOn). h.above) passed.0) (s.below ∙ ap (λ (h : PassedOn). h.below) passed.0)
    (went_down frame g.N.Naming.tokens known more w c.args.down c.in-Now.held c.in-Now.begun.at passed.0 passed.1 (gone_of frame g.N.Naming.tokens known c.in-Now.held c.in-Now.begun passed.2)) c.serve-stage.ensures.served

pub pass_on-requires-clause-note : goal.pass_on-requires-clause-note
pass_on-requires-clause-note g c = c.requires.note

pub pass_on-requires-clause-down : goal.pass_on-requires-clause-down
pass_on-requires-clause-down g c = c.requires.down

pub settle-held-requires-clause-note : goal.settle-held-requires-clause-note
settle-held-requires-clause-note g c = c.in-Gone.ensures.note

pub settle-held-requires-clause-below : goal.settle-held-requires-clause-below
settle-held-requires-clause-below g c = c.in-Gone.ensures.below

pub settle-held-requires-clause-gone : goal.settle-held-requires-clause-gone
settle-held-requires-clause-gone g c = let passed = c.in-Gone.ensures.passed in passed.2

pub settle-held-requires-in-Now-clause-note : goal.settle-held-requires-in-Now-clause-note
settle-held-requires-in-Now-clause-note g c = c.in-Now.ensures.note

pub settle-held-requires-in-Now-clause-below : goal.settle-held-requires-in-Now-clause-below
settle-held-requires-in-Now-clause-below g c = c.in-Now.ensures.below

pub settle-held-requires-in-Now-clause-gone : goal.settle-held-requires-in-Now-clause-gone
settle-held-requires-in-Now-clause-gone g c = let passed = c.in-Now.ensures.passed in gone_of g.N.Naming.frame g.N.Naming.tokens c.in-Now.note.knows.known c.in-Now.held c.in-Now.begun passed.2

pub serve-stage-requires-clause-note : goal.serve-stage-requires-clause-note
serve-stage-requires-clause-note g c = c.settle-held-in-Now.ensures.note

pub returns-in-Busy-clause-note : goal.returns-in-Busy-clause-note
returns-in-Busy-clause-note g c = c.in-Busy.ensures.note

pub returns-in-Busy-clause-knew : goal.returns-in-Busy-clause-knew
returns-in-Busy-clause-knew g c = c.in-Busy.ensures.knew

pub returns-in-Busy-clause-below : goal.returns-in-Busy-clause-below
returns-in-Busy-clause-below g c = c.in-Busy.ensures.below

pub returns-in-Gone-clause-note : goal.returns-in-Gone-clause-note
returns-in-Gone-clause-note g c = c.settle-held.ensures.note

pub returns-in-Gone-clause-below : goal.returns-in-Gone-clause-below
returns-in-Gone-clause-below g c = c.settle-held.ensures.below

pub returns-in-Now-clause-note : goal.returns-in-Now-clause-note
returns-in-Now-clause-note g c = c.serve-stage.ensures.note

pub returns-in-Now-clause-below : goal.returns-in-Now-clause-below
returns-in-Now-clause-below g c = c.serve-stage.ensures.below

pub returns-in-Now-clause-stage : goal.returns-in-Now-clause-stage
returns-in-Now-clause-stage g c = c.serve-stage.ensures.stage
