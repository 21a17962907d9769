use Rattle.std.proofs.Common.{false, sym, subst}
use Rattle.router_node.specs.Node.{MovesAt}
use Rattle.router_node.specs.declared.stage.Step.{Step}
use Rattle.router_node.proofs.node.come_by.Goals as goal

pub returns-in-End-clause-moved : goal.returns-in-End-clause-moved
returns-in-End-clause-moved g c =
    let r = c.end_at.result in
    subst (λ (w : Step). MovesAt g.N.Naming.frame false w c.args.at c.args.held.now.items c.end_at.new.held.items c.args.note.knows r.2.knows r.0 r.1) (sym c.in-End.is) c.end_at.ensures.moved

pub end_at-requires-clause-there : goal.end_at-requires-clause-there
end_at-requires-clause-there g c = c.requires.there

pub end_at-requires-clause-note : goal.end_at-requires-clause-note
end_at-requires-clause-note g c = c.requires.note

pub end_at-requires-clause-below : goal.end_at-requires-clause-below
end_at-requires-clause-below g c = c.requires.below

pub end_at-requires-clause-held : goal.end_at-requires-clause-held
end_at-requires-clause-held g c = c.requires.held

pub returns-in-End-clause-note : goal.returns-in-End-clause-note
returns-in-End-clause-note g c = c.end_at.ensures.note

pub returns-in-End-clause-knew : goal.returns-in-End-clause-knew
returns-in-End-clause-knew g c = c.end_at.ensures.knew

pub returns-in-End-clause-below : goal.returns-in-End-clause-below
returns-in-End-clause-below g c = c.end_at.ensures.below

pub returns-in-End-clause-held : goal.returns-in-End-clause-held
returns-in-End-clause-held g c = c.end_at.ensures.held

pub returns-in-End-clause-capacity : goal.returns-in-End-clause-capacity
returns-in-End-clause-capacity g c = c.end_at.ensures.capacity

pub returns-in-Send-clause-moved : goal.returns-in-Send-clause-moved
returns-in-Send-clause-moved g c =
    let r = c.send_at.result in
    subst (λ (w : Step). MovesAt g.N.Naming.frame false w c.args.at c.args.held.now.items c.send_at.new.held.items c.args.note.knows r.2.knows r.0 r.1) (sym c.in-Send.is) c.send_at.ensures.moved

pub send_at-requires-clause-there : goal.send_at-requires-clause-there
send_at-requires-clause-there g c = c.requires.there

pub send_at-requires-clause-note : goal.send_at-requires-clause-note
send_at-requires-clause-note g c = c.requires.note

pub send_at-requires-clause-below : goal.send_at-requires-clause-below
send_at-requires-clause-below g c = c.requires.below

pub send_at-requires-clause-held : goal.send_at-requires-clause-held
send_at-requires-clause-held g c = c.requires.held

pub returns-in-Send-clause-note : goal.returns-in-Send-clause-note
returns-in-Send-clause-note g c = c.send_at.ensures.note

pub returns-in-Send-clause-knew : goal.returns-in-Send-clause-knew
returns-in-Send-clause-knew g c = c.send_at.ensures.knew

pub returns-in-Send-clause-below : goal.returns-in-Send-clause-below
returns-in-Send-clause-below g c = c.send_at.ensures.below

pub returns-in-Send-clause-held : goal.returns-in-Send-clause-held
returns-in-Send-clause-held g c = c.send_at.ensures.held

pub returns-in-Send-clause-capacity : goal.returns-in-Send-clause-capacity
returns-in-Send-clause-capacity g c = c.send_at.ensures.capacity

pub returns-in-Pass-clause-moved : goal.returns-in-Pass-clause-moved
returns-in-Pass-clause-moved g c =
    let r = c.pass_at.result in
    subst (λ (w : Step). MovesAt g.N.Naming.frame false w c.args.at c.args.held.now.items c.pass_at.new.held.items c.args.note.knows r.2.knows r.0 r.1) (sym c.in-Pass.is) c.pass_at.ensures.moved

pub pass_at-requires-clause-there : goal.pass_at-requires-clause-there
pass_at-requires-clause-there g c = c.requires.there

pub pass_at-requires-clause-note : goal.pass_at-requires-clause-note
pass_at-requires-clause-note g c = c.requires.note

pub pass_at-requires-clause-below : goal.pass_at-requires-clause-below
pass_at-requires-clause-below g c = c.requires.below

pub pass_at-requires-clause-held : goal.pass_at-requires-clause-held
pass_at-requires-clause-held g c = c.requires.held

pub returns-in-Pass-clause-note : goal.returns-in-Pass-clause-note
returns-in-Pass-clause-note g c = c.pass_at.ensures.note

pub returns-in-Pass-clause-knew : goal.returns-in-Pass-clause-knew
returns-in-Pass-clause-knew g c = c.pass_at.ensures.knew

pub returns-in-Pass-clause-below : goal.returns-in-Pass-clause-below
returns-in-Pass-clause-below g c = c.pass_at.ensures.below

pub returns-in-Pass-clause-held : goal.returns-in-Pass-clause-held
returns-in-Pass-clause-held g c = c.pass_at.ensures.held

pub returns-in-Pass-clause-capacity : goal.returns-in-Pass-clause-capacity
returns-in-Pass-clause-capacity g c = c.pass_at.ensures.capacity
