use Rattle.std.proofs.Common.{◌+◌, false, length, sym, subst}
use Rattle.router_node.specs.Node.{MovesAt}
use Rattle.router_steps.specs.Stepped.{HasTried}
use Rattle.router_node.specs.declared.stage.Step.{Step}
use Rattle.router_steps.proofs.tries.try_one.Goals as goal

pub end_one-requires-clause-there : goal.end_one-requires-clause-there
end_one-requires-clause-there g c = c.requires.there

pub end_one-requires-clause-note : goal.end_one-requires-clause-note
end_one-requires-clause-note g c = c.requires.note

pub end_one-requires-clause-below : goal.end_one-requires-clause-below
end_one-requires-clause-below g c = c.requires.below

pub end_one-requires-clause-held : goal.end_one-requires-clause-held
end_one-requires-clause-held g c = c.requires.held

pub returns-in-End-clause-note : goal.returns-in-End-clause-note
returns-in-End-clause-note g c = c.end_one.ensures.note

pub returns-in-End-clause-knew : goal.returns-in-End-clause-knew
returns-in-End-clause-knew g c = c.end_one.ensures.knew

pub returns-in-End-clause-below : goal.returns-in-End-clause-below
returns-in-End-clause-below g c = c.end_one.ensures.below

pub returns-in-End-clause-held : goal.returns-in-End-clause-held
returns-in-End-clause-held g c = c.end_one.ensures.held

pub returns-in-End-clause-capacity : goal.returns-in-End-clause-capacity
returns-in-End-clause-capacity g c = c.end_one.ensures.capacity

pub returns-in-End-clause-few : goal.returns-in-End-clause-few
returns-in-End-clause-few g c = c.end_one.ensures.few

pub returns-in-End-clause-tried : goal.returns-in-End-clause-tried
returns-in-End-clause-tried g c =
    let frame = g.N.Naming.frame in
    let items = c.args.held.now.items in
    let new = c.end_one.new.held.items in
    let r = c.end_one.result in
    subst (λ (w : Step). HasTried frame g.N.Naming.tokens r.1.knows.known (length new) (length items) (MovesAt frame false w c.args.at items new c.args.note.knows r.1.knows (c.args.at + 1) false) r.0) (sym c.in-End.is) c.end_one.ensures.tried

pub send_one-requires-clause-there : goal.send_one-requires-clause-there
send_one-requires-clause-there g c = c.requires.there

pub send_one-requires-clause-note : goal.send_one-requires-clause-note
send_one-requires-clause-note g c = c.requires.note

pub send_one-requires-clause-below : goal.send_one-requires-clause-below
send_one-requires-clause-below g c = c.requires.below

pub send_one-requires-clause-held : goal.send_one-requires-clause-held
send_one-requires-clause-held g c = c.requires.held

pub returns-in-Send-clause-note : goal.returns-in-Send-clause-note
returns-in-Send-clause-note g c = c.send_one.ensures.note

pub returns-in-Send-clause-knew : goal.returns-in-Send-clause-knew
returns-in-Send-clause-knew g c = c.send_one.ensures.knew

pub returns-in-Send-clause-below : goal.returns-in-Send-clause-below
returns-in-Send-clause-below g c = c.send_one.ensures.below

pub returns-in-Send-clause-held : goal.returns-in-Send-clause-held
returns-in-Send-clause-held g c = c.send_one.ensures.held

pub returns-in-Send-clause-capacity : goal.returns-in-Send-clause-capacity
returns-in-Send-clause-capacity g c = c.send_one.ensures.capacity

pub returns-in-Send-clause-few : goal.returns-in-Send-clause-few
returns-in-Send-clause-few g c = c.send_one.ensures.few

pub returns-in-Send-clause-tried : goal.returns-in-Send-clause-tried
returns-in-Send-clause-tried g c =
    let frame = g.N.Naming.frame in
    let items = c.args.held.now.items in
    let new = c.send_one.new.held.items in
    let r = c.send_one.result in
    subst (λ (w : Step). HasTried frame g.N.Naming.tokens r.1.knows.known (length new) (length items) (MovesAt frame false w c.args.at items new c.args.note.knows r.1.knows (c.args.at + 1) false) r.0) (sym c.in-Send.is) c.send_one.ensures.tried

pub pass_one-requires-clause-there : goal.pass_one-requires-clause-there
pass_one-requires-clause-there g c = c.requires.there

pub pass_one-requires-clause-note : goal.pass_one-requires-clause-note
pass_one-requires-clause-note g c = c.requires.note

pub pass_one-requires-clause-below : goal.pass_one-requires-clause-below
pass_one-requires-clause-below g c = c.requires.below

pub pass_one-requires-clause-held : goal.pass_one-requires-clause-held
pass_one-requires-clause-held g c = c.requires.held

pub returns-in-Pass-clause-note : goal.returns-in-Pass-clause-note
returns-in-Pass-clause-note g c = c.pass_one.ensures.note

pub returns-in-Pass-clause-knew : goal.returns-in-Pass-clause-knew
returns-in-Pass-clause-knew g c = c.pass_one.ensures.knew

pub returns-in-Pass-clause-below : goal.returns-in-Pass-clause-below
returns-in-Pass-clause-below g c = c.pass_one.ensures.below

pub returns-in-Pass-clause-held : goal.returns-in-Pass-clause-held
returns-in-Pass-clause-held g c = c.pass_one.ensures.held

pub returns-in-Pass-clause-capacity : goal.returns-in-Pass-clause-capacity
returns-in-Pass-clause-capacity g c = c.pass_one.ensures.capacity

pub returns-in-Pass-clause-few : goal.returns-in-Pass-clause-few
returns-in-Pass-clause-few g c = c.pass_one.ensures.few

pub returns-in-Pass-clause-tried : goal.returns-in-Pass-clause-tried
returns-in-Pass-clause-tried g c =
    let frame = g.N.Naming.frame in
    let items = c.args.held.now.items in
    let new = c.pass_one.new.held.items in
    let r = c.pass_one.result in
    subst (λ (w : Step). HasTried frame g.N.Naming.tokens r.1.knows.known (length new) (length items) (MovesAt frame false w c.args.at items new c.args.note.knows r.1.knows (c.args.at + 1) false) r.0) (sym c.in-Pass.is) c.pass_one.ensures.tried

pub returns-in-End-clause-adds : goal.returns-in-End-clause-adds
returns-in-End-clause-adds g c = c.end_one.ensures.adds

pub returns-in-Send-clause-adds : goal.returns-in-Send-clause-adds
returns-in-Send-clause-adds g c = c.send_one.ensures.adds

pub returns-in-Pass-clause-adds : goal.returns-in-Pass-clause-adds
returns-in-Pass-clause-adds g c = c.pass_one.ensures.adds
