use Rattle.router_node.specs.declared.stage.Step.TheVariants.{Send}
use Rattle.router_steps.proofs.Trying.{moves_few, still_next}
use Rattle.router_node.proofs.Adding.{on_hop}
use Rattle.router_steps.proofs.tries.send_one.Goals as goal

pub send_at-moved-requires-clause-there : goal.send_at-moved-requires-clause-there
send_at-moved-requires-clause-there g c = c.requires.there

pub send_at-moved-requires-clause-note : goal.send_at-moved-requires-clause-note
send_at-moved-requires-clause-note g c = c.requires.note

pub send_at-moved-requires-clause-below : goal.send_at-moved-requires-clause-below
send_at-moved-requires-clause-below g c = c.requires.below

pub send_at-moved-requires-clause-held : goal.send_at-moved-requires-clause-held
send_at-moved-requires-clause-held g c = c.requires.held

pub returns-then-not-moved-clause-note : goal.returns-then-not-moved-clause-note
returns-then-not-moved-clause-note g c = c.send_at-moved.ensures.note

pub returns-then-not-moved-clause-knew : goal.returns-then-not-moved-clause-knew
returns-then-not-moved-clause-knew g c = c.send_at-moved.ensures.knew

pub returns-then-not-moved-clause-below : goal.returns-then-not-moved-clause-below
returns-then-not-moved-clause-below g c = c.send_at-moved.ensures.below

pub returns-then-not-moved-clause-held : goal.returns-then-not-moved-clause-held
returns-then-not-moved-clause-held g c = c.send_at-moved.ensures.held

pub returns-then-not-moved-clause-few : goal.returns-then-not-moved-clause-few
returns-then-not-moved-clause-few g c = moves_few g.N.Naming.frame Send c.args.at c.args.held.now.items c.send_at-moved.new.held.items c.args.note.knows c.send_at-moved.result.2.knows c.send_at-moved.result.0 c.send_at-moved.result.1 c.send_at-moved.ensures.moved

pub returns-clause-note : goal.returns-clause-note
returns-clause-note g c = c.send_at-moved.ensures.note

pub returns-clause-knew : goal.returns-clause-knew
returns-clause-knew g c = c.send_at-moved.ensures.knew

pub returns-clause-below : goal.returns-clause-below
returns-clause-below g c = c.send_at-moved.ensures.below

pub returns-clause-held : goal.returns-clause-held
returns-clause-held g c = c.send_at-moved.ensures.held

pub returns-clause-few : goal.returns-clause-few
returns-clause-few g c = moves_few g.N.Naming.frame Send c.args.at c.args.held.now.items c.send_at-moved.new.held.items c.args.note.knows c.send_at-moved.result.2.knows c.send_at-moved.result.0 c.send_at-moved.result.1 c.send_at-moved.ensures.moved

pub returns-then-not-moved-clause-tried : goal.returns-then-not-moved-clause-tried
returns-then-not-moved-clause-tried g c = still_next g.N.Naming.frame Send c.args.at c.args.held.now.items c.send_at-moved.new.held.items c.args.note.knows c.send_at-moved.result.2.knows c.send_at-moved.result.0 c.send_at-moved.result.1 c.if-not-moved.true c.send_at-moved.ensures.moved

pub returns-clause-tried : goal.returns-clause-tried
returns-clause-tried g c = tt

pub returns-then-not-moved-clause-adds : goal.returns-then-not-moved-clause-adds
returns-then-not-moved-clause-adds g c = tt

pub returns-clause-adds : goal.returns-clause-adds
returns-clause-adds g c = on_hop g.N.Naming.frame.world c.args.note.knows c.send_at-moved.result.2.knows c.requires.below (c.send_at-moved.ensures.adds c.if-not-moved.false)
