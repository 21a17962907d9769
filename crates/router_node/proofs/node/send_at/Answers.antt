use Rattle.std.proofs.Common.{◌≡◌, List, set, sym, ap, subst, ◌∙◌, refl}
use Rattle.std.specs.List.{AllByRecursion}
use Rattle.router_node.specs.Node.{gap}
use Rattle.router_node.specs.Places.{StandsAt}
use Rattle.router_node.specs.Stages.{IsStage}
use Rattle.router_node.specs.declared.stage.Stage.{Stage}
use Rattle.router_node.specs.declared.stage.Stage.TheVariants.{Up}
use Rattle.router_node.specs.declared.stage.Step.TheVariants.{Send}
use Rattle.router_node.proofs.Holds.{all_more}
use Rattle.router_node.proofs.Moving.{passed_by_up, tried}
use Rattle.router_node.proofs.Places.{stands, that_one, with_another}
use Rattle.router_node.proofs.node.send_at.Goals as goal

pub returns-in_default-clause-moved : goal.returns-in_default-clause-moved
returns-in_default-clause-moved g c =
    let items = c.args.held.now.items in
    passed_by_up g.N.Naming.frame c.args.at items c.index.result.now c.args.note.knows (stands items c.args.at c.index.result.now c.requires.there c.index.ensures) c.in_default.not-Up

pub send-stage-requires-clause-up : goal.send-stage-requires-clause-up
send-stage-requires-clause-up g c =
    let is = IsStage g.N.Naming.frame g.N.Naming.tokens c.args.note.knows.known in
    subst is c.in-Up-take_out.is (that_one is c.args.held.now.items c.args.at c.take_out.result c.take_out.ensures.was c.requires.held)

pub returns-clause-held : goal.returns-clause-held
returns-clause-held g c =
    let frame = g.N.Naming.frame in
    let tokens = g.N.Naming.tokens in
    let items = c.args.held.now.items in
    let at = c.args.at in
    let t = c.send-stage.result.0 in
    let known = c.args.note.knows.known in
    let more = c.send-stage.result.2.knows.known in
    let put : c.put_back.new.held.items ≡ set (set items at gap) at t = c.put_back.ensures.items ∙ ap (λ (l : List Stage). set l at t) c.take_out.ensures.items in
    subst (λ (l : List Stage). AllByRecursion (IsStage frame tokens more) l) (sym {A = List Stage} put)
    (with_another (IsStage frame tokens more) items at c.take_out.result c.take_out.ensures.was (all_more frame tokens known more c.send-stage.ensures.knew items c.requires.held) gap t c.send-stage.ensures.stage)

pub returns-clause-moved : goal.returns-clause-moved
returns-clause-moved g c =
    let frame = g.N.Naming.frame in
    let items = c.args.held.now.items in
    let at = c.args.at in
    let t = c.send-stage.result.0 in
    let was = c.args.note.knows in
    let is = c.send-stage.result.2.knows in
    let moved = c.send-stage.result.1 in
    let put : c.put_back.new.held.items ≡ set (set items at gap) at t = c.put_back.ensures.items ∙ ap (λ (l : List Stage). set l at t) c.take_out.ensures.items in
    tried frame Send at items c.put_back.new.held.items (Up c.in-Up-take_out.response c.in-Up-take_out.rest) gap t was is moved (subst (λ (s : Stage). StandsAt items at s) c.in-Up-take_out.is c.take_out.ensures.was) put c.send-stage.ensures.stepped

pub returns-in_default-clause-note : goal.returns-in_default-clause-note
returns-in_default-clause-note g c = c.requires.note

pub returns-in_default-clause-knew : goal.returns-in_default-clause-knew
returns-in_default-clause-knew g c = λ x has. has

pub returns-in_default-clause-below : goal.returns-in_default-clause-below
returns-in_default-clause-below g c = c.requires.below

pub returns-in_default-clause-held : goal.returns-in_default-clause-held
returns-in_default-clause-held g c = c.requires.held

pub returns-in_default-clause-capacity : goal.returns-in_default-clause-capacity
returns-in_default-clause-capacity g c = refl

pub take_out-requires : goal.take_out-requires
take_out-requires g c = c.requires.there

pub send-stage-requires-clause-note : goal.send-stage-requires-clause-note
send-stage-requires-clause-note g c = c.requires.note

pub returns-clause-note : goal.returns-clause-note
returns-clause-note g c = c.send-stage.ensures.note

pub returns-clause-knew : goal.returns-clause-knew
returns-clause-knew g c = c.send-stage.ensures.knew

pub returns-clause-below : goal.returns-clause-below
returns-clause-below g c = c.send-stage.ensures.below

pub returns-clause-capacity : goal.returns-clause-capacity
returns-clause-capacity g c = c.put_back.ensures.capacity ∙ c.take_out.ensures.capacity

pub returns-in_default-clause-adds : goal.returns-in_default-clause-adds
returns-in_default-clause-adds g c = λ took. cc

pub returns-clause-adds : goal.returns-clause-adds
returns-clause-adds g c = c.send-stage.ensures.adds
