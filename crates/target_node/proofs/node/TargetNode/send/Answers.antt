use Rattle.std.proofs.Common.{Option, refl, sym, subst, ◌∙◌}
use Rattle.std.specs.Prelude.{IfNone}
use Rattle.plat_net.specs.Places.{hop_place}
use Rattle.node_hops.specs.Steps.{AddsAt}
use Rattle.node_hops.proofs.Looks.{of_some}
use Rattle.target_node.specs.Items.{HasResponded}
use Rattle.target_node.specs.Node.{IsToSend}
use Rattle.target_node.specs.declared.items.MemoryResponse.{MemoryResponse}
use Rattle.target_node.proofs.Adds.{not_both, on_hop}
use Rattle.target_node.proofs.Steps.{gone_keeps, refused_keeps, sends_gone, sends_not}
use Rattle.target_node.proofs.node.TargetNode.send.Goals as goal

pub returns-in_default-back-clause-target : goal.returns-in_default-back-clause-target
returns-in_default-back-clause-target g c =
    gone_keeps g.N.Naming.frame g.N.Naming.tokens c.args.self.now c.args.note.knows.known c.respond-back.result.1.knows.known c.respond-back.ensures.knew c.requires.target c.take.new.self c.take.ensures.after

pub returns-in_default-back-clause-sent : goal.returns-in_default-back-clause-sent
returns-in_default-back-clause-sent g c =
    let frame = g.N.Naming.frame in
    let is = c.respond-back.result.1.knows in
    sends_gone frame g.N.Naming.tokens c.args.self.now c.take.new.self c.in-Some.response c.args.note.knows is (sym c.take.ensures.value ∙ c.in-Some.is) c.take.ensures.after
    (subst (λ (o : Option MemoryResponse). HasResponded frame g.N.Naming.tokens c.in-Some.response c.args.note.knows is o) c.in_default-back.is c.respond-back.ensures.responded)

pub returns-clause-target : goal.returns-clause-target
returns-clause-target g c =
    let frame = g.N.Naming.frame in
    let is = c.respond-back.result.1.knows in
    refused_keeps frame g.N.Naming.tokens c.args.self.now c.args.note.knows.known is.known c.respond-back.ensures.knew c.requires.target c.in-Some.response c.in-Some-back.back c.args.note.knows is refl (sym c.take.ensures.value ∙ c.in-Some.is)
    (subst (λ (o : Option MemoryResponse). HasResponded frame g.N.Naming.tokens c.in-Some.response c.args.note.knows is o) c.in-Some-back.is c.respond-back.ensures.responded)

pub returns-clause-sent : goal.returns-clause-sent
returns-clause-sent g c =
    let frame = g.N.Naming.frame in
    let is = c.respond-back.result.1.knows in
    sends_not frame g.N.Naming.tokens c.args.self.now c.in-Some.response c.in-Some-back.back c.args.note.knows is (sym c.take.ensures.value ∙ c.in-Some.is)
    (subst (λ (o : Option MemoryResponse). HasResponded frame g.N.Naming.tokens c.in-Some.response c.args.note.knows is o) c.in-Some-back.is c.respond-back.ensures.responded)

pub respond-back-requires-clause-note : goal.respond-back-requires-clause-note
respond-back-requires-clause-note g c = c.requires.note

pub returns-in_default-back-clause-note : goal.returns-in_default-back-clause-note
returns-in_default-back-clause-note g c = c.respond-back.ensures.note

pub returns-in_default-back-clause-knew : goal.returns-in_default-back-clause-knew
returns-in_default-back-clause-knew g c = c.respond-back.ensures.knew

pub returns-in_default-back-clause-below : goal.returns-in_default-back-clause-below
returns-in_default-back-clause-below g c = c.respond-back.ensures.below

pub returns-clause-note : goal.returns-clause-note
returns-clause-note g c = c.respond-back.ensures.note

pub returns-clause-knew : goal.returns-clause-knew
returns-clause-knew g c = c.respond-back.ensures.knew

pub returns-clause-below : goal.returns-clause-below
returns-clause-below g c = c.respond-back.ensures.below

pub returns-in_default-back-clause-adds : goal.returns-in_default-back-clause-adds
returns-in_default-back-clause-adds g c =
    let frame = g.N.Naming.frame in
    let t = c.args.self.now in
    let r = c.in-Some.response in
    let known = c.args.note.knows.known in
    let s = of_some (IsToSend frame g.N.Naming.tokens t.memory known) t.held r (sym c.take.ensures.value ∙ c.in-Some.is) c.requires.target.held in
    λ sent. (
    on_hop frame.world t.memory c.args.note.knows c.respond-back.result.1.knows c.requires.below r.hop s.leads
    (subst (λ (o : Option MemoryResponse). IfNone o (AddsAt (hop_place frame.world r.hop) c.args.note.knows c.respond-back.result.1.knows)) c.in_default-back.is c.respond-back.ensures.adds)
    )

pub returns-clause-adds : goal.returns-clause-adds
returns-clause-adds g c = λ sent. absurd (not_both sent)
