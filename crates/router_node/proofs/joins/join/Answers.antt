use Rattle.std.proofs.Common.{subst, refl, Some, None, sym}
use Rattle.router_node.specs.Stages.{IsStage}
use Rattle.router_node.proofs.Joined.{is_back, is_up}
use Rattle.std.specs.Prelude.{IsTrue}
use Rattle.router_node.specs.Joins.{HasJoined, IsOf, IsOther}
use Rattle.router_node.specs.declared.stage.Stage.{Stage}
use Rattle.router_node.specs.declared.stage.Stage.TheVariants.{Up}
use Rattle.router_node.proofs.Staged.{not_true}
use Rattle.router_node.proofs.joins.join.Goals as goal

pub turn_up-response-requires-clause-back : goal.turn_up-response-requires-clause-back
turn_up-response-requires-clause-back g c =
    let frame = g.N.Naming.frame in
    let known = c.args.note.now.knows.known in
    is_back frame g.N.Naming.tokens known c.in-Below.held (subst (IsStage frame g.N.Naming.tokens known) c.in-Below.is c.requires.stage) c.args.found c.requires.found (c.is_of.ensures.0 c.if-not-is_of.false)

pub turn_up-response-requires-clause-settled : goal.turn_up-response-requires-clause-settled
turn_up-response-requires-clause-settled g c =
    let settled = subst (IsStage g.N.Naming.frame g.N.Naming.tokens c.args.note.now.knows.known) c.in-Below.is c.requires.stage in
    settled.owed

pub returns-then-not-is_of-clause-stage : goal.returns-then-not-is_of-clause-stage
returns-then-not-is_of-clause-stage g c = subst (IsStage g.N.Naming.frame g.N.Naming.tokens c.args.note.now.knows.known) c.in-Below.is c.requires.stage

pub returns-then-not-is_of-clause-found : goal.returns-then-not-is_of-clause-found
returns-then-not-is_of-clause-found g c = c.requires.found

pub returns-else-not-is_of-clause-found : goal.returns-else-not-is_of-clause-found
returns-else-not-is_of-clause-found g c = tt

pub returns-then-not-is_of-clause-joined : goal.returns-then-not-is_of-clause-joined
returns-then-not-is_of-clause-joined g c = (sym c.in-Below.is, refl, subst (λ (s : Stage). IsOther c.args.found s) (sym c.in-Below.is) (λ (o : IsOf c.in-Below.held c.args.found). not_true (subst IsTrue c.if-not-is_of.true (c.is_of.ensures.1 o))))

pub returns-else-not-is_of-clause-stage : goal.returns-else-not-is_of-clause-stage
returns-else-not-is_of-clause-stage g c =
    let settled = subst (IsStage g.N.Naming.frame g.N.Naming.tokens c.args.note.now.knows.known) c.in-Below.is c.requires.stage in
    is_up g.N.Naming.frame g.N.Naming.tokens c.args.note.now.knows.known c.in-Below.held settled c.args.found.fetched.back c.turn_up-response.result.0 c.turn_up-response.result.1 c.turn_up-response.ensures.turned

pub returns-else-not-is_of-clause-joined : goal.returns-else-not-is_of-clause-joined
returns-else-not-is_of-clause-joined g c = subst (λ (s : Stage). HasJoined s c.args.found (Up c.turn_up-response.result.0 (Some c.turn_up-response.result.1)) None) (sym c.in-Below.is) (c.is_of.ensures.0 c.if-not-is_of.false, c.turn_up-response.ensures.turned.at)
