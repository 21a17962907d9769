use Rattle.std.proofs.Common.{◌≡◌, ◌+◌, List, length, Option, sym, ap, subst, ◌∙◌, arith}
use Rattle.std.specs.List.{AllByRecursion}
use Rattle.std.specs.Prelude.{IfSome}
use Rattle.std.proofs.lemmas.List.Edits.{length-insert}
use Rattle.router_moves.specs.Items.{IsBegun}
use Rattle.router_moves.specs.declared.items.BegunBelow.{BegunBelow}
use Rattle.router_node.specs.Stages.{IsStage}
use Rattle.router_node.specs.declared.stage.Stage.{Stage}
use Rattle.router_node.specs.declared.stage.Stage.TheVariants.{Below}
use Rattle.router_steps.proofs.Trying.{all_insert}
use Rattle.router_steps.proofs.tries.hold_below.Goals as goal

pub returns-in-Some-clause-held : goal.returns-in-Some-clause-held
returns-in-Some-clause-held g c = c.requires.held

pub returns-in-Some-clause-due : goal.returns-in-Some-clause-due
returns-in-Some-clause-due g c = (
  record { there = (let p = c.requires.place in p.there); free = omega arith },
  c.requires.settled,
  subst (λ (o : Option BegunBelow). IfSome o (IsBegun g.N.Naming.frame g.N.Naming.tokens c.args.note.now.knows.known c.args.passed)) c.in-Some.is c.requires.begun,
)

pub put_in-requires : goal.put_in-requires
put_in-requires g c = c.requires.place

pub returns-in-None-clause-held : goal.returns-in-None-clause-held
returns-in-None-clause-held g c =
    let frame = g.N.Naming.frame in
    let known = c.args.note.now.knows.known in
    let items = c.args.held.now.items in
    subst (λ (l : List Stage). AllByRecursion (IsStage frame g.N.Naming.tokens known) l) (sym {A = List Stage} c.put_in.ensures.items)
    (all_insert (IsStage frame g.N.Naming.tokens known) items c.args.at (Below c.args.passed) c.requires.held c.requires.settled)

pub returns-in-None-clause-few : goal.returns-in-None-clause-few
returns-in-None-clause-few g c =
    let items = c.args.held.now.items in
    let p = c.requires.place in
    let is : length c.put_in.new.held.items ≡ length items + 1 = ap (λ (l : List Stage). length l) c.put_in.ensures.items ∙ length-insert items c.args.at (Below c.args.passed) p.there in
    omega (arith, is)

pub returns-in-None-clause-due : goal.returns-in-None-clause-due
returns-in-None-clause-due g c = tt
