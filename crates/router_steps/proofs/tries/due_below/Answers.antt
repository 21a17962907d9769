use Rattle.std.proofs.Common.{arith, sym, ◌∙◌}
use Rattle.router_steps.proofs.Trying.{none_owed, some_owed}
use Rattle.router_steps.proofs.tries.due_below.Goals as goal

pub returns-then-is_some-clause-held : goal.returns-then-is_some-clause-held
returns-then-is_some-clause-held g c = c.requires.held

pub returns-then-is_some-clause-due : goal.returns-then-is_some-clause-due
returns-then-is_some-clause-due g c = (
  record { there = (let p = c.requires.place in p.there); free = omega arith },
  some_owed c.args.passed.owed (sym c.is_some.ensures ∙ c.if-is_some.true),
  c.requires.gone,
)

pub hold_below-requires-clause-place : goal.hold_below-requires-clause-place
hold_below-requires-clause-place g c = c.requires.place

pub hold_below-requires-clause-held : goal.hold_below-requires-clause-held
hold_below-requires-clause-held g c = c.requires.held

pub hold_below-requires-clause-settled : goal.hold_below-requires-clause-settled
hold_below-requires-clause-settled g c =
    let i = c.requires.gone in
    let n = i.gone in
    record { there = i.there; owed = none_owed c.args.passed.owed (sym c.is_some.ensures ∙ c.if-is_some.false); holding = record { pass = n.pass; hop = n.hop; state = n.state; held = n.held } }

pub hold_below-requires-clause-begun : goal.hold_below-requires-clause-begun
hold_below-requires-clause-begun g c = let i = c.requires.gone in i.begun_is

pub returns-clause-held : goal.returns-clause-held
returns-clause-held g c = c.hold_below.ensures.held

pub returns-clause-due : goal.returns-clause-due
returns-clause-due g c = c.hold_below.ensures.due
