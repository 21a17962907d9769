use Rattle.std.proofs.Common.{◌≡◌, ℕ, ◌+◌, ◌-◌, ◌<◌, List, IsSome, set, sym, ap, subst, ◌∙◌, arith, rules}
use Rattle.time_board.specs.declared.rounds.Member.{Member}
use Rattle.time_board.specs.declared.rounds.Advance.TheVariants.{Advanced}
use Rattle.time_board.specs.declared.tally.Tally.{Tally}
use Rattle.time_board.specs.Rounds.{first_behind, next_round, answer_of, members_after}
use Rattle.time_board.specs.Tally.{IsTallied}
use Rattle.time_board.proofs.Tallies.{running, running_from, tallied_leveled, tallied_moved, moved_fits, first_behind-free, first_behind-above, answer_of-free, members_after-free, members_after-held}
use Rattle.time_board.proofs.rounds.Rounds.advance.Goals as goal

pub name_behind-requires-clause-some : goal.name_behind-requires-clause-some
name_behind-requires-clause-some c =
    let members = c.self.inside.members.items in
    let tally = c.self.inside.tally in
    let round = c.find_member-asking.result.round in
    let held : (tally.lowest < round) × (0 < tally.behind) = search rules in
    subst (λ (xs : List Member). IsSome (first_behind xs round)) (sym c.deref-then-holds_back.ensures.value)
    (first_behind-above members tally c.self.invariant round held.0 held.1)

pub returns-then-holds_back-clause-members : goal.returns-then-holds_back-clause-members
returns-then-holds_back-clause-members c =
    let members = c.self.inside.members.items in
    let tally = c.self.inside.tally in
    let asking = c.find_member-asking.result in
    let is = running_from asking _ members c.args.who c.find_member-asking.ensures c.deref.ensures.value c.if-asking.false in
    let held : (tally.lowest < asking.round) × (0 < tally.behind) = search rules in
    let some = first_behind-above members tally c.self.invariant asking.round held.0 held.1 in
    sym (subst (λ (xs : List Member). members_after xs c.args.who ≡ xs) c.self.view_is (members_after-held members c.args.who asking.round is some))

pub returns-then-round-clause-answer : goal.returns-then-round-clause-answer
returns-then-round-clause-answer c =
    let members = c.self.inside.members.items in
    let tally = c.self.inside.tally in
    let asking = c.find_member-asking.result in
    let is = running_from asking _ members c.args.who c.find_member-asking.ensures c.deref.ensures.value c.if-asking.false in
    let free : (tally.lowest < asking.round) × (0 < tally.behind) → ⊥ = search rules in
    let none = first_behind-free members tally c.self.invariant c.args.who asking.round is free in
    let stays : next_round asking.round ≡ asking.round = omega arith in
    sym (ap (λ (xs : List Member). answer_of xs c.args.who) (sym c.self.view_is) ∙ answer_of-free members c.args.who asking.round is none ∙ ap Advanced stays)

pub moved-self-inside-requires-clause-fits : goal.moved-self-inside-requires-clause-fits
moved-self-inside-requires-clause-fits c =
    let members = c.self.inside.members.items in
    let tally = c.self.inside.tally in
    let asking = c.find_member-asking.result in
    let level = c.leveled-level in
    let is = running_from asking _ members c.args.who c.find_member-asking.ensures c.deref.ensures.value c.if-asking.false in
    let free : (tally.lowest < asking.round) × (0 < tally.behind) → ⊥ = search rules in
    let leveled = tallied_leveled members tally c.self.invariant level.result c.args.who asking.round is free level.ensures.same level.ensures.up in
    let fits = moved_fits members level.result leveled.0 c.args.who (is ∙ ap running (sym leveled.1)) in
    omega (arith, c.self.invariant.few)

pub invariant_of-self : goal.invariant_of-self
invariant_of-self c =
    let members = c.self.inside.members.items in
    let tally = c.self.inside.tally in
    let asking = c.find_member-asking.result in
    let level = c.leveled-level in
    let is = running_from asking _ members c.args.who c.find_member-asking.ensures c.deref.ensures.value c.if-asking.false in
    let free : (tally.lowest < asking.round) × (0 < tally.behind) → ⊥ = search rules in
    let leveled = tallied_leveled members tally c.self.invariant level.result c.args.who asking.round is free level.ensures.same level.ensures.up in
    let moved = tallied_moved members level.result leveled.0 c.args.who (is ∙ ap running (sym leveled.1)) in
    let here = subst (λ (n : ℕ). IsTallied (set members c.args.who (running (n + 1))) (record { lowest = level.result.lowest; behind = level.result.behind - 1; ahead = level.result.ahead + 1 })) leveled.1 moved in
    subst (λ (t : Tally). IsTallied (set members c.args.who (running (asking.round + 1))) t) (sym c.moved-self-inside.ensures) here

pub returns-clause-answer : goal.returns-clause-answer
returns-clause-answer c =
    let members = c.self.inside.members.items in
    let tally = c.self.inside.tally in
    let asking = c.find_member-asking.result in
    let is = running_from asking _ members c.args.who c.find_member-asking.ensures c.deref.ensures.value c.if-asking.false in
    let free : (tally.lowest < asking.round) × (0 < tally.behind) → ⊥ = search rules in
    let none = first_behind-free members tally c.self.invariant c.args.who asking.round is free in
    let next : next_round asking.round ≡ asking.round + 1 = omega arith in
    sym (ap (λ (xs : List Member). answer_of xs c.args.who) (sym c.self.view_is) ∙ answer_of-free members c.args.who asking.round is none ∙ ap Advanced next)

pub returns-clause-members : goal.returns-clause-members
returns-clause-members c =
    let members = c.self.inside.members.items in
    let tally = c.self.inside.tally in
    let asking = c.find_member-asking.result in
    let is = running_from asking _ members c.args.who c.find_member-asking.ensures c.deref.ensures.value c.if-asking.false in
    let free : (tally.lowest < asking.round) × (0 < tally.behind) → ⊥ = search rules in
    let none = first_behind-free members tally c.self.invariant c.args.who asking.round is free in
    let next : next_round asking.round ≡ asking.round + 1 = omega arith in
    sym (ap (λ (xs : List Member). members_after xs c.args.who) (sym c.self.view_is) ∙ members_after-free members c.args.who asking.round is none ∙ ap (λ (n : ℕ). set members c.args.who (running n)) next)
