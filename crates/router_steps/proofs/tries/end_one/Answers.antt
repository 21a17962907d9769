use Rattle.std.proofs.Common.{◌≡◌, ℕ, ◌+◌, Bool, List, length, false, sym, ap, subst, arith}
use Rattle.std.specs.List.{AllByRecursion, remove}
use Rattle.flow_model.specs.Events.{Finds}
use Rattle.flow_model.specs.Numbers.{IsEnder}
use Rattle.cargo_model.specs.Known.{Known}
use Rattle.router_node.specs.Node.{MovesAt}
use Rattle.router_node.specs.Places.{StandsAt}
use Rattle.router_node.specs.Stages.{HasLookedForEnd, IsStage}
use Rattle.router_node.specs.declared.stage.SentUp.{SentUp}
use Rattle.router_node.specs.declared.stage.Stage.{Stage}
use Rattle.router_node.specs.declared.stage.Stage.TheVariants.{Sent}
use Rattle.router_node.specs.declared.stage.Step.TheVariants.{End}
use Rattle.router_node.proofs.Holds.{all_more}
use Rattle.router_node.proofs.Moving.{passed_by, same_sent, waits}
use Rattle.router_node.proofs.Places.{stands, that_one, without}
use Rattle.router_node.proofs.Staged.{away_more}
use Rattle.router_steps.proofs.Trying.{count_without, tried_as}
use Rattle.node_hops.proofs.Looks.{within_on}
use Rattle.router_steps.proofs.Adds.{try_after}
use Rattle.router_steps.proofs.tries.end_one.Goals as goal

-- who stands at a place, by name
named : (items : List Stage) (at : ℕ) (s : Stage) (a : SentUp) → StandsAt items at s → s ≡ Sent a → StandsAt items at (Sent a)
named items at s a there is = subst (λ (x : Stage). StandsAt items at x) is there

pub returns-in_default-clause-note : goal.returns-in_default-clause-note
returns-in_default-clause-note g c = c.requires.note

pub returns-in_default-clause-knew : goal.returns-in_default-clause-knew
returns-in_default-clause-knew g c = λ x has. has

pub returns-in_default-clause-below : goal.returns-in_default-clause-below
returns-in_default-clause-below g c = c.requires.below

pub returns-in_default-clause-held : goal.returns-in_default-clause-held
returns-in_default-clause-held g c = c.requires.held

pub returns-in_default-clause-tried : goal.returns-in_default-clause-tried
returns-in_default-clause-tried g c =
    let items = c.args.held.now.items in
    passed_by g.N.Naming.frame c.args.at items c.index.result.now c.args.note.knows (stands items c.args.at c.index.result.now c.requires.there c.index.ensures) c.in_default.not-Sent

pub look_for_end-ended-requires-clause-note : goal.look_for_end-ended-requires-clause-note
look_for_end-ended-requires-clause-note g c = c.requires.note

pub look_for_end-ended-requires-clause-below : goal.look_for_end-ended-requires-clause-below
look_for_end-ended-requires-clause-below g c = c.requires.below

pub look_for_end-ended-requires-clause-away : goal.look_for_end-ended-requires-clause-away
look_for_end-ended-requires-clause-away g c =
    let items = c.args.held.now.items in
    let at = c.args.at in
    let there = named items at c.index.result.now c.in-Sent.away (stands items at c.index.result.now c.requires.there c.index.ensures) c.in-Sent.is in
    that_one (IsStage g.N.Naming.frame g.N.Naming.tokens c.args.note.knows.known) items at (Sent c.in-Sent.away) there c.requires.held

pub returns-then-not-ended-clause-note : goal.returns-then-not-ended-clause-note
returns-then-not-ended-clause-note g c = c.look_for_end-ended.ensures.note

pub returns-then-not-ended-clause-knew : goal.returns-then-not-ended-clause-knew
returns-then-not-ended-clause-knew g c = c.look_for_end-ended.ensures.knew

pub returns-then-not-ended-clause-below : goal.returns-then-not-ended-clause-below
returns-then-not-ended-clause-below g c = c.look_for_end-ended.ensures.below

pub returns-then-not-ended-clause-held : goal.returns-then-not-ended-clause-held
returns-then-not-ended-clause-held g c = all_more g.N.Naming.frame g.N.Naming.tokens c.args.note.knows.known c.look_for_end-ended.result.1.knows.known c.look_for_end-ended.ensures.knew c.args.held.now.items c.requires.held

pub returns-then-not-ended-clause-tried : goal.returns-then-not-ended-clause-tried
returns-then-not-ended-clause-tried g c =
    let items = c.args.held.now.items in
    let at = c.args.at in
    let a = c.in-Sent.away in
    let was = c.args.note.knows in
    let is = c.look_for_end-ended.result.1.knows in
    let there = named items at c.index.result.now a (stands items at c.index.result.now c.requires.there c.index.ensures) c.in-Sent.is in
    waits g.N.Naming.frame at items a was is there (subst (λ (b : Bool). HasLookedForEnd g.N.Naming.frame a was is b) c.if-not-ended.true c.look_for_end-ended.ensures.ended)

pub take_sent-away-requires : goal.take_sent-away-requires
take_sent-away-requires g c =
    let items = c.args.held.now.items in
    (c.in-Sent.away, named items c.args.at c.index.result.now c.in-Sent.away (stands items c.args.at c.index.result.now c.requires.there c.index.ensures) c.in-Sent.is)

pub finish_one-requires-clause-note : goal.finish_one-requires-clause-note
finish_one-requires-clause-note g c = c.look_for_end-ended.ensures.note

pub finish_one-requires-clause-below : goal.finish_one-requires-clause-below
finish_one-requires-clause-below g c = c.look_for_end-ended.ensures.below

pub finish_one-requires-clause-away : goal.finish_one-requires-clause-away
finish_one-requires-clause-away g c =
    let frame = g.N.Naming.frame in
    let tokens = g.N.Naming.tokens in
    let a = c.take_sent-away.result in
    let known = c.args.note.knows.known in
    away_more frame tokens known c.look_for_end-ended.result.1.knows.known c.look_for_end-ended.ensures.knew a (that_one (IsStage frame tokens known) c.args.held.now.items c.args.at (Sent a) c.take_sent-away.ensures.was c.requires.held)

pub finish_one-requires-clause-ended : goal.finish_one-requires-clause-ended
finish_one-requires-clause-ended g c =
    let frame = g.N.Naming.frame in
    let items = c.args.held.now.items in
    let at = c.args.at in
    let was = c.args.note.knows in
    let is = c.look_for_end-ended.result.1.knows in
    let there = named items at c.index.result.now c.in-Sent.away (stands items at c.index.result.now c.requires.there c.index.ensures) c.in-Sent.is in
    let same = same_sent items at c.in-Sent.away c.take_sent-away.result there c.take_sent-away.ensures.was in
    let end = subst (λ (b : Bool). HasLookedForEnd frame c.in-Sent.away was is b) c.if-not-ended.false c.look_for_end-ended.ensures.ended in
    subst (λ (a : SentUp). Finds (Known frame.world.platform is.known) (IsEnder a.txn a.above)) same end

pub returns-clause-note : goal.returns-clause-note
returns-clause-note g c = c.finish_one.ensures.note

pub returns-clause-below : goal.returns-clause-below
returns-clause-below g c = c.finish_one.ensures.below

pub returns-clause-knew : goal.returns-clause-knew
returns-clause-knew g c = within_on c.args.note.knows.known c.look_for_end-ended.result.1.knows.known c.finish_one.result.1.knows.known c.look_for_end-ended.ensures.knew c.finish_one.ensures.knew

pub returns-clause-held : goal.returns-clause-held
returns-clause-held g c =
    let frame = g.N.Naming.frame in
    let tokens = g.N.Naming.tokens in
    let items = c.args.held.now.items in
    let at = c.args.at in
    let known = c.args.note.knows.known in
    let mid = c.look_for_end-ended.result.1.knows.known in
    let more = c.finish_one.result.1.knows.known in
    let rest = without (IsStage frame tokens known) items at (Sent c.take_sent-away.result) c.take_sent-away.ensures.was c.requires.held in
    subst (λ (l : List Stage). AllByRecursion (IsStage frame tokens more) l) (sym {A = List Stage} c.take_sent-away.ensures.items)
    (all_more frame tokens mid more c.finish_one.ensures.knew (remove items at) (all_more frame tokens known mid c.look_for_end-ended.ensures.knew (remove items at) rest))

pub returns-clause-few : goal.returns-clause-few
returns-clause-few g c =
    let items = c.args.held.now.items in
    let count = (count_without items c.args.at (Sent c.take_sent-away.result) c.take_sent-away.ensures.was).0 in
    let is : length c.take_sent-away.new.held.items ≡ length (remove items c.args.at) = ap (λ (l : List Stage). length l) c.take_sent-away.ensures.items in
    omega (arith, count, is)

pub returns-clause-tried : goal.returns-clause-tried
returns-clause-tried g c =
    let items = c.args.held.now.items in
    let new = c.take_sent-away.new.held.items in
    let is = c.finish_one.result.1.knows in
    tried_as g.N.Naming.frame g.N.Naming.tokens is.known (length new) (length items) (length items) ⊥ (MovesAt g.N.Naming.frame false End c.args.at items new c.args.note.knows is (c.args.at + 1) false) c.finish_one.result.0 (omega arith) (λ q. absurd q)
    (c.finish_one.ensures.tried (length new) (length items))

pub returns-in_default-clause-adds : goal.returns-in_default-clause-adds
returns-in_default-clause-adds g c = tt

pub returns-then-not-ended-clause-adds : goal.returns-then-not-ended-clause-adds
returns-then-not-ended-clause-adds g c = tt

pub returns-clause-adds : goal.returns-clause-adds
returns-clause-adds g c = try_after g.N.Naming.frame.world c.args.note.knows.known c.look_for_end-ended.result.1.knows.known c.finish_one.result.1.knows.known c.finish_one.result.0 c.look_for_end-ended.ensures.knew c.finish_one.ensures.adds
