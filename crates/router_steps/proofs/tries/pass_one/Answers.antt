use Rattle.std.proofs.Common.{◌≡◌, ℕ, ◌+◌, ◌<◌, ◌≤◌, List, length, sym, ap, subst, ◌∙◌, arith}
use Rattle.std.specs.List.{AllByRecursion, insert, remove}
use Rattle.std.specs.Prelude.{vec_capacity}
use Rattle.std.proofs.lemmas.List.Edits.{length-insert}
use Rattle.route_plan.specs.Valid.{hop_count}
use Rattle.router_moves.specs.declared.items.PassedOn.{PassedOn}
use Rattle.router_node.specs.Places.{StandsAt}
use Rattle.router_node.specs.Stages.{IsStage}
use Rattle.router_node.specs.declared.stage.Stage.{Stage}
use Rattle.router_node.specs.declared.stage.Stage.TheVariants.{Down}
use Rattle.router_node.proofs.ByReturn.{gone_of}
use Rattle.router_node.proofs.Holds.{all_more}
use Rattle.router_node.proofs.Moving.{passed_by_down}
use Rattle.router_node.proofs.Places.{stands, that_one, without}
use Rattle.router_steps.proofs.Trying.{all_insert, busy_again, count_without, dues_room}
use Rattle.router_node.proofs.Adding.{at_hop}
use Rattle.router_moves.proofs.Hops.{on_plan}
use Rattle.router_steps.proofs.tries.pass_one.Goals as goal

-- the place that is free then
placed : (items : List Stage) (at : ℕ) (s : Stage) (now : List Stage) (capacity cap : ℕ) → StandsAt items at s → now ≡ remove items at → length items ≤ cap → capacity ≡ cap → (at ≤ length now) × (length now < capacity) × (length now + 1 ≡ length items)
placed items at s now capacity cap t is room same =
    let c = count_without items at s t in
    let l : length now ≡ length (remove items at) = ap (λ (l : List Stage). length l) is in
    let a = c.0 in
    let b = c.1 in
    (omega (arith, b, l), omega (arith, a, l, room, same), omega (arith, a, l))

pub returns-in_default-clause-note : goal.returns-in_default-clause-note
returns-in_default-clause-note g c = c.requires.note

pub returns-in_default-clause-knew : goal.returns-in_default-clause-knew
returns-in_default-clause-knew g c = λ x has. has

pub returns-in_default-clause-below : goal.returns-in_default-clause-below
returns-in_default-clause-below g c = c.requires.below

pub returns-in_default-clause-held : goal.returns-in_default-clause-held
returns-in_default-clause-held g c = c.requires.held

pub returns-in_default-clause-tried : goal.returns-in_default-clause-tried
returns-in_default-clause-tried g c =
    let items = c.args.held.now.items in
    passed_by_down g.N.Naming.frame c.args.at items c.index.result.now c.args.note.knows (stands items c.args.at c.index.result.now c.requires.there c.index.ensures) c.in_default.not-Down

pub take_down-down-requires : goal.take_down-down-requires
take_down-down-requires g c =
    let items = c.args.held.now.items in
    (c.in-Down.field-0, subst (λ (x : Stage). StandsAt items c.args.at x) c.in-Down.is (stands items c.args.at c.index.result.now c.requires.there c.index.ensures))

pub pass_on-requires-clause-note : goal.pass_on-requires-clause-note
pass_on-requires-clause-note g c = c.requires.note

pub pass_on-requires-clause-down : goal.pass_on-requires-clause-down
pass_on-requires-clause-down g c = (that_one (IsStage g.N.Naming.frame g.N.Naming.tokens c.args.note.knows.known) c.args.held.now.items c.args.at (Down c.take_down-down.result) c.take_down-down.ensures.was c.requires.held).1

pub put_in-requires : goal.put_in-requires
put_in-requires g c =
    let p = placed c.args.held.now.items c.args.at (Down c.take_down-down.result) c.take_down-down.new.held.items (vec_capacity c.take_down-down.new.held) (vec_capacity c.args.held.now) c.take_down-down.ensures.was c.take_down-down.ensures.items (let o = c.args.held.now.ok in let m = c.args.held.now.small in omega (arith, o, m)) c.take_down-down.ensures.capacity in
    record { there = p.0; free = p.1 }

pub returns-in-Busy-clause-note : goal.returns-in-Busy-clause-note
returns-in-Busy-clause-note g c = c.in-Busy.ensures.note

pub returns-in-Busy-clause-knew : goal.returns-in-Busy-clause-knew
returns-in-Busy-clause-knew g c = c.in-Busy.ensures.knew

pub returns-in-Busy-clause-below : goal.returns-in-Busy-clause-below
returns-in-Busy-clause-below g c = c.in-Busy.ensures.below

pub returns-in-Busy-clause-held : goal.returns-in-Busy-clause-held
returns-in-Busy-clause-held g c =
    let frame = g.N.Naming.frame in
    let tokens = g.N.Naming.tokens in
    let items = c.args.held.now.items in
    let at = c.args.at in
    let d = c.take_down-down.result in
    let was = c.take_down-down.ensures.was in
    let known = c.args.note.knows.known in
    let more = c.in-Busy.note.knows.known in
    let p = c.in-Busy.ensures.passed in
    let there = (that_one (IsStage frame tokens known) items at (Down d) was c.requires.held).0 in
    let put : c.put_in.new.held.items ≡ insert (remove items at) at (Down c.in-Busy.down) = c.put_in.ensures.items ∙ ap (λ (l : List Stage). insert l at (Down c.in-Busy.down)) c.take_down-down.ensures.items in
    let rest = all_more frame tokens known more c.in-Busy.ensures.knew (remove items at) (without (IsStage frame tokens known) items at (Down d) was c.requires.held) in
    subst (λ (l : List Stage). AllByRecursion (IsStage frame tokens more) l) (sym {A = List Stage} put)
    (all_insert (IsStage frame tokens more) (remove items at) at (Down c.in-Busy.down) rest (subst (λ (x : PassedOn). x.above < hop_count frame.world.platform) (sym p.0) there, p.2))

pub returns-in-Busy-clause-few : goal.returns-in-Busy-clause-few
returns-in-Busy-clause-few g c =
    let p = placed c.args.held.now.items c.args.at (Down c.take_down-down.result) c.take_down-down.new.held.items (vec_capacity c.take_down-down.new.held) (vec_capacity c.args.held.now) c.take_down-down.ensures.was c.take_down-down.ensures.items (let o = c.args.held.now.ok in let m = c.args.held.now.small in omega (arith, o, m)) c.take_down-down.ensures.capacity in
    let n = p.2 in
    let is : length c.put_in.new.held.items ≡ length c.take_down-down.new.held.items + 1 = ap (λ (l : List Stage). length l) c.put_in.ensures.items ∙ length-insert c.take_down-down.new.held.items c.args.at (Down c.in-Busy.down) p.0 in
    omega (arith, n, is)

pub returns-in-Busy-clause-tried : goal.returns-in-Busy-clause-tried
returns-in-Busy-clause-tried g c =
    let frame = g.N.Naming.frame in
    let tokens = g.N.Naming.tokens in
    let items = c.args.held.now.items in
    let at = c.args.at in
    let d = c.take_down-down.result in
    let was = c.take_down-down.ensures.was in
    let known = c.args.note.knows.known in
    let p = c.in-Busy.ensures.passed in
    let put : c.put_in.new.held.items ≡ insert (remove items at) at (Down c.in-Busy.down) = c.put_in.ensures.items ∙ ap (λ (l : List Stage). insert l at (Down c.in-Busy.down)) c.take_down-down.ensures.items in
    busy_again frame at items c.put_in.new.held.items d c.in-Busy.down c.args.note.knows c.in-Busy.note.knows was put p.0 p.1 p.3

pub due_below-due-requires-clause-place : goal.due_below-due-requires-clause-place
due_below-due-requires-clause-place g c =
    let p = placed c.args.held.now.items c.args.at (Down c.take_down-down.result) c.take_down-down.new.held.items (vec_capacity c.take_down-down.new.held) (vec_capacity c.args.held.now) c.take_down-down.ensures.was c.take_down-down.ensures.items (let o = c.args.held.now.ok in let m = c.args.held.now.small in omega (arith, o, m)) c.take_down-down.ensures.capacity in
    record { there = p.0; free = p.1 }

pub due_below-due-requires-clause-held : goal.due_below-due-requires-clause-held
due_below-due-requires-clause-held g c =
    let frame = g.N.Naming.frame in
    let tokens = g.N.Naming.tokens in
    let items = c.args.held.now.items in
    let at = c.args.at in
    let d = c.take_down-down.result in
    let was = c.take_down-down.ensures.was in
    let known = c.args.note.knows.known in
    let more = c.in-Gone.note.knows.known in
    subst (λ (l : List Stage). AllByRecursion (IsStage frame tokens more) l) (sym {A = List Stage} c.take_down-down.ensures.items)
    (all_more frame tokens known more c.in-Gone.ensures.knew (remove items at) (without (IsStage frame tokens known) items at (Down d) was c.requires.held))

pub due_below-due-requires-clause-gone : goal.due_below-due-requires-clause-gone
due_below-due-requires-clause-gone g c =
    let frame = g.N.Naming.frame in
    let tokens = g.N.Naming.tokens in
    let items = c.args.held.now.items in
    let at = c.args.at in
    let d = c.take_down-down.result in
    let was = c.take_down-down.ensures.was in
    let known = c.args.note.knows.known in
    let h = c.in-Gone.passed in
    let p = c.in-Gone.ensures.passed in
    let there = (that_one (IsStage frame tokens known) items at (Down d) was c.requires.held).0 in
    record { there = subst (λ (x : PassedOn). x.above < hop_count frame.world.platform) (sym p.0) there; gone = p.2; begun_is = tt }

pub returns-in-Gone-clause-note : goal.returns-in-Gone-clause-note
returns-in-Gone-clause-note g c = c.in-Gone.ensures.note

pub returns-in-Gone-clause-knew : goal.returns-in-Gone-clause-knew
returns-in-Gone-clause-knew g c = c.in-Gone.ensures.knew

pub returns-in-Gone-clause-below : goal.returns-in-Gone-clause-below
returns-in-Gone-clause-below g c = c.in-Gone.ensures.below

pub returns-in-Gone-clause-held : goal.returns-in-Gone-clause-held
returns-in-Gone-clause-held g c = c.due_below-due.ensures.held

pub returns-in-Gone-clause-few : goal.returns-in-Gone-clause-few
returns-in-Gone-clause-few g c =
    let p = placed c.args.held.now.items c.args.at (Down c.take_down-down.result) c.take_down-down.new.held.items (vec_capacity c.take_down-down.new.held) (vec_capacity c.args.held.now) c.take_down-down.ensures.was c.take_down-down.ensures.items (let o = c.args.held.now.ok in let m = c.args.held.now.small in omega (arith, o, m)) c.take_down-down.ensures.capacity in
    let n = p.2 in
    omega (arith, n, c.due_below-due.ensures.few)

pub returns-in-Gone-clause-tried : goal.returns-in-Gone-clause-tried
returns-in-Gone-clause-tried g c =
    let p = placed c.args.held.now.items c.args.at (Down c.take_down-down.result) c.take_down-down.new.held.items (vec_capacity c.take_down-down.new.held) (vec_capacity c.args.held.now) c.take_down-down.ensures.was c.take_down-down.ensures.items (let o = c.args.held.now.ok in let m = c.args.held.now.small in omega (arith, o, m)) c.take_down-down.ensures.capacity in
    let n = p.2 in
    dues_room g.N.Naming.frame g.N.Naming.tokens c.in-Gone.note.knows.known (length c.due_below-due.new.held.items) (length c.take_down-down.new.held.items + 1) (length c.args.held.now.items) c.due_below-due.result (omega (arith, n)) c.due_below-due.ensures.due

pub due_below-due-requires-in-Now-clause-place : goal.due_below-due-requires-in-Now-clause-place
due_below-due-requires-in-Now-clause-place g c =
    let p = placed c.args.held.now.items c.args.at (Down c.take_down-down.result) c.take_down-down.new.held.items (vec_capacity c.take_down-down.new.held) (vec_capacity c.args.held.now) c.take_down-down.ensures.was c.take_down-down.ensures.items (let o = c.args.held.now.ok in let m = c.args.held.now.small in omega (arith, o, m)) c.take_down-down.ensures.capacity in
    record { there = p.0; free = p.1 }

pub due_below-due-requires-in-Now-clause-held : goal.due_below-due-requires-in-Now-clause-held
due_below-due-requires-in-Now-clause-held g c =
    let frame = g.N.Naming.frame in
    let tokens = g.N.Naming.tokens in
    let items = c.args.held.now.items in
    let at = c.args.at in
    let d = c.take_down-down.result in
    let was = c.take_down-down.ensures.was in
    let known = c.args.note.knows.known in
    let more = c.in-Now.note.knows.known in
    subst (λ (l : List Stage). AllByRecursion (IsStage frame tokens more) l) (sym {A = List Stage} c.take_down-down.ensures.items)
    (all_more frame tokens known more c.in-Now.ensures.knew (remove items at) (without (IsStage frame tokens known) items at (Down d) was c.requires.held))

pub due_below-due-requires-in-Now-clause-gone : goal.due_below-due-requires-in-Now-clause-gone
due_below-due-requires-in-Now-clause-gone g c =
    let frame = g.N.Naming.frame in
    let tokens = g.N.Naming.tokens in
    let items = c.args.held.now.items in
    let at = c.args.at in
    let d = c.take_down-down.result in
    let was = c.take_down-down.ensures.was in
    let known = c.args.note.knows.known in
    let h = c.in-Now.passed in
    let p = c.in-Now.ensures.passed in
    let there = (that_one (IsStage frame tokens known) items at (Down d) was c.requires.held).0 in
    record { there = subst (λ (x : PassedOn). x.above < hop_count frame.world.platform) (sym p.0) there; gone = gone_of frame tokens c.in-Now.note.knows.known h c.in-Now.begun p.2; begun_is = p.2 }

pub returns-in-Now-clause-note : goal.returns-in-Now-clause-note
returns-in-Now-clause-note g c = c.in-Now.ensures.note

pub returns-in-Now-clause-knew : goal.returns-in-Now-clause-knew
returns-in-Now-clause-knew g c = c.in-Now.ensures.knew

pub returns-in-Now-clause-below : goal.returns-in-Now-clause-below
returns-in-Now-clause-below g c = c.in-Now.ensures.below

pub returns-in-Now-clause-held : goal.returns-in-Now-clause-held
returns-in-Now-clause-held g c = c.due_below-due-in-Now.ensures.held

pub returns-in-Now-clause-few : goal.returns-in-Now-clause-few
returns-in-Now-clause-few g c =
    let p = placed c.args.held.now.items c.args.at (Down c.take_down-down.result) c.take_down-down.new.held.items (vec_capacity c.take_down-down.new.held) (vec_capacity c.args.held.now) c.take_down-down.ensures.was c.take_down-down.ensures.items (let o = c.args.held.now.ok in let m = c.args.held.now.small in omega (arith, o, m)) c.take_down-down.ensures.capacity in
    let n = p.2 in
    omega (arith, n, c.due_below-due-in-Now.ensures.few)

pub returns-in-Now-clause-tried : goal.returns-in-Now-clause-tried
returns-in-Now-clause-tried g c =
    let p = placed c.args.held.now.items c.args.at (Down c.take_down-down.result) c.take_down-down.new.held.items (vec_capacity c.take_down-down.new.held) (vec_capacity c.args.held.now) c.take_down-down.ensures.was c.take_down-down.ensures.items (let o = c.args.held.now.ok in let m = c.args.held.now.small in omega (arith, o, m)) c.take_down-down.ensures.capacity in
    let n = p.2 in
    dues_room g.N.Naming.frame g.N.Naming.tokens c.in-Now.note.knows.known (length c.due_below-due-in-Now.new.held.items) (length c.take_down-down.new.held.items + 1) (length c.args.held.now.items) c.due_below-due-in-Now.result (omega (arith, n)) c.due_below-due-in-Now.ensures.due

pub returns-in_default-clause-adds : goal.returns-in_default-clause-adds
returns-in_default-clause-adds g c = tt

pub returns-in-Busy-clause-adds : goal.returns-in-Busy-clause-adds
returns-in-Busy-clause-adds g c = tt

pub returns-in-Gone-clause-adds : goal.returns-in-Gone-clause-adds
returns-in-Gone-clause-adds g c =
    let known = c.args.note.knows.known in
    let i = (that_one (IsStage g.N.Naming.frame g.N.Naming.tokens known) c.args.held.now.items c.args.at (Down c.take_down-down.result) c.take_down-down.ensures.was c.requires.held).1 in
    let h = i.held in
    let d = c.take_down-down.result in
    at_hop g.N.Naming.frame.world c.args.note.knows c.in-Gone.note.knows c.requires.below d.held.below (on_plan g.N.Naming.frame.world d.held.txn i.pass (i.hop + 1) d.held.below h.passes h.next h.below) c.in-Gone.ensures.adds

pub returns-in-Now-clause-adds : goal.returns-in-Now-clause-adds
returns-in-Now-clause-adds g c =
    let known = c.args.note.knows.known in
    let i = (that_one (IsStage g.N.Naming.frame g.N.Naming.tokens known) c.args.held.now.items c.args.at (Down c.take_down-down.result) c.take_down-down.ensures.was c.requires.held).1 in
    let h = i.held in
    let d = c.take_down-down.result in
    at_hop g.N.Naming.frame.world c.args.note.knows c.in-Now.note.knows c.requires.below d.held.below (on_plan g.N.Naming.frame.world d.held.txn i.pass (i.hop + 1) d.held.below h.passes h.next h.below) c.in-Now.ensures.adds
