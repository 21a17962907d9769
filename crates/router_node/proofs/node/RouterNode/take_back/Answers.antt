use Rattle.std.proofs.Common.{ℕ, List, ◌≤◌, length, Option, refl, sym, subst, ◌∙◌, arith}
use Rattle.std.specs.Prelude.{vec_capacity}
use Rattle.router_node.specs.Finds.{AreLookedAt, HasFoundBack, IsHopBelow}
use Rattle.router_node.specs.declared.finds.Found.{Found}
use Rattle.router_node.proofs.Hasty.{each_looked, kept_back, not_back}
use Rattle.router_node.proofs.Holds.{all_more, is_none, keeps, router_more, strays}
use Rattle.router_node.proofs.JoinsOne.{joined_count}
use Rattle.router_node.proofs.node.RouterNode.take_back.Goals as goal

pub returns-in_default-clause-router : goal.returns-in_default-clause-router
returns-in_default-clause-router g c = router_more g.N.Naming.frame g.N.Naming.tokens c.args.note.knows.known c.find_back-found.result.1.knows.known c.find_back-found.ensures.knew c.args.self.now c.requires.router

pub join_one-requires-clause-held : goal.join_one-requires-clause-held
join_one-requires-clause-held g c = all_more g.N.Naming.frame g.N.Naming.tokens c.args.note.knows.known c.find_back-found.result.1.knows.known c.find_back-found.ensures.knew c.args.self.now.held.items c.requires.router.held

pub returns-clause-router : goal.returns-clause-router
returns-clause-router g c =
    let frame = g.N.Naming.frame in
    let tokens = g.N.Naming.tokens in
    let r = c.args.self.now in
    let is = c.requires.router in
    let e = c.join_one.ensures in
    let known = c.args.note.knows.known in
    let more = c.find_back-found.result.1.knows.known in
    let count = joined_count c.in-Some.found r.held.items c.join_one.new.held.items c.join_one.result e.joined in
    let few : length c.join_one.new.held.items ≤ r.room = omega (arith, count, is.few) in
    let room : r.room ≤ vec_capacity c.join_one.new.held = omega (arith, is.room, e.capacity) in
    keeps frame tokens known more c.find_back-found.ensures.knew r (record r { held = c.join_one.new.held; stray = c.join_one.result }) refl is e.held few room (strays frame tokens more c.join_one.result e.found)

pub returns-then-is_some-clause-taken : goal.returns-then-is_some-clause-taken
returns-then-is_some-clause-taken g c = kept_back g.N.Naming.frame g.N.Naming.tokens c.args.hasty c.args.self.now c.args.note.knows (sym c.is_some.ensures ∙ c.if-is_some.true)

pub find_back-found-requires-clause-hops : goal.find_back-found-requires-clause-hops
find_back-found-requires-clause-hops g c =
    let r = c.args.self.now in
    let a = subst (λ (l : List ℕ). AreLookedAt c.args.hasty l c.hops_at-hops.result.now) c.as_slice.ensures.value c.hops_at-hops.ensures in
    each_looked c.args.hasty (λ (h : ℕ). IsHopBelow g.N.Naming.frame.world h) r.below.items c.hops_at-hops.result.now a c.requires.router.below

pub returns-in_default-clause-taken : goal.returns-in_default-clause-taken
returns-in_default-clause-taken g c =
    let frame = g.N.Naming.frame in
    let tokens = g.N.Naming.tokens in
    let r = c.args.self.now in
    let was = c.args.note.knows in
    let is = c.find_back-found.result.1.knows in
    let a = subst (λ (l : List ℕ). AreLookedAt c.args.hasty l c.hops_at-hops.result.now) c.as_slice.ensures.value c.hops_at-hops.ensures in
    let f = subst (λ (o : Option Found). HasFoundBack frame tokens c.hops_at-hops.result.now was is o) c.in_default.is c.find_back-found.ensures.found in
    not_back frame tokens c.args.hasty r c.hops_at-hops.result.now was is (is_none r.stray (sym c.if-is_some.false ∙ c.is_some.ensures)) a f

pub returns-clause-taken : goal.returns-clause-taken
returns-clause-taken g c =
    let frame = g.N.Naming.frame in
    let tokens = g.N.Naming.tokens in
    let r = c.args.self.now in
    let was = c.args.note.knows in
    let is = c.find_back-found.result.1.knows in
    let f = subst (λ (o : Option Found). HasFoundBack frame tokens c.hops_at-hops.result.now was is o) c.in-Some.is c.find_back-found.ensures.found in
    record {
      free = is_none r.stray (sym c.if-is_some.false ∙ c.is_some.ensures);
      found = c.in-Some.found;
      hops = c.hops_at-hops.result.now;
      looked_at = subst (λ (l : List ℕ). AreLookedAt c.args.hasty l c.hops_at-hops.result.now) c.as_slice.ensures.value c.hops_at-hops.ensures;
      first = f.0;
      waited = f.1;
      joined = c.join_one.ensures.joined;
      same = refl;
    }

pub returns-then-is_some-clause-router : goal.returns-then-is_some-clause-router
returns-then-is_some-clause-router g c = c.requires.router

pub returns-then-is_some-clause-note : goal.returns-then-is_some-clause-note
returns-then-is_some-clause-note g c = c.requires.note

pub returns-then-is_some-clause-knew : goal.returns-then-is_some-clause-knew
returns-then-is_some-clause-knew g c = λ x has. has

pub returns-then-is_some-clause-below : goal.returns-then-is_some-clause-below
returns-then-is_some-clause-below g c = c.requires.below

pub find_back-found-requires-clause-note : goal.find_back-found-requires-clause-note
find_back-found-requires-clause-note g c = c.requires.note

pub find_back-found-requires-clause-below : goal.find_back-found-requires-clause-below
find_back-found-requires-clause-below g c = c.requires.below

pub returns-in_default-clause-note : goal.returns-in_default-clause-note
returns-in_default-clause-note g c = c.find_back-found.ensures.note

pub returns-in_default-clause-knew : goal.returns-in_default-clause-knew
returns-in_default-clause-knew g c = c.find_back-found.ensures.knew

pub returns-in_default-clause-below : goal.returns-in_default-clause-below
returns-in_default-clause-below g c = c.find_back-found.ensures.below

pub returns-clause-note : goal.returns-clause-note
returns-clause-note g c = c.find_back-found.ensures.note

pub returns-clause-knew : goal.returns-clause-knew
returns-clause-knew g c = c.find_back-found.ensures.knew

pub returns-clause-below : goal.returns-clause-below
returns-clause-below g c = c.find_back-found.ensures.below

pub join_one-requires-clause-found : goal.join_one-requires-clause-found
join_one-requires-clause-found g c =
    let f = subst (λ (o : Option Found). HasFoundBack g.N.Naming.frame g.N.Naming.tokens c.hops_at-hops.result.now c.args.note.knows c.find_back-found.result.1.knows o) c.in-Some.is c.find_back-found.ensures.found in
    f.1
