use Rattle.std.proofs.Common.{◌≡◌, ℕ, ◌+◌, ◌≤◌, List, [], ◌∷◌, length, Option, Some, refl, sym, ap, subst, ◌∙◌, length-append, arith}
use Rattle.std.specs.Prelude.{vec_capacity}
use Rattle.tlm_model.specs.declared.platform.Target.TheVariants.{Router}
use Rattle.node_hops.specs.Hops.{IsHopTo}
use Rattle.node_hops.proofs.Latencies.{latency_to}
use Rattle.router_node.specs.Finds.{AreLookedAt, HasFoundRequest}
use Rattle.router_node.specs.Node.{stage_of}
use Rattle.router_node.specs.Stages.{IsStage}
use Rattle.router_moves.specs.declared.items.RouterRequest.{RouterRequest}
use Rattle.router_node.specs.declared.stage.Stage.{Stage}
use Rattle.router_node.proofs.Hasty.{each_looked, full_in, not_in}
use Rattle.router_node.proofs.Holds.{all_more, all_next, keeps, last_is, router_more, stray_more, turned_stage}
use Rattle.node_hops.proofs.Looks.{within_on}
use Rattle.router_node.proofs.Adding.{in_pool, last_same, turned_adds}
use Rattle.node_hops.proofs.News.{new_after}
use Rattle.router_node.specs.Stages.{IsByRouter, is_down}
use Rattle.router_node.proofs.node.RouterNode.take_in.Goals as goal

pub returns-in_default-clause-router : goal.returns-in_default-clause-router
returns-in_default-clause-router g c = router_more g.N.Naming.frame g.N.Naming.tokens c.args.note.knows.known c.find_request-request.result.1.knows.known c.find_request-request.ensures.knew c.args.self.now c.requires.router

pub returns-then-len-self-clause-taken : goal.returns-then-len-self-clause-taken
returns-then-len-self-clause-taken g c =
    let r = c.args.self.now in
    full_in g.N.Naming.frame g.N.Naming.tokens c.args.hasty r c.args.note (omega (arith, c.len.ensures, c.if-len-self.true, r.held.ok.0))

pub find_request-request-requires-clause-hops : goal.find_request-request-requires-clause-hops
find_request-request-requires-clause-hops g c =
    let r = c.args.self.now in
    let a = subst (λ (l : List ℕ). AreLookedAt c.args.hasty l c.hops_at-hops.result.now) c.as_slice.ensures.value c.hops_at-hops.ensures in
    each_looked c.args.hasty (λ (h : ℕ). IsHopTo g.N.Naming.frame.world (Router r.router) h) r.above.items c.hops_at-hops.result.now a c.requires.router.above

pub returns-in_default-clause-taken : goal.returns-in_default-clause-taken
returns-in_default-clause-taken g c =
    let frame = g.N.Naming.frame in
    let tokens = g.N.Naming.tokens in
    let r = c.args.self.now in
    let hops = c.hops_at-hops.result.now in
    let a = subst (λ (l : List ℕ). AreLookedAt c.args.hasty l hops) c.as_slice.ensures.value c.hops_at-hops.ensures in
    let f = subst (λ (o : Option RouterRequest). HasFoundRequest frame tokens r.router hops c.args.note.knows c.find_request-request.result.1.knows o) c.in_default.is c.find_request-request.ensures.found in
    not_in frame tokens c.args.hasty r hops c.args.note c.find_request-request.result.1 (omega (arith, c.len.ensures, c.if-len-self.false, r.held.ok.0)) a f

-- what was found, at which hop
found : (g : _) (c : goal.After-push_reserved g) → HasFoundRequest g.N.Naming.frame g.N.Naming.tokens c.args.self.now.router c.hops_at-hops.result.now c.args.note.knows c.find_request-request.result.1.knows (Some c.in-Some.request)
found g c =
    subst (λ (o : Option RouterRequest). HasFoundRequest g.N.Naming.frame g.N.Naming.tokens c.args.self.now.router c.hops_at-hops.result.now c.args.note.knows c.find_request-request.result.1.knows o) c.in-Some.is c.find_request-request.ensures.found

pub turn-turned-requires-clause-latency : goal.turn-turned-requires-clause-latency
turn-turned-requires-clause-latency g c =
    let frame = g.N.Naming.frame in
    let r = c.args.self.now in
    let f = subst (λ (o : Option RouterRequest). HasFoundRequest frame g.N.Naming.tokens r.router c.hops_at-hops.result.now c.args.note.knows c.find_request-request.result.1.knows o) c.in-Some.is c.find_request-request.ensures.found in
    c.requires.router.latency ∙ latency_to frame.world c.in-Some.request.hop (Router r.router) f.2.leads

pub returns-clause-router : goal.returns-clause-router
returns-clause-router g c =
    let frame = g.N.Naming.frame in
    let tokens = g.N.Naming.tokens in
    let r = c.args.self.now in
    let is = c.requires.router in
    let known = c.args.note.knows.known in
    let more = c.turn-turned.result.1.knows.known in
    let w = within_on known c.find_request-request.result.1.knows.known more c.find_request-request.ensures.knew c.turn-turned.ensures.knew in
    let one = turned_stage frame tokens r.router r.latency c.in-Some.request c.find_request-request.result.1 c.turn-turned.result.1 (found g c).1 c.turn-turned.result.0 c.stage_of-stage.result c.stage_of-stage.ensures c.turn-turned.ensures.turned in
    let all = all_next (IsStage frame tokens more) r.held.items c.push_reserved.new.self.items c.stage_of-stage.result c.push_reserved.ensures.items (all_more frame tokens known more w r.held.items is.held) one in
    let count : length c.push_reserved.new.self.items ≡ length r.held.items + 1 = ap (λ (l : List Stage). length l) c.push_reserved.ensures.items ∙ length-append r.held.items (c.stage_of-stage.result ∷ []) in
    let few : length c.push_reserved.new.self.items ≤ r.room = omega (arith, count, c.len.ensures, c.if-len-self.false, r.held.ok.0) in
    let room : r.room ≤ vec_capacity c.push_reserved.new.self = omega (arith, is.room, c.push_reserved.ensures.capacity) in
    keeps frame tokens known more w r (record r { held = c.push_reserved.new.self }) refl is all few room (stray_more frame tokens known more w r.stray is.stray)

pub returns-clause-below : goal.returns-clause-below
returns-clause-below g c = c.turn-turned.ensures.below c.find_request-request.ensures.below

pub returns-clause-taken : goal.returns-clause-taken
returns-clause-taken g c =
    let r = c.args.self.now in
    let f = found g c in
    record {
      room = omega (arith, c.len.ensures, c.if-len-self.false, r.held.ok.0);
      request = c.in-Some.request;
      mid = c.find_request-request.result.1;
      hops = c.hops_at-hops.result.now;
      looked_at = subst (λ (l : List ℕ). AreLookedAt c.args.hasty l c.hops_at-hops.result.now) c.as_slice.ensures.value c.hops_at-hops.ensures;
      first = f.0;
      waited = f.2;
      turned = c.turn-turned.result.0;
      turns = c.turn-turned.ensures.turned;
      knew = c.turn-turned.ensures.knew;
      line = last_is r.held.items c.push_reserved.new.self.items c.stage_of-stage.result (stage_of c.turn-turned.result.0) c.push_reserved.ensures.items c.stage_of-stage.ensures;
      same = refl;
    }

pub returns-then-len-self-clause-router : goal.returns-then-len-self-clause-router
returns-then-len-self-clause-router g c = c.requires.router

pub returns-then-len-self-clause-note : goal.returns-then-len-self-clause-note
returns-then-len-self-clause-note g c = c.requires.note

pub returns-then-len-self-clause-knew : goal.returns-then-len-self-clause-knew
returns-then-len-self-clause-knew g c = λ x has. has

pub returns-then-len-self-clause-below : goal.returns-then-len-self-clause-below
returns-then-len-self-clause-below g c = c.requires.below

pub find_request-request-requires-clause-note : goal.find_request-request-requires-clause-note
find_request-request-requires-clause-note g c = c.requires.note

pub find_request-request-requires-clause-below : goal.find_request-request-requires-clause-below
find_request-request-requires-clause-below g c = c.requires.below

pub returns-in_default-clause-note : goal.returns-in_default-clause-note
returns-in_default-clause-note g c = c.find_request-request.ensures.note

pub returns-in_default-clause-knew : goal.returns-in_default-clause-knew
returns-in_default-clause-knew g c = c.find_request-request.ensures.knew

pub returns-in_default-clause-below : goal.returns-in_default-clause-below
returns-in_default-clause-below g c = c.find_request-request.ensures.below

pub turn-turned-requires-clause-router : goal.turn-turned-requires-clause-router
turn-turned-requires-clause-router g c = c.requires.router.router

pub turn-turned-requires-clause-first : goal.turn-turned-requires-clause-first
turn-turned-requires-clause-first g c = c.requires.router.first

pub turn-turned-requires-clause-mode : goal.turn-turned-requires-clause-mode
turn-turned-requires-clause-mode g c = c.requires.router.accepts

pub turn-turned-requires-clause-note : goal.turn-turned-requires-clause-note
turn-turned-requires-clause-note g c = c.find_request-request.ensures.note

pub returns-clause-note : goal.returns-clause-note
returns-clause-note g c = c.turn-turned.ensures.note

pub returns-clause-knew : goal.returns-clause-knew
returns-clause-knew g c = within_on c.args.note.knows.known c.find_request-request.result.1.knows.known c.turn-turned.result.1.knows.known c.find_request-request.ensures.knew c.turn-turned.ensures.knew

pub turn-turned-requires-clause-request : goal.turn-turned-requires-clause-request
turn-turned-requires-clause-request g c =
    let f = subst (λ (o : Option RouterRequest). HasFoundRequest g.N.Naming.frame g.N.Naming.tokens c.args.self.now.router c.hops_at-hops.result.now c.args.note.knows c.find_request-request.result.1.knows o) c.in-Some.is c.find_request-request.ensures.found in
    f.2

pub returns-then-len-self-clause-adds : goal.returns-then-len-self-clause-adds
returns-then-len-self-clause-adds g c = λ before last took. cc

pub returns-in_default-clause-adds : goal.returns-in_default-clause-adds
returns-in_default-clause-adds g c = λ before last took. cc

pub returns-clause-adds : goal.returns-clause-adds
returns-clause-adds g c = λ before last took is down.
    let p = g.N.Naming.frame.world in
    let mid = c.find_request-request.result.1.knows in
    let back = c.turn-turned.result.1.knows in
    let stage = c.stage_of-stage.result in
    let x = c.in-Some.request.cargo.baton.txn in
    let same : stage ≡ last = last_same c.args.self.now.held.items before stage last (sym c.push_reserved.ensures.items ∙ is) in
    let a = turned_adds p x.initiator mid back c.turn-turned.result.0 stage c.stage_of-stage.ensures (ap is_down same ∙ down) c.turn-turned.ensures.adds in
    let r = (found g c).2 in
    let d = r.down in
    let k = d.asked in
    new_after (IsByRouter p) c.args.note.knows.known mid.known back.known c.find_request-request.ensures.knew (in_pool p mid back c.find_request-request.ensures.below x r.pass k.passes a)
