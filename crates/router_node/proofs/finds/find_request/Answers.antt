use Rattle.std.proofs.Common.{◌≡◌, ◌++◌, ℕ, ◌<◌, [], ◌∷◌, get_or, Option, sym, subst}
use Rattle.plat_net.specs.Places.{hop_place}
use Rattle.route_plan.specs.Valid.{hop_count}
use Rattle.tlm_model.specs.declared.platform.Target.TheVariants.{Router}
use Rattle.node_hops.specs.Hops.{IsHopTo}
use Rattle.node_hops.specs.Looks.{IsFirst}
use Rattle.router_moves.specs.Items.{IsRequest}
use Rattle.router_moves.specs.Moves.{fetch_look}
use Rattle.router_moves.specs.declared.items.RouterRequest.{RouterRequest}
use Rattle.node_hops.proofs.Looks.{each_at, is_first, looks_more, of_some, within_on, none_found, none_yet}
use Rattle.router_node.proofs.finds.find_request.Goals as goal

pub returns-in-Some-clause-found : goal.returns-in-Some-clause-found
returns-in-Some-clause-found g c =
    let frame = g.N.Naming.frame in
    let xs = c.args.hops.now in
    let i = c.loop-hop.hop-index in
    let new = c.fetch_down-request.result.1.knows in
    let hop = each_at (λ (h : ℕ). IsHopTo frame.world (Router c.args.router) h) xs i 0 c.loop-hop-test.true c.requires.hops in
    let f = of_some (λ (r : RouterRequest). (r.hop ≡ get_or xs i 0) × IsRequest frame g.N.Naming.tokens new.known c.args.router r) c.fetch_down-request.result.0 c.in-Some.request c.in-Some.is c.fetch_down-request.ensures.fetched in
    let old = c.loop-hop.note.knows in (
      subst (λ (n : ℕ). IsFirst frame.world 1 xs n c.args.note.knows.looks new.looks) (sym f.0)
          (is_first frame.world 1 xs i c.args.note.knows.looks old.looks new.looks c.loop-hop-test.true c.loop-hop.invariant.looks (subst (λ (o : Option RouterRequest). new.looks ≡ old.looks ++ (hop_place frame.world (get_or xs i 0), fetch_look o) ∷ []) c.in-Some.is c.fetch_down-request.ensures.look)),
      subst (λ (n : ℕ). n < hop_count frame.world.platform) (sym f.0) hop.there,
      f.1,
    )

pub loop-hop-preserved : goal.loop-hop-preserved
loop-hop-preserved g c =
    let frame = g.N.Naming.frame in
    let xs = c.args.hops.now in
    let i = c.loop-hop.hop-index in
    let e = c.fetch_down-request.ensures in
    let old = c.loop-hop.note.knows in
    let new = c.fetch_down-request.result.1.knows in
    record {
      note = e.note;
      knew = within_on c.args.note.knows.known old.known new.known c.loop-hop.invariant.knew e.knew;
      below = e.below;
      looks = looks_more frame.world 1 xs i c.args.note.knows.looks old.looks new.looks c.loop-hop-test.true c.loop-hop.invariant.looks (subst (λ (o : Option RouterRequest). new.looks ≡ old.looks ++ (hop_place frame.world (get_or xs i 0), fetch_look o) ∷ []) c.in_default.is e.look);
    }

pub loop-hop-init : goal.loop-hop-init
loop-hop-init g c =
    record {
      note = c.requires.note;
      knew = λ x has. has;
      below = c.requires.below;
      looks = none_yet c.args.note.knows.looks;
    }

pub fetch_down-request-requires-clause-hop : goal.fetch_down-request-requires-clause-hop
fetch_down-request-requires-clause-hop g c = (each_at (λ (h : ℕ). IsHopTo g.N.Naming.frame.world (Router c.args.router) h) c.args.hops.now c.loop-hop.hop-index 0 c.loop-hop-test.true c.requires.hops).there

pub fetch_down-request-requires-clause-leads : goal.fetch_down-request-requires-clause-leads
fetch_down-request-requires-clause-leads g c = (each_at (λ (h : ℕ). IsHopTo g.N.Naming.frame.world (Router c.args.router) h) c.args.hops.now c.loop-hop.hop-index 0 c.loop-hop-test.true c.requires.hops).leads

pub fetch_down-request-requires-clause-note : goal.fetch_down-request-requires-clause-note
fetch_down-request-requires-clause-note g c = c.loop-hop.invariant.note

pub returns-in-Some-clause-note : goal.returns-in-Some-clause-note
returns-in-Some-clause-note g c = c.fetch_down-request.ensures.note

pub returns-in-Some-clause-knew : goal.returns-in-Some-clause-knew
returns-in-Some-clause-knew g c = within_on c.args.note.knows.known c.loop-hop.note.knows.known c.fetch_down-request.result.1.knows.known c.loop-hop.invariant.knew c.fetch_down-request.ensures.knew

pub returns-in-Some-clause-below : goal.returns-in-Some-clause-below
returns-in-Some-clause-below g c = c.fetch_down-request.ensures.below

pub returns-clause-note : goal.returns-clause-note
returns-clause-note g c = c.loop-hop.invariant.note

pub returns-clause-knew : goal.returns-clause-knew
returns-clause-knew g c = c.loop-hop.invariant.knew

pub returns-clause-below : goal.returns-clause-below
returns-clause-below g c = c.loop-hop.invariant.below

pub returns-clause-found : goal.returns-clause-found
returns-clause-found g c = none_found g.N.Naming.frame.world 1 c.args.hops.now c.loop-hop.hop-index c.args.note.knows.looks c.loop-hop.note.knows.looks c.loop-hop-test.false c.loop-hop.invariant.looks
