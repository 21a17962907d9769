use Rattle.std.proofs.Common.{◌≡◌, ◌++◌, ℕ, [], ◌∷◌, get_or, Option, subst}
use Rattle.plat_net.specs.Places.{hop_place}
use Rattle.router_node.specs.Finds.{IsHopBelow}
use Rattle.router_moves.specs.Moves.{HasFetchedUp, up_look}
use Rattle.router_moves.specs.declared.up.FromBelow.{FromBelow}
use Rattle.node_hops.proofs.Looks.{each_at, is_first, looks_more, of_some, within_on, none_found, none_yet}
use Rattle.router_node.proofs.finds.find_back.Goals as goal

pub returns-in-Some-clause-found : goal.returns-in-Some-clause-found
returns-in-Some-clause-found g c =
    let frame = g.N.Naming.frame in
    let xs = c.args.hops.now in
    let i = c.loop-hop.hop-index in
    let new = c.fetch_up-fetched.result.1.knows in
    let old = c.loop-hop.note.knows in (
      is_first frame.world 2 xs i c.args.note.knows.looks old.looks new.looks c.loop-hop-test.true c.loop-hop.invariant.looks (subst (λ (o : Option FromBelow). new.looks ≡ old.looks ++ (hop_place frame.world (get_or xs i 0), up_look o) ∷ []) c.in-Some.is c.fetch_up-fetched.ensures.look),
      record {
        below = each_at (λ (h : ℕ). IsHopBelow frame.world h) xs i 0 c.loop-hop-test.true c.requires.hops;
        fetched = of_some (λ (f : FromBelow). HasFetchedUp frame g.N.Naming.tokens new.known (get_or xs i 0) f) c.fetch_up-fetched.result.0 c.in-Some.fetched c.in-Some.is c.fetch_up-fetched.ensures.fetched;
      },
    )

pub loop-hop-preserved : goal.loop-hop-preserved
loop-hop-preserved g c =
    let frame = g.N.Naming.frame in
    let xs = c.args.hops.now in
    let i = c.loop-hop.hop-index in
    let e = c.fetch_up-fetched.ensures in
    let old = c.loop-hop.note.knows in
    let new = c.fetch_up-fetched.result.1.knows in
    record {
      note = e.note;
      knew = within_on c.args.note.knows.known old.known new.known c.loop-hop.invariant.knew e.knew;
      below = e.below;
      looks = looks_more frame.world 2 xs i c.args.note.knows.looks old.looks new.looks c.loop-hop-test.true c.loop-hop.invariant.looks (subst (λ (o : Option FromBelow). new.looks ≡ old.looks ++ (hop_place frame.world (get_or xs i 0), up_look o) ∷ []) c.in_default.is e.look);
    }

pub loop-hop-init : goal.loop-hop-init
loop-hop-init g c =
    record {
      note = c.requires.note;
      knew = λ x has. has;
      below = c.requires.below;
      looks = none_yet c.args.note.knows.looks;
    }

pub fetch_up-fetched-requires-clause-hop : goal.fetch_up-fetched-requires-clause-hop
fetch_up-fetched-requires-clause-hop g c = (each_at (λ (h : ℕ). IsHopBelow g.N.Naming.frame.world h) c.args.hops.now c.loop-hop.hop-index 0 c.loop-hop-test.true c.requires.hops).there

pub fetch_up-fetched-requires-clause-window : goal.fetch_up-fetched-requires-clause-window
fetch_up-fetched-requires-clause-window g c = (each_at (λ (h : ℕ). IsHopBelow g.N.Naming.frame.world h) c.args.hops.now c.loop-hop.hop-index 0 c.loop-hop-test.true c.requires.hops).window

pub fetch_up-fetched-requires-clause-note : goal.fetch_up-fetched-requires-clause-note
fetch_up-fetched-requires-clause-note g c = c.loop-hop.invariant.note

pub returns-in-Some-clause-note : goal.returns-in-Some-clause-note
returns-in-Some-clause-note g c = c.fetch_up-fetched.ensures.note

pub returns-in-Some-clause-knew : goal.returns-in-Some-clause-knew
returns-in-Some-clause-knew g c = within_on c.args.note.knows.known c.loop-hop.note.knows.known c.fetch_up-fetched.result.1.knows.known c.loop-hop.invariant.knew c.fetch_up-fetched.ensures.knew

pub returns-in-Some-clause-below : goal.returns-in-Some-clause-below
returns-in-Some-clause-below g c = c.fetch_up-fetched.ensures.below

pub returns-clause-note : goal.returns-clause-note
returns-clause-note g c = c.loop-hop.invariant.note

pub returns-clause-knew : goal.returns-clause-knew
returns-clause-knew g c = c.loop-hop.invariant.knew

pub returns-clause-below : goal.returns-clause-below
returns-clause-below g c = c.loop-hop.invariant.below

pub returns-clause-found : goal.returns-clause-found
returns-clause-found g c = none_found g.N.Naming.frame.world 2 c.args.hops.now c.loop-hop.hop-index c.args.note.knows.looks c.loop-hop.note.knows.looks c.loop-hop-test.false c.loop-hop.invariant.looks
