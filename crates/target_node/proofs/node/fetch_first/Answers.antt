use Rattle.std.proofs.Common.{◌≡◌, ◌++◌, [], ◌∷◌, get_or, Option, subst, ℕ}
use Rattle.tlm_model.specs.declared.platform.Target.TheVariants.{Memory}
use Rattle.target_node.specs.Items.{IsFetchedAs, fetch_look}
use Rattle.target_node.specs.declared.items.FromHop.{FromHop}
use Rattle.plat_net.specs.Places.{hop_place}
use Rattle.node_hops.specs.Hops.{IsHopTo}
use Rattle.node_hops.proofs.Looks.{each_at, looks_more, none_found, none_yet, of_some, within_on}
use Rattle.target_node.proofs.Looks.{found_first}
use Rattle.target_node.proofs.node.fetch_first.Goals as goal

pub returns-in-Some-clause-looked : goal.returns-in-Some-clause-looked
returns-in-Some-clause-looked g c =
    let frame = g.N.Naming.frame in
    let xs = c.args.hops.now in
    let i = c.loop-hop.hop-index in
    let f = c.in-Some.fetched in
    let e = c.fetch-fetched.ensures in
    let old = c.loop-hop.note.knows in
    let new = c.fetch-fetched.result.1.knows in
    found_first frame g.N.Naming.tokens c.args.memory c.args.accepts xs i c.args.note.knows old new f c.loop-hop-test.true c.requires.hops c.loop-hop.invariant.looks
    (subst (λ (o : Option FromHop). new.looks ≡ old.looks ++ (hop_place frame.world (get_or xs i 0), fetch_look o) ∷ []) c.in-Some.is e.look)
    (of_some (λ (q : FromHop). IsFetchedAs frame g.N.Naming.tokens c.args.memory (get_or xs i 0) c.args.accepts new.known q) c.fetch-fetched.result.0 f c.in-Some.is e.fetched)

pub loop-hop-preserved : goal.loop-hop-preserved
loop-hop-preserved g c =
    let frame = g.N.Naming.frame in
    let xs = c.args.hops.now in
    let i = c.loop-hop.hop-index in
    let e = c.fetch-fetched.ensures in
    let old = c.loop-hop.note.knows in
    let new = c.fetch-fetched.result.1.knows in
    record {
      note = e.note;
      knew = within_on c.args.note.knows.known old.known new.known c.loop-hop.invariant.knew e.knew;
      below = e.below;
      looks = looks_more frame.world 1 xs i c.args.note.knows.looks old.looks new.looks c.loop-hop-test.true c.loop-hop.invariant.looks (subst (λ (o : Option FromHop). new.looks ≡ old.looks ++ (hop_place frame.world (get_or xs i 0), fetch_look o) ∷ []) c.in_default.is e.look);
    }

pub loop-hop-init : goal.loop-hop-init
loop-hop-init g c =
    record {
      note = c.requires.note;
      knew = λ x has. has;
      below = c.requires.below;
      looks = none_yet c.args.note.knows.looks;
    }

pub fetch-fetched-requires-clause-memory : goal.fetch-fetched-requires-clause-memory
fetch-fetched-requires-clause-memory g c = c.requires.memory

pub fetch-fetched-requires-clause-hop : goal.fetch-fetched-requires-clause-hop
fetch-fetched-requires-clause-hop g c = (each_at (λ (h : ℕ). IsHopTo g.N.Naming.frame.world (Memory c.args.memory) h) c.args.hops.now c.loop-hop.hop-index 0 c.loop-hop-test.true c.requires.hops).there

pub fetch-fetched-requires-clause-leads : goal.fetch-fetched-requires-clause-leads
fetch-fetched-requires-clause-leads g c = (each_at (λ (h : ℕ). IsHopTo g.N.Naming.frame.world (Memory c.args.memory) h) c.args.hops.now c.loop-hop.hop-index 0 c.loop-hop-test.true c.requires.hops).leads

pub fetch-fetched-requires-clause-mode : goal.fetch-fetched-requires-clause-mode
fetch-fetched-requires-clause-mode g c = c.requires.mode

pub fetch-fetched-requires-clause-note : goal.fetch-fetched-requires-clause-note
fetch-fetched-requires-clause-note g c = c.loop-hop.invariant.note

pub returns-in-Some-clause-note : goal.returns-in-Some-clause-note
returns-in-Some-clause-note g c = c.fetch-fetched.ensures.note

pub returns-in-Some-clause-knew : goal.returns-in-Some-clause-knew
returns-in-Some-clause-knew g c = within_on c.args.note.knows.known c.loop-hop.note.knows.known c.fetch-fetched.result.1.knows.known c.loop-hop.invariant.knew c.fetch-fetched.ensures.knew

pub returns-in-Some-clause-below : goal.returns-in-Some-clause-below
returns-in-Some-clause-below g c = c.fetch-fetched.ensures.below

pub returns-clause-note : goal.returns-clause-note
returns-clause-note g c = c.loop-hop.invariant.note

pub returns-clause-knew : goal.returns-clause-knew
returns-clause-knew g c = c.loop-hop.invariant.knew

pub returns-clause-below : goal.returns-clause-below
returns-clause-below g c = c.loop-hop.invariant.below

pub returns-clause-looked : goal.returns-clause-looked
returns-clause-looked g c = none_found g.N.Naming.frame.world 1 c.args.hops.now c.loop-hop.hop-index c.args.note.knows.looks c.loop-hop.note.knows.looks c.loop-hop-test.false c.loop-hop.invariant.looks
