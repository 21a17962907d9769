use Rattle.std.proofs.Common.{◌≡◌, ℕ, List, Option, ◌<◌, sym, subst, ◌++◌, refl, ◌∙◌, arith, inl, inr}
use Rattle.route_plan.specs.Valid.{hop_count}
use Rattle.tlm_model.specs.declared.platform.Target.TheVariants.{Memory}
use Rattle.node_hops.specs.Hops.{IsHopTo}
use Rattle.node_hops.specs.Looks.{vain_looks}
use Rattle.target_node.specs.Node.{FindsFirst, HasLooked}
use Rattle.target_node.specs.declared.items.FromHop.{FromHop}
use Rattle.plat_net.specs.Places.{LeadsTo}
use Rattle.node_hops.specs.Steps.{IsByNode}
use Rattle.node_hops.proofs.News.{new_after}
use Rattle.target_node.proofs.Adds.{not_both, on_hop}
use Rattle.target_node.proofs.Keeps.{target_more}
use Rattle.node_hops.proofs.Looks.{within_on}
use Rattle.target_node.proofs.Steps.{taken_keeps, takes_in}
use Rattle.std.specs.List.{AllByRecursion}
use Rattle.target_node.proofs.node.TargetNode.take_in.Goals as goal

pub returns-in_default-clause-target : goal.returns-in_default-clause-target
returns-in_default-clause-target g c =
    target_more g.N.Naming.frame g.N.Naming.tokens c.args.note.knows.known c.fetch_first-fetched.result.1.knows.known c.fetch_first-fetched.ensures.knew c.args.self.now c.requires.target

-- what was fetched, from which hop
found : (g : _) (c : goal.After-notify g) → FindsFirst g.N.Naming.frame g.N.Naming.tokens c.args.self.now.memory c.args.self.now.accepts c.args.self.now.hops.items c.args.note.knows c.fetch_first-fetched.result.1.knows c.in-Some.field-0
found g c =
    let frame = g.N.Naming.frame in
    let t = c.args.self.now in
    subst (λ (xs : List ℕ). FindsFirst frame g.N.Naming.tokens t.memory t.accepts xs c.args.note.knows c.fetch_first-fetched.result.1.knows c.in-Some.field-0) c.as_slice.ensures.value
    (subst (λ (o : Option FromHop). HasLooked frame g.N.Naming.tokens t.memory t.accepts c.as_slice.result.now c.args.note.knows c.fetch_first-fetched.result.1.knows o) c.in-Some.is c.fetch_first-fetched.ensures.looked)

pub returns-clause-target : goal.returns-clause-target
returns-clause-target g c =
    let frame = g.N.Naming.frame in
    let e = c.end_owed-request.ensures in
    let here : c.end_owed-request.result.0.hop ≡ c.in-Some.field-0.request.hop = e.hop in
    taken_keeps frame g.N.Naming.tokens c.args.self.now c.args.note.knows.known c.end_owed-request.result.1.knows.known (within_on c.args.note.knows.known c.fetch_first-fetched.result.1.knows.known c.end_owed-request.result.1.knows.known c.fetch_first-fetched.ensures.knew e.knew) c.requires.target
    c.notify.new.self c.end_owed-request.result.0 c.saturating_add-at.result c.notify.ensures c.saturating_add-at.ensures (subst (λ (h : ℕ). h < hop_count frame.world.platform) (sym here) (found g c).below) e.waits

pub returns-clause-taken : goal.returns-clause-taken
returns-clause-taken g c =
    let frame = g.N.Naming.frame in
    let e = c.end_owed-request.ensures in
    let here : c.end_owed-request.result.0.hop ≡ c.in-Some.field-0.request.hop = e.hop in
    takes_in frame g.N.Naming.tokens c.args.self.now c.in-Some.field-0 c.end_owed-request.result.0 c.notify.new.self c.saturating_add-at.result c.args.note.knows c.fetch_first-fetched.result.1.knows c.end_owed-request.result.1.knows (found g c)
    c.notify.ensures c.saturating_add-at.ensures here e.waits
    e.looks

pub returns-then-len-room-clause-note : goal.returns-then-len-room-clause-note
returns-then-len-room-clause-note g c = c.requires.note

pub returns-then-len-room-clause-knew : goal.returns-then-len-room-clause-knew
returns-then-len-room-clause-knew g c = λ x has. has

pub returns-then-len-room-clause-below : goal.returns-then-len-room-clause-below
returns-then-len-room-clause-below g c = c.requires.below

pub returns-then-len-room-clause-target : goal.returns-then-len-room-clause-target
returns-then-len-room-clause-target g c = c.requires.target

pub returns-then-len-room-clause-taken : goal.returns-then-len-room-clause-taken
returns-then-len-room-clause-taken g c = record { same = refl; why = inl (sym c.len.ensures.count ∙ omega (arith, c.len.ensures.within, c.if-len-room.true, c.room.ensures), refl) }

pub fetch_first-fetched-requires-clause-memory : goal.fetch_first-fetched-requires-clause-memory
fetch_first-fetched-requires-clause-memory g c = c.requires.target.memory

pub fetch_first-fetched-requires-clause-hops : goal.fetch_first-fetched-requires-clause-hops
fetch_first-fetched-requires-clause-hops g c = subst (λ (l : List ℕ). AllByRecursion (λ (h : ℕ). IsHopTo g.N.Naming.frame.world (Memory c.args.self.now.memory) h) l) (sym c.as_slice.ensures.value) c.requires.target.hops

pub fetch_first-fetched-requires-clause-mode : goal.fetch_first-fetched-requires-clause-mode
fetch_first-fetched-requires-clause-mode g c = c.requires.target.accepts

pub fetch_first-fetched-requires-clause-note : goal.fetch_first-fetched-requires-clause-note
fetch_first-fetched-requires-clause-note g c = c.requires.note

pub fetch_first-fetched-requires-clause-below : goal.fetch_first-fetched-requires-clause-below
fetch_first-fetched-requires-clause-below g c = c.requires.below

pub returns-in_default-clause-note : goal.returns-in_default-clause-note
returns-in_default-clause-note g c = c.fetch_first-fetched.ensures.note

pub returns-in_default-clause-knew : goal.returns-in_default-clause-knew
returns-in_default-clause-knew g c = c.fetch_first-fetched.ensures.knew

pub returns-in_default-clause-below : goal.returns-in_default-clause-below
returns-in_default-clause-below g c = c.fetch_first-fetched.ensures.below

pub returns-in_default-clause-taken : goal.returns-in_default-clause-taken
returns-in_default-clause-taken g c =
    let f = subst (λ (o : Option FromHop). HasLooked g.N.Naming.frame g.N.Naming.tokens c.args.self.now.memory c.args.self.now.accepts c.as_slice.result.now c.args.note.knows c.fetch_first-fetched.result.1.knows o) c.in_default.is c.fetch_first-fetched.ensures.looked in
    record { same = refl; why = inr (subst (λ (l : List ℕ). c.fetch_first-fetched.result.1.knows.looks ≡ c.args.note.knows.looks ++ vain_looks g.N.Naming.frame.world 1 l) c.as_slice.ensures.value f) }

pub end_owed-request-requires-clause-memory : goal.end_owed-request-requires-clause-memory
end_owed-request-requires-clause-memory g c = c.requires.target.memory

pub end_owed-request-requires-clause-hop : goal.end_owed-request-requires-clause-hop
end_owed-request-requires-clause-hop g c =
    let f = subst (λ (o : Option FromHop). HasLooked g.N.Naming.frame g.N.Naming.tokens c.args.self.now.memory c.args.self.now.accepts c.as_slice.result.now c.args.note.knows c.fetch_first-fetched.result.1.knows o) c.in-Some.is c.fetch_first-fetched.ensures.looked in
    f.below

pub end_owed-request-requires-clause-note : goal.end_owed-request-requires-clause-note
end_owed-request-requires-clause-note g c = c.fetch_first-fetched.ensures.note

pub end_owed-request-requires-clause-below : goal.end_owed-request-requires-clause-below
end_owed-request-requires-clause-below g c = c.fetch_first-fetched.ensures.below

pub end_owed-request-requires-clause-fetched : goal.end_owed-request-requires-clause-fetched
end_owed-request-requires-clause-fetched g c =
    let f = subst (λ (o : Option FromHop). HasLooked g.N.Naming.frame g.N.Naming.tokens c.args.self.now.memory c.args.self.now.accepts c.as_slice.result.now c.args.note.knows c.fetch_first-fetched.result.1.knows o) c.in-Some.is c.fetch_first-fetched.ensures.looked in
    f.is

pub returns-clause-note : goal.returns-clause-note
returns-clause-note g c = c.end_owed-request.ensures.note

pub returns-clause-knew : goal.returns-clause-knew
returns-clause-knew g c = within_on c.args.note.knows.known c.fetch_first-fetched.result.1.knows.known c.end_owed-request.result.1.knows.known c.fetch_first-fetched.ensures.knew c.end_owed-request.ensures.knew

pub returns-clause-below : goal.returns-clause-below
returns-clause-below g c = c.end_owed-request.ensures.below

pub returns-then-len-room-clause-adds : goal.returns-then-len-room-clause-adds
returns-then-len-room-clause-adds g c = λ taken. absurd (not_both taken)

pub returns-in_default-clause-adds : goal.returns-in_default-clause-adds
returns-in_default-clause-adds g c = λ taken. absurd (not_both taken)

pub returns-clause-adds : goal.returns-clause-adds
returns-clause-adds g c =
    let p = g.N.Naming.frame.world in
    let m = c.args.self.now.memory in
    let e = c.end_owed-request.ensures in
    let q = e.waits.request in
    let was = c.args.note.knows in
    let then = c.fetch_first-fetched.result.1.knows in
    let is = c.end_owed-request.result.1.knows in
    let here : c.end_owed-request.result.0.hop ≡ c.in-Some.field-0.request.hop = e.hop in
    let leads = subst (λ (h : ℕ). LeadsTo p.platform h (Memory m)) here q.leads in
    λ taken mode. (
    new_after (IsByNode p (Memory m)) was.known then.known is.known c.fetch_first-fetched.ensures.knew
    (on_hop p m then is c.fetch_first-fetched.ensures.below c.in-Some.field-0.request.hop leads (e.adds mode))
    )
