use Rattle.std.proofs.Common.{◌+◌, sym, subst}
use Rattle.router_moves.specs.Moves.{IsDone, IsOwing}
use Rattle.router_moves.specs.declared.items.Rest.{Rest}
use Rattle.router_node.proofs.Staged.{ends_above}
use Rattle.router_moves.proofs.Hops.{on_plan}
use Rattle.router_node.proofs.Adding.{at_hop, in_pool}
use Rattle.router_steps.proofs.tries.finish_one.Goals as goal

pub returns-in_default-clause-note : goal.returns-in_default-clause-note
returns-in_default-clause-note g c = c.requires.note

pub returns-in_default-clause-knew : goal.returns-in_default-clause-knew
returns-in_default-clause-knew g c = λ x has. has

pub returns-in_default-clause-below : goal.returns-in_default-clause-below
returns-in_default-clause-below g c = c.requires.below

pub returns-in_default-clause-tried : goal.returns-in_default-clause-tried
returns-in_default-clause-tried g c = λ count room. tt

pub release-note-requires-clause-note : goal.release-note-requires-clause-note
release-note-requires-clause-note g c = c.requires.note

pub release-note-requires-clause-done : goal.release-note-requires-clause-done
release-note-requires-clause-done g c = subst IsDone (sym c.in-At.is) tt

pub release-note-requires-clause-rest : goal.release-note-requires-clause-rest
release-note-requires-clause-rest g c =
    let known = c.args.note.knows.known in
    let e = ends_above g.N.Naming.frame g.N.Naming.tokens known known (λ x has. has) c.args.away c.in-Some.rest c.requires.away c.in-Some.is c.requires.ended in
    record { pass = e.pass; hop = e.hop; rest = e.rest }

pub returns-in-At-clause-note : goal.returns-in-At-clause-note
returns-in-At-clause-note g c = c.release-note.ensures.note

pub returns-in-At-clause-knew : goal.returns-in-At-clause-knew
returns-in-At-clause-knew g c = c.release-note.ensures.knew

pub returns-in-At-clause-below : goal.returns-in-At-clause-below
returns-in-At-clause-below g c = c.release-note.ensures.below

pub returns-in-At-clause-tried : goal.returns-in-At-clause-tried
returns-in-At-clause-tried g c = λ count room. tt

pub end_below-rest-requires-clause-note : goal.end_below-rest-requires-clause-note
end_below-rest-requires-clause-note g c = c.requires.note

pub end_below-rest-requires-clause-owed : goal.end_below-rest-requires-clause-owed
end_below-rest-requires-clause-owed g c = subst IsOwing (sym c.in-Owed.is) tt

pub end_below-rest-requires-clause-ended : goal.end_below-rest-requires-clause-ended
end_below-rest-requires-clause-ended g c =
    let known = c.args.note.knows.known in
    ends_above g.N.Naming.frame g.N.Naming.tokens known known (λ x has. has) c.args.away c.in-Some.rest c.requires.away c.in-Some.is c.requires.ended

pub returns-in-Owed-clause-note : goal.returns-in-Owed-clause-note
returns-in-Owed-clause-note g c = c.end_below-rest.ensures.note

pub returns-in-Owed-clause-knew : goal.returns-in-Owed-clause-knew
returns-in-Owed-clause-knew g c = c.end_below-rest.ensures.knew

pub returns-in-Owed-clause-below : goal.returns-in-Owed-clause-below
returns-in-Owed-clause-below g c = c.end_below-rest.ensures.below

pub returns-in-Owed-clause-tried : goal.returns-in-Owed-clause-tried
returns-in-Owed-clause-tried g c =
    let e = c.end_below-rest.ensures.ended in
    λ count room. (subst (λ (r : Rest). IsDone r.end) (sym e.same) tt, record { pass = e.pass; hop = e.hop; rest = e.rest })

pub returns-in_default-clause-adds : goal.returns-in_default-clause-adds
returns-in_default-clause-adds g c = tt

pub returns-in-At-clause-adds : goal.returns-in-At-clause-adds
returns-in-At-clause-adds g c =
    let known = c.args.note.knows.known in
    let e = ends_above g.N.Naming.frame g.N.Naming.tokens known known (λ x has. has) c.args.away c.in-Some.rest c.requires.away c.in-Some.is c.requires.ended in
    let r = e.rest in
    in_pool g.N.Naming.frame.world c.args.note.knows c.release-note.result.knows c.requires.below c.in-Some.rest.txn e.pass r.passes c.release-note.ensures.adds

pub returns-in-Owed-clause-adds : goal.returns-in-Owed-clause-adds
returns-in-Owed-clause-adds g c =
    let known = c.args.note.knows.known in
    let e = ends_above g.N.Naming.frame g.N.Naming.tokens known known (λ x has. has) c.args.away c.in-Some.rest c.requires.away c.in-Some.is c.requires.ended in
    let r = e.rest in
    at_hop g.N.Naming.frame.world c.args.note.knows c.end_below-rest.result.1.knows c.requires.below c.in-Some.rest.below (on_plan g.N.Naming.frame.world c.in-Some.rest.txn e.pass (e.hop + 1) c.in-Some.rest.below r.passes r.next r.below) c.end_below-rest.ensures.adds
