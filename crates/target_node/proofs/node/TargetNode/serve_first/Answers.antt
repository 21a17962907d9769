use Rattle.std.proofs.Common.{◌≡◌, ℕ, ◌∷◌, Option, sym, ap, ◌∙◌}
use Rattle.std.specs.Prelude.{is_some}
use Rattle.target_node.specs.declared.items.MemoryRequest.{MemoryRequest}
use Rattle.node_hops.proofs.Looks.{of_some}
use Rattle.target_node.proofs.Adds.{not_both, on_memory}
use Rattle.target_node.proofs.Keeps.{latency_there}
use Rattle.target_node.proofs.Steps.{first_of, gives_first, served_keeps, serves_first}
use Rattle.target_node.proofs.node.TargetNode.serve_first.Goals as goal

pub unreachable-requires : goal.unreachable-requires
unreachable-requires g c = gives_first c.args.self.now.queue.entries c.in-Some.now (sym c.in-Some.is ∙ c.next_time.ensures.first) (c.pop.ensures.none.0 (ap (λ (o : Option (ℕ × MemoryRequest)). is_some o) c.in_default-pop.is))

-- what was popped was the first
pub serve-response-requires-clause-latency : goal.serve-response-requires-clause-latency
serve-response-requires-clause-latency g c =
    let t = c.args.self.now in
    let first = of_some (λ (e : ℕ × MemoryRequest). t.queue.entries ≡ e ∷ c.pop.new.self.entries) c.pop.result (c.in-Some-pop.field-0-0, c.in-Some-pop.request) c.in-Some-pop.is c.pop.ensures.first in
    latency_there g.N.Naming.frame g.N.Naming.tokens t c.args.note.knows.known c.requires.target c.in-Some-pop.request (first_of g.N.Naming.frame g.N.Naming.tokens t c.args.note.knows.known c.args.note.knows.known (λ x has. has) c.requires.target (c.in-Some-pop.field-0-0, c.in-Some-pop.request) c.pop.new.self.entries first).0.waits

pub returns-clause-target : goal.returns-clause-target
returns-clause-target g c =
    let t = c.args.self.now in
    let first = of_some (λ (e : ℕ × MemoryRequest). t.queue.entries ≡ e ∷ c.pop.new.self.entries) c.pop.result (c.in-Some-pop.field-0-0, c.in-Some-pop.request) c.in-Some-pop.is c.pop.ensures.first in
    served_keeps g.N.Naming.frame g.N.Naming.tokens t c.args.note.knows.known c.serve-response.result.1.knows.known c.serve-response.ensures.knew c.requires.target c.pop.new.self (c.in-Some-pop.field-0-0, c.in-Some-pop.request) c.serve-response.result.0 c.pop.ensures.room first c.serve-response.ensures.served

pub returns-clause-served : goal.returns-clause-served
returns-clause-served g c =
    let t = c.args.self.now in
    let first = of_some (λ (e : ℕ × MemoryRequest). t.queue.entries ≡ e ∷ c.pop.new.self.entries) c.pop.result (c.in-Some-pop.field-0-0, c.in-Some-pop.request) c.in-Some-pop.is c.pop.ensures.first in
    serves_first g.N.Naming.frame g.N.Naming.tokens t c.pop.new.self (c.in-Some-pop.field-0-0, c.in-Some-pop.request) c.serve-response.result.0 c.args.note.knows c.serve-response.result.1.knows c.pop.ensures.room first c.serve-response.ensures.served c.serve-response.ensures.look

pub returns-in_default-clause-note : goal.returns-in_default-clause-note
returns-in_default-clause-note g c = c.requires.note

pub returns-in_default-clause-knew : goal.returns-in_default-clause-knew
returns-in_default-clause-knew g c = λ x has. has

pub returns-in_default-clause-below : goal.returns-in_default-clause-below
returns-in_default-clause-below g c = c.requires.below

pub returns-in_default-clause-target : goal.returns-in_default-clause-target
returns-in_default-clause-target g c = c.requires.target

pub serve-response-requires-clause-memory : goal.serve-response-requires-clause-memory
serve-response-requires-clause-memory g c = c.requires.target.memory

pub serve-response-requires-clause-note : goal.serve-response-requires-clause-note
serve-response-requires-clause-note g c = c.requires.note

pub returns-clause-note : goal.returns-clause-note
returns-clause-note g c = c.serve-response.ensures.note

pub returns-clause-knew : goal.returns-clause-knew
returns-clause-knew g c = c.serve-response.ensures.knew

pub returns-clause-below : goal.returns-clause-below
returns-clause-below g c = c.serve-response.ensures.below

pub returns-in_default-clause-adds : goal.returns-in_default-clause-adds
returns-in_default-clause-adds g c = λ served. absurd (not_both served)

pub returns-clause-adds : goal.returns-clause-adds
returns-clause-adds g c =
    let t = c.args.self.now in
    let known = c.args.note.knows.known in
    let r = c.in-Some-pop.request in
    let first = of_some (λ (e : ℕ × MemoryRequest). t.queue.entries ≡ e ∷ c.pop.new.self.entries) c.pop.result (c.in-Some-pop.field-0-0, r) c.in-Some-pop.is c.pop.ensures.first in
    let waits = (first_of g.N.Naming.frame g.N.Naming.tokens t known known (λ x has. has) c.requires.target (c.in-Some-pop.field-0-0, r) c.pop.new.self.entries first).0.waits in
    let q = waits.request in
    λ served. on_memory g.N.Naming.frame.world t.memory c.args.note.knows c.serve-response.result.1.knows c.requires.below r.cargo.baton.txn waits.pass q.fetched.down.asked.passes c.serve-response.ensures.adds
