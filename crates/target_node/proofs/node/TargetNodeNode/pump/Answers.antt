use Rattle.std.proofs.Common.{Bool, inl, inr, sym, subst, ◌∙◌}
use Rattle.target_node.specs.Node.{HasSent, HasServedFirst, HasTakenIn}
use Rattle.target_node.proofs.Steps.{does_nothing_empty, does_nothing_held, is_free, is_held, serves_one}
use Rattle.node_hops.proofs.Looks.{within_on}
use Rattle.target_node.proofs.node.TargetNodeNode.pump.Goals as goal

pub returns-then-taken-clause-pumped : goal.returns-then-taken-clause-pumped
returns-then-taken-clause-pumped g c =
    let frame = g.N.Naming.frame in
    inr (inl (record {
      tried = c.send-sent.new.self;
      then = c.send-sent.result.1.knows;
      not_sent = subst (λ (b : Bool). HasSent frame g.N.Naming.tokens c.args.self.now c.send-sent.new.self c.args.note.knows c.send-sent.result.1.knows b) c.if-sent.false c.send-sent.ensures.sent;
      takes = subst (λ (b : Bool). HasTakenIn frame g.N.Naming.tokens c.send-sent.new.self c.take_in-taken.new.self c.send-sent.result.1.knows c.take_in-taken.result.1.knows b) c.if-taken.true c.take_in-taken.ensures.taken;
    }))

pub returns-then-is_some-clause-pumped : goal.returns-then-is_some-clause-pumped
returns-then-is_some-clause-pumped g c =
    let frame = g.N.Naming.frame in
    does_nothing_held frame g.N.Naming.tokens c.args.self.now c.send-sent.new.self c.take_in-taken.new.self c.args.note.knows c.send-sent.result.1.knows c.take_in-taken.result.1.knows
    (subst (λ (b : Bool). HasSent frame g.N.Naming.tokens c.args.self.now c.send-sent.new.self c.args.note.knows c.send-sent.result.1.knows b) c.if-sent.false c.send-sent.ensures.sent)
    (subst (λ (b : Bool). HasTakenIn frame g.N.Naming.tokens c.send-sent.new.self c.take_in-taken.new.self c.send-sent.result.1.knows c.take_in-taken.result.1.knows b) c.if-taken.false c.take_in-taken.ensures.taken)
    (is_held c.take_in-taken.new.self.held (sym c.if-is_some.true ∙ c.is_some.ensures))

pub returns-then-not-served-clause-pumped : goal.returns-then-not-served-clause-pumped
returns-then-not-served-clause-pumped g c =
    let frame = g.N.Naming.frame in
    does_nothing_empty frame g.N.Naming.tokens c.args.self.now c.send-sent.new.self c.take_in-taken.new.self c.args.note.knows c.send-sent.result.1.knows c.take_in-taken.result.1.knows
    (subst (λ (b : Bool). HasSent frame g.N.Naming.tokens c.args.self.now c.send-sent.new.self c.args.note.knows c.send-sent.result.1.knows b) c.if-sent.false c.send-sent.ensures.sent)
    (subst (λ (b : Bool). HasTakenIn frame g.N.Naming.tokens c.send-sent.new.self c.take_in-taken.new.self c.send-sent.result.1.knows c.take_in-taken.result.1.knows b) c.if-taken.false c.take_in-taken.ensures.taken)
    c.serve_first-served.new.self c.serve_first-served.result.1.knows (is_free c.take_in-taken.new.self.held (sym c.if-is_some.false ∙ c.is_some.ensures))
    (subst (λ (b : Bool). HasServedFirst frame g.N.Naming.tokens c.take_in-taken.new.self c.serve_first-served.new.self c.take_in-taken.result.1.knows c.serve_first-served.result.1.knows b) c.if-not-served.true c.serve_first-served.ensures.served)

pub returns-clause-pumped : goal.returns-clause-pumped
returns-clause-pumped g c =
    let frame = g.N.Naming.frame in
    inr (inr (serves_one frame g.N.Naming.tokens c.args.self.now c.send-sent.new.self c.take_in-taken.new.self c.args.note.knows c.send-sent.result.1.knows c.take_in-taken.result.1.knows
    (subst (λ (b : Bool). HasSent frame g.N.Naming.tokens c.args.self.now c.send-sent.new.self c.args.note.knows c.send-sent.result.1.knows b) c.if-sent.false c.send-sent.ensures.sent)
    (subst (λ (b : Bool). HasTakenIn frame g.N.Naming.tokens c.send-sent.new.self c.take_in-taken.new.self c.send-sent.result.1.knows c.take_in-taken.result.1.knows b) c.if-taken.false c.take_in-taken.ensures.taken)
    c.serve_first-served.new.self c.send-note.new.self c.serve_first-served.result.1.knows c.send-note.result.1.knows c.send-note.result.0 (is_free c.take_in-taken.new.self.held (sym c.if-is_some.false ∙ c.is_some.ensures))
    (subst (λ (b : Bool). HasServedFirst frame g.N.Naming.tokens c.take_in-taken.new.self c.serve_first-served.new.self c.take_in-taken.result.1.knows c.serve_first-served.result.1.knows b) c.if-not-served.false c.serve_first-served.ensures.served)
    c.send-note.ensures.sent))

pub send-sent-requires-clause-target : goal.send-sent-requires-clause-target
send-sent-requires-clause-target g c = c.requires.node

pub send-sent-requires-clause-note : goal.send-sent-requires-clause-note
send-sent-requires-clause-note g c = c.requires.note

pub send-sent-requires-clause-below : goal.send-sent-requires-clause-below
send-sent-requires-clause-below g c = c.requires.below

pub returns-then-sent-clause-node : goal.returns-then-sent-clause-node
returns-then-sent-clause-node g c = c.send-sent.ensures.target

pub returns-then-sent-clause-note : goal.returns-then-sent-clause-note
returns-then-sent-clause-note g c = c.send-sent.ensures.note

pub returns-then-sent-clause-knew : goal.returns-then-sent-clause-knew
returns-then-sent-clause-knew g c = c.send-sent.ensures.knew

pub returns-then-sent-clause-below : goal.returns-then-sent-clause-below
returns-then-sent-clause-below g c = c.send-sent.ensures.below

pub returns-then-sent-clause-pumped : goal.returns-then-sent-clause-pumped
returns-then-sent-clause-pumped g c = inl (subst (λ (b : Bool). HasSent g.N.Naming.frame g.N.Naming.tokens c.args.self.now c.send-sent.new.self c.args.note.knows c.send-sent.result.1.knows b) c.if-sent.true c.send-sent.ensures.sent)

pub take_in-taken-requires-clause-target : goal.take_in-taken-requires-clause-target
take_in-taken-requires-clause-target g c = c.send-sent.ensures.target

pub take_in-taken-requires-clause-note : goal.take_in-taken-requires-clause-note
take_in-taken-requires-clause-note g c = c.send-sent.ensures.note

pub take_in-taken-requires-clause-below : goal.take_in-taken-requires-clause-below
take_in-taken-requires-clause-below g c = c.send-sent.ensures.below

pub returns-then-taken-clause-node : goal.returns-then-taken-clause-node
returns-then-taken-clause-node g c = c.take_in-taken.ensures.target

pub returns-then-taken-clause-note : goal.returns-then-taken-clause-note
returns-then-taken-clause-note g c = c.take_in-taken.ensures.note

pub returns-then-taken-clause-knew : goal.returns-then-taken-clause-knew
returns-then-taken-clause-knew g c = within_on c.args.note.knows.known c.send-sent.result.1.knows.known c.take_in-taken.result.1.knows.known c.send-sent.ensures.knew c.take_in-taken.ensures.knew

pub returns-then-taken-clause-below : goal.returns-then-taken-clause-below
returns-then-taken-clause-below g c = c.take_in-taken.ensures.below

pub returns-then-is_some-clause-node : goal.returns-then-is_some-clause-node
returns-then-is_some-clause-node g c = c.take_in-taken.ensures.target

pub returns-then-is_some-clause-note : goal.returns-then-is_some-clause-note
returns-then-is_some-clause-note g c = c.take_in-taken.ensures.note

pub returns-then-is_some-clause-knew : goal.returns-then-is_some-clause-knew
returns-then-is_some-clause-knew g c = within_on c.args.note.knows.known c.send-sent.result.1.knows.known c.take_in-taken.result.1.knows.known c.send-sent.ensures.knew c.take_in-taken.ensures.knew

pub returns-then-is_some-clause-below : goal.returns-then-is_some-clause-below
returns-then-is_some-clause-below g c = c.take_in-taken.ensures.below

pub serve_first-served-requires-clause-target : goal.serve_first-served-requires-clause-target
serve_first-served-requires-clause-target g c = c.take_in-taken.ensures.target

pub serve_first-served-requires-clause-note : goal.serve_first-served-requires-clause-note
serve_first-served-requires-clause-note g c = c.take_in-taken.ensures.note

pub serve_first-served-requires-clause-below : goal.serve_first-served-requires-clause-below
serve_first-served-requires-clause-below g c = c.take_in-taken.ensures.below

pub serve_first-served-requires-clause-free : goal.serve_first-served-requires-clause-free
serve_first-served-requires-clause-free g c = is_free c.take_in-taken.new.self.held (sym c.if-is_some.false ∙ c.is_some.ensures)

pub returns-then-not-served-clause-node : goal.returns-then-not-served-clause-node
returns-then-not-served-clause-node g c = c.serve_first-served.ensures.target

pub returns-then-not-served-clause-note : goal.returns-then-not-served-clause-note
returns-then-not-served-clause-note g c = c.serve_first-served.ensures.note

pub returns-then-not-served-clause-knew : goal.returns-then-not-served-clause-knew
returns-then-not-served-clause-knew g c = within_on c.args.note.knows.known c.take_in-taken.result.1.knows.known c.serve_first-served.result.1.knows.known (within_on c.args.note.knows.known c.send-sent.result.1.knows.known c.take_in-taken.result.1.knows.known c.send-sent.ensures.knew c.take_in-taken.ensures.knew) c.serve_first-served.ensures.knew

pub returns-then-not-served-clause-below : goal.returns-then-not-served-clause-below
returns-then-not-served-clause-below g c = c.serve_first-served.ensures.below

pub send-note-requires-clause-target : goal.send-note-requires-clause-target
send-note-requires-clause-target g c = c.serve_first-served.ensures.target

pub send-note-requires-clause-note : goal.send-note-requires-clause-note
send-note-requires-clause-note g c = c.serve_first-served.ensures.note

pub send-note-requires-clause-below : goal.send-note-requires-clause-below
send-note-requires-clause-below g c = c.serve_first-served.ensures.below

pub returns-clause-node : goal.returns-clause-node
returns-clause-node g c = c.send-note.ensures.target

pub returns-clause-note : goal.returns-clause-note
returns-clause-note g c = c.send-note.ensures.note

pub returns-clause-knew : goal.returns-clause-knew
returns-clause-knew g c = within_on c.args.note.knows.known c.serve_first-served.result.1.knows.known c.send-note.result.1.knows.known (within_on c.args.note.knows.known c.take_in-taken.result.1.knows.known c.serve_first-served.result.1.knows.known (within_on c.args.note.knows.known c.send-sent.result.1.knows.known c.take_in-taken.result.1.knows.known c.send-sent.ensures.knew c.take_in-taken.ensures.knew) c.serve_first-served.ensures.knew) c.send-note.ensures.knew

pub returns-clause-below : goal.returns-clause-below
returns-clause-below g c = c.send-note.ensures.below
