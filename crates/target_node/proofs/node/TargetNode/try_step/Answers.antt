use Rattle.std.proofs.Common.{Bool, inl, inr, sym, subst, ◌∙◌}
use Rattle.target_node.specs.Node.{HasSent, HasServedFirst, HasTakenIn}
use Rattle.node_hops.proofs.Looks.{within_on}
use Rattle.target_node.proofs.Adds.{new_since, same_on, sent_same, served_same, taken_same, tried_taken}
use Rattle.target_node.proofs.Steps.{does_nothing_empty, does_nothing_held, is_free, is_held, serves_next}
use Rattle.target_node.proofs.node.TargetNode.try_step.Goals as goal

pub send-sent-requires-clause-target : goal.send-sent-requires-clause-target
send-sent-requires-clause-target g c = c.requires.target

pub send-sent-requires-clause-note : goal.send-sent-requires-clause-note
send-sent-requires-clause-note g c = c.requires.note

pub send-sent-requires-clause-below : goal.send-sent-requires-clause-below
send-sent-requires-clause-below g c = c.requires.below

pub returns-then-sent-clause-target : goal.returns-then-sent-clause-target
returns-then-sent-clause-target g c = c.send-sent.ensures.target

pub returns-then-sent-clause-note : goal.returns-then-sent-clause-note
returns-then-sent-clause-note g c = c.send-sent.ensures.note

pub returns-then-sent-clause-knew : goal.returns-then-sent-clause-knew
returns-then-sent-clause-knew g c = c.send-sent.ensures.knew

pub returns-then-sent-clause-below : goal.returns-then-sent-clause-below
returns-then-sent-clause-below g c = c.send-sent.ensures.below

pub returns-then-sent-clause-same : goal.returns-then-sent-clause-same
returns-then-sent-clause-same g c =
    let s = sent_same g.N.Naming.frame g.N.Naming.tokens c.args.self.now c.send-sent.new.self c.args.note.knows c.send-sent.result.1.knows c.send-sent.result.0 c.send-sent.ensures.sent in
    s.memory

pub returns-then-sent-clause-tried : goal.returns-then-sent-clause-tried
returns-then-sent-clause-tried g c = (
  inl (subst (λ (b : Bool). HasSent g.N.Naming.frame g.N.Naming.tokens c.args.self.now c.send-sent.new.self c.args.note.knows c.send-sent.result.1.knows b) c.if-sent.true c.send-sent.ensures.sent),
  c.send-sent.ensures.adds c.if-sent.true,
)

pub take_in-taken-requires-clause-target : goal.take_in-taken-requires-clause-target
take_in-taken-requires-clause-target g c = c.send-sent.ensures.target

pub take_in-taken-requires-clause-note : goal.take_in-taken-requires-clause-note
take_in-taken-requires-clause-note g c = c.send-sent.ensures.note

pub take_in-taken-requires-clause-below : goal.take_in-taken-requires-clause-below
take_in-taken-requires-clause-below g c = c.send-sent.ensures.below

pub returns-then-taken-clause-target : goal.returns-then-taken-clause-target
returns-then-taken-clause-target g c = c.take_in-taken.ensures.target

pub returns-then-taken-clause-note : goal.returns-then-taken-clause-note
returns-then-taken-clause-note g c = c.take_in-taken.ensures.note

pub returns-then-taken-clause-knew : goal.returns-then-taken-clause-knew
returns-then-taken-clause-knew g c = within_on c.args.note.knows.known c.send-sent.result.1.knows.known c.take_in-taken.result.1.knows.known c.send-sent.ensures.knew c.take_in-taken.ensures.knew

pub returns-then-taken-clause-below : goal.returns-then-taken-clause-below
returns-then-taken-clause-below g c = c.take_in-taken.ensures.below

pub returns-then-is_some-clause-target : goal.returns-then-is_some-clause-target
returns-then-is_some-clause-target g c = c.take_in-taken.ensures.target

pub returns-then-is_some-clause-note : goal.returns-then-is_some-clause-note
returns-then-is_some-clause-note g c = c.take_in-taken.ensures.note

pub returns-then-is_some-clause-knew : goal.returns-then-is_some-clause-knew
returns-then-is_some-clause-knew g c = within_on c.args.note.knows.known c.send-sent.result.1.knows.known c.take_in-taken.result.1.knows.known c.send-sent.ensures.knew c.take_in-taken.ensures.knew

pub returns-then-is_some-clause-below : goal.returns-then-is_some-clause-below
returns-then-is_some-clause-below g c = c.take_in-taken.ensures.below

pub serve_first-served-requires-clause-target : goal.serve_first-served-requires-clause-target
serve_first-served-requires-clause-target g c = c.take_in-taken.ensures.target

pub serve_first-served-requires-clause-note : goal.serve_first-served-requires-clause-note
serve_first-served-requires-clause-note g c = c.take_in-taken.ensures.note

pub serve_first-served-requires-clause-below : goal.serve_first-served-requires-clause-below
serve_first-served-requires-clause-below g c = c.take_in-taken.ensures.below

pub serve_first-served-requires-clause-free : goal.serve_first-served-requires-clause-free
serve_first-served-requires-clause-free g c = is_free c.take_in-taken.new.self.held (sym c.if-is_some.false ∙ c.is_some.ensures)

pub returns-then-taken-clause-same : goal.returns-then-taken-clause-same
returns-then-taken-clause-same g c =
    let frame = g.N.Naming.frame in
    let old = c.args.self.now in
    let tried = c.send-sent.new.self in
    let new = c.take_in-taken.new.self in
    let was = c.args.note.knows in
    let mid = c.send-sent.result.1.knows in
    let is = c.take_in-taken.result.1.knows in
    let a = sent_same frame g.N.Naming.tokens old tried was mid c.send-sent.result.0 c.send-sent.ensures.sent in
    let b = same_on frame g.N.Naming.tokens old tried new a (taken_same frame g.N.Naming.tokens tried new mid is c.take_in-taken.result.0 c.take_in-taken.ensures.taken) in
    b.memory

pub returns-then-taken-clause-tried : goal.returns-then-taken-clause-tried
returns-then-taken-clause-tried g c =
    let frame = g.N.Naming.frame in
    let old = c.args.self.now in
    let tried = c.send-sent.new.self in
    let new = c.take_in-taken.new.self in
    let was = c.args.note.knows in
    let mid = c.send-sent.result.1.knows in
    let is = c.take_in-taken.result.1.knows in
    let a = sent_same frame g.N.Naming.tokens old tried was mid c.send-sent.result.0 c.send-sent.ensures.sent in
    let b = same_on frame g.N.Naming.tokens old tried new a (taken_same frame g.N.Naming.tokens tried new mid is c.take_in-taken.result.0 c.take_in-taken.ensures.taken) in
    tried_taken frame g.N.Naming.tokens old new was is new.accepts c.taken_as.result c.taken_as.ensures (sym b.accepts)
    (λ mode. new_since frame g.N.Naming.tokens old tried was.known mid.known is.known a c.send-sent.ensures.knew (c.take_in-taken.ensures.adds c.if-taken.true (a.accepts ∙ mode)))
    (record { tried = tried; then = mid; not_sent = subst (λ (b : Bool). HasSent frame g.N.Naming.tokens old tried was mid b) c.if-sent.false c.send-sent.ensures.sent; takes = subst (λ (b : Bool). HasTakenIn frame g.N.Naming.tokens tried new mid is b) c.if-taken.true c.take_in-taken.ensures.taken })

pub returns-then-is_some-clause-same : goal.returns-then-is_some-clause-same
returns-then-is_some-clause-same g c =
    let frame = g.N.Naming.frame in
    let old = c.args.self.now in
    let tried = c.send-sent.new.self in
    let new = c.take_in-taken.new.self in
    let was = c.args.note.knows in
    let mid = c.send-sent.result.1.knows in
    let is = c.take_in-taken.result.1.knows in
    let a = sent_same frame g.N.Naming.tokens old tried was mid c.send-sent.result.0 c.send-sent.ensures.sent in
    let b = same_on frame g.N.Naming.tokens old tried new a (taken_same frame g.N.Naming.tokens tried new mid is c.take_in-taken.result.0 c.take_in-taken.ensures.taken) in
    b.memory

pub returns-then-is_some-clause-tried : goal.returns-then-is_some-clause-tried
returns-then-is_some-clause-tried g c =
    let frame = g.N.Naming.frame in
    let old = c.args.self.now in
    let tried = c.send-sent.new.self in
    let new = c.take_in-taken.new.self in
    let was = c.args.note.knows in
    let mid = c.send-sent.result.1.knows in
    let is = c.take_in-taken.result.1.knows in
    does_nothing_held frame g.N.Naming.tokens old tried new was mid is
    (subst (λ (b : Bool). HasSent frame g.N.Naming.tokens old tried was mid b) c.if-sent.false c.send-sent.ensures.sent)
    (subst (λ (b : Bool). HasTakenIn frame g.N.Naming.tokens tried new mid is b) c.if-taken.false c.take_in-taken.ensures.taken)
    (is_held new.held (sym c.if-is_some.true ∙ c.is_some.ensures))

pub returns-then-served-clause-target : goal.returns-then-served-clause-target
returns-then-served-clause-target g c =
    c.serve_first-served.ensures.target

pub returns-then-served-clause-note : goal.returns-then-served-clause-note
returns-then-served-clause-note g c =
    c.serve_first-served.ensures.note

pub returns-then-served-clause-knew : goal.returns-then-served-clause-knew
returns-then-served-clause-knew g c =
    let frame = g.N.Naming.frame in
    let old = c.args.self.now in
    let tried = c.send-sent.new.self in
    let new = c.take_in-taken.new.self in
    let was = c.args.note.knows in
    let mid = c.send-sent.result.1.knows in
    let is = c.take_in-taken.result.1.knows in
    let end = c.serve_first-served.result.1.knows in
    within_on was.known is.known end.known (within_on was.known mid.known is.known c.send-sent.ensures.knew c.take_in-taken.ensures.knew) c.serve_first-served.ensures.knew

pub returns-then-served-clause-below : goal.returns-then-served-clause-below
returns-then-served-clause-below g c =
    c.serve_first-served.ensures.below

pub returns-then-served-clause-same : goal.returns-then-served-clause-same
returns-then-served-clause-same g c =
    let frame = g.N.Naming.frame in
    let old = c.args.self.now in
    let tried = c.send-sent.new.self in
    let new = c.take_in-taken.new.self in
    let was = c.args.note.knows in
    let mid = c.send-sent.result.1.knows in
    let is = c.take_in-taken.result.1.knows in
    let end = c.serve_first-served.result.1.knows in
    let a = sent_same frame g.N.Naming.tokens old tried was mid c.send-sent.result.0 c.send-sent.ensures.sent in
    let b = same_on frame g.N.Naming.tokens old tried new a (taken_same frame g.N.Naming.tokens tried new mid is c.take_in-taken.result.0 c.take_in-taken.ensures.taken) in
    let d = same_on frame g.N.Naming.tokens old new c.serve_first-served.new.self b (served_same frame g.N.Naming.tokens new c.serve_first-served.new.self is end c.serve_first-served.result.0 c.serve_first-served.ensures.served) in
    d.memory

pub returns-then-served-clause-tried : goal.returns-then-served-clause-tried
returns-then-served-clause-tried g c =
    let frame = g.N.Naming.frame in
    let old = c.args.self.now in
    let tried = c.send-sent.new.self in
    let new = c.take_in-taken.new.self in
    let was = c.args.note.knows in
    let mid = c.send-sent.result.1.knows in
    let is = c.take_in-taken.result.1.knows in
    let end = c.serve_first-served.result.1.knows in
    let a = sent_same frame g.N.Naming.tokens old tried was mid c.send-sent.result.0 c.send-sent.ensures.sent in
    let b = same_on frame g.N.Naming.tokens old tried new a (taken_same frame g.N.Naming.tokens tried new mid is c.take_in-taken.result.0 c.take_in-taken.ensures.taken) in (
      inr (inr (serves_next frame g.N.Naming.tokens old tried new was mid is
          (subst (λ (b : Bool). HasSent frame g.N.Naming.tokens old tried was mid b) c.if-sent.false c.send-sent.ensures.sent)
          (subst (λ (b : Bool). HasTakenIn frame g.N.Naming.tokens tried new mid is b) c.if-taken.false c.take_in-taken.ensures.taken)
          c.serve_first-served.new.self end (is_free new.held (sym c.if-is_some.false ∙ c.is_some.ensures))
          (subst (λ (b : Bool). HasServedFirst frame g.N.Naming.tokens new c.serve_first-served.new.self is end b) c.if-served.true c.serve_first-served.ensures.served))),
      new_since frame g.N.Naming.tokens old new was.known is.known end.known b (within_on was.known mid.known is.known c.send-sent.ensures.knew c.take_in-taken.ensures.knew) (c.serve_first-served.ensures.adds c.if-served.true),
    )

pub returns-clause-target : goal.returns-clause-target
returns-clause-target g c =
    c.serve_first-served.ensures.target

pub returns-clause-note : goal.returns-clause-note
returns-clause-note g c =
    c.serve_first-served.ensures.note

pub returns-clause-knew : goal.returns-clause-knew
returns-clause-knew g c =
    let frame = g.N.Naming.frame in
    let old = c.args.self.now in
    let tried = c.send-sent.new.self in
    let new = c.take_in-taken.new.self in
    let was = c.args.note.knows in
    let mid = c.send-sent.result.1.knows in
    let is = c.take_in-taken.result.1.knows in
    let end = c.serve_first-served.result.1.knows in
    within_on was.known is.known end.known (within_on was.known mid.known is.known c.send-sent.ensures.knew c.take_in-taken.ensures.knew) c.serve_first-served.ensures.knew

pub returns-clause-below : goal.returns-clause-below
returns-clause-below g c =
    c.serve_first-served.ensures.below

pub returns-clause-same : goal.returns-clause-same
returns-clause-same g c =
    let frame = g.N.Naming.frame in
    let old = c.args.self.now in
    let tried = c.send-sent.new.self in
    let new = c.take_in-taken.new.self in
    let was = c.args.note.knows in
    let mid = c.send-sent.result.1.knows in
    let is = c.take_in-taken.result.1.knows in
    let end = c.serve_first-served.result.1.knows in
    let a = sent_same frame g.N.Naming.tokens old tried was mid c.send-sent.result.0 c.send-sent.ensures.sent in
    let b = same_on frame g.N.Naming.tokens old tried new a (taken_same frame g.N.Naming.tokens tried new mid is c.take_in-taken.result.0 c.take_in-taken.ensures.taken) in
    let d = same_on frame g.N.Naming.tokens old new c.serve_first-served.new.self b (served_same frame g.N.Naming.tokens new c.serve_first-served.new.self is end c.serve_first-served.result.0 c.serve_first-served.ensures.served) in
    d.memory

pub returns-clause-tried : goal.returns-clause-tried
returns-clause-tried g c =
    let frame = g.N.Naming.frame in
    let old = c.args.self.now in
    let tried = c.send-sent.new.self in
    let new = c.take_in-taken.new.self in
    let was = c.args.note.knows in
    let mid = c.send-sent.result.1.knows in
    let is = c.take_in-taken.result.1.knows in
    let end = c.serve_first-served.result.1.knows in
    does_nothing_empty frame g.N.Naming.tokens old tried new was mid is
    (subst (λ (b : Bool). HasSent frame g.N.Naming.tokens old tried was mid b) c.if-sent.false c.send-sent.ensures.sent)
    (subst (λ (b : Bool). HasTakenIn frame g.N.Naming.tokens tried new mid is b) c.if-taken.false c.take_in-taken.ensures.taken)
    c.serve_first-served.new.self end (is_free new.held (sym c.if-is_some.false ∙ c.is_some.ensures))
    (subst (λ (b : Bool). HasServedFirst frame g.N.Naming.tokens new c.serve_first-served.new.self is end b) c.if-served.false c.serve_first-served.ensures.served)
