use Rattle.std.proofs.Common.{List, length, sym, ap, ◌∙◌, subst, arith}
use Rattle.view_lists.specs.Lists.{Has}
use Rattle.one_history.specs.declared.view.Owned.{Owned}
use Rattle.one_history.specs.Moves.{own_of}
use Rattle.one_history.specs.Seats.{owned}
use Rattle.one_history.proofs.history.History.close.Goals as goal

pub gather-master-requires : goal.gather-master-requires
gather-master-requires g c =
    let v = ap (λ h. length h.frame.planned) c.self.view_is in
    let some = c.self.invariant.2 in
    record { some = omega (arith, c.requires.count); seats = c.requires.seats }

pub seal-requires : goal.seal-requires
seal-requires g c =
    let s = c.gather-master.ensures in
    let t = c.take_notes.ensures.same in
    let objects = ap length t.2 in
    let some = s.frame.1 in
    record { table = t.0 ∙ s.table; frame = (t.1 ∙ s.frame.0, omega arith) }

pub returns-clause-merge : goal.returns-clause-merge
returns-clause-merge g c =
    let s = c.gather-master.ensures in
    let l = c.seal.ensures in
    let t = c.take_notes.ensures.same.2 in
    (l.numbered, λ o x at. sym (l.owns (owned o (own_of x.knows)) (subst (λ (q : List (Owned g.row.E.Denot)). Has q (owned o (own_of x.knows))) (sym t) (s.all o x (omega arith) at))))

pub returns-clause-tell : goal.returns-clause-tell
returns-clause-tell g c = λ k n from at x has. c.seal.ensures.keeps x (c.take_notes.ensures.tell k n from at x has)
