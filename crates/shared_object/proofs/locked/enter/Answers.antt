use Rattle.std.proofs.Common.{refl, sym, ◌∙◌}
use Rattle.shared_object.proofs.Calls.{left_planned}
use Rattle.shared_object.proofs.locked.enter.Goals as goal

pub returns-then-not-admits-clause-book : goal.returns-then-not-admits-clause-book
returns-then-not-admits-clause-book g c = (refl, refl)

pub returns-then-not-admits-clause-state : goal.returns-then-not-admits-clause-state
returns-then-not-admits-clause-state g c = c.admits.ensures.state

pub returns-then-not-admits-clause-mine : goal.returns-then-not-admits-clause-mine
returns-then-not-admits-clause-mine g c = c.recall.ensures.mine

pub returns-then-not-admits-clause-ticket : goal.returns-then-not-admits-clause-ticket
returns-then-not-admits-clause-ticket g c = refl

pub returns-then-not-admits-clause-when : goal.returns-then-not-admits-clause-when
returns-then-not-admits-clause-when g c = sym c.admits.ensures.admitted ∙ c.if-not-admits.true

pub returns-then-not-admits-clause-retired : goal.returns-then-not-admits-clause-retired
returns-then-not-admits-clause-retired g c = refl

pub retire-requires-clause-book : goal.retire-requires-clause-book
retire-requires-clause-book g c = c.requires.book.0

pub draw_for-position-requires-clause-pick : goal.draw_for-position-requires-clause-pick
draw_for-position-requires-clause-pick g c = refl

pub draw_for-position-requires-clause-admitted : goal.draw_for-position-requires-clause-admitted
draw_for-position-requires-clause-admitted g c = sym c.admits.ensures.admitted ∙ c.if-not-admits.false

pub draw_for-position-requires-clause-seat : goal.draw_for-position-requires-clause-seat
draw_for-position-requires-clause-seat g c = c.requires.seat

pub draw_for-position-requires-clause-planned : goal.draw_for-position-requires-clause-planned
draw_for-position-requires-clause-planned g c = left_planned _ _ _ _ c.requires.planned c.retire.ensures.entries

pub draw_for-position-requires-clause-backed : goal.draw_for-position-requires-clause-backed
draw_for-position-requires-clause-backed g c = λ p seen mine. c.requires.backed p (sym c.admits.ensures.admitted ∙ c.if-not-admits.false) c.admits.ensures.state seen mine

pub draw_for-position-requires-clause-fits : goal.draw_for-position-requires-clause-fits
draw_for-position-requires-clause-fits g c = c.requires.fits

pub draw_for-position-requires-clause-gates : goal.draw_for-position-requires-clause-gates
draw_for-position-requires-clause-gates g c = c.requires.gates

pub draw_for-position-requires-clause-at : goal.draw_for-position-requires-clause-at
draw_for-position-requires-clause-at g c = λ mine. c.requires.at (sym c.admits.ensures.admitted ∙ c.if-not-admits.false) c.admits.ensures.state mine

pub returns-clause-table : goal.returns-clause-table
returns-clause-table g c = (c.draw_for-position.ensures.table, c.draw_for-position.ensures.number)

pub returns-clause-book : goal.returns-clause-book
returns-clause-book g c = c.retire.ensures.of

pub returns-clause-state : goal.returns-clause-state
returns-clause-state g c = c.admits.ensures.state

pub returns-clause-mine : goal.returns-clause-mine
returns-clause-mine g c = c.draw_for-position.ensures.mine

pub returns-clause-ticket : goal.returns-clause-ticket
returns-clause-ticket g c = refl

pub returns-clause-when : goal.returns-clause-when
returns-clause-when g c = sym c.admits.ensures.admitted ∙ c.if-not-admits.false
