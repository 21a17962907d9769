use Rattle.std.proofs.Common.{◌≡◌, ◌≤◌, ℕ, true, [], ◌∷◌, ◌++◌, map, sym, subst, ◌∙◌}
use Rattle.std.specs.Option.{unwrap_or}
use Rattle.one_history.specs.Moves.{IsAtGate}
use Rattle.shared_object.specs.Written.{own_number, placed, sign_of, written_at, wrote}
use Rattle.shared_object.specs.Standing.{AreVouched, IsBuiltFor, Meets, Numbers, place}
use Rattle.shared_object.specs.Steps.{Enters, HasTicket}
use Rattle.shared_object.proofs.Numbering.{numbers, numbers_are}
use Rattle.shared_object.proofs.shared.Shared.step_alone.Goals as goal

pub step-requires-clause-history : goal.step-requires-clause-history
step-requires-clause-history g c = c.requires.history

pub step-requires-clause-tickets : goal.step-requires-clause-tickets
step-requires-clause-tickets g c = c.requires.tickets

pub step-requires-clause-note : goal.step-requires-clause-note
step-requires-clause-note g c = c.requires.note

pub step-requires-clause-gate : goal.step-requires-clause-gate
step-requires-clause-gate g c = tt

pub step-requires-clause-ticket : goal.step-requires-clause-ticket
step-requires-clause-ticket g c =
    let same : c.args.self.now ≡ numbers c.value_mut-locked.result.now.number (own_number (g.O.Object.built c.value_mut-locked.result.now.object).object) = numbers_are c.args.self.now c.self.inside.number c.self.inside.own c.value_mut-locked.result.now.number (own_number (g.O.Object.built c.value_mut-locked.result.now.object).object) (sym c.self.view_is) (sym c.number.ensures ∙ c.if-number-self.false) (sym c.own_number.ensures ∙ c.if-own_number-self.false) in
    subst (λ (n : Numbers). (o : g.row.O.Denot) → IsBuiltFor g.W.World.builds (place g.N.Naming.frame g.N.Naming.tokens n.number n.own) (g.O.Object.built o) → g.O.Object.follows o → g.O.Object.admitted o c.args.call ≡ true → HasTicket g.N.Naming.tokens n.number (g.O.Object.cost c.args.call) c.args.ticket) same c.requires.ticket

pub step-requires-clause-fits : goal.step-requires-clause-fits
step-requires-clause-fits g c =
    let same : c.args.self.now ≡ numbers c.value_mut-locked.result.now.number (own_number (g.O.Object.built c.value_mut-locked.result.now.object).object) = numbers_are c.args.self.now c.self.inside.number c.self.inside.own c.value_mut-locked.result.now.number (own_number (g.O.Object.built c.value_mut-locked.result.now.object).object) (sym c.self.view_is) (sym c.number.ensures ∙ c.if-number-self.false) (sym c.own_number.ensures ∙ c.if-own_number-self.false) in
    subst (λ (n : Numbers). (o : g.row.O.Denot) → IsBuiltFor g.W.World.builds (place g.N.Naming.frame g.N.Naming.tokens n.number n.own) (g.O.Object.built o) → g.O.Object.fits o c.args.call (written_at n.number c.args.note.knows.known)) same c.requires.fits

pub step-requires-clause-backed : goal.step-requires-clause-backed
step-requires-clause-backed g c =
    let same : c.args.self.now ≡ numbers c.value_mut-locked.result.now.number (own_number (g.O.Object.built c.value_mut-locked.result.now.object).object) = numbers_are c.args.self.now c.self.inside.number c.self.inside.own c.value_mut-locked.result.now.number (own_number (g.O.Object.built c.value_mut-locked.result.now.object).object) (sym c.self.view_is) (sym c.number.ensures ∙ c.if-number-self.false) (sym c.own_number.ensures ∙ c.if-own_number-self.false) in
    subst (λ (n : Numbers). (o : g.row.O.Denot) (p : ℕ) → Meets g.W.World.builds g.O.Object.built g.O.Object.entries g.O.Object.follows (place g.N.Naming.frame g.N.Naming.tokens n.number n.own) c.args.note.knows.known o → g.O.Object.admitted o c.args.call ≡ true → c.args.note.knows.seen ≤ p → g.W.Law.backs g.N.Naming.frame.world (map (placed n.number) (g.O.Object.entries o) ++ c.args.note.knows.known) (placed n.number (wrote p (g.O.Object.content o c.args.call)))) same c.requires.backed

pub step-requires-clause-gates : goal.step-requires-clause-gates
step-requires-clause-gates g c =
    let same : c.args.self.now ≡ numbers c.value_mut-locked.result.now.number (own_number (g.O.Object.built c.value_mut-locked.result.now.object).object) = numbers_are c.args.self.now c.self.inside.number c.self.inside.own c.value_mut-locked.result.now.number (own_number (g.O.Object.built c.value_mut-locked.result.now.object).object) (sym c.self.view_is) (sym c.number.ensures ∙ c.if-number-self.false) (sym c.own_number.ensures ∙ c.if-own_number-self.false) in
    subst (λ (n : Numbers). (o : g.row.O.Denot) → Meets g.W.World.builds g.O.Object.built g.O.Object.entries g.O.Object.follows (place g.N.Naming.frame g.N.Naming.tokens n.number n.own) c.args.note.knows.known o → g.O.Object.admitted o c.args.call ≡ true → IsAtGate c.args.note.knows (sign_of (g.O.Object.content o c.args.call).what)) same c.requires.gates

pub step-requires-clause-vouched : goal.step-requires-clause-vouched
step-requires-clause-vouched g c =
    let same : c.args.self.now ≡ numbers c.value_mut-locked.result.now.number (own_number (g.O.Object.built c.value_mut-locked.result.now.object).object) = numbers_are c.args.self.now c.self.inside.number c.self.inside.own c.value_mut-locked.result.now.number (own_number (g.O.Object.built c.value_mut-locked.result.now.object).object) (sym c.self.view_is) (sym c.number.ensures ∙ c.if-number-self.false) (sym c.own_number.ensures ∙ c.if-own_number-self.false) in
    subst (λ (n : Numbers). (o : g.row.O.Denot) → Meets g.W.World.builds g.O.Object.built g.O.Object.entries g.O.Object.follows (place g.N.Naming.frame g.N.Naming.tokens n.number n.own) c.args.note.knows.known o → AreVouched (g.W.World.vouches g.N.Naming.frame.world g.N.Naming.tokens n.number) (g.O.Object.brought o c.args.call) c.args.note.knows.known) same c.requires.vouched

pub returns-clause-answer : goal.returns-clause-answer
returns-clause-answer g c =
    let same : c.args.self.now ≡ numbers c.value_mut-locked.result.now.number (own_number (g.O.Object.built c.value_mut-locked.result.now.object).object) = numbers_are c.args.self.now c.self.inside.number c.self.inside.own c.value_mut-locked.result.now.number (own_number (g.O.Object.built c.value_mut-locked.result.now.object).object) (sym c.self.view_is) (sym c.number.ensures ∙ c.if-number-self.false) (sym c.own_number.ensures ∙ c.if-own_number-self.false) in
    subst (λ (n : Numbers). (x : g.row.O.Denot) × (y : g.row.O.Denot) × Meets g.W.World.builds g.O.Object.built g.O.Object.entries g.O.Object.follows (place g.N.Naming.frame g.N.Naming.tokens n.number n.own) c.args.note.knows.known x × Enters g.N.Naming.frame n.number (g.O.Object.entries x) (g.O.Object.entries y) (g.O.Object.admitted x c.args.call) (g.O.Object.content x c.args.call) c.args.note.knows c.step.result.note.knows c.step.result.position × g.O.Object.applied x (unwrap_or c.step.result.position 0) c.args.call c.step.result.reply y × g.O.Object.follows y × AreVouched (g.W.World.vouches g.N.Naming.frame.world g.N.Naming.tokens n.number) (g.O.Object.given x c.args.call c.step.result.reply) c.step.result.note.knows.known) (sym same) c.step.ensures.answer

pub returns-clause-note : goal.returns-clause-note
returns-clause-note g c = c.step.ensures.note

pub returns-clause-look : goal.returns-clause-look
returns-clause-look g c =
    let same : c.args.self.now ≡ numbers c.value_mut-locked.result.now.number (own_number (g.O.Object.built c.value_mut-locked.result.now.object).object) = numbers_are c.args.self.now c.self.inside.number c.self.inside.own c.value_mut-locked.result.now.number (own_number (g.O.Object.built c.value_mut-locked.result.now.object).object) (sym c.self.view_is) (sym c.number.ensures ∙ c.if-number-self.false) (sym c.own_number.ensures ∙ c.if-own_number-self.false) in
    subst (λ (n : Numbers). c.step.result.note.knows.looks ≡ c.args.note.knows.looks ++ (n.number, g.O.Object.look c.step.result.reply) ∷ []) (sym same) c.step.ensures.look

pub returns-clause-ticket : goal.returns-clause-ticket
returns-clause-ticket g c = c.step.ensures.ticket
