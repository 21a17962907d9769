use Rattle.std.proofs.Common.{◌≡◌, refl, ap, subst, sym, ◌∙◌}
use Rattle.time_board.specs.declared.rounds.Advance.TheVariants.{Advanced, NotYet}
use Rattle.time_board.specs.Rounds.{answer_of, members_after}
use Rattle.initiator_run.specs.Board.{HasGoneOn}
use Rattle.initiator_run.specs.Run.{Run}
use Rattle.initiator_run.proofs.BoardLemmas.{HasGoneOn-held, HasGoneOn-let}
use Rattle.initiator_run.proofs.run.InitiatorRun.is_let_through.Goals as goal

pub returns-in-Advanced-clause-rounds : goal.returns-in-Advanced-clause-rounds
returns-in-Advanced-clause-rounds c =
    let r = c.args.self.now in
    let members = c.args.rounds.now in
    let who : c.initiator.result ≡ r.engine.initiator = c.initiator.ensures ∙ ap (λ (x : Run). x.engine.initiator) c.self.view_is in
    let apart : r.round ≡ r.syncs → ⊥ = subst (λ (x : Run). x.round ≡ x.syncs → ⊥) c.self.view_is c.if-self.false in
    subst (λ (x : Run). HasGoneOn r (record x { round = c.in-Advanced.round }) members c.advance.new.self) (sym c.self.view_is)
    (HasGoneOn-let members c.advance.new.self r (Advanced c.in-Advanced.round) c.in-Advanced.round c.requires.round c.requires.going c.requires.few apart c.advance.ensures.close
    (c.in-Advanced.ensures.answer ∙ ap (answer_of members) who) (c.advance.ensures.members ∙ ap (members_after members) who) refl).0

pub returns-in-NotYet-clause-through : goal.returns-in-NotYet-clause-through
returns-in-NotYet-clause-through c =
    let r = c.args.self.now in
    let members = c.args.rounds.now in
    let who : c.initiator.result ≡ r.engine.initiator = c.initiator.ensures ∙ ap (λ (x : Run). x.engine.initiator) c.self.view_is in
    let apart : r.round ≡ r.syncs → ⊥ = subst (λ (x : Run). x.round ≡ x.syncs → ⊥) c.self.view_is c.if-self.false in
    (HasGoneOn-held members c.advance.new.self r (NotYet c.in-NotYet.behind c.in-NotYet.round) c.in-NotYet.behind c.in-NotYet.round c.requires.round c.requires.going apart c.requires.close
    (c.in-NotYet.ensures.answer ∙ ap (answer_of members) who) (c.advance.ensures.members ∙ ap (members_after members) who) refl).1
