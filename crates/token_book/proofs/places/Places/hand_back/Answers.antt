use Rattle.std.proofs.Common.{sym, ap, ◌∙◌, subst}
use Rattle.token_book.specs.Purse.{Purse, left_of, IsOf}
use Rattle.token_book.proofs.Purses.{IsOf-without, left_of-without, none_of-without}
use Rattle.token_book.proofs.places.Places.hand_back.Goals as goal

pub returns-in-Some-clause-of : goal.returns-in-Some-clause-of
returns-in-Some-clause-of c = subst (IsOf c.args.tokens.now) (sym c.in-Some.ensures.left) (IsOf-without c.args.tokens.now c.args.self.now c.owner.result c.requires.of)

pub returns-in-Some-clause-others : goal.returns-in-Some-clause-others
returns-in-Some-clause-others c = λ o far. ap (λ (w : Purse). left_of w o) c.in-Some.ensures.left ∙ left_of-without c.args.self.now c.owner.result o (λ q. far (q ∙ c.owner.ensures))

pub returns-in-Some-clause-none : goal.returns-in-Some-clause-none
returns-in-Some-clause-none c = ap (λ (w : Purse). left_of w c.args.book.now.owner) c.in-Some.ensures.left ∙ none_of-without c.args.self.now c.owner.result c.args.book.now.owner (sym c.owner.ensures)
