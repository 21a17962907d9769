use Rattle.std.proofs.Common.{◌≡◌, ℕ, sym, ap, ◌∙◌, subst, inl, inr, ⊎_elim, arith}
use Rattle.token_book.specs.Pocket.{Pocket, rights_of}
use Rattle.token_book.specs.Purse.{Purse, HasPlace, HasRoom, IsOf, left_of, bytes_of, with_more}
use Rattle.token_book.proofs.Pulls.{IsOf-pulled_rights, IsOf-with_more, bytes_of-pulled_rights, bytes_of-with_more, left_of-pulled_rights, left_of-with_more}
use Rattle.token_book.proofs.Rooms.{held-pulled_rights, place-with_more}
use Rattle.token_book.proofs.places.Places.give.Goals as goal

pub put_place-requires-clause-place : goal.put_place-requires-clause-place
put_place-requires-clause-place c = ap (λ (x : ℕ × Pocket). x.1.table) c.pull_rights-rights.ensures.rights

pub put_place-requires-clause-room : goal.put_place-requires-clause-room
put_place-requires-clause-room c = subst (λ (x : ℕ × Pocket). HasRoom c.args.to.now x.0) (sym c.pull_rights-rights.ensures.rights) c.requires.room

pub returns-clause-other : goal.returns-clause-other
returns-clause-other c = c.put_place.ensures ∙ ap (λ (x : ℕ × Pocket). with_more c.args.tokens.now c.args.to.now x.0 x.1) c.pull_rights-rights.ensures.rights

pub returns-clause-of : goal.returns-clause-of
returns-clause-of c = (
  subst (IsOf c.args.tokens.now) (sym c.pull_rights-rights.ensures.wallet) (IsOf-pulled_rights c.args.tokens.now c.args.self.now c.args.object c.args.tickets c.args.bytes c.requires.of.0),
  subst (IsOf c.args.tokens.now) (sym (returns-clause-other c)) (IsOf-with_more c.args.tokens.now c.args.to.now c.args.object (rights_of c.args.tokens.now c.args.tickets c.args.bytes) c.requires.of.1),
)

pub returns-clause-left : goal.returns-clause-left
returns-clause-left c o = ap (λ (w : Purse). left_of w o) c.pull_rights-rights.ensures.wallet ∙ left_of-pulled_rights c.args.tokens.now c.args.self.now c.args.object c.args.tickets c.args.bytes o

pub returns-clause-bytes : goal.returns-clause-bytes
returns-clause-bytes c o = ap (λ (w : Purse). bytes_of w o) c.pull_rights-rights.ensures.wallet ∙ bytes_of-pulled_rights c.args.tokens.now c.args.self.now c.args.object c.args.tickets c.args.bytes o

pub returns-clause-held : goal.returns-clause-held
returns-clause-held c = held-pulled_rights c.args.tokens.now c.args.self.now _ c.args.object c.args.tickets c.args.bytes c.pull_rights-rights.ensures.wallet (omega (arith, c.requires.some, c.requires.left))

pub returns-clause-left_there : goal.returns-clause-left_there
returns-clause-left_there c o = ap (λ (w : Purse). left_of w o) (returns-clause-other c) ∙ left_of-with_more c.args.tokens.now c.args.to.now c.args.object (rights_of c.args.tokens.now c.args.tickets c.args.bytes) o

pub returns-clause-bytes_there : goal.returns-clause-bytes_there
returns-clause-bytes_there c o = ap (λ (w : Purse). bytes_of w o) (returns-clause-other c) ∙ bytes_of-with_more c.args.tokens.now c.args.to.now c.args.object (rights_of c.args.tokens.now c.args.tickets c.args.bytes) o

pub returns-clause-held_there : goal.returns-clause-held_there
returns-clause-held_there c o has =
    ⊎_elim
    (λ (own : o ≡ c.args.object). inr own)
    (λ (old : HasPlace c.args.to.now o). inl old)
    (place-with_more c.args.tokens.now c.args.to.now c.args.object (rights_of c.args.tokens.now c.args.tickets c.args.bytes) o (subst (λ (w : Purse). HasPlace w o) (returns-clause-other c) has))
