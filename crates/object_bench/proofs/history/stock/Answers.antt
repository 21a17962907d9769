use Rattle.std.proofs.Common.{◌≡◌, ℕ, zero, suc, ◌<◌, [], ◌∷◌, refl, sym, ap, ◌∙◌, subst, ⊎_elim, arith}
use Rattle.view_lists.specs.Lists.{Has}
use Rattle.token_book.specs.Account.{Slip}
use Rattle.token_book.specs.Purse.{Purse, HasPlace, HasRoom}
use Rattle.token_book.proofs.Rooms.{room_within, place-put_in}
use Rattle.object_bench.proofs.history.stock.Goals as goal

of_two : (n : ℕ) → n < 2 → Has (0 ∷ 1 ∷ []) n
of_two zero less = (0, refl)
of_two (suc zero) less = (1, refl)
of_two (suc (suc n)) less = absurd (omega arith)

pub put-requires-clause-room : goal.put-requires-clause-room
put-requires-clause-room c =
    subst (λ (t : Slip). HasRoom c.args.wallet.now t.owner) (sym c.issue-token.ensures.token)
    (room_within c.args.wallet.now (0 ∷ 1 ∷ []) c.requires.places c.requires.two c.args.book.now.owner (of_two c.args.book.now.owner c.requires.token.1))

pub returns-clause-two : goal.returns-clause-two
returns-clause-two c o has =
    let t = c.issue-token.result in
    ⊎_elim
    (λ (is : o ≡ t.owner). subst (λ (k : ℕ). Has (0 ∷ 1 ∷ []) k) (sym (is ∙ ap (λ (x : Slip). x.owner) c.issue-token.ensures.token)) (of_two c.args.book.now.owner c.requires.token.1))
    (λ (old : HasPlace c.args.wallet.now o). c.requires.two o old)
    (place-put_in c.args.wallet.now t o (subst (λ (w : Purse). HasPlace w o) c.put.ensures.wallet has))
