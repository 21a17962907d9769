use Rattle.std.proofs.Common.{◌≡◌, ℕ, ◌+◌, ◌<◌, sym, ap, subst, ◌∙◌, arith}
use Rattle.atomic_table.specs.Seated.{TableId}
use Rattle.token_book.specs.Account.{Account, Slip, slip}
use Rattle.token_book.specs.Purse.{Purse, HasPlace, put_in}
use Rattle.plat_build.specs.Tickets.{GotRights}
use Rattle.plat_build.proofs.WalletLemmas.{few_put, got_rights, right, room_below}
use Rattle.plat_build.proofs.wallets.stock.Goals as goal

pub put-requires-clause-room : goal.put-requires-clause-room
put-requires-clause-room c =
    let own : c.issue-rights.result.owner ≡ c.args.book.now.owner = ap (λ (t : Slip). t.owner) c.issue-rights.ensures.token in
    room_below c.args.wallet.now c.issue-rights.result.owner
    (λ q has. let less = c.requires.few q has in omega (arith, own, less))
    (let roomy = c.requires.room in omega (arith, own, roomy))

pub put-requires-2-clause-room : goal.put-requires-2-clause-room
put-requires-2-clause-room c =
    let own : c.issue-rights.result.owner ≡ c.args.book.now.owner = ap (λ (t : Slip). t.owner) c.issue-rights.ensures.token in
    let book : c.issue-rights.new.book.owner ≡ c.args.book.now.owner = ap (λ (b : Account). b.owner) c.issue-rights.ensures.book in
    let own_too : c.issue-rights-2.result.owner ≡ c.args.book.now.owner = ap (λ (t : Slip). t.owner) c.issue-rights-2.ensures.token ∙ book in
    let places : c.put.new.self.places ≡ c.args.wallet.now.places = ap (λ (w : Purse). w.places) c.put.ensures.wallet in
    let few : (q : ℕ) → HasPlace c.put.new.self q → q < c.args.book.now.owner + 1 =
    λ q has. few_put c.args.wallet.now c.issue-rights.result c.args.book.now.owner own (λ r held. let less = c.requires.few r held in omega (arith, less)) q (subst (λ (w : Purse). HasPlace w q) c.put.ensures.wallet has) in
    room_below c.put.new.self c.issue-rights-2.result.owner
    (λ q has. let less = few q has in omega (arith, own_too, less))
    (let roomy = c.requires.room in omega (arith, own_too, places, roomy))

pub returns-clause-wallet : goal.returns-clause-wallet
returns-clause-wallet c =
    let tokens = c.args.tickets.now in
    let o = c.args.book.now.owner in
    let w = c.args.wallet.now in
    let t : c.issue-rights.result ≡ right tokens o 0 c.args.entries = c.issue-rights.ensures.token ∙ ap (λ (x : TableId). right x o 0 c.args.entries) c.requires.tables.0 in
    let u : c.issue-rights-2.result ≡ right tokens o 1 c.args.bytes =
    c.issue-rights-2.ensures.token ∙ (ap (λ (b : Account). slip b 1 c.args.bytes) c.issue-rights.ensures.book ∙ ap (λ (x : TableId). right x o 1 c.args.bytes) c.requires.tables.0) in
    let first : c.put.new.self ≡ put_in w (right tokens o 0 c.args.entries) = c.put.ensures.wallet ∙ ap (put_in w) t in
    let both : c.put-2.new.self ≡ put_in (put_in w (right tokens o 0 c.args.entries)) (right tokens o 1 c.args.bytes) =
    c.put-2.ensures.wallet ∙ (ap (λ (x : Purse). put_in x c.issue-rights-2.result) first ∙ ap (put_in (put_in w (right tokens o 0 c.args.entries))) u) in
    subst (λ (x : Purse). GotRights tokens o c.args.entries c.args.bytes w x) (sym both) (got_rights tokens w o c.args.entries c.args.bytes c.requires.tables.1 c.requires.few)
