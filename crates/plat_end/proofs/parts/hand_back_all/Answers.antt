use Rattle.std.proofs.Common.{◌≡◌, ℕ, ◌+◌, ◌<◌, List, length, get_or, sym, ap, subst, ◌∙◌, arith}
use Rattle.std.proofs.lemmas.List.Elements.{All-set}
use Rattle.std.proofs.lemmas.List.Sums.{sum_by-set}
use Rattle.atomic_table.specs.Seated.{TableId}
use Rattle.view_lists.proofs.Places.{at_short, each_put}
use Rattle.token_book.specs.Account.{out_of}
use Rattle.token_book.specs.Purse.{Purse, IsOf, left_of}
use Rattle.plat_end.specs.Taking.{tickets_at}
use Rattle.plat_end.proofs.TicketLemmas.{none_in_all, same_in_all}
use Rattle.plat_end.proofs.parts.hand_back_all.Goals as goal

pub hand_back-requires-clause-of : goal.hand_back-requires-clause-of
hand_back-requires-clause-of c =
    let i = c.loop-wallet.invariant in
    let k = c.loop-wallet.wallet-index in
    let below : k < length c.loop-wallet.wallets = omega arith in
    subst (λ (t : TableId). IsOf t (get_or c.loop-wallet.wallets k c.wallet-item.result)) c.requires.book (i.of k c.wallet-item.result below)

pub loop-wallet-preserved : goal.loop-wallet-preserved
loop-wallet-preserved c =
    let i = c.loop-wallet.invariant in
    let table = c.args.book.table in
    let owner = c.args.book.owner in
    let k = c.loop-wallet.wallet-index in
    let wallets : List Purse = c.loop-wallet.wallets in
    let d : Purse = c.wallet-item.result in
    let old : Purse = get_or wallets k d in
    let new : Purse = c.hand_back.new.self in
    let below : k < length wallets = omega arith in
    let e = c.hand_back.ensures in
    let f : Purse → ℕ = λ w. left_of w owner in
    let retired : out_of 0 c.hand_back.new.book.out + left_of old c.loop-wallet.book.owner ≡ out_of 0 c.loop-wallet.book.out = e.tickets in
    let had : left_of old c.loop-wallet.book.owner ≡ f old = ap (left_of old) i.owner in
    let gone : f new ≡ 0 = ap (left_of new) (sym i.owner) ∙ e.none in
    record {
      table = e.book.0 ∙ i.table;
      owner = e.book.1 ∙ i.owner;
      of = All-set (IsOf table) wallets k new (subst (λ (t : TableId). IsOf t new) (sym c.requires.book) e.of) i.of;
      out = (let so_far = i.out in let all = sum_by-set f wallets k new d below in omega (arith, had, gone, retired, so_far, all));
      none = λ j w less at. each_put (λ n v. n < k + 1 → left_of v owner ≡ 0) wallets k new (λ n v differs there few. i.none n v (omega arith) there) (λ few. gone) j w at less;
      others = λ n differs. same_in_all (λ (w : Purse). left_of w n) wallets k new d below (e.others n (λ same. differs (same ∙ i.owner))) ∙ i.others n differs;
    }

pub returns-clause-none : goal.returns-clause-none
returns-clause-none c =
    let i = c.loop-wallet.invariant in
    none_in_all (λ (w : Purse). left_of w c.args.book.owner) c.loop-wallet.wallets (λ j w at. i.none j w (let less = at_short c.loop-wallet.wallets j w at in omega arith) at)

pub returns-clause-few : goal.returns-clause-few
returns-clause-few c =
    let i = c.loop-wallet.invariant in
    let none : tickets_at c.args.book.owner c.loop-wallet.wallets ≡ 0 = none_in_all (λ (w : Purse). left_of w c.args.book.owner) c.loop-wallet.wallets (λ j w at. i.none j w (let less = at_short c.loop-wallet.wallets j w at in omega arith) at) in
    let so_far = i.out in
    omega (arith, so_far, none)
