use Rattle.std.proofs.Common.{◌≡◌, ℕ, ◌+◌, ◌<◌, length, get_or, sum_by, sym, ap, subst, ◌∙◌, arith}
use Rattle.std.specs.List.{range_with_len}
use Rattle.atomic_table.specs.Seated.{TableId}
use Rattle.token_book.specs.Account.{out_of}
use Rattle.token_book.specs.Purse.{IsOf, left_of}
use Rattle.tlm_types.specs.declared.words.ObjectNo.{ObjectNo}
use Rattle.route_plan.specs.Counted.{share_at}
use Rattle.plat_net.specs.Objects.{HasObject}
use Rattle.plat_net.proofs.Lookups.{at_index}
use Rattle.plat_build.proofs.UnusedLemmas.{left_next}
use Rattle.plat_build.proofs.WalletLemmas.{sum_range_more}
use Rattle.plat_build.proofs.unused.retire_from_all.Goals as goal

pub hand_back-requires-clause-of : goal.hand_back-requires-clause-of
hand_back-requires-clause-of g c =
    let i = c.loop-wallet.invariant in
    let k = c.loop-wallet.wallet-index in
    let below : k < length c.loop-wallet.wallets = omega arith in
    let of = (i.wallets.each k (get_or c.loop-wallet.wallets k c.wallet-item.result) (at_index c.loop-wallet.wallets k c.wallet-item.result below)).of in
    subst (λ (t : TableId). IsOf t (get_or c.loop-wallet.wallets k c.wallet-item.result)) (sym c.requires.tickets) of

pub loop-wallet-preserved : goal.loop-wallet-preserved
loop-wallet-preserved g c =
    let i = c.loop-wallet.invariant in
    let p = g.N.Naming.frame.world in
    let m = c.args.book.now.owner in
    let k = c.loop-wallet.wallet-index in
    let old = get_or c.loop-wallet.wallets k c.wallet-item.result in
    let below : k < length c.loop-wallet.wallets = omega arith in
    let at = at_index c.loop-wallet.wallets k c.wallet-item.result below in
    let e = c.hand_back.ensures in
    let retired : out_of 0 c.hand_back.new.book.out + left_of old c.loop-wallet.book.owner ≡ out_of 0 c.loop-wallet.book.out = e.tickets in
    let out : (o : ObjectNo) → HasObject p.platform m o → out_of 0 c.hand_back.new.book.out + sum_by (λ n. share_at p n o) (range_with_len 0 (k + 1)) ≡ out_of 0 c.args.book.now.out =
    λ o there.
    let f : ℕ → ℕ = λ n. share_at p n o in
    let had : left_of old c.loop-wallet.book.owner ≡ f k = ap (left_of old) i.owner ∙ i.wallets.here k old o (omega arith) at there in
    let more = sum_range_more f k in
    let so_far = i.out o there in
    omega (arith, had, retired, more, so_far) in
    record {
      table = e.book.0 ∙ i.table;
      owner = e.book.1 ∙ i.owner;
      out = out;
      wallets = left_next g.N.Naming.tokens p m k c.loop-wallet.wallets old c.hand_back.new.self i.wallets at
          (subst (λ (t : TableId). IsOf t c.hand_back.new.self) c.requires.tickets e.of)
          (λ o other. e.others o (λ same. other (same ∙ i.owner)));
    }

pub returns-clause-out : goal.returns-clause-out
returns-clause-out g c = λ o there.
    let i = c.loop-wallet.invariant in
    let p = g.N.Naming.frame.world in
    let count = i.wallets.count in
    let all : c.loop-wallet.wallet-index ≡ length p.platform.initiators = omega arith in
    subst (λ (n : ℕ). out_of 0 c.loop-wallet.book.out + sum_by (λ m. share_at p m o) (range_with_len 0 n) ≡ out_of 0 c.args.book.now.out) all (i.out o there)
