use Rattle.std.proofs.Common.{◌≡◌, ℕ, ◌+◌, ◌<◌, length, sum_by, sym, ap, ◌∙◌, arith}
use Rattle.std.specs.List.{range_with_len}
use Rattle.tlm_model.specs.declared.platform.Platform.{Platform}
use Rattle.route_plan.specs.Counted.{share_at}
use Rattle.cargo_model.specs.Known.{objects_of}
use Rattle.plat_net.specs.Objects.{bytes_at}
use Rattle.plat_net.proofs.Lookups.{short_at}
use Rattle.plat_net.proofs.ObjectLemmas.{object_there}
use Rattle.plat_build.proofs.WalletLemmas.{got_same, stocked_at, stocked_end, stocked_more, stocked_next, sum_range_more}
use Rattle.plat_build.proofs.wallets.issue_all.Goals as goal

pub stock-requires-clause-tables : goal.stock-requires-clause-tables
stock-requires-clause-tables c =
    let i = c.loop-index.invariant in
    let rows : length c.as_slice-index-end.result.now ≡ length c.args.plan.now.platform.initiators = ap length (c.as_slice-index-end.ensures ∙ ap (λ (x : Platform). x.initiators) c.platform.ensures.same) in
    let below : c.loop-index.index < length c.loop-index.wallets = omega (arith, i.wallets.count, rows, c.loop-index-test.true) in
    let s = stocked_at c.args.tickets.now c.args.plan.now c.args.book.now.owner c.loop-index.index c.loop-index.wallets c.index-wallets-index.result i.wallets below in
    (i.table, s.of)

pub stock-requires-clause-few : goal.stock-requires-clause-few
stock-requires-clause-few c o has =
    let i = c.loop-index.invariant in
    let rows : length c.as_slice-index-end.result.now ≡ length c.args.plan.now.platform.initiators = ap length (c.as_slice-index-end.ensures ∙ ap (λ (x : Platform). x.initiators) c.platform.ensures.same) in
    let below : c.loop-index.index < length c.loop-index.wallets = omega (arith, i.wallets.count, rows, c.loop-index-test.true) in
    let s = stocked_at c.args.tickets.now c.args.plan.now c.args.book.now.owner c.loop-index.index c.loop-index.wallets c.index-wallets-index.result i.wallets below in
    omega (arith, s.few o has, i.owner)

pub stock-requires-clause-room : goal.stock-requires-clause-room
stock-requires-clause-room c =
    let i = c.loop-index.invariant in
    let rows : length c.as_slice-index-end.result.now ≡ length c.args.plan.now.platform.initiators = ap length (c.as_slice-index-end.ensures ∙ ap (λ (x : Platform). x.initiators) c.platform.ensures.same) in
    let below : c.loop-index.index < length c.loop-index.wallets = omega (arith, i.wallets.count, rows, c.loop-index-test.true) in
    let s = stocked_at c.args.tickets.now c.args.plan.now c.args.book.now.owner c.loop-index.index c.loop-index.wallets c.index-wallets-index.result i.wallets below in
    omega (arith, s.places, i.owner, short_at (objects_of c.args.plan.now.platform) c.args.book.now.owner c.args.object c.requires.object)

pub loop-index-preserved : goal.loop-index-preserved
loop-index-preserved c =
    let i = c.loop-index.invariant in
    let p = c.args.plan.now in
    let m = c.args.book.now.owner in
    let o = c.args.object in
    let k = c.loop-index.index in
    let f : ℕ → ℕ = λ n. share_at p n o in
    let h : ℕ → ℕ = λ n. bytes_at p n o in
    let rows : length c.as_slice-index-end.result.now ≡ length p.platform.initiators = ap length (c.as_slice-index-end.ensures ∙ ap (λ (x : Platform). x.initiators) c.platform.ensures.same) in
    let below : k < length c.loop-index.wallets = omega (arith, i.wallets.count, rows, c.loop-index-test.true) in
    let s = stocked_at c.args.tickets.now p m k c.loop-index.wallets c.index-wallets-index.result i.wallets below in
    let b = c.stock.ensures.book in
    let entries : c.share-entries.result ≡ f k = c.share-entries.ensures.share in
    let bytes : c.bytes_at-bytes.result ≡ h k = c.bytes_at-bytes.ensures.bytes in
    record {
      table = b.table ∙ i.table;
      owner = b.owner ∙ i.owner;
      tickets_out = b.tickets_out ∙ (ap (λ (x : ℕ). x + c.share-entries.result) i.tickets_out ∙ (ap (λ (x : ℕ). sum_by f (range_with_len 0 k) + x) entries ∙ sym (sum_range_more f k)));
      bytes_out = b.bytes_out ∙ (ap (λ (x : ℕ). x + c.bytes_at-bytes.result) i.bytes_out ∙ (ap (λ (x : ℕ). sum_by h (range_with_len 0 k) + x) bytes ∙ sym (sum_range_more h k)));
      few = omega (arith, b.tickets_out, i.few, c.share-entries.ensures.few);
      few_bytes = omega (arith, b.bytes_out, i.few_bytes, c.bytes_at-bytes.ensures.few);
      wallets = stocked_next c.args.tickets.now p m k c.loop-index.wallets c.stock.new.wallet i.wallets
          (stocked_more c.args.tickets.now p m k o _ c.stock.new.wallet c.requires.object s
          (got_same c.args.tickets.now c.loop-index.book.owner m c.share-entries.result (f k) c.bytes_at-bytes.result (h k) _ c.stock.new.wallet i.owner entries bytes c.stock.ensures.wallet));
    }

pub returns-clause-wallets : goal.returns-clause-wallets
returns-clause-wallets c =
    let rows : length c.as_slice-index-end.result.now ≡ length c.args.plan.now.platform.initiators = ap length (c.as_slice-index-end.ensures ∙ ap (λ (x : Platform). x.initiators) c.platform.ensures.same) in
    stocked_end c.args.tickets.now c.args.plan.now c.args.book.now.owner c.loop-index.index c.loop-index.wallets (omega (arith, rows, c.loop-index-test.false, c.loop-index.auto.index-end)) c.loop-index.invariant.wallets

pub share-entries-requires-clause-object : goal.share-entries-requires-clause-object
share-entries-requires-clause-object c = object_there c.args.plan.now.platform c.args.book.now.owner c.args.object c.requires.object

pub bytes_at-bytes-requires-clause-object : goal.bytes_at-bytes-requires-clause-object
bytes_at-bytes-requires-clause-object c = object_there c.args.plan.now.platform c.args.book.now.owner c.args.object c.requires.object
