use Rattle.std.proofs.Common.{◌≡◌, ℕ, ◌<◌, List, length, get_or, Some, ap, sym, subst}
use Rattle.std.specs.Prelude.{IsSomeAnd, IsTrue, slice_get}
use Rattle.std.specs.Option.{option_map}
use Rattle.tlm_types.specs.declared.entry.Entry.{Entry}
use Rattle.tlm_types.specs.Entries.{head_of, plain_of, read_at}
use Rattle.flow_model.specs.Events.{Event, IsReleased}
use Rattle.payload_pool.specs.Pool.{PoolView}
use Rattle.payload_pool.proofs.ReleaseLemmas.{is_read, read_is}
use Rattle.payload_pool.proofs.pool.Pool.is_release_at.Goals as goal

pub returns : goal.returns
returns c =
    let es = c.self.inside.log.events in
    let at : ℕ = c.args.at in
    let x = c.args.txn in
    let wanted : ℕ = c.args.number in
    let same : es ≡ c.args.self.now.log.events = ap (λ (v : PoolView). v.log.events) c.self.view_is in
    let below : at < length es = subst (λ (l : List Event). at < length l) (sym same) c.requires in
    let head_is = subst (λ (l : List Entry). option_map head_of (slice_get l at) ≡ Some c.head.result) c.log-log.ensures.entries c.head.ensures in
    let what_is = subst (λ (l : List Entry). c.what-what.result ≡ read_at plain_of l at) c.log-log.ensures.entries c.what-what.ensures in
    let number_is = ap (λ (l : List ℕ). get_or l at 0) c.numbers-numbers.ensures in
    subst (λ (l : List Event). (IsTrue c.is_release.result → IsSomeAnd (slice_get l at) (IsReleased x wanted)) × (IsSomeAnd (slice_get l at) (IsReleased x wanted) → IsTrue c.is_release.result)) same (
      λ t. read_is es at c.head.result c.what-what.result (get_or c.numbers-numbers.result.now at 0) x wanted below 0 head_is what_is number_is (c.is_release.ensures.0 t),
      λ s. c.is_release.ensures.1 (is_read es at c.head.result c.what-what.result (get_or c.numbers-numbers.result.now at 0) x wanted below 0 head_is what_is number_is s),
    )
