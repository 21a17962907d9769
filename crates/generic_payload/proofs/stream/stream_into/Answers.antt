use Rattle.std.proofs.Common.{◌≡◌, ℕ, ◌+◌, ◌%◌, ◌∙◌, length, get_or, set, cond, sym, ap, arith}
use Rattle.tlm_model.specs.Store.{is_enabled, place_of}
use Rattle.generic_payload.specs.Payload.{access_from_start}
use Rattle.generic_payload.proofs.Moves.{put_from_more, chosen-true, chosen-false}
use Rattle.generic_payload.proofs.stream.stream_into.Goals as goal
use Rattle.generic_payload.proofs.stream.stream_into.Goals.{then-is_enabled, else-is_enabled}

pub loop-k-preserved : goal.loop-k-preserved
loop-k-preserved c =
    let bytes = c.args.bytes.now in
    let a = access_from_start bytes c.args.enables.now (length c.args.places.now) in
    let k = c.loop-k.k in
    let old = c.loop-k.places in
    let place : k % length old ≡ 0 + k % length c.args.places.now = rw c.loop-k.auto.places (omega arith) in
    let put : c.if-is_enabled.places ≡ cond (is_enabled a k) (set old (place_of a k) (get_or bytes k 0)) old =
    elim c.if-is_enabled.branch [
      | then-is_enabled w ↦ chosen-true (is_enabled a k) (set old (place_of a k) (get_or bytes k 0)) old _ (sym c.is_enabled.ensures ∙ w.if-is_enabled.true) (w.places-is ∙ ap (λ (i : ℕ). set old i (get_or bytes k 0)) place)
      | else-is_enabled w ↦ chosen-false (is_enabled a k) (set old (place_of a k) (get_or bytes k 0)) old _ (sym c.is_enabled.ensures ∙ w.if-is_enabled.false) w.places-is
    ] in
    put_from_more a k bytes old c.if-is_enabled.places (omega arith) put ∙ c.loop-k.invariant
