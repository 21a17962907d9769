use Rattle.std.proofs.Common.{◌≡◌, ◌+◌, ◌%◌, ◌∙◌, length, sym, arith}
use Rattle.std.proofs.lemmas.Grind.{same_number_lists}
use Rattle.tlm_model.specs.Store.{taken_from}
use Rattle.generic_payload.specs.Payload.{access_from_start}
use Rattle.generic_payload.proofs.Moves.{length-taken_from, get_or-taken_from}
use Rattle.generic_payload.proofs.stream.stream_from.Goals as goal

pub returns : goal.returns
returns c =
    let bytes = c.args.bytes.now in
    let places = c.args.places.now in
    let a = access_from_start bytes c.args.enables.now (length places) in
    same_number_lists c.loop-k.bytes (taken_from a 0 bytes places) (c.loop-k.auto.bytes ∙ sym (length-taken_from a 0 bytes places)) (λ k within.
    let begin : 0 + k ≡ k = omega arith in
    let place : 0 + k % length places ≡ k % length places = omega arith in
    let taken = get_or-taken_from a 0 bytes places k (omega arith) in
    let done = c.loop-k.invariant.taken k (omega arith) in
    cc)
