use Rattle.std.proofs.Common.{◌≡◌, length, drop}
use Rattle.generic_payload.specs.Payload.{access_from_start}
use Rattle.tlm_model.specs.Store.{put_from}
use Rattle.generic_payload.proofs.stream.stream_into.Given as goal

-- the bytes from k on are still to be put
abbrev pub invariant-loop-k : goal.invariant-loop-k
invariant-loop-k l =
    let a = access_from_start l.bytes l.enables (length l.initial.places) in
    put_from a l.k (drop l.k l.bytes) l.places ≡ put_from a 0 l.bytes l.initial.places
