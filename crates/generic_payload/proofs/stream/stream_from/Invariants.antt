use Rattle.std.proofs.Common.{◌≡◌, ℕ, ◌<◌, ◌≤◌, ◌%◌, cond, length, get_or}
use Rattle.generic_payload.specs.Payload.{access_from_start}
use Rattle.tlm_model.specs.Store.{is_enabled}
use Rattle.generic_payload.proofs.stream.stream_from.Given as goal

-- the bytes below k are taken, and those from k on are the old ones
abbrev pub invariant-loop-k : goal.invariant-loop-k
invariant-loop-k l =
    let a = access_from_start l.initial.bytes l.enables (length l.places) in
    record {
      taken : (j : ℕ) → j < l.k → get_or l.bytes j 0 ≡ cond (is_enabled a j) (get_or l.places (j % length l.places) 0) (get_or l.initial.bytes j 0);
      rest : (j : ℕ) → l.k ≤ j → get_or l.bytes j 0 ≡ get_or l.initial.bytes j 0;
    }
