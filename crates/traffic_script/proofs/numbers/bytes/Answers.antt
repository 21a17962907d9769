use Rattle.std.proofs.Common.{◌+◌, ◌*◌, ◌≤◌, length, drop, vec_len, vec_capacity, sym, ◌∙◌, arith, length-drop}
use Rattle.std.specs.Char.{is_digit}
use Rattle.traffic_script.proofs.Parts.{rest_is}
use Rattle.traffic_script.proofs.Pairs.{pair_read, pair_passes, no_bytes}
use Rattle.traffic_script.proofs.numbers.bytes.Goals as goal

pub returns-then-not-all_hex : goal.returns-then-not-all_hex
returns-then-not-all_hex c = no_bytes c.args.digits.now (sym c.all_hex.ensures ∙ c.if-not-all_hex.true)

pub loop-rest-preserved : goal.loop-rest-preserved
loop-rest-preserved c =
    let rest = c.loop-rest.rest.now in
    let two = c.in-len2-up.len_at_least in
    let step = pair_read c.loop-rest.bytes.items rest c.byte.result two c.byte.ensures in
    let room : 2 * vec_len c.push_reserved.new.self + length (drop 2 rest) ≤ 2 * vec_capacity c.push_reserved.new.self + 1 =
    omega (arith, length-drop 2 rest, two, c.push_reserved.ensures.len, c.push_reserved.ensures.capacity, c.loop-rest.invariant.room) in
    rw (rest_is rest 2) (record {
      read = rw c.push_reserved.ensures.items (sym step ∙ c.loop-rest.invariant.read);
      hex = (pair_passes (λ b. is_digit b 16) rest two c.loop-rest.invariant.hex).2;
      room = room;
    })
