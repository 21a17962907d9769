-- What the log says of a reference with which a call is admitted.
use Rattle.std.proofs.Common.{◌≡◌, ℕ, ◌+◌, true, sym, ap, ◌∙◌, arith}
use Rattle.flow_model.specs.Pools.{slots_after}
use Rattle.flow_model.specs.Slots.{no_slots}
use Rattle.payload_pool.specs.Slots.{blank_slot, slot_at, has_name, reference_number, slot_place}
use Rattle.payload_pool.specs.Lives.{FitsLog, no_takes, takes_after}
use Rattle.payload_pool.specs.Pool.{PoolView}
use Rattle.payload_pool.specs.Laws.{IsHeld}
use Rattle.payload_pool.specs.Calls.{is_out}
use Rattle.payload_pool.proofs.Found.{any_found, passes_found}
use Rattle.payload_pool.proofs.Tallies.{tally_few}
use Rattle.payload_pool.proofs.Names.{is_named}
use Rattle.payload_pool.proofs.Lives.{live_life, number_life, not_released}

pub held : (v : PoolView) (name : ℕ) → FitsLog v.slots v.log.events → is_out v name ≡ true → IsHeld v name
held v name f out =
    let k = slot_place name v.slots in
    let s = slot_at v.slots k in
    let n = is_named s name (passes_found (has_name name) v.slots k blank_slot (any_found (has_name name) v.slots out)) in
    let some = n.some in
    let many = tally_few (reference_number name) s.out in
    let l = live_life s (takes_after no_takes v.log.events k) (slots_after no_slots v.log.events k) (omega arith) (f.lives k) in
    record {
      life = l.life;
      is = l.is;
      position = sym l.at ∙ sym n.position;
      txn = l.of.txn;
      number = number_life s l.life (reference_number name) l.of n.some;
      unreleased = not_released s l.life (reference_number name) l.of n.some;
      own = λ high. n.own high ∙ ap (λ (a : ℕ). 16 + a) l.of.acquired;
    }
