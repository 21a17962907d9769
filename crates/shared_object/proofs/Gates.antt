-- Which gates an object may have.
use Rattle.std.proofs.Common.{◌≡◌, ℕ, ◌<◌, [], ◌∷◌, take, refl, arith}
use Rattle.std.specs.Prelude.{slice_index_or, sum}
use Rattle.one_history.specs.declared.view.Frame.{Frame}
use Rattle.shared_object.specs.Written.{IsAmong}
use Rattle.shared_object.specs.Standing.{HasGates}

-- a gate of the object is one of those that the history counts for it
pub own_gate : {G : Type 0} (frame : Frame G) (number gate : ℕ) (gates : ℕ × ℕ) → HasGates frame number gates → IsAmong gates gate → IsAmong (sum (take number frame.gates), slice_index_or frame.gates number 0) gate
own_gate frame number gate gates h among =
    let low = among.0 in
    let high = among.1 in
    let first = h.first (omega arith) in
    let count = h.count in
    (omega arith, omega arith)

-- two memories, of which one has two gates and one three, and behind them an object that has none
abbrev frame : Frame (Unit {0})
frame = record { world = tt; planned = 1 ∷ 1 ∷ 1 ∷ []; gates = 2 ∷ 3 ∷ 0 ∷ []; notes = 1 }

first_memory : HasGates frame 0 (0, 2)
first_memory = record { count = refl; first = λ _. refl }

second_memory : HasGates frame 1 (2, 3)
second_memory = record { count = refl; first = λ _. refl }

-- a hop or a pool has none, also where others have some before it
none_behind_some : HasGates frame 2 (0, 0)
none_behind_some = record { count = refl; first = λ some. absurd (omega (arith, some)) }

-- a memory whose first gate is off is refused, and one with another count
first_is_off : HasGates frame 1 (3, 3) → ⊥
first_is_off h = let some : 0 < 3 = omega arith in let first : 3 ≡ 2 = h.first some in omega arith

count_is_off : HasGates frame 1 (2, 2) → ⊥
count_is_off h = let count : 2 ≡ 3 = h.count in omega arith

none_where_some : HasGates frame 1 (0, 0) → ⊥
none_where_some h = let count : 0 ≡ 3 = h.count in omega arith
