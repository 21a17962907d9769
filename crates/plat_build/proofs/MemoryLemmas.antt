-- A memory is built as the plan says.
use Rattle.std.proofs.Common.{◌≡◌, ℕ, ◌<◌, [], length, take, sum, get_or, Option, Some, None, true, refl, sym, ap, subst, ◌∙◌}
use Rattle.std.specs.Prelude.{IsSomeAnd, slice_get}
use Rattle.atomic_table.specs.Seated.{TableId}
use Rattle.one_history.specs.declared.view.Frame.{Frame}
use Rattle.shared_object.specs.Written.{own_number}
use Rattle.shared_object.specs.Standing.{place, IsBuiltFor}
use Rattle.tlm_types.specs.declared.words.MemoryTraits.{MemoryTraits}
use Rattle.tlm_types.specs.declared.words.ObjectNo.TheVariants.{Memory}
use Rattle.tlm_model.specs.declared.platform.MemoryRow.{MemoryRow}
use Rattle.tlm_model.specs.Plan.{Plan}
use Rattle.region_object.specs.Region.{LoggedMemory}
use Rattle.region_object.specs.Written.{built_of}
use Rattle.cargo_net.specs.Traffic.{IsMemoryBuilt}
use Rattle.cargo_net.specs.Gates.{gates_at, gates_of, row_gates}
use Rattle.plat_net.specs.Objects.{frame_of}
use Rattle.plat_net.proofs.Lookups.{some_below}
use Rattle.plat_net.proofs.ObjectLemmas.{gates_at_memory}

-- a memory with an empty log
abbrev pub blank_memory : ℕ → MemoryTraits → ℕ → ℕ → ℕ → LoggedMemory
blank_memory m traits first_gate entries bytes = record { number = m; traits = traits; first_gate = first_gate; log = record { entries = []; room = entries; room_bytes = bytes; whole = true } }

gates_in_row : (traits : MemoryTraits) (o : Option MemoryRow) → IsSomeAnd o (λ (row : MemoryRow). traits ≡ row.traits) → traits.gates ≡ row_gates o
gates_in_row traits None h = absurd h
gates_in_row traits (Some row) h = ap (λ (t : MemoryTraits). t.gates) h

-- it may stand there
pub built_for : (p : Plan) (f : Frame Plan) (tokens : TableId) (m owner entries bytes first_gate : ℕ) (traits : MemoryTraits) (memory : LoggedMemory) → f ≡ frame_of p → owner ≡ m → memory ≡ blank_memory m traits first_gate entries bytes
    → IsSomeAnd (slice_get p.platform.memories m) (λ (row : MemoryRow). traits ≡ row.traits) → first_gate ≡ sum (take m (gates_of p.platform))
    → IsBuiltFor IsMemoryBuilt (place f tokens owner (own_number (built_of memory).object)) (built_of memory)
built_for p f tokens m owner entries bytes first_gate traits memory frame mine is row gate =
    let blank : LoggedMemory = blank_memory m traits first_gate entries bytes in
    let below : m < length p.platform.memories = some_below (λ (row : MemoryRow). traits ≡ row.traits) p.platform.memories m row in
    let count : traits.gates ≡ gates_at p.platform (Memory m) = gates_in_row traits (slice_get p.platform.memories m) row in
    let gates : (first_gate, traits.gates) ≡ (sum (take m (gates_of p.platform)), gates_at p.platform (Memory m)) = λ i. (gate i, count i) in
    let listed : gates_at p.platform (Memory m) ≡ get_or (gates_of p.platform) m 0 = sym (gates_at_memory p.platform m below) in
    let base : IsBuiltFor IsMemoryBuilt (place (frame_of p) tokens m (own_number (built_of blank).object)) (built_of blank) =
    record { own = refl; world = record { object = refl; row = row; gates = gates; book = refl }; gates = record { count = count ∙ listed; first = λ some. gate }; book = tt } in
    let with_frame : IsBuiltFor IsMemoryBuilt (place f tokens m (own_number (built_of blank).object)) (built_of blank) =
    subst (λ (x : Frame Plan). IsBuiltFor IsMemoryBuilt (place x tokens m (own_number (built_of blank).object)) (built_of blank)) (sym frame) base in
    let with_owner : IsBuiltFor IsMemoryBuilt (place f tokens owner (own_number (built_of blank).object)) (built_of blank) =
    subst (λ (k : ℕ). IsBuiltFor IsMemoryBuilt (place f tokens k (own_number (built_of blank).object)) (built_of blank)) (sym mine) with_frame in
    subst (λ (x : LoggedMemory). IsBuiltFor IsMemoryBuilt (place f tokens owner (own_number (built_of x).object)) (built_of x)) (sym is) with_owner
