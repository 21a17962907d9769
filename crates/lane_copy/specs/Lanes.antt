-- Masked copies, byte by byte (IEEE 1666-2011, clause 14).
use Rattle.std.specs.Prelude.{ℕ, ◌%◌, List, length, map, slice_index, if◌then◌else◌, ◌==◌}
use Rattle.std.specs.List.{range_with_len}
use Rattle.tlm_types.specs.Enables.{is_lane_enabled}

-- a byte, where its enable lets it through, and else the old one
abbrev pub chosen : ℕ → ℕ → ℕ → ℕ
chosen enable byte old = if enable == 0xff then byte else old

-- byte k of a masked copy: the source's where it is enabled, and else the old one
abbrev pub merged_byte : List ℕ → List ℕ → List ℕ → ℕ → ℕ
merged_byte dst src enables k = if is_lane_enabled enables k then slice_index src k else slice_index dst k

-- a masked copy of these bytes over the old ones
abbrev pub merged : List ℕ → List ℕ → List ℕ → List ℕ
merged dst src enables = map (merged_byte dst src enables) (range_with_len 0 (length dst))

-- n bytes, over which the enables repeat
abbrev pub expanded : ℕ → List ℕ → List ℕ
expanded n enables = map (λ k. slice_index enables (k % length enables)) (range_with_len 0 n)
