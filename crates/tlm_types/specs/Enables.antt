-- Byte enables (IEEE 1666-2011, clause 14.13).
use Rattle.std.specs.Prelude.{ℕ, ◌%◌, Bool, true, List, length, slice_index, if◌then◌else◌, ◌==◌, ◌||◌}

-- an element of byte enables: disabled or enabled
abbrev pub is_enable : ℕ → Bool
is_enable element = (element == 0x00) || (element == 0xff)

-- data byte k is enabled: the elements repeat, and without any each byte is enabled
abbrev pub is_lane_enabled : List ℕ → ℕ → Bool
is_lane_enabled enables k = if length enables == 0 then true else (slice_index enables (k % length enables) == 0xff)
