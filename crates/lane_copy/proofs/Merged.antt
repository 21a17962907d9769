-- Laws of a masked copy.
use Rattle.std.proofs.Common.{◌≡◌, ℕ, ◌<◌, List, length, get_or, sym, refl}
use Rattle.std.proofs.lemmas.List.FromFn.{fill_by_all}
use Rattle.lane_copy.specs.Lanes.{merged, merged_byte}

-- a list that has each byte of the copy is the copy
pub merged_from_bytes : (dst src enables line : List ℕ) → length line ≡ length dst → ((k : ℕ) → k < length dst → get_or line k 0 ≡ merged_byte dst src enables k) → line ≡ merged dst src enables
merged_from_bytes dst src enables line same bytes = fill_by_all (merged_byte dst src enables) line (length dst) 0 same bytes

-- without enables the copy is the source
pub merged-no_enables : (dst src enables : List ℕ) → length enables ≡ 0 → length dst ≡ length src → src ≡ merged dst src enables
merged-no_enables dst src enables none same =
    merged_from_bytes dst src enables src (sym same) (λ k within. rw none refl)
