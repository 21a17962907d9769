-- Worked rows: the definitions compute what was worked out by hand.
use Rattle.std.proofs.Common.{◌≡◌, ℕ, ◌+◌, ◌-◌, ◌^◌, List, [], ◌∷◌, None, Some, refl}
use Rattle.addr_router.specs.declared.window.Window.{Window}
use Rattle.addr_router.specs.declared.window.WindowFault.TheVariants.{Empty, PastEnd, Overlap}
use Rattle.addr_router.specs.Windows.{decoded, greatest_address, translated_up, window_fault}

abbrev window : ℕ → ℕ → ℕ → ℕ → Window
window first last port base = record { first = first; last = last; port = port; base = base }

-- a window that leads to port 0, which sees it from 0 on
abbrev span : ℕ → ℕ → Window
span first last = window first last 0 0

touching : window_fault (span 0 7 ∷ span 8 15 ∷ []) ≡ None
touching = refl

one_address_in_common : window_fault (span 0 8 ∷ span 8 15 ∷ []) ≡ Some (Overlap 0 1)
one_address_in_common = refl

inside_another : window_fault (span 0 0xfff ∷ span 0x800 0x8ff ∷ []) ≡ Some (Overlap 0 1)
inside_another = refl

around_another : window_fault (span 4 5 ∷ span 0 9 ∷ []) ≡ Some (Overlap 0 1)
around_another = refl

third_meets_both : window_fault (span 0 7 ∷ span 8 15 ∷ span 4 11 ∷ []) ≡ Some (Overlap 0 2)
third_meets_both = refl

third_meets_second : window_fault (span 0 7 ∷ span 8 15 ∷ span 12 20 ∷ []) ≡ Some (Overlap 1 2)
third_meets_second = refl

least_later_row : window_fault (span 0 7 ∷ span 16 31 ∷ span 20 21 ∷ span 0 1 ∷ []) ≡ Some (Overlap 1 2)
least_later_row = refl

of_one_address : window_fault (span 3 3 ∷ []) ≡ None
of_one_address = refl

at_the_greatest_address : window_fault (window greatest_address greatest_address 0 greatest_address ∷ []) ≡ None
at_the_greatest_address = refl

last_past_the_end : window_fault (span 0 (2 ^ 63) ∷ []) ≡ Some (PastEnd 0)
last_past_the_end = refl

base_past_the_end : window_fault (window 0x10 0x1f 0 (2 ^ 63 - 15) ∷ []) ≡ Some (PastEnd 0)
base_past_the_end = refl

base_at_the_end : window_fault (window 0x10 0x1f 0 (2 ^ 63 - 16) ∷ []) ≡ None
base_at_the_end = refl

empty_before_past_end : window_fault (span (2 ^ 63 + 1) (2 ^ 63) ∷ []) ≡ Some (Empty 0)
empty_before_past_end = refl

row_by_row : window_fault (span 0 (2 ^ 63) ∷ span 8 7 ∷ []) ≡ Some (PastEnd 0)
row_by_row = refl

empty_before_overlap : window_fault (span 0 7 ∷ span 0 7 ∷ span 9 8 ∷ []) ≡ Some (Empty 2)
empty_before_overlap = refl

-- a bus with a hole between its two windows
abbrev bus : List Window
bus = window 0x100 0x17f 0 0x40 ∷ window 0x200 0x200 1 0 ∷ []

valid_bus : window_fault bus ≡ None
valid_bus = refl

down_at_first : decoded bus 0x100 ≡ Some (0, 0x40)
down_at_first = refl

down_at_last : decoded bus 0x17f ≡ Some (0, 0xbf)
down_at_last = refl

down_past_last : decoded bus 0x180 ≡ None
down_past_last = refl

down_before_first : decoded bus 0xff ≡ None
down_before_first = refl

down_in_the_second : decoded bus 0x200 ≡ Some (1, 0)
down_in_the_second = refl

up_of_more : translated_up bus 0 0xff 0 ≡ Some (0x100, 0x17f)
up_of_more = refl

up_of_nothing : translated_up bus 0 0x3f 0 ≡ None
up_of_nothing = refl

up_of_a_part : translated_up bus 0x50 0x60 0 ≡ Some (0x110, 0x120)
up_of_a_part = refl

up_of_one_address : translated_up bus 0 0xff 1 ≡ Some (0x200, 0x200)
up_of_one_address = refl
