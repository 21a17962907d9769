-- Which plans are valid.
use Rattle.std.specs.Prelude.{ℕ, ◌≡◌, ◌+◌, ◌<◌, length, sum_by, Result, Ok, Err, if◌then◌else◌, nat_lt, codes}
use Rattle.std.specs.List.{range_with_len, AllByRecursion}
use Rattle.platform_model.specs.declared.fault.PlatformCode.TheVariants.{TooManyEntries, TooMuchData}
use Rattle.platform_model.specs.declared.place.Place.TheVariants as place
use Rattle.platform_model.specs.Reading.{PlatformRefusal, refusal}
use Rattle.tlm_types.specs.Reading.{◌>>=◌}
use Rattle.tlm_types.specs.declared.words.ObjectNo.{ObjectNo}
use Rattle.tlm_types.specs.declared.words.ObjectNo.TheVariants.{Memory, Hop, Pool}
use Rattle.tlm_model.specs.declared.platform.Platform.{Platform}
use Rattle.tlm_model.specs.declared.platform.RouterRow.{RouterRow}
use Rattle.tlm_model.specs.Plan.{Plan}
use Rattle.traffic_script.specs.Proper.{AreProper}
use Rattle.platform_shape.specs.Shape.{IsShape}
use Rattle.route_plan.specs.Planned.{planned_at, logged_bytes}

-- how many hops a platform has: one for each initiator, and one for each window
abbrev pub hop_count : Platform → ℕ
hop_count p = length p.initiators + sum_by (λ (r : RouterRow). length r.windows) p.routers

-- there is an object of this number
abbrev pub IsObject : Platform → ObjectNo → Type 0
IsObject p (Memory m) = m < length p.memories
IsObject p (Hop h) = h < hop_count p
IsObject p (Pool n) = n < length p.initiators

abbrev pub most_entries : ℕ
most_entries = 1000000

abbrev pub most_logged : ℕ
most_logged = 67108864

-- the entries planned at all memories, hops and pools
unfoldable pub planned_in_all : Plan → ℕ
planned_in_all p =
    sum_by (λ m. planned_at p (Memory m)) (range_with_len 0 (length p.platform.memories))
    + sum_by (λ h. planned_at p (Hop h)) (range_with_len 0 (hop_count p.platform))
    + sum_by (λ i. planned_at p (Pool i)) (range_with_len 0 (length p.platform.initiators))

unfoldable pub logged_in_all : Plan → ℕ
logged_in_all p = sum_by (λ m. logged_bytes p m) (range_with_len 0 (length p.platform.memories))

-- the limits of what is counted
unfoldable pub checked_plan : Plan → Result (Unit {0}) PlatformRefusal
checked_plan p =
    if nat_lt most_entries (planned_in_all p) then Err (refusal TooManyEntries place.Top (codes "-"))
    else if nat_lt most_logged (logged_in_all p) then Err (refusal TooMuchData place.Top (codes "-"))
    else Ok tt

-- a plan whose counts are within the limits, or why there is none
unfoldable pub planned : Plan → Result Plan PlatformRefusal
planned p = checked_plan p >>= λ _. Ok p

-- A valid plan: a platform of a good shape, a script for each of its initiators, and counts within the limits. Each
-- script is as a text gives one: numbers in their ranges, accesses and debug reads of 1 to 4,096 bytes, and
-- invalidations of one byte at least. Its initiators may be of every style.
pub record IsValid (p : Plan) : Type 0 where
  pub shape : IsShape p.platform
  pub scripts : length p.scripts ≡ length p.platform.initiators
  pub proper : AllByRecursion AreProper p.scripts
  pub limits : checked_plan p ≡ Ok tt
