-- What each initiator of a plan may add to each object, as it is counted and as it is kept.
use Rattle.std.specs.Prelude.{◌≡◌, ℕ, ◌+◌, ◌*◌, List, map, length, sum_by, Option, Some, None, slice_get, Result, Ok, Err, if◌then◌else◌, nat_lt, codes}
use Rattle.std.specs.List.{range_with_len}
use Rattle.platform_model.specs.declared.fault.PlatformCode.TheVariants.{TooManyEntries, TooMuchData}
use Rattle.platform_model.specs.declared.place.Place.TheVariants as place
use Rattle.platform_model.specs.Reading.{PlatformRefusal, refusal}
use Rattle.tlm_model.specs.declared.operation.Operation.{Operation}
use Rattle.tlm_model.specs.declared.platform.MemoryRow.{MemoryRow}
use Rattle.tlm_model.specs.declared.platform.Platform.{Platform}
use Rattle.tlm_model.specs.Plan.{Plan}
use Rattle.platform_shape.specs.Paths.{once}
use Rattle.route_plan.specs.declared.counts.Count.{Count}
use Rattle.route_plan.specs.declared.shares.Share.{Share}
use Rattle.route_plan.specs.Counted.{is_granted_at, logged_share_at, share_at}
use Rattle.route_plan.specs.Counts.{count_in}
use Rattle.route_plan.specs.Places.{object_at, object_count}
use Rattle.route_plan.specs.Valid.{most_entries, most_logged}

-- the entries of a memory's gates for the initiator with number n and so many invalidations
abbrev pub gates_of : Platform → ℕ → ℕ → ℕ → Option MemoryRow → ℕ
gates_of p n m invalidations None = 0
gates_of p n m invalidations (Some row) =
    if row.traits.dmi then row.traits.gates * (once (is_granted_at p n m) + once (nat_lt 0 invalidations)) else 0

abbrev pub gates_in : Platform → ℕ → ℕ → ℕ → ℕ
gates_in p n m invalidations = gates_of p n m invalidations (slice_get p.memories m)

-- what the initiator with number n may add at place k where this is counted of its script: a memory has gates, too
abbrev pub share_in : Platform → ℕ → ℕ → Count → Share
share_in p n k count = record { entries = count.entries + gates_in p n k count.invalidations; logged = count.logged }

-- what the initiator with number n and this script may add at each place
abbrev pub script_shares : Platform → ℕ → List Operation → List Share
script_shares p n script = map (λ k. share_in p n k (count_in p n script k)) (range_with_len 0 (object_count p))

abbrev pub no_share : Share
no_share = record { entries = 0; logged = 0 }

-- a platform with the scripts of its initiators
abbrev pub with_scripts : Platform → List (List Operation) → Plan
with_scripts p scripts = record { platform = p; scripts = scripts }

-- what the initiator with number n may add at place k
abbrev pub pair_share : Plan → ℕ → ℕ → Share
pair_share p k n = record { entries = share_at p n (object_at p.platform k); logged = logged_share_at p n k }

-- what the initiator with number n may add at each place
abbrev pub initiator_shares : Plan → ℕ → List Share
initiator_shares p n = map (λ k. pair_share p k n) (range_with_len 0 (object_count p.platform))

-- the same of each initiator
abbrev pub shares_by_initiator : Plan → List (List Share)
shares_by_initiator p = map (initiator_shares p) (range_with_len 0 (length p.platform.initiators))

-- what each initiator may add at place k
unfoldable pub object_shares : Plan → ℕ → List Share
object_shares p k = map (pair_share p k) (range_with_len 0 (length p.platform.initiators))

-- the same of each place
unfoldable pub shares_of : Plan → List (List Share)
shares_of p = map (object_shares p) (range_with_len 0 (object_count p.platform))

abbrev pub entries_in : List Share → ℕ
entries_in shares = sum_by (λ (s : Share). s.entries) shares

abbrev pub logged_in : List Share → ℕ
logged_in shares = sum_by (λ (s : Share). s.logged) shares

-- the limits of what is counted, where this is all of it
unfoldable pub checked_shares : List (List Share) → Result (Unit {0}) PlatformRefusal
checked_shares shares =
    if nat_lt most_entries (sum_by entries_in shares) then Err (refusal TooManyEntries place.Top (codes "-"))
    else if nat_lt most_logged (sum_by logged_in shares) then Err (refusal TooMuchData place.Top (codes "-"))
    else Ok tt

-- what is counted is within the limits
abbrev pub HavePassed : List (List Share) → Type 0
HavePassed shares = checked_shares shares ≡ Ok tt
