-- What is kept of counts, place by place.
use Rattle.std.specs.Prelude.{◌≡◌, ℕ, ◌+◌, ◌-◌, ◌^◌, ◌<◌, List, map, length, min, slice_index_or}
use Rattle.std.specs.List.{range_with_len}
use Rattle.tlm_model.specs.declared.operation.Operation.{Operation}
use Rattle.tlm_model.specs.declared.platform.Platform.{Platform}
use Rattle.route_plan.specs.declared.counts.Count.{Count}
use Rattle.route_plan.specs.Counted.{Counted, counted_in}
use Rattle.route_plan.specs.Counted.Counted.{Entries, Logged, Invalidations}
use Rattle.route_plan.specs.Places.{object_count}

-- one of the numbers of a count
abbrev pub counted_number : Counted → Count → ℕ
counted_number Entries k = k.entries
counted_number Logged k = k.logged
counted_number Invalidations k = k.invalidations

abbrev pub no_count : Count
no_count = record { entries = 0; logged = 0; invalidations = 0 }

-- so many entries, and nothing else
abbrev pub entries_only : Counted → ℕ → ℕ
entries_only Entries n = n
entries_only Logged n = 0
entries_only Invalidations n = 0

-- what is kept at place k
abbrev pub kept_at : List Count → Counted → ℕ → ℕ
kept_at counts c k = counted_number c (slice_index_or counts k no_count)

-- a sum that stands still at the greatest number
abbrev pub capped : ℕ → ℕ
capped n = min n (2 ^ 64 - 1)

-- what is kept at each place is so much more than before
abbrev pub AreMore : (Counted → ℕ → ℕ) → List Count → List Count → Type 0
AreMore more before after = (c : Counted) (k : ℕ) → k < length before → capped (kept_at after c k) ≡ capped (kept_at before c k + more c k)

-- what is counted at place k of these operations of the initiator with number n
abbrev pub count_in : Platform → ℕ → List Operation → ℕ → Count
count_in p n operations k =
    record { entries = counted_in Entries p n k operations; logged = counted_in Logged p n k operations; invalidations = counted_in Invalidations p n k operations }

-- the same at each place
abbrev pub counts_of : Platform → ℕ → List Operation → List Count
counts_of p n operations = map (count_in p n operations) (range_with_len 0 (object_count p))
