-- Counts of failures.
use Rattle.std.specs.Prelude.{ℕ, ◌+◌, ◌-◌, ◌^◌, ◌≤◌, min}
use Rattle.outside.specs.declared.traits.LoadFault.{LoadFault}
use Rattle.outside.specs.declared.traits.LoadFault.TheVariants.{Failed, TooLong, Memory}

-- a count after one more failure: it stands still at the greatest u64
abbrev pub next_count : ℕ → ℕ
next_count n = min (n + 1) (2 ^ 64 - 1)

-- the count is past the old one, or stands at the greatest u64
abbrev pub Rose : ℕ → ℕ → Type 0
Rose before now = next_count before ≤ now

-- a library's count after a load that was answered so: only a failure is counted
abbrev pub faults_after : ℕ → LoadFault → ℕ
faults_after n Failed = next_count n
faults_after n TooLong = n
faults_after n Memory = n
