-- What comes of a call over two streams.
use Rattle.std.specs.Prelude.{ℕ, ◌≡◌, [], Bool}
use Rattle.outside.specs.StreamState.{StreamState, collected, told_by}
use Rattle.trace_print.specs.Writes.{SinkChange}
use Rattle.plan_loads.specs.Exits.{exit_number}
use Rattle.plan_loads.specs.declared.exit.Exit.{Exit}
use Rattle.plan_loads.specs.declared.exit.Exit.TheVariants.{Done}

-- a sink over a stream before and after a call: what the stream holds and then what waits, if it tells that, and the
-- counts of failures
abbrev pub stream_change : Bool → StreamState → StreamState → SinkChange
stream_change tells old new = record {
  taken_before = told_by tells (collected old);
  taken_after = told_by tells (collected new);
  faults_before = old.faults;
  faults_after = new.faults;
}

-- a report that is done was handed to the stream whole: nothing waits
abbrev pub IsWritten : Exit → StreamState → Type 0
IsWritten (Done sealed) s = s.waiting ≡ []
IsWritten exit s = Unit {0}

-- the number of an answer
abbrev pub IsExitNumber : ℕ → Type 0
IsExitNumber n = (exit : Exit) × (n ≡ exit_number exit)
