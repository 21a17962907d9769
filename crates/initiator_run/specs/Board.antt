-- What the rounds know of a run.
use Rattle.std.specs.Prelude.{ℕ, ◌≡◌, ◌+◌, ◌<◌, ◌≤◌, Bool, true, false, List, slice_set}
use Rattle.time_board.specs.declared.rounds.Member.{Member}
use Rattle.time_board.specs.Rounds.{AreClose, member_of}
use Rattle.initiator_run.specs.Run.{Run}

-- whoever has not finished has reached the round before this one
abbrev pub IsNear : List Member → ℕ → Type 0
IsNear members round = (k : ℕ) → (member_of members k).finished ≡ false → round ≤ (member_of members k).round + 1

-- A run is member n: it is in the round of its last sync, or in the one before, if that sync has not been let
-- through. It doesn't finish before that.
pub record IsInRound (members : List Member) (n : ℕ) (r : Run) : Type 0 where
  pub member : member_of members n ≡ record { round = r.round; finished = r.finished }
  pub reached : r.round ≤ r.syncs
  pub ahead : r.syncs ≤ r.round + 1
  pub through : r.finished ≡ true → r.round ≡ r.syncs

-- a run has gone on, and of the members its own has
pub record HasGoneOn (old new : Run) (before after : List Member) : Type 0 where
  pub member : after ≡ slice_set before old.engine.initiator (record { round = new.round; finished = new.finished })
  pub more : old.round ≤ new.round
  pub reached : new.round ≤ new.syncs
  pub ahead : new.syncs ≤ new.round + 1
  pub close : AreClose after
  pub near : IsNear after new.round

-- the last sync of a run has not been let through, since somebody is behind
pub record IsWaiting (members : List Member) (r : Run) : Type 0 where
  pub held : r.round < r.syncs
  pub other : ℕ
  pub unfinished : (member_of members other).finished ≡ false
  pub behind : (member_of members other).round < r.round

-- the last sync of a run has been let through, or not
abbrev pub IsLet : List Member → Run → Bool → Type 0
IsLet members r true = r.round ≡ r.syncs
IsLet members r false = IsWaiting members r

-- moves without an entry make at most one sync, which isn't let through yet
pub record SyncsOnce (old new : Run) : Type 0 where
  pub round : new.round ≡ old.round
  pub more : old.syncs ≤ new.syncs
  pub once : new.syncs ≤ old.syncs + 1
