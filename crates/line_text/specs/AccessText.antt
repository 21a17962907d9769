-- The line of an access without byte enables.
use Rattle.std.specs.Prelude.{ℕ, ◌+◌, ◌*◌, ◌≤◌, List, ◌++◌, length}
use Rattle.tlm_model.specs.Text.{data_word}
use Rattle.line_text.specs.declared.access.AccessLine.{AccessLine}
use Rattle.line_text.specs.FrontText.{front_text, IsFrontReady}
use Rattle.line_text.specs.Pieces.{status_text, unmasked_text}

-- the whole line
abbrev pub access_text : AccessLine → List ℕ
access_text a = front_text a.front ++ (a.memory.now ++ (unmasked_text a.facts ++ (data_word a.shown.now ++ status_text a.facts.status)))

-- the digits of its numbers are at hand, and it shows as few bytes as the lines of a run do
pub record IsShort (a : AccessLine) : Type 0 where
  pub front : IsFrontReady a.front
  pub shown : length a.shown.now ≤ 4096

-- how many bytes it takes at most: all but what it shows up to 299
abbrev pub access_room : AccessLine → ℕ
access_room a = 299 + 2 * length a.shown.now
