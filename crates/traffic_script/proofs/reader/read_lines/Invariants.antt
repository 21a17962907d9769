use Rattle.std.proofs.Common.{◌≡◌, ◌+◌, length}
use Rattle.std.specs.Str.Lines.{lines}
use Rattle.traffic_script.specs.Drafts.{empty_draft}
use Rattle.traffic_script.specs.Lines.{with_lines}
use Rattle.traffic_script.specs.Proper.{IsProperDraft}
use Rattle.traffic_script.proofs.reader.read_lines.Given as goal

abbrev pub invariant-loop-line : goal.invariant-loop-line
invariant-loop-line l = record {
  whole : with_lines l.version l.number l.builder (lines l.rest) ≡ with_lines l.version 1 empty_draft (lines l.text);
  numbered : l.number + length (lines l.rest) ≡ length (lines l.text) + 1;
  proper : IsProperDraft l.builder;
}

abbrev pub decreases-loop-line : goal.decreases-loop-line
decreases-loop-line l = length l.rest
