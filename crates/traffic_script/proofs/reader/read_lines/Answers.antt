use Rattle.std.proofs.Common.{sym, ◌∙◌, ap, length, arith}
use Rattle.std.specs.Str.Lines.{lines}
use Rattle.traffic_script.proofs.DraftLemmas.{with_line_proper}
use Rattle.traffic_script.proofs.WithLines.{with_lines-more}
use Rattle.traffic_script.proofs.reader.read_lines.Goals as goal

pub loop-line-preserved : goal.loop-line-preserved
loop-line-preserved c =
    let first = c.in-Some.ensures.lines in
    let n = c.loop-line.number in
    record {
      whole = sym (with_lines-more c.args.version n c.loop-line.builder c.in-Ok.next c.in-Some.line.now (lines c.loop-line.rest.now) (lines c.in-Some.after.now) first c.in-Ok.ensures) ∙ c.loop-line.invariant.whole;
      numbered = omega (arith, ap length first, c.loop-line.invariant.numbered);
      proper = with_line_proper c.args.version n c.loop-line.builder c.in-Ok.next c.in-Some.line.now c.loop-line.invariant.proper c.in-Ok.ensures;
    }
