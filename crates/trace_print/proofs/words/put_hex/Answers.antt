use Rattle.std.proofs.Common.{ap, arith}
use Rattle.std.proofs.lemmas.List.{take_all}
use Rattle.tlm_model.specs.Text.{hex_of}
use Rattle.trace_print.proofs.Putting.{puts-as, puts-more, puts-nothing}
use Rattle.line_text.proofs.WordLemmas.{hex-next}
use Rattle.trace_print.proofs.words.put_hex.Goals as goal

pub loop-start-init : goal.loop-start-init
loop-start-init g c = (omega arith, puts-nothing _)

pub loop-start-preserved : goal.loop-start-preserved
loop-start-preserved g c =
    let l = c.loop-start in
    (omega arith, puts-as _ _ _ _ (puts-more _ _ _ _ _ l.invariant.1 c.put_chunk.ensures) (hex-next c.args.bytes.now l.start c.min-count.result))

pub returns : goal.returns
returns g c = puts-as _ _ _ _ c.loop-start.invariant.1 (ap hex_of (take_all c.loop-start.start c.args.bytes.now (omega arith)))
