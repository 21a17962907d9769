use Rattle.std.proofs.Common.{List, ap, arith, map}
use Rattle.std.proofs.lemmas.List.{take_all}
use Rattle.tlm_types.specs.declared.ends.RefusedItem.{RefusedItem}
use Rattle.trace_print.specs.Told.{refused_item_words, text_of}
use Rattle.trace_print.proofs.EndLemmas.{refusals-more}
use Rattle.trace_print.proofs.Putting.{puts-more, puts-nothing, puts-as}
use Rattle.trace_print.proofs.ends.put_refusals.Goals as goal

pub loop-index-init : goal.loop-index-init
loop-index-init g c = puts-nothing _

pub loop-index-preserved : goal.loop-index-preserved
loop-index-preserved g c = puts-as _ _ _ _ (puts-more _ _ _ _ _ c.loop-index.invariant c.put_refused.ensures) (refusals-more _ _ _ _ c.item.ensures)

pub returns : goal.returns
returns g c = puts-as _ _ _ _ c.loop-index.invariant (ap (λ (l : List RefusedItem). text_of (map (refused_item_words c.args.name.now) l)) (take_all c.loop-index.index c.args.refused.now.items (omega arith)))
