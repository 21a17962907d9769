use Rattle.std.proofs.Common.{◌<◌, List, [], ◌∷◌, ◌++◌, length, take, ap, sym, ◌∙◌, arith}
use Rattle.std.proofs.lemmas.List.{take_more}
use Rattle.std.proofs.lemmas.Option.{get_or_from_slice_get}
use Rattle.tlm_types.specs.declared.ends.RefusedItem.{RefusedItem}
use Rattle.tlm_types.specs.Refused.{Refusals}
use Rattle.initiator_run.proofs.run.copied_refusals.Goals as goal

pub loop-at-preserved : goal.loop-at-preserved
loop-at-preserved c =
    let xs : List RefusedItem = c.args.refused.now.items in
    let at = c.loop-at.at in
    let x : RefusedItem = c.item.result in
    let under = c.loop-at-test.true in
    let all = c.len-count.ensures in
    let less : at < length xs = omega arith in
    record {
      items =
          ap (λ (l : Refusals). l.items) c.push.ensures
          ∙ (ap (λ (l : List RefusedItem). l ++ x ∷ []) c.loop-at.invariant.items
          ∙ (ap (λ (y : RefusedItem). take at xs ++ y ∷ []) (sym (get_or_from_slice_get xs at x x c.item.ensures)) ∙ sym (take_more xs at x less)));
      room = ap (λ (l : Refusals). l.room) c.push.ensures ∙ c.loop-at.invariant.room;
    }
