use Rattle.std.proofs.Common.{ℕ, List, [], ◌∷◌, ◌++◌, ap, sym, ◌∙◌, rules}
use Rattle.run_queue.proofs.Places.{range_with_len-more}
use Rattle.run_queue.proofs.jobs.make_order.Goals as goal

pub loop-number-preserved : goal.loop-number-preserved
loop-number-preserved c =
    let number = c.loop-number.number in
    record {
      order = c.in_ok-push_back.ensures.items ∙ ap (λ (l : List ℕ). l ++ number ∷ []) c.loop-number.invariant.order ∙ sym (range_with_len-more number);
      room = search rules;
    }
