use Rattle.std.proofs.Common.{◌∷◌, [], ℕ, ap, arith, length, length-append, subst, sym}
use Rattle.trace_print.specs.Hops.{AreEach, AreInitiatorWords}
use Rattle.trace_print.proofs.HopLemmas.{each-push}
use Rattle.trace_print.proofs.names.words_of_initiators.Goals as goal

pub loop-initiator-preserved : goal.loop-initiator-preserved
loop-initiator-preserved c =
    let p = c.args.platform.now in
    let old = c.loop-initiator.rows.items in
    let words = c.in-Some.words in
    let known = rw c.in-Some.is at c.in_ok-words.ensures in
    let next = subst (λ (k : ℕ). AreInitiatorWords p k words) (sym c.loop-initiator.invariant.count) known in
    record {
      named = subst (AreEach (AreInitiatorWords p)) (sym c.in_ok-push.ensures.items) (each-push (AreInitiatorWords p) old words c.loop-initiator.invariant.named next);
      count = omega (arith, ap length c.in_ok-push.ensures.items, length-append old (words ∷ []), c.loop-initiator.invariant.count);
    }
