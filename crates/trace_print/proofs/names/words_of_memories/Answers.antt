use Rattle.std.proofs.Common.{◌∙◌, ◌∷◌, [], ℕ, ap, arith, length, length-append, subst, sym}
use Rattle.report_model.specs.Report.{memory_name}
use Rattle.trace_print.specs.Hops.{AreEach, IsMemoryWord}
use Rattle.trace_print.proofs.HopLemmas.{each-push}
use Rattle.trace_print.proofs.names.words_of_memories.Goals as goal

pub loop-memory-preserved : goal.loop-memory-preserved
loop-memory-preserved c =
    let p = c.args.platform.now in
    let old = c.loop-memory.rows.items in
    let word = c.in-Some.word in
    let name = c.in-Some.ensures ∙ (c.as_bytes-name.ensures.value ∙ c.memory_name.ensures) in
    let next = name ∙ ap (λ (k : ℕ). memory_name p k) (sym c.loop-memory.invariant.count) in
    record {
      named = subst (AreEach (IsMemoryWord p)) (sym c.in_ok-push.ensures.items) (each-push (IsMemoryWord p) old word c.loop-memory.invariant.named next);
      count = omega (arith, ap length c.in_ok-push.ensures.items, length-append old (word ∷ []), c.loop-memory.invariant.count);
    }
