use Rattle.std.proofs.Common.{◌∙◌, ◌∷◌, [], Some, ℕ, ap, arith, length, length-append, subst, sym}
use Rattle.std.specs.Prelude.{slice_get}
use Rattle.report_model.specs.Report.{hop_words}
use Rattle.trace_print.specs.Hops.{AreEach, IsHopWord, hop_word_of}
use Rattle.tlm_model.specs.declared.platform.Platform.{Platform}
use Rattle.trace_print.proofs.HopLemmas.{each-push, hop-named}
use Rattle.trace_print.proofs.names.words_of_hops.Goals as goal

pub loop-hop-preserved : goal.loop-hop-preserved
loop-hop-preserved c =
    let p = c.args.plan.now.platform in
    let old = c.loop-hop.rows.items in
    let word = c.in-Some-of.word in
    let name = c.in-Some-of.ensures ∙ (c.as_slice.ensures.value ∙ (c.in_ok-name.ensures ∙ ap (λ (r : Platform). hop_word_of r c.in-Some.ends) c.platform.ensures.same)) in
    let next = ap (λ (k : ℕ). slice_get (hop_words p) k) c.loop-hop.invariant.count ∙ (hop-named p c.loop-hop.hop c.in-Some.ends (sym c.in-Some.ensures.ends) ∙ ap Some (sym name)) in
    record {
      named = subst (AreEach (IsHopWord p)) (sym c.in_ok-push.ensures.items) (each-push (IsHopWord p) old word c.loop-hop.invariant.named next);
      count = omega (arith, ap length c.in_ok-push.ensures.items, length-append old (word ∷ []), c.loop-hop.invariant.count);
    }
