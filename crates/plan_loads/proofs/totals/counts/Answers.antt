use Rattle.std.proofs.Common.{◌≡◌, ◌∙◌, List, ap, arith, slice_get, cond}
use Rattle.tlm_types.specs.declared.entry.Entry.{Entry}
use Rattle.tlm_types.specs.Entries.{is_access}
use Rattle.run_outcome.specs.Places.{MergedView}
use Rattle.trace_print.proofs.EntryLemmas.{next-entry}
use Rattle.plan_loads.specs.Totals.{is_take}
use Rattle.plan_loads.proofs.Counting.{accesses-more, one-at-most, one-if, takes-more}
use Rattle.plan_loads.proofs.totals.counts.Goals as goal

pub loop-position-preserved : goal.loop-position-preserved
loop-position-preserved c =
    let before = c.loop-position.invariant in
    let h = c.args.reader.now.entries in
    let i = c.loop-position.position in
    let same = ap (λ (v : MergedView). v.entries) before.same in
    let next = next-entry h i (omega arith) in
    let at = c.at-index.ensures.same ∙ (ap (λ (es : List Entry). slice_get es i) same ∙ next.1) in
    let access : c.from-accesses.result ≡ cond (is_access next.0.what) 1 0 = c.from-accesses.ensures ∙ one-if _ _ (c.is_access.ensures next.0 at) in
    let taken : c.from-payloads.result ≡ cond (is_take next.0.what) 1 0 = c.from-payloads.ensures ∙ one-if _ _ (c.is_take.ensures next.0 at) in
    record {
      same = c.at-index.ensures.entries ∙ before.same;
      accesses = rw (before.accesses, access) (accesses-more h i next.0 next.2);
      payloads = rw (before.payloads, taken) (takes-more h i next.0 next.2);
      few = omega (arith, before.few, access, one-at-most (is_access next.0.what));
      fewer = omega (arith, before.fewer, taken, one-at-most (is_take next.0.what));
    }
