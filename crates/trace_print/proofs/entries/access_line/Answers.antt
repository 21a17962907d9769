use Rattle.std.proofs.Common.{◌≡◌, ap, sym, ◌∙◌}
use Rattle.std.specs.Prelude.{slice_get}
use Rattle.tlm_types.specs.declared.entry.Head.{Head}
use Rattle.tlm_types.specs.Entries.{head_of}
use Rattle.trace_print.proofs.EntryLemmas.{access-text-is, no-operand, operand-access-at, shown-access-at}
use Rattle.line_text.proofs.WordLemmas.{data-none}
use Rattle.trace_print.proofs.entries.access_line.Goals as goal

pub returns-then-is_short-clause-text : goal.returns-then-is_short-clause-text
returns-then-is_short-clause-text c e here =
    let a = c.in_ok-access.access in
    let known = c.in_ok-access.ensures in
    let found = rw here at known.head in
    let same : a.head ≡ head_of e = cc in
    let facts = rw here at known.facts in
    let enables = rw here at known.enables in
    let read = shown-access-at (slice_get c.args.log.now.entries c.args.index) a.facts a.sent.now a.got.now (sym known.facts) known.sent known.got in
    let bytes = rw (here, ← c.shown.ensures) at read in
    let told = operand-access-at (slice_get c.args.log.now.entries c.args.index) a.facts a.sent.now (sym known.facts) known.sent in
    let alone = rw (here, no-operand a.facts.command a.sent.now (sym c.has_operand.ensures ∙ c.if-has_operand.false)) at told in
    let object = ap (λ (h : Head). h.object) (sym same) ∙ c.in-Memory.is in
    let text = access-text-is c.args.names.now.platform e c.in-Memory.memory a.facts a.enables.now c.shown.result.now object (sym facts) enables (sym alone) (sym bytes) (data-none a.enables.now (sym c.is_empty.ensures ∙ c.if-not-is_empty.false)) in
    rw (c.in_ok-front.ensures.text, c.in_ok-front.ensures.head, same, c.in_ok-object.ensures) text
