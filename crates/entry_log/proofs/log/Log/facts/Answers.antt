use Rattle.std.proofs.Common.{◌≡◌, List, Some, slice_get, ◌∙◌, ap, subst, sym}
use Rattle.std.specs.Prelude.{IfSome, option_and_then}
use Rattle.tlm_types.specs.declared.entry.Entry.{Entry}
use Rattle.tlm_types.specs.declared.words.Command.TheVariants.{Read}
use Rattle.tlm_types.specs.Entries.{facts_of, read_at, read_sends, sent_of}
use Rattle.log_items.specs.Items.{facts_from}
use Rattle.entry_log.proofs.Accesses.{read_at-sends}
use Rattle.entry_log.proofs.Pasts.{stored_whole}
use Rattle.entry_log.proofs.Stored.{read_at-facts}
use Rattle.entry_log.proofs.log.Log.facts.Goals as goal

pub returns-clause-facts : goal.returns-clause-facts
returns-clause-facts c =
    let s = c.self.inside in
    let read = read_at-facts s.bytes.items s.items.items c.args.index in
    let same = stored_whole s c.args.self.now c.self.invariant.before c.self.view_is c.requires.whole in
    c.facts.ensures ∙ sym read ∙ ap (λ (es : List Entry). read_at facts_of es c.args.index) same

pub returns-clause-reads : goal.returns-clause-reads
returns-clause-reads c =
    let s = c.self.inside in
    let sends = read_at-sends s.bytes.items s.items.items c.args.index in
    let same = stored_whole s c.args.self.now c.self.invariant.before c.self.view_is c.requires.whole in
    rw c.facts.ensures (subst (λ (es : List Entry). IfSome (option_and_then (λ i. facts_from i.item.event) (slice_get s.items.items c.args.index)) (λ f. f.command ≡ Read → read_at sent_of es c.args.index ≡ Some (read_sends f.way f.length))) same sends)
