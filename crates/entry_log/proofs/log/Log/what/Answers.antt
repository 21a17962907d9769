use Rattle.std.proofs.Common.{List, ◌∙◌, ap, sym}
use Rattle.tlm_types.specs.Entries.{plain_of, read_at}
use Rattle.tlm_types.specs.declared.entry.Entry.{Entry}
use Rattle.entry_log.proofs.Pasts.{stored_whole}
use Rattle.entry_log.proofs.Stored.{read_at-plain}
use Rattle.entry_log.proofs.log.Log.what.Goals as goal

pub returns : goal.returns
returns c =
    let s = c.self.inside in
    let read = read_at-plain s.bytes.items s.items.items c.args.index in
    let same = stored_whole s c.args.self.now c.self.invariant.before c.self.view_is c.requires.whole in
    c.what.ensures ∙ sym read ∙ ap (λ (es : List Entry). read_at plain_of es c.args.index) same
