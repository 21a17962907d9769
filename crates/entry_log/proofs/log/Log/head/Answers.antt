use Rattle.std.proofs.Common.{List, slice_get, ◌∙◌, ap, sym}
use Rattle.std.specs.Prelude.{option_map}
use Rattle.tlm_types.specs.declared.entry.Entry.{Entry}
use Rattle.tlm_types.specs.Entries.{head_of}
use Rattle.entry_log.proofs.Pasts.{stored_whole}
use Rattle.entry_log.proofs.Stored.{read_head}
use Rattle.entry_log.proofs.log.Log.head.Goals as goal

pub returns : goal.returns
returns c =
    let s = c.self.inside in
    let read = read_head s.bytes.items s.items.items c.args.index in
    let same = stored_whole s c.args.self.now c.self.invariant.before c.self.view_is c.requires.whole in
    ap (λ (es : List Entry). option_map head_of (slice_get es c.args.index)) (sym same) ∙ read ∙ c.head.ensures
