use Rattle.std.proofs.Common.{◌≡◌, List, Some, subst}
use Rattle.std.specs.Prelude.{IfSome, slice_get}
use Rattle.tlm_types.specs.declared.entry.Entry.{Entry}
use Rattle.tlm_types.specs.Entries.{entry_at}
use Rattle.log_items.specs.Items.{brief_what}
use Rattle.entry_log.proofs.Pasts.{stored_whole}
use Rattle.entry_log.proofs.Stored.{brief_entry}
use Rattle.entry_log.proofs.log.Log.brief.Goals as goal

pub returns : goal.returns
returns c =
    let s = c.self.inside in
    let same = stored_whole s c.args.self.now c.self.invariant.before c.self.view_is c.requires in
    subst (λ (es : List Entry). IfSome c.brief.result (λ r. slice_get es c.args.index ≡ Some (entry_at r.0 (brief_what r.1)))) same (brief_entry s.bytes.items s.items.items c.args.index c.brief.result c.brief.ensures)
