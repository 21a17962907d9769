use Rattle.std.proofs.Common.{◌≡◌, None, subst}
use Rattle.std.specs.Prelude.{option_and_then, slice_get}
use Rattle.log_items.specs.Items.{BriefView, access_in, facts_from}
use Rattle.log_items.proofs.Briefs.{briefs-access, briefs-facts}
use Rattle.log_items.proofs.brief.BriefItems.has.Goals as goal

pub returns-clause-facts : goal.returns-clause-facts
returns-clause-facts c there =
    let s = c.self.inside in
    subst (λ (l : BriefView). option_and_then (λ i. facts_from i.item.event) (slice_get l.items c.args.index) ≡ None) c.self.view_is (briefs-facts s.object s.items.items c.args.index)

pub returns-clause-access : goal.returns-clause-access
returns-clause-access c there =
    let s = c.self.inside in
    subst (λ (l : BriefView). option_and_then (λ i. access_in i.item) (slice_get l.items c.args.index) ≡ None) c.self.view_is (briefs-access s.object s.items.items c.args.index)
