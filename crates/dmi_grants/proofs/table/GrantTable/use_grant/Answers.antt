use Rattle.std.proofs.Common.{ap, sym, ◌∙◌, refl}
use Rattle.one_history.specs.declared.view.View.{View}
use Rattle.tlm_types.specs.declared.entry.Content.{Content}
use Rattle.tlm_model.specs.Plan.{Plan}
use Rattle.dmi_grants.proofs.Uses.{found_stale, may_at, use_given}
use Rattle.dmi_grants.proofs.table.GrantTable.use_grant.Goals as goal

pub learn-note-requires-clause-granted : goal.learn-note-requires-clause-granted
learn-note-requires-clause-granted g c =
    let may = may_at g.N.Naming.frame c.args.payload c.args.note.knows c.args.wallet.now c.args.self.now.held c.args.which c.at-held.result c.requires.held c.at-held.ensures in
    use_given g.N.Naming.frame c.args.payload c.args.note.knows c.enter.new.note.knows c.args.wallet.now c.at-held.result may (ap (λ (v : View Content Plan). v.known) c.in-Marked.ensures.came)

pub returns-in-Marked-clause-used : goal.returns-in-Marked-clause-used
returns-in-Marked-clause-used g c = λ x at. (
  found_stale c.at-held.result x c.args.which c.args.self.now c.drop_stale.new.self c.args.note.knows c.enter.new.note.knows c.learn-note.result.knows c.args.wallet.now (sym c.at-held.ensures ∙ at) c.drop_stale.ensures
      (ap (λ (v : View Content Plan). v.known) c.in-Marked.ensures.came) c.learn-note.ensures.keeps c.learn-note.ensures.revoked c.learn-note.ensures.cut c.learn-note.ensures.below,
  refl,
)
