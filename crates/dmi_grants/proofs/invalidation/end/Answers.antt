use Rattle.std.proofs.Common.{◌≡◌, ℕ, List, ◌∷◌, refl, sym, ap, ◌∙◌, subst}
use Rattle.view_lists.specs.Lists.{Has}
use Rattle.one_history.specs.declared.entry.Entry.{Entry}
use Rattle.one_history.specs.declared.view.View.{View}
use Rattle.one_history.specs.Lists.{StandBelow}
use Rattle.shared_object.specs.Written.{written_at}
use Rattle.tlm_types.specs.declared.entry.Content.{Content}
use Rattle.tlm_model.specs.Plan.{Plan}
use Rattle.region_object.specs.Call.{IsCloseFit}
use Rattle.dmi_grants.proofs.Known.{close_fits}
use Rattle.dmi_grants.proofs.Endings.{closed_by}
use Rattle.dmi_grants.proofs.Revoking.{closing_made, spent_if}
use Rattle.dmi_grants.proofs.invalidation.end.Goals as goal

pub make_paid-position-requires-clause-may : goal.make_paid-position-requires-clause-may
make_paid-position-requires-clause-may g c =
    let same : c.drain.new.note.knows.known ≡ c.args.note.knows.known = ap (λ (v : View Content Plan). v.known) c.drain.ensures.drained ∙ ap (λ (v : View Content Plan). v.known) c.mark.ensures.void in
    let shut : c.drain.new.note.knows.drained ≡ c.args.gate ∷ c.mark.new.note.knows.drained = ap (λ (v : View Content Plan). v.drained) c.drain.ensures.drained in (
      subst (λ (l : List (Entry Content)). IsCloseFit (written_at c.args.memory l) c.args.gate) (sym same) (close_fits (written_at c.args.memory c.args.note.knows.known) c.args.gate c.requires.granted),
      subst (λ (l : List ℕ). Has l c.args.gate) (sym shut) (0, refl),
      c.requires.passage,
    )

pub returns-clause-closed : goal.returns-clause-closed
returns-clause-closed g c =
    let same : c.drain.new.note.knows.known ≡ c.args.note.knows.known = ap (λ (v : View Content Plan). v.known) c.drain.ensures.drained ∙ ap (λ (v : View Content Plan). v.known) c.mark.ensures.void in
    let seen : c.drain.new.note.knows.seen ≡ c.args.note.knows.seen = ap (λ (v : View Content Plan). v.seen) c.drain.ensures.drained ∙ ap (λ (v : View Content Plan). v.seen) c.mark.ensures.void in
    closed_by g.N.Naming.frame c.args.memory c.requires.memory c.args.txn c.args.at c.args.gate c.args.note.knows c.drain.new.note.knows c.make_paid-position.result.2.knows c.make_paid-position.result.0 c.args.wallet.now c.make_paid-position.new.wallet c.make_paid-position.result.1 same
    (subst (StandBelow c.args.note.knows.known) (sym seen) c.requires.below) c.make_paid-position.ensures.made c.make_paid-position.ensures.spent

pub returns-clause-adds : goal.returns-clause-adds
returns-clause-adds g c = λ yes'.
    let seen : c.drain.new.note.knows.seen ≡ c.args.note.knows.seen = ap (λ (v : View Content Plan). v.seen) c.drain.ensures.drained ∙ ap (λ (v : View Content Plan). v.seen) c.mark.ensures.void in
    closing_made g.N.Naming.frame c.args.memory c.requires.memory c.args.txn c.args.at c.args.gate c.drain.new.note.knows c.make_paid-position.result.2.knows c.make_paid-position.result.1 c.make_paid-position.result.0 c.args.note.knows.known
    (sym c.is_some.ensures ∙ yes') c.make_paid-position.ensures.made (subst (StandBelow c.args.note.knows.known) (sym seen) c.requires.below)

pub returns-clause-below : goal.returns-clause-below
returns-clause-below g c = c.make_paid-position.ensures.made.enters.below

pub make_paid-position-requires-clause-memory : goal.make_paid-position-requires-clause-memory
make_paid-position-requires-clause-memory g c = c.requires.memory

pub make_paid-position-requires-clause-of : goal.make_paid-position-requires-clause-of
make_paid-position-requires-clause-of g c = c.requires.wallet

pub make_paid-position-requires-clause-room : goal.make_paid-position-requires-clause-room
make_paid-position-requires-clause-room g c = c.requires.room

pub make_paid-position-requires-clause-left : goal.make_paid-position-requires-clause-left
make_paid-position-requires-clause-left g c = c.requires.ticket

pub returns-clause-note : goal.returns-clause-note
returns-clause-note g c = c.make_paid-position.ensures.note

pub returns-clause-wallet : goal.returns-clause-wallet
returns-clause-wallet g c = c.make_paid-position.ensures.of

pub returns-clause-room : goal.returns-clause-room
returns-clause-room g c = c.make_paid-position.ensures.room

pub returns-clause-rooms : goal.returns-clause-rooms
returns-clause-rooms g c = c.make_paid-position.ensures.rooms

pub returns-clause-spent : goal.returns-clause-spent
returns-clause-spent g c = spent_if c.args.memory c.make_paid-position.result.1 c.is_some.result c.args.wallet.now c.make_paid-position.new.wallet c.is_some.ensures c.make_paid-position.ensures.spent
