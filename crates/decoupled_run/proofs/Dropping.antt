-- A grant that was found stale is held no more.
use Rattle.std.proofs.Common.{◌≡◌, ℕ, length, Option, Some, None, slice_get, remove, refl, ap, arith}
use Rattle.std.proofs.lemmas.List.Edits.{length-remove}
use Rattle.std.proofs.lemmas.Option.{slice_get_within}
use Rattle.std.specs.Prelude.{IsSomeAnd}
use Rattle.std.specs.Option.{ForSome}
use Rattle.one_history.specs.declared.view.Frame.{Frame}
use Rattle.one_history.specs.declared.view.View.{View}
use Rattle.tlm_types.specs.declared.entry.Content.{Content}
use Rattle.tlm_types.specs.declared.words.TxnId.{TxnId}
use Rattle.tlm_model.specs.Plan.{Plan}
use Rattle.generic_payload.specs.Payload.{PayloadView}
use Rattle.token_book.specs.Purse.{Purse}
use Rattle.dmi_grants.specs.declared.access.UseOf.{UseOf}
use Rattle.dmi_grants.specs.declared.access.UseOf.TheVariants.{Used, Stale}
use Rattle.dmi_grants.specs.declared.table.Held.{Held}
use Rattle.dmi_grants.specs.Table.{TableView}
use Rattle.dmi_grants.specs.Using.{HasUsed}
use Rattle.decoupled_run.specs.Moves.{DropsOne}

pub drops_one : (P : Held → Type 0) (frame : Frame Plan) (which : ℕ) (payload : PayloadView) (txn : TxnId) (at : ℕ) (old new : TableView) (note : View Content Plan) (before after : Purse) (result : UseOf)
    → IsSomeAnd (slice_get old.held which) P → ForSome (slice_get old.held which) (λ h. HasUsed frame h which payload txn at old new note before after result) → DropsOne old new result
drops_one P frame which payload txn at old new note before after result there used = by (slice_get old.held which) refl there
  where
    of : (h : Held) → slice_get old.held which ≡ Some h → (o : UseOf) → HasUsed frame h which payload txn at old new note before after o → DropsOne old new o
    of h here (Used back noted time) came = tt
    of h here (Stale back noted) came =
        let one = length-remove old.held which (slice_get_within old.held which h here) in
        let now : length new.held ≡ length (remove old.held which) = ap (λ (t : TableView). length t.held) came.0.table in
        omega (arith, one, now)

    by : (o : Option Held) → slice_get old.held which ≡ o → IsSomeAnd o P → DropsOne old new result
    by None here is = absurd is
    by (Some h) here is = of h here result (used h here)
