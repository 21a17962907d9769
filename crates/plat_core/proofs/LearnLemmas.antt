-- A note that has learned the whole history.
use Rattle.std.proofs.Common.{◌≡◌, ℕ, length, sym, ap, ◌∙◌}
use Rattle.atomic_table.specs.Seated.{TableId}
use Rattle.one_history.specs.declared.view.View.{View}
use Rattle.one_history.specs.Closing.{Numbered}
use Rattle.one_history.specs.Held.{Held}
use Rattle.one_history.specs.Moves.{learnt}
use Rattle.shared_object.specs.Steps.{IsNote}
use Rattle.tlm_types.specs.declared.entry.Content.{Content}
use Rattle.tlm_model.specs.Plan.{Plan}
use Rattle.plat_core.specs.NetCore.{KnowsAll}

module _ (table : TableId) (note new : Held Content Plan) (same : new.table ≡ note.table) (learned : new.knows ≡ learnt note.knows new.knows.known) where
  pub learned_note : IsNote table note → IsNote table new
  learned_note is = record {
    of = same ∙ is.of;
    one = ap (λ (v : View Content Plan). v.notes) learned ∙ is.one;
    outside = ap (λ (v : View Content Plan). v.stays) learned ∙ is.outside;
  }

  pub learned_all : (found expected : ℕ) → Numbered new.knows.known → found ≡ length new.knows.known → found ≡ expected → KnowsAll new expected
  learned_all found expected numbered count is = record { numbered = numbered; seen = ap (λ (v : View Content Plan). v.seen) learned; count = sym count ∙ is }
