-- A brief item is no access.
use Rattle.std.proofs.Common.{◌≡◌, ℕ, zero, suc, List, [], ◌∷◌, None, refl}
use Rattle.std.specs.Prelude.{map, option_and_then, slice_get}
use Rattle.tlm_types.specs.declared.words.ObjectNo.{ObjectNo}
use Rattle.log_items.specs.declared.brief.Brief.{Brief}
use Rattle.log_items.specs.Items.{FullItem, access_in, brief_form, facts_from}

pub briefs-facts : (object : ObjectNo) (items : List Brief) (index : ℕ) → option_and_then (λ (i : FullItem). facts_from i.item.event) (slice_get (map (brief_form object) items) index) ≡ None
briefs-facts object [] index = refl
briefs-facts object (b ∷ bs) zero = refl
briefs-facts object (b ∷ bs) (suc index) = briefs-facts object bs index

pub briefs-access : (object : ObjectNo) (items : List Brief) (index : ℕ) → option_and_then (λ (i : FullItem). access_in i.item) (slice_get (map (brief_form object) items) index) ≡ None
briefs-access object [] index = refl
briefs-access object (b ∷ bs) zero = refl
briefs-access object (b ∷ bs) (suc index) = briefs-access object bs index
