-- The items of a log have the same long form after long items were appended.
use Rattle.std.proofs.Common.{◌≡◌, suc, List, [], ◌∷◌, ◌++◌, length, All, ap, refl, arith}
use Rattle.std.proofs.lemmas.List.{get_or_append_left}
use Rattle.std.specs.Prelude.{map}
use Rattle.log_items.specs.declared.item.Item.{Item}
use Rattle.log_items.specs.declared.item.Item.TheVariants.{Access, Direct, Word, Call, Take, Acquire, Release, Long}
use Rattle.log_items.specs.declared.long.LongItem.{LongItem}
use Rattle.log_items.specs.Items.{long_form, no_item, placed, FitsItems}

pub long_form-append : (long more : List LongItem) (item : Item) → FitsItems (length long) item → long_form (long ++ more) item ≡ long_form long item
long_form-append long more (Access way count access head) fits = refl
long_form-append long more (Direct gate count access head) fits = refl
long_form-append long more (Word way count word) fits = refl
long_form-append long more (Call phase answer initiator object head) fits = refl
long_form-append long more (Take initiator object slot head) fits = refl
long_form-append long more (Acquire initiator object slot head) fits = refl
long_form-append long more (Release freed initiator object slot head) fits = refl
long_form-append long more (Long place) fits = ap placed (get_or_append_left long more no_item place fits)

pub long_forms-append : (long more : List LongItem) (items : List Item) → All (FitsItems (length long)) items → map (long_form (long ++ more)) items ≡ map (long_form long) items
long_forms-append long more [] fits = refl
long_forms-append long more (item ∷ items) placed =
    let first = long_form-append long more item (placed 0 item (omega arith)) in
    let rest = long_forms-append long more items (λ k d below. placed (suc k) d (omega arith)) in
    rw (first, rest) refl
