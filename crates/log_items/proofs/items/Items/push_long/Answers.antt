use Rattle.std.proofs.Common.{◌≡◌, ◌∷◌, [], arith, length, refl}
use Rattle.std.proofs.lemmas.List.{append_assoc, get_or_push, map_push}
use Rattle.log_items.specs.Items.{no_item}
use Rattle.log_items.proofs.ShortForms.{long_forms-append}
use Rattle.log_items.proofs.items.Items.push_long.Goals as goal

pub returns-clause-ok : goal.returns-clause-ok
returns-clause-ok c =
    let s = c.self.inside in
    let before = long_forms-append s.long.items (c.args.item ∷ []) s.items.items c.self.invariant.placed in
    let last : length s.long.items ≡ c.len-place.result = omega arith in
    let added = get_or_push s.long.items c.args.item no_item c.len-place.result last in
    rw (c.push_reserved.ensures.items, c.in_ok-reserve.ensures.items, c.in_ok-push.ensures.items, ← c.self.view_is, map_push, before, added, append_assoc) refl
