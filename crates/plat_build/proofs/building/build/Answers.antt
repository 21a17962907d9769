use Rattle.std.proofs.Common.{◌≡◌, length, sym, ◌∙◌}
use Rattle.plat_build.proofs.building.build.Goals as goal

pub make_kept-requires-clause-supplies : goal.make_kept-requires-clause-supplies
make_kept-requires-clause-supplies g c =
    let supplies = c.into_parts-history.ensures.supplies in
    c.in_ok-objects.ensures.next ∙ (sym supplies.planned ∙ supplies.places)
