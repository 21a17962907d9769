use Rattle.std.proofs.Common.{sym, ◌∙◌}
use Rattle.std.proofs.lemmas.Bool.{eqb-true, eq-eqb}
use Rattle.lane_copy.proofs.Vectors.{mask_is, zero_mask}
use Rattle.lane_copy.proofs.lanes.is_zero_vector.Goals as goal

pub returns : goal.returns
returns c =
    let line = c.args.line.now in
    let told = zero_mask line c.requires in
    (λ empty. told.0 (sym (mask_is line c.requires) ∙ eqb-true _ 0 empty), λ zeros. eq-eqb _ 0 (mask_is line c.requires ∙ told.1 zeros))
