use Rattle.std.proofs.Common.{length, ap, arith, ◌∙◌}
use Rattle.std.proofs.lemmas.List.{take_all}
use Rattle.tlm_model.specs.Text.{hex_of}
use Rattle.line_text.proofs.Adding.{adds-as}
use Rattle.line_text.proofs.WordLemmas.{data-some}
use Rattle.line_text.proofs.access.write_shown.Goals as goal

pub returns-then-shown-eq4-clause-adds : goal.returns-then-shown-eq4-clause-adds
returns-then-shown-eq4-clause-adds c =
    let long = c.if-shown-eq4.true in
    let shown = c.args.shown.now in
    adds-as _ _ _ _ _ _ c.write_data.ensures.adds (ap hex_of (take_all 4 shown (omega (arith, long))) ∙ data-some shown (λ e. omega (arith, long, ap length e)))
