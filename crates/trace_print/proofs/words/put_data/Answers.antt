use Rattle.std.proofs.Common.{◌≡◌, ◌==◌, ℕ, List, length, true, ap, ◌∙◌}
use Rattle.trace_print.proofs.Putting.{puts-as}
use Rattle.line_text.proofs.WordLemmas.{data-some}
use Rattle.trace_print.proofs.words.put_data.Goals as goal

pub returns-else-is_empty : goal.returns-else-is_empty
returns-else-is_empty g c =
    puts-as _ _ _ _ c.put_hex.ensures
    (data-some c.args.bytes.now (λ e. let none : c.is_empty.result ≡ true = c.is_empty.ensures ∙ ap (λ (l : List ℕ). length l == 0) e in cc))
