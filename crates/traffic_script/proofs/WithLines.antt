-- One more line.
use Rattle.std.proofs.Common.{◌≡◌, ℕ, ◌+◌, List, ◌∷◌, Ok, ap, ◌∙◌}
use Rattle.traffic_script.specs.Reading.{placed}
use Rattle.tlm_types.specs.Reading.{◌>>=◌}
use Rattle.traffic_script.specs.Drafts.{Draft}
use Rattle.traffic_script.specs.Lines.{with_line, with_lines}

pub with_lines-more : (version n : ℕ) (d next : Draft) (line : List ℕ) (lines more : List (List ℕ)) → lines ≡ line ∷ more → with_line version n d line ≡ Ok next → with_lines version n d lines ≡ with_lines version (n + 1) next more
with_lines-more version n d next line lines more p e =
    ap (λ (ls : List (List ℕ)). with_lines version n d ls) p ∙ ap (λ r. placed n r >>= λ (after : Draft). with_lines version (n + 1) after more) e
