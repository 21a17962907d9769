use Rattle.std.proofs.Common.{◌≡◌, ◌+◌, ◌-◌, take, drop, sym, ap, ◌∙◌, arith, length-drop}
use lib.Seq.{paste}
use Rattle.std.proofs.lemmas.List.{drop-take}
use Rattle.std.proofs.lemmas.List.Edits.{take-paste}
use Rattle.outside.proofs.stream.remove_front.Goals as goal

pub returns : goal.returns
returns c =
    let all = c.args.bytes.now in
    let len = c.args.len in
    let from = c.args.count in
    let same : len - from ≡ 0 + (len - from) = omega arith in
    let whole : from + (len - from) ≡ len = omega (arith, c.requires.count) in
    ap (take (len - from)) c.copy_within.ensures.after ∙ ap (λ k. take k (paste all 0 (drop from all) (len - from))) same
    ∙ take-paste all 0 (drop from all) (len - from) (omega arith) (omega (arith, c.requires.len, length-drop from all))
    ∙ sym (drop-take from (len - from) all) ∙ ap (λ k. drop from (take k all)) whole
