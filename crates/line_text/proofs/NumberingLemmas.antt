-- The text of a number whose hundreds stand behind a word already.
use Rattle.std.proofs.Common.{◌≡◌, ℕ, ◌+◌, ◌-◌, ◌/◌, ◌%◌, ◌^◌, ◌<◌, ◌≤◌, List, [], ◌∷◌, ◌++◌, ap, sym, ◌∙◌, arith, append_assoc}
use Rattle.std.specs.Prelude.{codes}
use Rattle.std.specs.Fmt.{decimal}
use Rattle.itoa.proofs.Decimal.{decimal_pair, pair}
use Rattle.line_text.specs.Numbering.{numbered_text}

joined : (w h p sp : List ℕ) → (w ++ h) ++ (p ++ sp) ≡ w ++ ((h ++ p) ++ sp)
joined w h p sp = simp append_assoc

pub numbered-is : (word front last : List ℕ) (n first : ℕ) → front ≡ word ++ decimal (first / 100) → first % 100 ≡ 0 → n / 100 ≡ first / 100 → 100 ≤ n → n < 2 ^ 64 →
    last ≡ (48 + (n - first) / 10) ∷ (48 + (n - first) % 10) ∷ [] → front ++ (last ++ codes " ") ≡ numbered_text word n
numbered-is word front last n first kept round same long fits digits =
    let low : n - first ≡ n % 100 = omega (arith, round, same) in
    let two : last ≡ pair (n % 100) = digits ∙ ap pair low in
    let all : decimal (first / 100) ++ pair (n % 100) ≡ decimal n = ap (λ (h : ℕ). decimal h ++ pair (n % 100)) (sym same) ∙ sym (decimal_pair n long fits) in
    ap (λ (l : List ℕ). l ++ (last ++ codes " ")) kept
    ∙ (ap (λ (l : List ℕ). (word ++ decimal (first / 100)) ++ (l ++ codes " ")) two
    ∙ (joined word (decimal (first / 100)) (pair (n % 100)) (codes " ")
    ∙ ap (λ (l : List ℕ). word ++ (l ++ codes " ")) all))
