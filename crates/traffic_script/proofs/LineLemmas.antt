-- The first line of a text.
use Rattle.std.proofs.Common.{◌≡◌, ℕ, ◌+◌, ◌<◌, List, [], ◌∷◌, length, take, drop, cond, nat_eq, false, Some, None, position, refl, ap, ◌∙◌, arith}
use Rattle.std.specs.List.{slice_split}
use Rattle.std.specs.Str.Lines.{lines, lines_of_parts, strip_carriage_return}
use Rattle.std.proofs.lemmas.Bool.Decides.{nat_tests}
use Rattle.std.proofs.lemmas.List.Splits.{length-slice_split}
use Rattle.traffic_script.proofs.Parts.{split_first, split_none}

-- a part with others behind it is a line
lines_of_parts-cons : (part : List ℕ) (parts : List (List ℕ)) → 0 < length parts → lines_of_parts (part ∷ parts) ≡ strip_carriage_return part ∷ lines_of_parts parts
lines_of_parts-cons part [] h = absurd (omega arith)
lines_of_parts-cons part (next ∷ parts) h = refl

-- a line that ends with a line feed
pub lines-first : (text : List ℕ) (place : ℕ) → position (λ b. nat_eq b 10) text ≡ Some place → lines text ≡ strip_carriage_return (take place text) ∷ lines (drop (place + 1) text)
lines-first text place e =
    let parts = split_first (λ b. nat_eq b 10) text place e in
    let rest = slice_split (λ b. nat_eq b 10) (drop (place + 1) text) in
    let some : 0 < length rest = omega (arith, length-slice_split (λ b. nat_eq b 10) (drop (place + 1) text)) in
    ap lines_of_parts parts.1 ∙ lines_of_parts-cons (take place text) rest some

-- a line that ends with the text
pub lines-last : (text : List ℕ) → 0 < length text → position (λ b. nat_eq b 10) text ≡ None → lines text ≡ text ∷ []
lines-last text h e =
    let test : nat_eq (length text) 0 ≡ false = grind (arith, nat_tests) in
    ap lines_of_parts (split_none (λ b. nat_eq b 10) text e) ∙ ap (λ b. cond b [] (text ∷ [])) test
