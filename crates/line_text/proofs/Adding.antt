-- What is written at a place of some bytes, one thing after another.
use Rattle.std.proofs.Common.{◌≡◌, ℕ, ◌+◌, ◌≤◌, List, [], ◌++◌, length, take, drop, ap, sym, ◌∙◌, arith, append_assoc, length-append, length-take-le, take-add}
use Rattle.std.proofs.Math.Seq.{take-append-add, take-append_seam}
use Rattle.std.proofs.lemmas.List.{append-nil, take-append-le, take-take, take_all}
use Rattle.line_text.specs.Pieces.{Adds}

-- one thing after another
pub adds-more : (a b c : List ℕ) (i j k : ℕ) (x y : List ℕ) → Adds a b i j x → Adds b c j k y → Adds a c i k (x ++ y)
adds-more a b c i j k x y p q = record {
  ends = omega (arith, p.ends, q.ends, length-append x y);
  holds = q.holds ∙ (ap (λ (l : List ℕ). l ++ y) p.holds ∙ append_assoc (take i a) x y);
}

-- the same text
pub adds-as : (a b : List ℕ) (i j : ℕ) (x y : List ℕ) → Adds a b i j x → x ≡ y → Adds a b i j y
adds-as a b i j x y p e = record {
  ends = p.ends ∙ ap (λ (l : List ℕ). i + length l) e;
  holds = p.holds ∙ ap (λ (l : List ℕ). take i a ++ l) e;
}

-- what stands before a place, and the first of some bytes that were copied behind it
copied-first : (start count : ℕ) (old bytes rest : List ℕ) → start ≤ length old → count ≤ length bytes → take (start + count) (take start old ++ bytes ++ rest) ≡ take start old ++ take count bytes
copied-first start count old bytes rest within few =
    let size : length (take start old) ≡ start = length-take-le start old within in
    let fits : start + count ≤ length (take start old ++ bytes) = omega (arith, length-append (take start old) bytes) in
    take-append-le (start + count) (take start old ++ bytes) rest fits
    ∙ (ap (λ (n : ℕ). take (n + count) (take start old ++ bytes)) (sym size)
    ∙ take-append-add (take start old) bytes count)

-- the first of some bytes that were copied
pub adds-first : (old new bytes rest text : List ℕ) (start count : ℕ) → start ≤ length old → count ≤ length bytes → new ≡ take start old ++ bytes ++ rest →
    take count bytes ≡ text → Adds old new start (start + count) text
adds-first old new bytes rest text start count within few e is =
    let long : length text ≡ count = ap length (sym is) ∙ length-take-le count bytes few in
    record {
      ends = omega (arith, long);
      holds = ap (λ (l : List ℕ). take (start + count) l) e ∙ (copied-first start count old bytes rest within few ∙ ap (λ (l : List ℕ). take start old ++ l) is);
    }

-- the first of the bytes of a part
pub adds-part : (old new bytes text : List ℕ) (start count : ℕ) → start ≤ length old → count ≤ length bytes → take (start + length bytes) new ≡ take start old ++ bytes →
    take count bytes ≡ text → Adds old new start (start + count) text
adds-part old new bytes text start count within few e is =
    let part = adds-first old (take (start + length bytes) new) bytes [] text start count within few (e ∙ sym (append-nil (take start old ++ bytes))) is in
    record {
      ends = part.ends;
      holds = sym (take-take (start + count) (start + length bytes) new (omega arith)) ∙ part.holds;
    }

-- all of them
pub adds-word : (old new word rest : List ℕ) (start : ℕ) → start ≤ length old → new ≡ take start old ++ word ++ rest → Adds old new start (start + length word) word
adds-word old new word rest start within e = adds-first old new word rest word start (length word) within (omega arith) e (take_all (length word) word (omega arith))

-- digits that were written in front of a place
pub adds-digits : (old new text : List ℕ) (start first end : ℕ) → end ≡ start + length text → first + length text ≡ end → drop first new ≡ text ++ drop end old → take first new ≡ take first old →
    Adds old new start end text
adds-digits old new text start first end behind begins here before =
    let same : first ≡ start = omega (arith, behind, begins) in
    record {
      ends = behind;
      holds = ap (λ (n : ℕ). take n new) (sym begins)
          ∙ (take-add first (length text) new
          ∙ (ap (λ (l : List ℕ). l ++ take (length text) (drop first new)) before
          ∙ (ap (λ (l : List ℕ). take first old ++ l) (ap (take (length text)) here ∙ take-append_seam text (drop end old))
          ∙ ap (λ (n : ℕ). take n old ++ text) same)));
    }
