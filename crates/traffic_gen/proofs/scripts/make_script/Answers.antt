use Rattle.std.proofs.Common.{◌≡◌, ℕ, ◌+◌, ◌-◌, ◌%◌, ◌++◌, List, ap, sym, ◌∙◌, arith, rules}
use Rattle.std.proofs.lemmas.List.{append-nil}
use mathlib.Core.List.{append_assoc}
use Rattle.std.specs.Prelude.{string_bytes}
use Rattle.traffic_gen.specs.Numbers.{drawn, next}
use Rattle.traffic_gen.specs.Texts.{line, lines}
use Rattle.traffic_gen.proofs.Steps.{drawn_more, drawn_none, lines_more, lines_none}
use Rattle.traffic_gen.proofs.scripts.make_script.Goals as goal

pub loop-k-preserved : goal.loop-k-preserved
loop-k-preserved c =
    let l = c.loop-k in
    let rest = λ (x : ℕ). lines (l.k + 1) (8000 - (l.k + 1)) x in
    let text = string_bytes l.text in
    record {
      text =
          (λ i. (c.in_ok-put_line.ensures i) ++ rest (c.next-number.ensures i))
          ∙ ap (λ (x : ℕ). (text ++ line (l.k % 8) x) ++ rest (next l.number)) c.next-number.ensures
          ∙ append_assoc text (line (l.k % 8) (next l.number)) (rest (next l.number))
          ∙ ap (λ (xs : List ℕ). text ++ xs) (sym (lines_more 8000 l.k l.number c.loop-k-test.true))
          ∙ l.invariant.text;
      last = ap (λ (x : ℕ). drawn (8000 - (l.k + 1)) x) c.next-number.ensures ∙ sym (drawn_more 8000 l.k l.number c.loop-k-test.true) ∙ l.invariant.last;
    }

pub returns-clause-script : goal.returns-clause-script
returns-clause-script c =
    let l = c.loop-k in
    let none : 8000 - l.k ≡ 0 = omega (arith, c.loop-k-test.false) in
    let given : c.from_vec.result ≡ string_bytes l.text = search rules in
    given ∙ sym (append-nil (string_bytes l.text)) ∙ ap (λ (xs : List ℕ). string_bytes l.text ++ xs) (sym (lines_none l.k l.number) ∙ ap (λ (n : ℕ). lines l.k n l.number) (sym none)) ∙ l.invariant.text

pub returns-clause-last : goal.returns-clause-last
returns-clause-last c =
    let l = c.loop-k in
    let none : 8000 - l.k ≡ 0 = omega (arith, c.loop-k-test.false) in
    sym (drawn_none l.number) ∙ ap (λ (n : ℕ). drawn n l.number) (sym none) ∙ l.invariant.last
