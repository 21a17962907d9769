use Rattle.std.proofs.Common.{◌≡◌, ℕ, ◌+◌, ◌-◌, [], ◌∷◌, ◌++◌, List, ap, sym, ◌∙◌, arith, rules}
use Rattle.std.proofs.lemmas.List.{append-nil}
use mathlib.Core.List.{append_assoc}
use Rattle.traffic_gen.specs.Numbers.{drawn}
use Rattle.traffic_gen.specs.Texts.{platform_text, scripts}
use Rattle.traffic_gen.proofs.Steps.{scripts_more, scripts_none}
use Rattle.traffic_gen.proofs.scripts.generate.Goals as goal

pub loop-script-preserved : goal.loop-script-preserved
loop-script-preserved c =
    let l = c.loop-script in
    let rest = λ (x : ℕ). scripts (4 - (l._script + 1)) x in
    (λ i. (c.in_ok-push.ensures.items i) ++ rest (c.in_ok-script.ensures.last i))
    ∙ append_assoc l.scripts.items (c.in_ok-script.script ∷ []) (rest (drawn 8000 l.number))
    ∙ ap (λ (xs : List ℕ). l.scripts.items ++ xs ∷ rest (drawn 8000 l.number)) c.in_ok-script.ensures.script
    ∙ ap (λ (xs : List (List ℕ)). l.scripts.items ++ xs) (sym (scripts_more 4 l._script l.number c.loop-script-test.true))
    ∙ l.invariant

pub returns-clause-platform : goal.returns-clause-platform
unfolding platform_text
returns-clause-platform c =
    let given : c.in_ok-platform.platform ≡ c.as_bytes.result.now = search rules in
    given ∙ c.as_bytes.ensures.value

pub returns-clause-scripts : goal.returns-clause-scripts
returns-clause-scripts c =
    let l = c.loop-script in
    let none : 4 - l._script ≡ 0 = omega (arith, c.loop-script-test.false) in
    sym (append-nil l.scripts.items) ∙ ap (λ (xs : List (List ℕ)). l.scripts.items ++ xs) (sym (scripts_none l.number) ∙ ap (λ (n : ℕ). scripts n l.number) (sym none)) ∙ l.invariant
