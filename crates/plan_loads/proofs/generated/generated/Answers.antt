use Rattle.std.proofs.Common.{◌≡◌, ◌∙◌, ◌⊎◌, inl, inr, length, map, sym}
use Rattle.std.proofs.lemmas.List.{length-map}
use Rattle.plan_loads.specs.Generated.{generated_files}
use Rattle.plan_loads.proofs.Naming.{all-named}
use Rattle.plan_loads.proofs.generated.generated.Goals as goal

pub returns : goal.returns
returns c =
    let left = c.loop-name.name-iterator in
    let names = map (λ n. n.now) left.a.rest.now in
    let none : (length names ≡ 0) ⊎ (length left.b.rest.items ≡ 0) = elim (rw c.in-None.is at c.next.ensures.steps) [
      | inl w ↦ inl (length-map left.a.rest.now (λ n. n.now) ∙ w.1.0)
      | inr w ↦ inr (sym left.b.rest.ok.0 ∙ w.1.0)
    ] in
    c.new.ensures ∙ all-named c.loop-name.files.items (generated_files c.args.seed) names left.b.rest.items c.loop-name.invariant none
