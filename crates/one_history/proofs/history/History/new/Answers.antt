use Rattle.std.proofs.Common.{◌≡◌, ◌+◌, ◌<◌, ◌≤◌, ℕ, List, [], ◌∷◌, length, replicate, sum, ap, sym, ◌∙◌, subst, arith}
use Rattle.std.proofs.lemmas.List.{length-replicate}
use Rattle.atomic_table.specs.Table.{opening}
use Rattle.one_history.specs.Rule.{plain, first_view, IsOneLog}
use Rattle.one_history.proofs.Wholes.{opens}
use Rattle.one_history.proofs.history.History.new.Goals as goal

pub of_words-requires : goal.of_words-requires
of_words-requires g c =
    let k = c.in_ok-key.ensures in
    let n = k.3 in
    let fits = c.ranges.notes in
    let words : 0 ∷ replicate {A = ℕ} (sum c.in_ok-key.key.gates.items) 0 ≡ c.as_slice.result.now = ap (λ (l : List ℕ). 0 ∷ replicate {A = ℕ} (sum l) 0) k.2 ∙ sym (c.as_slice.ensures.value ∙ c.in_ok-words.ensures) in
    subst (λ (l : List ℕ). IsOneLog g.W.Law.backs (plain c.in_ok-key.key) (opening l [] (first_view (plain c.in_ok-key.key)))) words (opens g.W.Law.backs (plain c.in_ok-key.key) (omega arith))

pub invariant_of-history : goal.invariant_of-history
invariant_of-history g c =
    let t = c.in_ok-table.ensures in
    let k = c.in_ok-key.ensures in
    let words : length c.as_slice.result.now ≡ 1 + sum c.args.gates.now =
    (let q : length (replicate {A = ℕ} (sum c.args.gates.now) 0) ≡ sum c.args.gates.now = length-replicate (sum c.args.gates.now) 0 in
    ap length (c.as_slice.ensures.value ∙ c.in_ok-words.ensures) ∙ omega arith) in (
      t.0 ∙ words ∙ ap (λ (l : List ℕ). 1 + sum l) (sym (ap (λ k. k.gates.items) t.5 ∙ k.2)),
      subst (λ (l : List ℕ). sum l ≤ 1000000) (sym (ap (λ k. k.planned.items) t.5 ∙ k.1)) c.requires.few,
      subst (λ (l : List ℕ). 0 < length l) (sym (ap (λ k. k.planned.items) t.5 ∙ k.1)) c.requires.lists.1,
    )
