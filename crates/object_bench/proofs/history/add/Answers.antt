use Rattle.std.proofs.Common.{◌≡◌, ℕ, List, [], ◌∷◌, ◌++◌, sym, ap, subst, refl}
use Rattle.view_lists.specs.Lists.{Has}
use Rattle.view_lists.proofs.Members.{has_right}
use Rattle.one_history.specs.declared.entry.Entry.{Entry}
use Rattle.one_history.specs.declared.entry.Sign.TheVariants.{Plain}
use Rattle.one_history.specs.Moves.{number_of, entry}
use Rattle.object_bench.proofs.history.add.Goals as goal

pub returns-clause-known : goal.returns-clause-known
returns-clause-known c =
    let v = c.args.seat.now.knows in
    let e = entry c.draw.result (number_of v) Plain 7 in
    subst (λ (l : List (Entry ℕ)). Has l e) (sym (ap (λ w. w.known) c.draw.ensures.drawn)) (has_right v.known (e ∷ []) e (0, refl))
