use Rattle.std.proofs.Common.{◌≡◌, ℕ, Some, sym, ap, ◌∙◌}
use Rattle.std.specs.Prelude.{slice_get}
use Rattle.std.specs.Ordering.{nat_cmp}
use Rattle.std.specs.FinMap as map
use Rattle.std.proofs.lemmas.Option.{slice_get-get_or}
use Rattle.token_book.proofs.PlaceLists.{find-at, find-drop}
use Rattle.token_book.proofs.places.index_of.Goals as goal

pub returns-then-object-clause-found : goal.returns-then-object-clause-found
returns-then-object-clause-found c =
    let es = c.args.places.now in
    let i = c.args.object in
    let e = c.index-places-guess.result in
    let at : slice_get es i ≡ Some e = slice_get-get_or es i e c.if-guess-places.true ∙ ap (λ x. Some x) (sym c.index-places-guess.is) in
    let is : e.0 ≡ c.args.object = sym c.object.ensures ∙ c.if-object.true in
    (e.1, at ∙ ap (λ k. Some (k, e.1)) is, ap (λ (q : ℕ). map.find nat_cmp q es) (sym is) ∙ find-at es i e c.requires.apart at)

pub returns-then-object-2-clause-found : goal.returns-then-object-2-clause-found
returns-then-object-2-clause-found c =
    let es = c.args.places.now in
    let i = c.loop-i.i in
    let e = c.index-places-i.result in
    let at : slice_get es i ≡ Some e = slice_get-get_or es i e c.loop-i-test.true ∙ ap (λ x. Some x) (sym c.index-places-i.is) in
    let is : e.0 ≡ c.args.object = sym c.object-in-loop-i.ensures ∙ c.if-object-2.true in
    (e.1, at ∙ ap (λ k. Some (k, e.1)) is, c.loop-i.invariant ∙ find-drop es i e c.args.object at (sym is))
