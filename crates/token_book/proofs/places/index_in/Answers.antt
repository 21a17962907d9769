use Rattle.std.proofs.Common.{◌≡◌, ℕ, Option, Some, sym, ap, ◌∙◌, subst}
use Rattle.std.specs.Prelude.{slice_get, IsSome}
use Rattle.std.specs.Ordering.{nat_cmp}
use Rattle.std.specs.FinMap as map
use Rattle.std.proofs.lemmas.Option.{slice_get-get_or}
use Rattle.token_book.specs.Pocket.{Pocket}
use Rattle.token_book.proofs.PlaceLists.{find-at, find-drop, find_within}
use Rattle.token_book.proofs.places.index_in.Goals as goal

pub returns-then-object : goal.returns-then-object
returns-then-object c =
    let es = c.args.places.now in
    let i = c.args.object in
    let e = c.index-places-guess.result in
    let at : slice_get es i ≡ Some e = slice_get-get_or es i e c.if-guess-places.true ∙ ap (λ x. Some x) (sym c.index-places-guess.is) in
    let is : e.0 ≡ c.args.object = sym c.object.ensures ∙ c.if-object.true in
    (e.1, at ∙ ap (λ k. Some (k, e.1)) is, ap (λ (q : ℕ). map.find nat_cmp q es) (sym is) ∙ find-at es i e c.requires.apart at)

pub returns : goal.returns
returns c =
    let es = c.args.places.now in
    let i = c.loop-i.i in
    let e = c.index-places-i.result in
    let below = find_within es i c.args.object (subst (λ (o : Option Pocket). IsSome o) c.loop-i.invariant c.requires.held) in
    let at : slice_get es i ≡ Some e = slice_get-get_or es i e below ∙ ap (λ x. Some x) (sym c.index-places-i.is) in
    let is : e.0 ≡ c.args.object = sym c.object-in-loop-i.ensures ∙ c.loop-i-test.false in
    (e.1, at ∙ ap (λ k. Some (k, e.1)) is, c.loop-i.invariant ∙ find-drop es i e c.args.object at (sym is))
