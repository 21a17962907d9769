use Rattle.std.proofs.Common.{ℕ, None, sym, ap, ◌∙◌, subst, refl, arith}
use Rattle.std.specs.Ordering.{nat_cmp}
use Rattle.std.proofs.lemmas.Option.{slice_get_within}
use Rattle.std.specs.FinMap as map
use Rattle.std.specs.FinMap.{FinMap}
use Rattle.token_book.specs.Pocket.{Pocket}
use Rattle.token_book.specs.Purse.{Purse, purse, AreApart, AreFull}
use Rattle.token_book.proofs.FoundPlaces.{IsFound, found, held_found}
use Rattle.token_book.proofs.PlaceLists.{AreApart-remove, AreFull-remove, find-at, find_full, from_entries-remove}
use Rattle.token_book.proofs.places.Places.take_out.Goals as goal

pub returns-in_default-clause-none : goal.returns-in_default-clause-none
returns-in_default-clause-none c = (held_found c.args.self.now c.self.inside.most c.args.object c.self.inside.places.items c.deref.result.now None c.self.view_is c.deref.ensures.value c.in_default.ensures.none, refl)

pub take_from-requires : goal.take_from-requires
take_from-requires c =
    let there = c.in-Some.ensures.found in
    omega (arith, slice_get_within c.deref.result.now c.in-Some.i (c.args.object, there.0) there.1, c.deref.ensures.len)

-- the place that is taken out
here : (c : goal.After-take_from) → IsFound c.args.self.now c.args.object c.in-Some.i c.self.inside.places.items c.take_from.result
here c = found c.args.self.now c.self.inside.most c.args.object c.in-Some.i c.self.inside.places.items c.deref.result.now c.take_from.result c.self.view_is c.deref.ensures.value c.in-Some.ensures.found c.take_from.ensures.value

pub invariant_of-self : goal.invariant_of-self
invariant_of-self c = record {
  apart = subst AreApart (sym c.take_from.ensures.items) (AreApart-remove c.self.inside.places.items c.in-Some.i c.take_from.result c.self.invariant.apart (here c).at);
  full = subst AreFull (sym c.take_from.ensures.items) (AreFull-remove c.self.inside.places.items c.in-Some.i c.take_from.result c.self.invariant.full (here c).at);
  few = omega (arith, c.self.invariant.few, c.take_from.ensures.len);
  room = omega (arith, c.self.invariant.room, c.take_from.ensures.capacity);
}

pub returns-clause-some : goal.returns-clause-some
returns-clause-some c =
    let es = c.self.inside.places.items in
    let e = c.take_from.result in (
      (here c).object,
      (here c).held,
      find_full es e.0 e.1 c.self.invariant.full (find-at es c.in-Some.i e c.self.invariant.apart (here c).at),
    )

pub returns-clause-left : goal.returns-clause-left
returns-clause-left c =
    let es = c.self.inside.places.items in
    let e = c.take_from.result in
    let most = c.self.inside.most in
    ap (purse most) c.take_from.ensures.items
    ∙ (ap (λ (h : FinMap nat_cmp Pocket). let w : Purse = record { places = most; held = h } in w) (from_entries-remove es c.in-Some.i e c.self.invariant.apart (here c).at)
    ∙ (ap (λ (w : Purse). let v : Purse = record { places = w.places; held = map.remove w.held e.0 } in v) c.self.view_is
    ∙ ap (λ (o : ℕ). let v : Purse = record { places = c.args.self.now.places; held = map.remove c.args.self.now.held o } in v) (here c).object))
