use Rattle.std.proofs.Common.{◌≡◌, ℕ, List, [], ◌∷◌, ◌++◌, length, Some, refl, sym, ap, ◌∙◌, subst, arith}
use Rattle.std.specs.Prelude.{remove, slice_get}
use Rattle.std.specs.Ordering.{nat_cmp}
use Rattle.std.specs.Cmp.{nat_cmp_total}
use Rattle.std.specs.FinMap as map
use Rattle.std.specs.FinMap.{FinMap, get-from_entries}
use Rattle.token_book.specs.Pocket.{Pocket}
use Rattle.token_book.specs.Purse.{Purse, purse, AreApart, AreFull}
use Rattle.token_book.proofs.PlaceLists.{AreApart-remove, AreFull-remove, find-at, find_full, from_entries-remove, len-places}
use Rattle.token_book.proofs.places.Places.pop.Goals as goal

-- what stands last is found behind all others, and these are left where it is taken out
last_at : (es : List (ℕ × Pocket)) (e : ℕ × Pocket) → slice_get (es ++ e ∷ []) (length es) ≡ Some e
last_at [] e = refl
last_at (x ∷ es) e = last_at es e

last_out : (es : List (ℕ × Pocket)) (e : ℕ × Pocket) → remove (es ++ e ∷ []) (length es) ≡ es
last_out [] e = refl
last_out (x ∷ es) e = ap (λ (s : List (ℕ × Pocket)). x ∷ s) (last_out es e)

at : (c : goal.In_ok-place) → slice_get c.self.inside.places.items (length c.pop.new.self.items) ≡ Some c.in_ok-place.place
at c = ap (λ (s : List (ℕ × Pocket)). slice_get s (length c.pop.new.self.items)) c.in_ok-place.ensures.items ∙ last_at c.pop.new.self.items c.in_ok-place.place

left : (c : goal.In_ok-place) → remove c.self.inside.places.items (length c.pop.new.self.items) ≡ c.pop.new.self.items
left c = ap (λ (s : List (ℕ × Pocket)). remove s (length c.pop.new.self.items)) c.in_ok-place.ensures.items ∙ last_out c.pop.new.self.items c.in_ok-place.place

apart : (c : goal.In_ok-place) → AreApart c.pop.new.self.items
apart c = subst AreApart (left c) (AreApart-remove c.self.inside.places.items (length c.pop.new.self.items) c.in_ok-place.place c.self.invariant.apart (at c))

pub invariant_of-self-2 : goal.invariant_of-self-2
invariant_of-self-2 c = record {
  apart = apart c;
  full = subst AreFull (left c) (AreFull-remove c.self.inside.places.items (length c.pop.new.self.items) c.in_ok-place.place c.self.invariant.full (at c));
  few = omega (arith, c.self.invariant.few, c.in_ok-place.ensures.len);
  room = omega (arith, c.self.invariant.room, c.in_ok-place.ensures.capacity);
}

pub returns-clause-some : goal.returns-clause-some
returns-clause-some c =
    let es = c.self.inside.places.items in
    let e = c.in_ok-place.place in
    let found = find-at es (length c.pop.new.self.items) e c.self.invariant.apart (at c) in (
      ap (λ (w : Purse). map.get w.held e.0) (sym c.self.view_is) ∙ (get-from_entries nat_cmp_total es e.0 ∙ found),
      find_full es e.0 e.1 c.self.invariant.full found,
    )

pub returns-clause-left : goal.returns-clause-left
returns-clause-left c =
    let es = c.self.inside.places.items in
    let e = c.in_ok-place.place in
    let most = c.self.inside.most in
    ap (purse most) (sym (left c))
    ∙ (ap (λ (h : FinMap nat_cmp Pocket). let w : Purse = record { places = most; held = h } in w) (from_entries-remove es (length c.pop.new.self.items) e c.self.invariant.apart (at c))
    ∙ ap (λ (w : Purse). let v : Purse = record { places = w.places; held = map.remove w.held e.0 } in v) c.self.view_is)

pub returns-clause-fewer : goal.returns-clause-fewer
returns-clause-fewer c =
    let was = len-places c.self.inside.places.items c.self.invariant.apart in
    let is = len-places c.pop.new.self.items (apart c) in
    omega (arith, was, is, ap (λ (w : Purse). map.len w.held) c.self.view_is, c.self.inside.places.ok.0, c.pop.new.self.ok.0, c.in_ok-place.ensures.len)
