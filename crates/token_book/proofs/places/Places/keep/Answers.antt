use Rattle.std.proofs.Common.{◌≡◌, ℕ, ◌+◌, ◌<◌, ◌==◌, List, false, None, sym, ap, ◌∙◌, subst, arith}
use Rattle.std.specs.Ordering.{nat_cmp}
use Rattle.std.specs.Cmp.{nat_cmp_total}
use Rattle.std.specs.FinMap as map
use Rattle.std.specs.FinMap.{get-from_entries}
use Rattle.std.proofs.lemmas.Bool.{eqb-false}
use Rattle.token_book.specs.Pocket.{Pocket}
use Rattle.token_book.specs.Purse.{Purse, purse, with_pocket, AreApart, AreFull}
use Rattle.token_book.proofs.Purses.{with_pocket-empty}
use Rattle.token_book.proofs.PlaceLists.{AreApart-push, AreFull-push, len-places, with_pocket-push}
use Rattle.token_book.proofs.places.Places.keep.Goals as goal

pub returns-then-is_empty : goal.returns-then-is_empty
returns-then-is_empty c =
    sym (with_pocket-empty c.args.self.now c.args.place.0 c.args.place.1 c.requires.new (sym c.is_empty.ensures ∙ c.if-is_empty.true))

pub unreachable-requires : goal.unreachable-requires
unreachable-requires c =
    let i = c.self.invariant in
    let es = c.self.inside.places.items in
    let room : map.len (map.from_entries {R = nat_cmp} es) < c.self.inside.most = subst (λ (w : Purse). map.len w.held < w.places) (sym c.self.view_is) c.requires.room in
    omega (arith, len-places es i.apart, c.in_default.ensures.full, i.room, c.self.inside.places.ok.0)

pub invariant_of-self : goal.invariant_of-self
invariant_of-self c =
    let i = c.self.invariant in
    let es = c.self.inside.places.items in
    let p = c.args.place in
    let none : map.find nat_cmp p.0 es ≡ None = sym (get-from_entries nat_cmp_total es p.0) ∙ subst (λ (w : Purse). map.get w.held p.0 ≡ None) (sym c.self.view_is) c.requires.new in
    let room : map.len (map.from_entries {R = nat_cmp} es) < c.self.inside.most = subst (λ (w : Purse). map.len w.held < w.places) (sym c.self.view_is) c.requires.room in
    let some : (p.1.left + p.1.bytes == 0) ≡ false = sym c.is_empty.ensures ∙ c.if-is_empty.false in
    record {
      apart = subst (λ (l : List (ℕ × Pocket)). AreApart l) (sym c.in-Ok.ensures.items) (AreApart-push es p.0 p.1 i.apart none);
      full = subst (λ (l : List (ℕ × Pocket)). AreFull l) (sym c.in-Ok.ensures.items) (AreFull-push es p.0 p.1 i.full (let more = eqb-false (p.1.left + p.1.bytes) 0 some in omega arith));
      few = omega (arith, len-places es i.apart, c.in-Ok.ensures.len, c.self.inside.places.ok.0);
      room = omega (arith, c.in-Ok.ensures.capacity, i.room);
    }

pub returns : goal.returns
returns c =
    let es = c.self.inside.places.items in
    let p = c.args.place in
    let none : map.find nat_cmp p.0 es ≡ None = sym (get-from_entries nat_cmp_total es p.0) ∙ subst (λ (w : Purse). map.get w.held p.0 ≡ None) (sym c.self.view_is) c.requires.new in
    let some : (p.1.left + p.1.bytes == 0) ≡ false = sym c.is_empty.ensures ∙ c.if-is_empty.false in
    ap (λ (l : List (ℕ × Pocket)). purse c.self.inside.most l) c.in-Ok.ensures.items
    ∙ with_pocket-push c.self.inside.most es p.0 p.1 none some
    ∙ ap (λ (w : Purse). with_pocket w p.0 p.1) c.self.view_is
