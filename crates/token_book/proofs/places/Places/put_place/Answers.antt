use Rattle.std.proofs.Common.{◌≡◌, ℕ, ◌+◌, ◌<◌, ◌==◌, Option, None, sym, ap, ◌∙◌, subst, arith}
use Rattle.std.specs.Prelude.{slice_set, remove, unwrap_or}
use Rattle.std.proofs.lemmas.Bool.{cond-false, ne_eqb}
use Rattle.std.proofs.lemmas.Option.{slice_get_within}
use Rattle.std.specs.FinMap as map
use Rattle.token_book.specs.Pocket.{Pocket, no_pocket, with_pocket_in}
use Rattle.token_book.specs.Purse.{purse, AreApart, AreFull, with_pocket}
use Rattle.token_book.proofs.PlaceLists.{AreApart-set, AreFull-set, free_place}
use Rattle.token_book.proofs.FoundPlaces.{IsFound, found, full_found, held_found, with_pocket-settled}
use Rattle.token_book.proofs.Merging.{only_more}
use Rattle.token_book.proofs.places.Places.put_place.Goals as goal

-- the place that was found
here : (c : goal.After-index_mut) → IsFound c.args.self.now c.args.place.0 c.in-Some.i c.self.inside.places.items c.index_mut.result.now
here c =
    subst (λ (o : ℕ). IsFound c.args.self.now o c.in-Some.i c.self.inside.places.items c.index_mut.result.now) c.object.ensures
    (found c.args.self.now c.self.inside.most c.object.result c.in-Some.i c.self.inside.places.items c.deref.result.now c.index_mut.result.now c.self.view_is c.deref.ensures.value c.in-Some.ensures.found c.index_mut.ensures.value)

after : (c : goal.After-self-1) → IsFound c.args.self.now c.args.place.0 c.in-Some.i c.self.inside.places.items c.index_mut.result.now
after c =
    subst (λ (o : ℕ). IsFound c.args.self.now o c.in-Some.i c.self.inside.places.items c.index_mut.result.now) c.object.ensures
    (found c.args.self.now c.self.inside.most c.object.result c.in-Some.i c.self.inside.places.items c.deref.result.now c.index_mut.result.now c.self.view_is c.deref.ensures.value c.in-Some.ensures.found c.index_mut.ensures.value)

-- it isn't empty with the token either
more : (c : goal.After-self-1) → 0 < (with_pocket_in c.index_mut.result.now.1 c.args.place.1).left + (with_pocket_in c.index_mut.result.now.1 c.args.place.1).bytes
more c =
    let was = full_found c.args.self.now c.self.inside.most c.args.place.0 c.in-Some.i c.self.inside.places.items c.index_mut.result.now c.self.view_is c.self.invariant.full (after c) in
    omega arith

-- no place was found
absent : (c : goal.After-keep-arg-1) → map.get c.args.self.now.held c.args.place.0 ≡ None
absent c =
    subst (λ (o : ℕ). map.get c.args.self.now.held o ≡ None) c.object.ensures
    (held_found c.args.self.now c.self.inside.most c.object.result c.self.inside.places.items c.deref.result.now None c.self.view_is c.deref.ensures.value c.in-None.ensures.none)

pub index_mut-requires : goal.index_mut-requires
index_mut-requires c =
    let there = c.in-Some.ensures.found in
    omega (arith, slice_get_within c.deref.result.now c.in-Some.i (c.object.result, there.0) there.1, c.deref.ensures.len)

pub take_in-requires-clause-table : goal.take_in-requires-clause-table
take_in-requires-clause-table c = (c.requires.of c.args.place.0 c.index_mut.result.now.1 (here c).held, c.requires.place)

pub take_in-requires-clause-object : goal.take_in-requires-clause-object
take_in-requires-clause-object c = sym (here c).object

pub invariant_of-self : goal.invariant_of-self
invariant_of-self c =
    let es = c.self.inside.places.items in
    let i = c.in-Some.i in
    let e = c.index_mut.result.now in
    let p = with_pocket_in e.1 c.args.place.1 in
    let changed : slice_set es i c.take_in.new.self ≡ slice_set es i (e.0, p) = ap (slice_set es i) c.take_in.ensures in
    record {
      apart = subst AreApart (sym changed) (AreApart-set es i e p c.self.invariant.apart (after c).at);
      full = subst AreFull (sym changed) (AreFull-set es i (e.0, p) c.self.invariant.full (more c));
      few = omega (arith, c.self.invariant.few);
      room = omega (arith, c.self.invariant.room);
    }

pub keep-requires-clause-new : goal.keep-requires-clause-new
keep-requires-clause-new c = absent c

pub keep-requires-clause-room : goal.keep-requires-clause-room
keep-requires-clause-room c = free_place c.args.self.now c.args.place.0 c.requires.room (absent c)

pub returns-in-Some : goal.returns-in-Some
returns-in-Some c =
    let es = c.self.inside.places.items in
    let i = c.in-Some.i in
    let e = c.index_mut.result.now in
    let p = with_pocket_in e.1 c.args.place.1 in
    ap (λ (x : ℕ × Pocket). purse c.self.inside.most (slice_set es i x)) c.take_in.ensures
    ∙ ap (purse c.self.inside.most) (sym (cond-false (p.left + p.bytes == 0) (remove (slice_set es i (e.0, p)) i) (slice_set es i (e.0, p)) (ne_eqb (p.left + p.bytes) 0 (λ none. let m = more c in absurd (omega arith)))))
    ∙ with_pocket-settled c.args.tokens.now c.args.self.now c.self.inside.most c.args.place.0 i es e (λ (q : Pocket). with_pocket_in q c.args.place.1) c.self.view_is c.self.invariant.apart (after c)

pub returns-in-None : goal.returns-in-None
returns-in-None c =
    let none = held_found c.args.self.now c.self.inside.most c.object.result c.self.inside.places.items c.deref.result.now None c.self.view_is c.deref.ensures.value c.in-None.ensures.none in
    c.keep.ensures
    ∙ ap (λ (x : Pocket). with_pocket c.args.self.now c.args.place.0 x) (sym (only_more c.args.tokens.now c.args.place.1 c.requires.place))
    ∙ ap (λ (x : Option Pocket). with_pocket c.args.self.now c.args.place.0 (with_pocket_in (unwrap_or x (no_pocket c.args.tokens.now)) c.args.place.1)) (sym (subst (λ (o : ℕ). map.get c.args.self.now.held o ≡ None) c.object.ensures none))
