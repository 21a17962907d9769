use Rattle.std.proofs.Common.{◌≡◌, ℕ, ◌+◌, ◌<◌, ◌==◌, Option, None, sym, ap, ◌∙◌, subst, arith}
use Rattle.std.specs.Prelude.{slice_set, remove, unwrap_or}
use Rattle.std.proofs.lemmas.Bool.{cond-false, ne_eqb}
use Rattle.std.proofs.lemmas.Option.{slice_get_within}
use Rattle.std.specs.FinMap as map
use Rattle.token_book.specs.Pocket.{Pocket, no_pocket, with_token}
use Rattle.token_book.specs.Purse.{Purse, purse, left_of, bytes_of, IsOf, AreApart, AreFull, with_pocket}
use Rattle.token_book.proofs.PlaceLists.{AreApart-set, AreFull-set, free_place}
use Rattle.token_book.proofs.FoundPlaces.{IsFound, found, full_found, held_found, with_pocket-settled}
use Rattle.token_book.proofs.Pulls.{left_of-put_in, bytes_of-put_in, IsOf-put_in}
use Rattle.token_book.proofs.places.Places.put.Goals as goal

-- the place that was found
here : (c : goal.After-index_mut) → IsFound c.args.self.now c.args.token.owner c.in-Some.i c.self.inside.places.items c.index_mut.result.now
here c =
    subst (λ (o : ℕ). IsFound c.args.self.now o c.in-Some.i c.self.inside.places.items c.index_mut.result.now) c.owner.ensures
    (found c.args.self.now c.self.inside.most c.owner.result c.in-Some.i c.self.inside.places.items c.deref.result.now c.index_mut.result.now c.self.view_is c.deref.ensures.value c.in-Some.ensures.found c.index_mut.ensures.value)

after : (c : goal.After-self-1) → IsFound c.args.self.now c.args.token.owner c.in-Some.i c.self.inside.places.items c.index_mut.result.now
after c =
    subst (λ (o : ℕ). IsFound c.args.self.now o c.in-Some.i c.self.inside.places.items c.index_mut.result.now) c.owner.ensures
    (found c.args.self.now c.self.inside.most c.owner.result c.in-Some.i c.self.inside.places.items c.deref.result.now c.index_mut.result.now c.self.view_is c.deref.ensures.value c.in-Some.ensures.found c.index_mut.ensures.value)

-- it isn't empty with the token either
more : (c : goal.After-self-1) → 0 < (with_token c.args.token c.index_mut.result.now.1).left + (with_token c.args.token c.index_mut.result.now.1).bytes
more c =
    let was = full_found c.args.self.now c.self.inside.most c.args.token.owner c.in-Some.i c.self.inside.places.items c.index_mut.result.now c.self.view_is c.self.invariant.full (after c) in
    omega arith

-- no place was found
absent : (c : goal.After-of) → map.get c.args.self.now.held c.args.token.owner ≡ None
absent c =
    subst (λ (o : ℕ). map.get c.args.self.now.held o ≡ None) c.owner.ensures
    (held_found c.args.self.now c.self.inside.most c.owner.result c.self.inside.places.items c.deref.result.now None c.self.view_is c.deref.ensures.value c.in-None.ensures.none)

pub index_mut-requires : goal.index_mut-requires
index_mut-requires c =
    let there = c.in-Some.ensures.found in
    omega (arith, slice_get_within c.deref.result.now c.in-Some.i (c.owner.result, there.0) there.1, c.deref.ensures.len)

pub add-requires-clause-table : goal.add-requires-clause-table
add-requires-clause-table c = (c.requires.of c.args.token.owner c.index_mut.result.now.1 (here c).held, c.requires.token.0)

pub add-requires-clause-token : goal.add-requires-clause-token
add-requires-clause-token c = (sym (here c).object, c.requires.token.1)

pub invariant_of-self : goal.invariant_of-self
invariant_of-self c =
    let es = c.self.inside.places.items in
    let i = c.in-Some.i in
    let e = c.index_mut.result.now in
    let p = with_token c.args.token e.1 in
    let changed : slice_set es i c.add.new.self ≡ slice_set es i (e.0, p) = ap (slice_set es i) c.add.ensures in
    record {
      apart = subst AreApart (sym changed) (AreApart-set es i e p c.self.invariant.apart (after c).at);
      full = subst AreFull (sym changed) (AreFull-set es i (e.0, p) c.self.invariant.full (more c));
      few = omega (arith, c.self.invariant.few);
      room = omega (arith, c.self.invariant.room);
    }

pub keep-requires-clause-new : goal.keep-requires-clause-new
keep-requires-clause-new c = ap (λ (x : ℕ × Pocket). map.get c.args.self.now.held x.0) c.of.ensures ∙ absent c

pub keep-requires-clause-room : goal.keep-requires-clause-room
keep-requires-clause-room c = free_place c.args.self.now c.args.token.owner c.requires.room (absent c)

pub returns-in-Some-clause-wallet : goal.returns-in-Some-clause-wallet
returns-in-Some-clause-wallet c =
    let es = c.self.inside.places.items in
    let i = c.in-Some.i in
    let e = c.index_mut.result.now in
    let p = with_token c.args.token e.1 in
    ap (λ (x : ℕ × Pocket). purse c.self.inside.most (slice_set es i x)) c.add.ensures
    ∙ ap (purse c.self.inside.most) (sym (cond-false (p.left + p.bytes == 0) (remove (slice_set es i (e.0, p)) i) (slice_set es i (e.0, p)) (ne_eqb (p.left + p.bytes) 0 (λ none. let m = more c in absurd (omega arith)))))
    ∙ with_pocket-settled c.args.token.table c.args.self.now c.self.inside.most c.args.token.owner i es e (with_token c.args.token) c.self.view_is c.self.invariant.apart (after c)

pub returns-in-Some-clause-of : goal.returns-in-Some-clause-of
returns-in-Some-clause-of c = subst (IsOf c.args.tokens.now) (sym (returns-in-Some-clause-wallet c)) (IsOf-put_in c.args.tokens.now c.args.self.now c.args.token c.requires.token.0 c.requires.of)

pub returns-in-Some-clause-left : goal.returns-in-Some-clause-left
returns-in-Some-clause-left c o = ap (λ (w : Purse). left_of w o) (returns-in-Some-clause-wallet c) ∙ left_of-put_in c.args.self.now c.args.token o

pub returns-in-Some-clause-bytes : goal.returns-in-Some-clause-bytes
returns-in-Some-clause-bytes c o = ap (λ (w : Purse). bytes_of w o) (returns-in-Some-clause-wallet c) ∙ bytes_of-put_in c.args.self.now c.args.token o

pub returns-in-None-clause-wallet : goal.returns-in-None-clause-wallet
returns-in-None-clause-wallet c =
    let none = held_found c.args.self.now c.self.inside.most c.owner.result c.self.inside.places.items c.deref.result.now None c.self.view_is c.deref.ensures.value c.in-None.ensures.none in
    c.keep.ensures
    ∙ ap (λ (x : ℕ × Pocket). with_pocket c.args.self.now x.0 x.1) c.of.ensures
    ∙ ap (λ (x : Option Pocket). with_pocket c.args.self.now c.args.token.owner (with_token c.args.token (unwrap_or x (no_pocket c.args.token.table)))) (sym (subst (λ (o : ℕ). map.get c.args.self.now.held o ≡ None) c.owner.ensures none))

pub returns-in-None-clause-of : goal.returns-in-None-clause-of
returns-in-None-clause-of c = subst (IsOf c.args.tokens.now) (sym (returns-in-None-clause-wallet c)) (IsOf-put_in c.args.tokens.now c.args.self.now c.args.token c.requires.token.0 c.requires.of)

pub returns-in-None-clause-left : goal.returns-in-None-clause-left
returns-in-None-clause-left c o = ap (λ (w : Purse). left_of w o) (returns-in-None-clause-wallet c) ∙ left_of-put_in c.args.self.now c.args.token o

pub returns-in-None-clause-bytes : goal.returns-in-None-clause-bytes
returns-in-None-clause-bytes c o = ap (λ (w : Purse). bytes_of w o) (returns-in-None-clause-wallet c) ∙ bytes_of-put_in c.args.self.now c.args.token o
