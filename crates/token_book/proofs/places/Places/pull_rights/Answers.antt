use Rattle.std.specs.Ordering.{nat_cmp}
use Rattle.std.specs.FinMap as map
use Rattle.std.proofs.Common.{◌≡◌, List, ℕ, None, sym, ap, ◌∙◌, subst, arith}
use Rattle.std.proofs.lemmas.Option.{slice_get_within}
use Rattle.token_book.specs.Pocket.{Pocket, rights_of, without_rights}
use Rattle.token_book.proofs.FoundPlaces.{some_or}
use Rattle.token_book.specs.Purse.{purse, left_in, bytes_left_in, AreApart, AreFull}
use Rattle.token_book.proofs.FoundPlaces.{IsFound, found, held_found, get-set, settled, AreApart-settled, AreFull-settled, with_pocket-settled}
use Rattle.token_book.proofs.places.Places.pull_rights.Goals as goal

-- the place that was found
here : (c : goal.After-index_mut) → IsFound c.args.self.now c.args.object c.index_in-i.result c.self.inside.places.items c.index_mut.result.now
here c = found c.args.self.now c.self.inside.most c.args.object c.index_in-i.result c.self.inside.places.items c.deref.result.now c.index_mut.result.now c.self.view_is c.deref.ensures.value c.index_in-i.ensures c.index_mut.ensures.value

after : (c : goal.After-drop_empty) → IsFound c.args.self.now c.args.object c.index_in-i.result c.self.inside.places.items c.index_mut.result.now
after c = found c.args.self.now c.self.inside.most c.args.object c.index_in-i.result c.self.inside.places.items c.deref.result.now c.index_mut.result.now c.self.view_is c.deref.ensures.value c.index_in-i.ensures c.index_mut.ensures.value

-- the places after it was changed
settles : (c : goal.After-drop_empty) → c.drop_empty.new.places.items ≡ settled c.self.inside.places.items c.index_in-i.result (c.index_mut.result.now.0, without_rights c.args.tickets c.args.bytes c.index_mut.result.now.1)
settles c =
    c.drop_empty.ensures.items c.pull_rights-rights.new.self (get-set c.self.inside.places.items c.index_in-i.result c.index_mut.result.now c.pull_rights-rights.new.self (after c).at)
    ∙ ap (settled c.self.inside.places.items c.index_in-i.result) c.pull_rights-rights.ensures.place

pub index_in-i-requires-clause-apart : goal.index_in-i-requires-clause-apart
index_in-i-requires-clause-apart c = subst AreApart (sym {A = List (ℕ × Pocket)} c.deref.ensures.value) c.self.invariant.apart

pub index_in-i-requires-clause-held : goal.index_in-i-requires-clause-held
index_in-i-requires-clause-held c =
    some_or (map.find nat_cmp c.args.object c.deref.result.now) (λ (lost : map.find nat_cmp c.args.object c.deref.result.now ≡ None).
    let none = held_found c.args.self.now c.self.inside.most c.args.object c.self.inside.places.items c.deref.result.now None c.self.view_is c.deref.ensures.value lost in
    omega (arith, c.requires.some, c.requires.left, ap left_in none))

pub index_mut-requires : goal.index_mut-requires
index_mut-requires c =
    let there = c.index_in-i.ensures in
    omega (arith, slice_get_within c.deref.result.now c.index_in-i.result (c.args.object, there.0) there.1, c.deref.ensures.len)

pub pull_rights-rights-requires-clause-table : goal.pull_rights-rights-requires-clause-table
pull_rights-rights-requires-clause-table c = c.requires.of c.args.object c.index_mut.result.now.1 (here c).held

pub pull_rights-rights-requires-clause-left : goal.pull_rights-rights-requires-clause-left
pull_rights-rights-requires-clause-left c = omega (arith, c.requires.left, ap left_in (here c).held)

pub pull_rights-rights-requires-clause-bytes : goal.pull_rights-rights-requires-clause-bytes
pull_rights-rights-requires-clause-bytes c = omega (arith, c.requires.bytes, ap bytes_left_in (here c).held)

pub drop_empty-requires : goal.drop_empty-requires
drop_empty-requires c =
    let there = c.index_in-i.ensures in
    omega (arith, slice_get_within c.deref.result.now c.index_in-i.result (c.args.object, there.0) there.1, c.deref.ensures.len)

pub invariant_of-self : goal.invariant_of-self
invariant_of-self c =
    let es = c.self.inside.places.items in
    let e = c.index_mut.result.now in
    let p = without_rights c.args.tickets c.args.bytes e.1 in
    let at = (after c).at in
    record {
      apart = subst AreApart (sym (settles c)) (AreApart-settled es c.index_in-i.result e p at c.self.invariant.apart);
      full = subst AreFull (sym (settles c)) (AreFull-settled es c.index_in-i.result e p at c.self.invariant.full);
      few = omega (arith, c.self.invariant.few, c.drop_empty.ensures.len);
      room = omega (arith, c.self.invariant.room, c.drop_empty.ensures.capacity);
    }

pub returns-clause-wallet : goal.returns-clause-wallet
returns-clause-wallet c =
    ap (purse c.self.inside.most) (settles c)
    ∙ with_pocket-settled c.args.tokens.now c.args.self.now c.self.inside.most c.args.object c.index_in-i.result c.self.inside.places.items c.index_mut.result.now (without_rights c.args.tickets c.args.bytes) c.self.view_is c.self.invariant.apart (after c)

pub returns-clause-rights : goal.returns-clause-rights
returns-clause-rights c = c.pull_rights-rights.ensures.rights ∙ ap (λ (o : ℕ). (o, rights_of c.args.tokens.now c.args.tickets c.args.bytes)) (after c).object
