use Rattle.std.proofs.Common.{◌+◌, ◌<◌, None, subst}
use Rattle.token_book.specs.Purse.{Purse, HasPlace, left_of, bytes_of}
use Rattle.token_book.proofs.PlaceLists.{placed}
use Rattle.token_book.proofs.FoundPlaces.{found, held_found}
use Rattle.token_book.proofs.places.Places.place.Goals as goal

pub returns-in-Some-clause-found : goal.returns-in-Some-clause-found
returns-in-Some-clause-found c =
    (found c.args.self.now c.self.inside.most c.args.object c.in-Some.i c.self.inside.places.items c.deref.result.now c.index.result.now c.self.view_is c.deref.ensures.value c.in-Some.ensures.found c.index.ensures).held

pub returns-in-Some-clause-place : goal.returns-in-Some-clause-place
returns-in-Some-clause-place c =
    subst (λ (w : Purse). (HasPlace w c.args.object → 0 < left_of w c.args.object + bytes_of w c.args.object) × (0 < left_of w c.args.object + bytes_of w c.args.object → HasPlace w c.args.object)) c.self.view_is
    (placed c.self.inside.most c.self.inside.places.items c.args.object c.self.invariant.full)

pub returns-in-None-clause-none : goal.returns-in-None-clause-none
returns-in-None-clause-none c = held_found c.args.self.now c.self.inside.most c.args.object c.self.inside.places.items c.deref.result.now None c.self.view_is c.deref.ensures.value c.in-None.ensures.none

pub returns-in-None-clause-place : goal.returns-in-None-clause-place
returns-in-None-clause-place c =
    subst (λ (w : Purse). (HasPlace w c.args.object → 0 < left_of w c.args.object + bytes_of w c.args.object) × (0 < left_of w c.args.object + bytes_of w c.args.object → HasPlace w c.args.object)) c.self.view_is
    (placed c.self.inside.most c.self.inside.places.items c.args.object c.self.invariant.full)
