use Rattle.std.proofs.Common.{◌+◌, ◌<◌, sym, ap, ◌∙◌, subst, arith}
use Rattle.token_book.specs.Purse.{HasPlace, HasRoomForAll, IsOf, Purse, bytes_of, left_of}
use Rattle.token_book.proofs.PlaceLists.{placed}
use Rattle.token_book.proofs.Merging.{bytes_moved, bytes_none, has_room, left_moved, left_none, more, of_less, of_more, room_moved}
use Rattle.token_book.proofs.places.Places.put_all.Goals as goal

pub put_place-requires-clause-room : goal.put_place-requires-clause-room
put_place-requires-clause-room c =
    let s = c.in-Some.ensures.some in
    has_room c.args.tokens.now c.loop-place.self c.loop-place.from c.in-Some.place s.0 s.1 c.loop-place.invariant.room

pub loop-place-preserved : goal.loop-place-preserved
loop-place-preserved c =
    let t = c.args.tokens.now in
    let w = c.loop-place.self in
    let v = c.loop-place.from in
    let e = c.in-Some.place in
    let s = c.in-Some.ensures.some in
    let i = c.loop-place.invariant in
    let grew = c.put_place.ensures in
    let fell = c.in-Some.ensures.left in
    record {
      of = (subst (IsOf t) (sym grew) (of_more t w v e s.0 i.of.0), subst (IsOf t) (sym fell) (of_less t w v e s.0 i.of.1));
      places = ap (λ (x : Purse). x.places) grew ∙ i.places;
      from_places = ap (λ (x : Purse). x.places) fell ∙ i.from_places;
      left = λ o. ap (λ (x : Purse). left_of x o + left_of c.pop.new.self o) grew ∙ (ap (λ (x : Purse). left_of (more t w v e s.0) o + left_of x o) fell ∙ (left_moved t w v e s.0 o ∙ i.left o));
      bytes = λ o. ap (λ (x : Purse). bytes_of x o + bytes_of c.pop.new.self o) grew ∙ (ap (λ (x : Purse). bytes_of (more t w v e s.0) o + bytes_of x o) fell ∙ (bytes_moved t w v e s.0 o ∙ i.bytes o));
      room = subst (λ (x : Purse). HasRoomForAll x c.pop.new.self) (sym grew) (subst (λ (x : Purse). HasRoomForAll (more t w v e s.0) x) (sym fell) (room_moved t w v e s.0 s.1 i.room));
    }

pub returns-clause-left : goal.returns-clause-left
returns-clause-left c = λ o. (let none = left_none c.loop-place.from o c.in_default.ensures.none.0 in omega (arith, none, c.loop-place.invariant.left o))

pub returns-clause-bytes : goal.returns-clause-bytes
returns-clause-bytes c = λ o. (let none = bytes_none c.loop-place.from o c.in_default.ensures.none.0 in omega (arith, none, c.loop-place.invariant.bytes o))

pub returns-clause-full : goal.returns-clause-full
returns-clause-full c = λ o. subst (λ (w : Purse). HasPlace w o → 0 < left_of w o + bytes_of w o) c.self.view_is (placed c.self.inside.most c.self.inside.places.items o c.self.invariant.full).0
