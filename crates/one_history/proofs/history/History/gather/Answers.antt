use Rattle.std.proofs.Common.{◌≡◌, List, [], ◌++◌, length, vec_len, refl, sym, ap, ◌∙◌, subst, arith, length-append}
use lib.ListN.{get_elem?}
use Rattle.std.proofs.lemmas.List.{take_all}
use Rattle.view_lists.specs.Lists.{Has}
use Rattle.view_lists.proofs.Places.{popped, at_short}
use Rattle.view_lists.proofs.Members.{has_left, has_right, has_none}
use Rattle.one_history.specs.declared.view.Owned.{Owned}
use Rattle.one_history.specs.Moves.{own_of}
use Rattle.one_history.specs.Seats.{owned}
use Rattle.one_history.proofs.Gathering.{gathers_more, alone_owned}
use Rattle.one_history.proofs.history.History.gather.Goals as goal

pub loop-next-init : goal.loop-next-init
loop-next-init g c =
    let p = c.in-Some.ensures in
    let last = c.in-Some.last in
    let all = c.args.seats.items in
    let left = c.pop.new.self in
    let long : length all ≡ vec_len c.args.seats = omega (arith, c.args.seats.ok.0) in
    let short : length left.items ≡ vec_len left = omega (arith, left.ok.0) in
    let q = popped all all left.items (length all) (vec_len left) last (sym (take_all (length all) all (omega arith))) p.items refl short in
    let of = c.requires.seats (vec_len left) last q.1 in
    let n = c.into_seat-master.ensures in
    let objects = ap (λ m. m.0.objects) n.seat.1 in
    let is = alone_owned last.knows.objects (vec_len left) n.one of.2 in
    let master = c.into_seat-master.result in
    record {
      table = n.seat.0 ∙ of.0;
      frame = ap (λ m. m.0.frame) n.seat.1 ∙ of.1;
      some = omega (arith, ap length objects, n.one);
      front = q.0;
      got = gathers_more all (length all) (vec_len left) last [] master.me.0.objects (λ o s from at. let b = at_short all o s at in absurd (omega arith)) q.2 q.1 (λ y h. absurd (has_none y h)) (0, ap (λ (l : List (Owned g.row.E.Denot)). get_elem? l 0) (objects ∙ is));
    }

pub take_seat-requires : goal.take_seat-requires
take_seat-requires g c =
    let i = c.loop-next.invariant in
    let p = c.in-Some-pop.ensures in
    let next = c.in-Some-pop.next in
    let left = c.pop-in-loop-next.new.self in
    let q = popped c.args.seats.items c.loop-next.seats.items left.items (vec_len c.loop-next.seats) (vec_len left) next i.front p.items (omega (arith, c.loop-next.seats.ok.0)) (omega (arith, left.ok.0)) in
    record { master = (i.table, i.some); seat = (c.requires.seats (vec_len left) next q.1).0 }

pub loop-next-preserved : goal.loop-next-preserved
loop-next-preserved g c =
    let i = c.loop-next.invariant in
    let p = c.in-Some-pop.ensures in
    let j = c.take_seat.ensures in
    let next = c.in-Some-pop.next in
    let left = c.pop-in-loop-next.new.self in
    let q = popped c.args.seats.items c.loop-next.seats.items left.items (vec_len c.loop-next.seats) (vec_len left) next i.front p.items (omega (arith, c.loop-next.seats.ok.0)) (omega (arith, left.ok.0)) in
    let of = c.requires.seats (vec_len left) next q.1 in
    let is = alone_owned next.knows.objects (vec_len left) j.one of.2 in
    let old = c.loop-next.master.me.0.objects in
    let new = c.take_seat.new.master.me.0.objects in
    let objects : new ≡ old ++ next.knows.objects = ap (λ m. m.0.objects) j.master.1 in
    let some = i.some in
    record {
      table = j.master.0 ∙ i.table;
      frame = ap (λ m. m.0.frame) j.master.1 ∙ i.frame;
      some = omega (arith, ap length objects, length-append old next.knows.objects);
      front = q.0;
      got = gathers_more c.args.seats.items (vec_len c.loop-next.seats) (vec_len left) next old new i.got q.2 q.1
          (λ y h. subst (λ (l : List (Owned g.row.E.Denot)). Has l y) (sym objects) (has_left old next.knows.objects y h))
          (subst (λ (l : List (Owned g.row.E.Denot)). Has l (owned (vec_len left) (own_of next.knows))) (sym objects) (has_right old next.knows.objects (owned (vec_len left) (own_of next.knows)) (0, ap (λ (l : List (Owned g.row.E.Denot)). get_elem? l 0) is)));
    }
