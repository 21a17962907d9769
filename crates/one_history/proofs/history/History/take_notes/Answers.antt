use Rattle.std.proofs.Common.{rules, ◌≡◌, List, ◌++◌, length, vec_len, refl, sym, ap, ◌∙◌, subst, arith, append-nil}
use Rattle.std.proofs.lemmas.List.{take_all}
use Rattle.view_lists.specs.Lists.{Has}
use Rattle.view_lists.proofs.Places.{popped, at_short}
use Rattle.view_lists.proofs.Members.{has_left, has_right}
use Rattle.one_history.specs.declared.entry.Entry.{Entry}
use Rattle.one_history.specs.declared.view.Owned.{Owned}
use Rattle.one_history.proofs.Gathering.{tells_more}
use Rattle.one_history.proofs.history.History.take_notes.Goals as goal

pub loop-next-init : goal.loop-next-init
loop-next-init g c = record {
  table = refl;
  frame = refl;
  objects = refl;
  front = (let q = c.args.notes.ok.0 in sym (take_all (vec_len c.args.notes) c.args.notes.items (omega arith)));
  tell = λ k n from at. let b = at_short c.args.notes.items k n at in let q = c.args.notes.ok.0 in absurd (omega arith);
}

pub take_note-requires : goal.take_note-requires
take_note-requires g c =
    let i = c.loop-next.invariant in
    let p = c.in-Some.ensures in
    let next = c.in-Some.next in
    let left = c.pop.new.self in
    let q = popped c.args.notes.items c.loop-next.notes.items left.items (vec_len c.loop-next.notes) (vec_len left) next i.front p.items (omega (arith, c.loop-next.notes.ok.0)) (omega (arith, left.ok.0)) in
    let r = c.requires.master in
    let objects : length c.loop-next.master.me.0.objects ≡ length c.args.master.now.me.0.objects = ap length i.objects in
    record { master = (i.table ∙ r.0, omega arith); note = c.requires.notes (vec_len left) next q.1 }

pub loop-next-preserved : goal.loop-next-preserved
loop-next-preserved g c =
    let i = c.loop-next.invariant in
    let p = c.in-Some.ensures in
    let j = c.take_note.ensures in
    let next = c.in-Some.next in
    let left = c.pop.new.self in
    let q = popped c.args.notes.items c.loop-next.notes.items left.items (vec_len c.loop-next.notes) (vec_len left) next i.front p.items (omega (arith, c.loop-next.notes.ok.0)) (omega (arith, left.ok.0)) in
    let old = c.loop-next.master.me.0 in
    let new = c.take_note.new.master.me.0 in
    let known : new.known ≡ old.known ++ next.knows.known = ap (λ m. m.0.known) j.master.1 in
    record {
      table = j.master.0 ∙ i.table;
      frame = ap (λ m. m.0.frame) j.master.1 ∙ i.frame;
      objects = ap (λ m. m.0.objects) j.master.1 ∙ ap (λ (l : List (Owned g.row.E.Denot)). old.objects ++ l) j.none ∙ append-nil old.objects ∙ i.objects;
      front = q.0;
      tell = tells_more c.args.notes.items (vec_len c.loop-next.notes) (vec_len left) next old.known new.known i.tell q.2 q.1
          (λ x has. subst (λ (l : List (Entry g.row.E.Denot)). Has l x) (sym known) (has_left old.known next.knows.known x has))
          (λ x has. subst (λ (l : List (Entry g.row.E.Denot)). Has l x) (sym known) (has_right old.known next.knows.known x has));
    }

pub returns-clause-tell : goal.returns-clause-tell
returns-clause-tell g c = λ k n from at. c.loop-next.invariant.tell k n (let e = c.in_default.ensures in search rules) at
