use Rattle.std.proofs.Common.{◌≡◌, ℕ, ◌+◌, List, length, ap, sym, ◌∙◌, subst, ⊎_elim}
use mathlib.Core.Option.{some}
use lib.ListN.{get_elem?}
use Rattle.std.proofs.lemmas.List.{length_push}
use Rattle.view_lists.proofs.Places.{at_end}
use Rattle.one_history.specs.Held.{Held}
use Rattle.one_history.specs.Moves.{one_more, blank_seat, fresh}
use Rattle.one_history.proofs.history.History.make_all.Goals as goal

pub loop-i-preserved : goal.loop-i-preserved
loop-i-preserved g c =
    let i = c.loop-i.invariant in
    let m = c.make.ensures in
    let s = c.make.result in
    let items = c.in_ok-push.ensures.items in
    record {
      table = m.note.0 ∙ i.table;
      note = m.note.1 ∙ ap one_more i.note;
      count = ap length items ∙ length_push c.loop-i.seats.items s ∙ ap (λ n. n + 1) i.count;
      seats = λ o u is. ⊎_elim
          (λ (old : get_elem? c.loop-i.seats.items o ≡ some u). i.seats o u old)
          (λ (new : (o ≡ length c.loop-i.seats.items) × (s ≡ u)).
          let n : o ≡ c.loop-i._i = new.0 ∙ i.count in
          subst (λ (v : Held g.row.E.Denot g.row.G.Denot). (v.table ≡ c.args.self.now.table) × (v.knows ≡ fresh c.args.self.now.frame o)) new.1
          (m.seat.0 ∙ i.table, m.seat.1 ∙ ap blank_seat i.note ∙ ap (λ (k : ℕ). fresh c.args.self.now.frame k) (sym n)))
          (at_end c.loop-i.seats.items s u o (subst (λ (l : List (Held g.row.E.Denot g.row.G.Denot)). get_elem? l o ≡ some u) items is));
    }
