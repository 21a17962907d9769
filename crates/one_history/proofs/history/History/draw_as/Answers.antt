use Rattle.std.proofs.Common.{◌≡◌, ◌<◌, ◌≤◌, ℕ, length, sym, ap, ◌∙◌, subst, arith}
use Rattle.std.specs.Prelude.{slice_index_or}
use Rattle.one_history.specs.Rule.{plain}
use Rattle.one_history.specs.declared.view.Frame.{Frame}
use Rattle.one_history.specs.Moves.{own_of, number_of, KnowsOwn, MayDraw, entry}
use Rattle.one_history.proofs.Wholes.{draws}
use Rattle.one_history.proofs.history.History.draw_as.Goals as goal

pub fetch_add-requires : goal.fetch_add-requires
fetch_add-requires g c =
    let r = c.requires in
    let v = c.self.view_is in
    let frame : c.args.self.now.frame ≡ plain c.self.inside.table.shared.key = sym (ap (λ h. h.frame) v) in
    let s = c.args.seat.now in (
      r.seat.0 ∙ sym (ap (λ h. h.table) v),
      (let wide = c.self.invariant.0 in omega arith),
      draws g.W.Law.backs (plain c.self.inside.table.shared.key) g.W.Law.grows _ _ s.me _ _ r.seat.1
          (subst (λ (f : Frame g.row.G.Denot). length (own_of s.me.0) < slice_index_or f.planned (number_of s.me.0) 0) frame r.planned) c.self.invariant.1
          (subst (λ (f : Frame g.row.G.Denot). (p : ℕ) → s.me.0.seen ≤ p → KnowsOwn s.me.0 → g.W.Law.backs f.world s.me.0.known (entry p (number_of s.me.0) g.B.Signed.sign g.D.Drawn.content)) frame r.backed)
          (subst (λ (f : Frame g.row.G.Denot). KnowsOwn s.me.0 → MayDraw f s.me.0 g.B.Signed.sign) frame r.gates),
    )
