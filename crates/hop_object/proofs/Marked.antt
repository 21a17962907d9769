-- One more entry of a log with marks.
use Rattle.std.proofs.Common.{List, [], ◌∷◌, ◌++◌, refl, sym, subst}
use Rattle.flow_model.specs.Board.{Board, Rules}
use Rattle.flow_model.specs.Events.{Event}
use Rattle.flow_model.specs.Marked.{Marks, ReachesMarked}

pub marked_push : (r : Rules) (log : List Event) (a b : Board) (e : Event) (c : Board) → ReachesMarked r a log b → Marks r b e c → ReachesMarked r a (log ++ e ∷ []) c
marked_push r [] a b e c h m = (c, subst (λ (x : Board). Marks r x e c) (sym h) m, refl)
marked_push r (x ∷ log) a b e c h m = (h.0, h.1, marked_push r log h.0 b e c h.2 m)
