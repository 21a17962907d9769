use Rattle.std.proofs.Common.{◌≡◌, ℕ, ◌+◌, ◌<◌, ◌≤◌, ◌||◌, false, List, length, take, get_or, nat_lt, ap, ◌∙◌, arith}
use Rattle.std.specs.List.{list_any}
use Rattle.std.proofs.lemmas.Bool.Decides.{nat_tests}
use Rattle.std.proofs.lemmas.List.Folds.{list_any_more}
use Rattle.tlm_model.specs.declared.platform.Platform.{Platform}
use Rattle.tlm_model.specs.declared.platform.WindowRow.{WindowRow}
use Rattle.platform_shape.specs.declared.walks.Walks.{Walks}
use Rattle.platform_shape.specs.Walks.{few, walks_of}
use Rattle.platform_shape.proofs.paths.walks_on.Goals as goal

none : (n r : ℕ) → r ≡ few n → r ≤ 0 → nat_lt 0 n ≡ false
none n r is le = grind (arith, nat_tests)

-- no walk along one window more
still_none : (w : Walks) (k : ℕ) (p : Platform) (ws : List WindowRow) (i r : ℕ) (d : WindowRow) → i < length ws → r ≡ few (walks_of w k p (get_or ws i d).to) → r ≤ 0
    → list_any (λ (u : WindowRow). nat_lt 0 (walks_of w k p u.to)) (take i ws) ≡ false → list_any (λ (u : WindowRow). nat_lt 0 (walks_of w k p u.to)) (take (i + 1) ws) ≡ false
still_none w k p ws i r d lt is le so_far =
    list_any_more (λ (u : WindowRow). nat_lt 0 (walks_of w k p u.to)) ws i d lt ∙ ap (λ b. b || nat_lt 0 (walks_of w k p (get_or ws i d).to)) so_far ∙ none (walks_of w k p (get_or ws i d).to) r is le

pub loop-window-preserved : goal.loop-window-preserved
loop-window-preserved c =
    still_none c.args.walks c.args.windows c.args.platform.now c.as_slice-leading.result.now c.loop-window.window-index c.from_target.result _ c.loop-window-test.true c.from_target.ensures c.if-from_target-gt0.false c.loop-window.invariant
