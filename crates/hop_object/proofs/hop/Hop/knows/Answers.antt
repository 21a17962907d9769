use Rattle.std.proofs.Common.{ℕ, List, ap, sym, subst, ◌∙◌}
use Rattle.std.specs.List.{list_any, All}
use Rattle.token_book.specs.Account.{Slip}
use Rattle.hop_object.specs.declared.lane.Lane.{Lane}
use Rattle.hop_object.specs.View.{HopView}
use Rattle.hop_object.specs.Lanes.{has_leg, HasPosition}
use Rattle.hop_object.proofs.hop.Hop.knows.Goals as goal

pub any_leg-requires : goal.any_leg-requires
any_leg-requires g c = subst (λ (ls : List (Lane g.row.T.Denot)). All HasPosition ls) (sym c.deref.ensures.value) c.self.invariant.kept.placed

pub returns : goal.returns
returns g c = c.any_leg.ensures ∙ ap (λ (n : ℕ). list_any (has_leg n) c.deref.result.now) (c.name.ensures ∙ ap (λ (s : Slip). s.name) c.leg.view_is) ∙ ap (list_any (has_leg c.args.leg.now.name)) (c.deref.ensures.value ∙ ap (λ (v : HopView g.row.T.Denot). v.lanes) c.self.view_is)
