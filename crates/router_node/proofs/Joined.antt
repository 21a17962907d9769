-- What a router knows of a transaction whose response is back.
use Rattle.std.proofs.Common.{ℕ, ◌<◌, List, Some, sym, subst, ◌∙◌, arith}
use Rattle.atomic_table.specs.Seated.{TableId}
use Rattle.one_history.specs.declared.entry.Entry.{Entry}
use Rattle.one_history.specs.declared.view.Frame.{Frame}
use Rattle.tlm_types.specs.declared.entry.Content.{Content}
use Rattle.tlm_model.specs.Plan.{Plan}
use Rattle.route_plan.specs.Valid.{hop_count}
use Rattle.router_node.specs.Finds.{IsFound}
use Rattle.router_node.specs.Joins.{IsOf}
use Rattle.router_moves.specs.Moves.{IsBackFor, TurnsUp}
use Rattle.router_node.specs.Stages.{IsSettled, IsUp}
use Rattle.router_node.specs.declared.finds.Found.{Found}
use Rattle.router_moves.specs.declared.items.Back.{Back}
use Rattle.router_moves.specs.declared.items.PassedOn.{PassedOn}
use Rattle.router_moves.specs.declared.items.RouterResponse.{RouterResponse}
use Rattle.router_moves.specs.declared.items.Rest.{Rest}

module _ (frame : Frame Plan) (tokens : TableId) (known : List (Entry Content)) (h : PassedOn) (is : IsSettled frame tokens known h) where
  pub is_back : (f : Found) → IsFound frame tokens known f → IsOf h f → IsBackFor frame tokens known h f.fetched.back
  is_back f found of =
      let i = is.holding in
      record { pass = i.pass; hop = i.hop; state = i.state; owed = 1; few = omega arith; held = i.held; back = found.fetched.back h i.pass i.hop i.state i.held of.0 of.1 }

  pub is_up : (b : Back) (r : RouterResponse) (rest : Rest) → TurnsUp frame tokens known h b r rest → IsUp frame tokens known r (Some rest)
  is_up b r rest t = record {
    there = subst (λ (n : ℕ). n < hop_count frame.world.platform) (sym t.at) is.there;
    can = t.can;
    below = record { pass = t.pass; hop = t.hop; here = t.above ∙ sym t.at; of = t.of.0 ∙ sym t.txn; rest = t.rest_of };
  }
