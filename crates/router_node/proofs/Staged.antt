-- What a router knows of a transaction after a step.
use Rattle.std.proofs.Common.{◌≡◌, ℕ, ◌<◌, List, Bool, false, Option, Some, None, sym, ap, subst}
use Rattle.std.specs.Prelude.{IfSome, IsTrue}
use Rattle.atomic_table.specs.Seated.{TableId}
use Rattle.view_lists.specs.Lists.{Within}
use Rattle.one_history.specs.declared.entry.Entry.{Entry}
use Rattle.one_history.specs.declared.view.Frame.{Frame}
use Rattle.tlm_types.specs.declared.entry.Content.{Content}
use Rattle.tlm_types.specs.declared.words.Phase.TheVariants.{BeginResp}
use Rattle.tlm_types.specs.declared.words.TxnId.{TxnId}
use Rattle.tlm_model.specs.Plan.{Plan}
use Rattle.flow_model.specs.Events.{Finds, FindsAt, IsPhase}
use Rattle.flow_model.specs.Numbers.{IsEnder}
use Rattle.cargo_model.specs.Known.{Known}
use Rattle.route_plan.specs.Valid.{hop_count}
use Rattle.plat_net.specs.HopCalls.{CanRespond}
use Rattle.router_moves.specs.Items.{HasGone}
use Rattle.router_moves.specs.Moves.{EndsAbove, HasBegunOn, HasEndedAbove}
use Rattle.router_node.specs.Stages.{HasSettled, IsAway, IsRestUnder, IsUp}
use Rattle.router_moves.specs.declared.items.PassedOn.{PassedOn}
use Rattle.router_moves.specs.declared.items.RouterResponse.{RouterResponse}
use Rattle.router_moves.specs.declared.items.Rest.{Rest}
use Rattle.router_node.specs.declared.stage.SentUp.{SentUp}
use Rattle.router_moves.proofs.Grown.{finds_at_more, finds_more}
use Rattle.router_node.proofs.Stays.{holds_on, stays}

pub not_true : IsTrue false → ⊥
not_true q = cc

module _ (frame : Frame Plan) (tokens : TableId) (known more : List (Entry Content)) (w : Within known more) where
  pub rest_more : (above : ℕ) (x : TxnId) (o : Option Rest) → IfSome o (IsRestUnder frame tokens known above x) → IfSome o (IsRestUnder frame tokens more above x)
  rest_more above x None i = tt
  rest_more above x (Some r) i = record { pass = i.pass; hop = i.hop; here = i.here; of = i.of; rest = (stays frame tokens known more w).rest r i.pass i.hop i.rest }

  pub away_more : (a : SentUp) → IsAway frame tokens known a → IsAway frame tokens more a
  away_more a i = record {
    there = i.there;
    begun = (stays frame tokens known more w).entry a.above a.txn i.begun;
    sent = finds_at_more frame.world known more w a.at i.sent;
    ended = λ t. finds_more frame.world known more w (i.ended t);
    below = rest_more a.above a.txn a.rest i.below;
  }

  module _ (r : RouterResponse) (rest : Option Rest) (up : IsUp frame tokens known r rest) where
    -- a response that was sent up
    pub sent_away : (at : ℕ) (ended : Bool) → FindsAt (Known frame.world.platform more) (IsPhase r.cargo.baton.txn r.hop BeginResp) at → (IsTrue ended → Finds (Known frame.world.platform more) (IsEnder r.cargo.baton.txn r.hop))
        → IsAway frame tokens more (record { txn = r.cargo.baton.txn; above = r.hop; at = at; ended = ended; rest = rest })
    sent_away at ended sent end =
        let l = up.can.leg_of in
        let begun : HasBegunOn frame known r.hop r.cargo.baton.txn = record { entry = l.entry; has = l.has; object = l.object; txn = l.txn } in
        record {
          there = up.there;
          begun = (stays frame tokens known more w).entry r.hop r.cargo.baton.txn begun;
          sent = sent;
          ended = end;
          below = rest_more r.hop r.cargo.baton.txn rest up.below;
        }

    -- or that was refused
    pub refused_is_up : (same : RouterResponse) → same.hop ≡ r.hop → same.cargo.baton.txn ≡ r.cargo.baton.txn → CanRespond frame tokens same.hop same.leg same.cargo same.due more → IsUp frame tokens more same rest
    refused_is_up same hop txn can = record {
      there = subst (λ (h : ℕ). h < hop_count frame.world.platform) (sym hop) up.there;
      can = can;
      below = subst (λ (h : ℕ). IfSome rest (IsRestUnder frame tokens more h same.cargo.baton.txn)) (sym hop) (subst (λ (x : TxnId). IfSome rest (IsRestUnder frame tokens more r.hop x)) (sym txn) (rest_more r.hop r.cargo.baton.txn rest up.below));
    }

  -- what is to be made below for one that has ended above
  pub ends_above : (a : SentUp) (r : Rest) → IsAway frame tokens known a → a.rest ≡ Some r → Finds (Known frame.world.platform more) (IsEnder a.txn a.above) → HasEndedAbove frame tokens more r a.at
  ends_above a r i is end = go (subst (λ (o : Option Rest). IfSome o (IsRestUnder frame tokens more a.above a.txn)) is (away_more a i).below)
    where
      go : IsRestUnder frame tokens more a.above a.txn r → HasEndedAbove frame tokens more r a.at
      go u = record {
        pass = u.pass;
        hop = u.hop;
        rest = u.rest;
        ender = subst (λ (h : ℕ). Finds (Known frame.world.platform more) (IsEnder r.txn h)) (sym u.here) (subst (λ (x : TxnId). Finds (Known frame.world.platform more) (IsEnder x a.above)) (sym u.of) end);
        sent = subst (λ (h : ℕ). FindsAt (Known frame.world.platform more) (IsPhase r.txn h BeginResp) a.at) (sym u.here) (subst (λ (x : TxnId). FindsAt (Known frame.world.platform more) (IsPhase x a.above BeginResp) a.at) (sym u.of) (away_more a i).sent);
      }

  -- one that has gone down, after END_REQ above
  pub settled : (h : PassedOn) (at : ℕ) (new : PassedOn) → HasGone frame tokens known h at → EndsAbove frame tokens known more h at new → HasSettled frame tokens known more h new
  settled h at new gone e =
      let on = holds_on frame tokens known more w h at new e in
      record {
        txn = ap (λ (d : PassedOn). d.txn) e.same;
        above = ap (λ (d : PassedOn). d.above) e.same;
        below = ap (λ (d : PassedOn). d.below) e.same;
        owed = ap (λ (d : PassedOn). d.owed) e.same;
        holding = on.holding (record { pass = gone.pass; hop = gone.hop; state = gone.state; held = gone.held });
        begun = on.begun;
      }
