-- What a router knows of the transactions that it holds stays known while it makes moves for others, and while others make theirs.
use Rattle.std.specs.Prelude.{ℕ, List}
use Rattle.atomic_table.specs.Seated.{TableId}
use Rattle.view_lists.specs.Lists.{Within}
use Rattle.one_history.specs.declared.entry.Entry.{Entry}
use Rattle.one_history.specs.declared.view.Frame.{Frame}
use Rattle.tlm_types.specs.declared.entry.Content.{Content}
use Rattle.tlm_types.specs.declared.words.TxnId.{TxnId}
use Rattle.tlm_model.specs.Plan.{Plan}
use Rattle.flow_model.specs.World.{Passage}
use Rattle.plat_net.specs.HopCalls.{CanRespond}
use Rattle.router_moves.specs.declared.items.Back.{Back}
use Rattle.router_moves.specs.declared.items.BegunBelow.{BegunBelow}
use Rattle.router_moves.specs.declared.items.Down.{Down}
use Rattle.router_moves.specs.declared.items.PassedOn.{PassedOn}
use Rattle.router_moves.specs.declared.items.RouterResponse.{RouterResponse}
use Rattle.router_moves.specs.declared.items.Rest.{Rest}
use Rattle.router_moves.specs.Items.{HasGone, IsBegun, IsDown, IsHolding, IsRest}
use Rattle.router_moves.specs.Moves.{EndsAbove, HasBegunOn, HasEndedAbove, IsBackFor}
use Rattle.router_node.specs.Node.{IsRouter}
use Rattle.router_node.specs.declared.node.RouterNode.{RouterNode}

-- Who knows more knows no less of what a router holds.
pub record StaysKnown (frame : Frame Plan) (tokens : TableId) (known more : List (Entry Content)) : Type 0 where
  pub down : (d : Down) → IsDown frame tokens known d → IsDown frame tokens more d
  pub gone : (h : PassedOn) (at : ℕ) → HasGone frame tokens known h at → HasGone frame tokens more h at
  pub holding : (h : PassedOn) → IsHolding frame tokens known h → IsHolding frame tokens more h
  pub begun : (h : PassedOn) (b : BegunBelow) → IsBegun frame tokens known h b → IsBegun frame tokens more h b
  pub back : (h : PassedOn) (b : Back) → IsBackFor frame tokens known h b → IsBackFor frame tokens more h b
  pub response : (r : RouterResponse) → CanRespond frame tokens r.hop r.leg r.cargo r.due known → CanRespond frame tokens r.hop r.leg r.cargo r.due more
  pub entry : (hop : ℕ) (x : TxnId) → HasBegunOn frame known hop x → HasBegunOn frame more hop x
  pub rest : (r : Rest) (pass : Passage) (k : ℕ) → IsRest frame tokens known r pass k → IsRest frame tokens more r pass k
  pub ended : (r : Rest) (at : ℕ) → HasEndedAbove frame tokens known r at → HasEndedAbove frame tokens more r at

abbrev pub MoreIsKnown : Type 0
MoreIsKnown = (frame : Frame Plan) (tokens : TableId) (known more : List (Entry Content)) → Within known more → StaysKnown frame tokens known more

-- What a router keeps by what is known it keeps by more.
abbrev pub RoutersKeep : Type 0
RoutersKeep = (frame : Frame Plan) (tokens : TableId) (r : RouterNode) (known more : List (Entry Content)) → Within known more → IsRouter frame tokens r known → IsRouter frame tokens r more

-- After END_REQ above the transaction is the one that it was below: its request may have gone, be called by return, or be back.
pub record HoldsOn (frame : Frame Plan) (tokens : TableId) (known later : List (Entry Content)) (h : PassedOn) (new : PassedOn) : Type 0 where
  pub begun : (b : BegunBelow) → IsBegun frame tokens known h b → IsBegun frame tokens later new b
  pub back : (b : Back) → IsBackFor frame tokens known h b → IsBackFor frame tokens later new b
  pub holding : IsHolding frame tokens known h → IsHolding frame tokens later new

abbrev pub EndedHoldsOn : Type 0
EndedHoldsOn = (frame : Frame Plan) (tokens : TableId) (known later : List (Entry Content)) (h : PassedOn) (at : ℕ) (new : PassedOn) → Within known later → EndsAbove frame tokens known later h at new → HoldsOn frame tokens known later h new
