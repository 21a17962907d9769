-- What is due of a passage that was begun stays known.
use Rattle.std.proofs.Common.{ℕ, ◌<◌, List, length, Option, Some, None, sym, subst}
use Rattle.std.specs.Prelude.{IfSome}
use Rattle.atomic_table.specs.Seated.{TableId}
use Rattle.view_lists.specs.Lists.{Within}
use Rattle.one_history.specs.declared.entry.Entry.{Entry}
use Rattle.one_history.specs.declared.view.Frame.{Frame}
use Rattle.tlm_types.specs.declared.entry.Content.{Content}
use Rattle.tlm_model.specs.Plan.{Plan}
use Rattle.route_plan.specs.Valid.{hop_count}
use Rattle.router_moves.specs.Items.{IsBegun}
use Rattle.router_moves.specs.Moves.{IsReleasing}
use Rattle.router_moves.specs.declared.items.BegunBelow.{BegunBelow}
use Rattle.router_moves.specs.declared.items.PassedOn.{PassedOn}
use Rattle.router_moves.specs.declared.items.Rest.{Rest}
use Rattle.router_node.specs.Stages.{HasSettled, IsSettled}
use Rattle.router_steps.specs.Stepped.{HasGoneDown, IsDue, IsSteppedRouter}
use Rattle.router_steps.specs.declared.steps.Due.{Due}
use Rattle.router_steps.specs.declared.steps.Due.TheVariants.{EndAbove, Serve, Release}
use Rattle.router_steps.specs.declared.steps.SteppedRouter.{SteppedRouter}
use Rattle.router_node.proofs.Holds.{router_more, settled_more}
use Rattle.router_node.proofs.Stays.{stays}

module _ (frame : Frame Plan) (tokens : TableId) (known more : List (Entry Content)) (w : Within known more) where
  pub begun_more : (h : PassedOn) (o : Option BegunBelow) → IfSome o (IsBegun frame tokens known h) → IfSome o (IsBegun frame tokens more h)
  begun_more h None i = tt
  begun_more h (Some b) i = (stays frame tokens known more w).begun h b i

  pub gone_more : (h : PassedOn) (time : ℕ) (o : Option BegunBelow) → HasGoneDown frame tokens known h time o → HasGoneDown frame tokens more h time o
  gone_more h time o i = record { there = i.there; gone = (stays frame tokens known more w).gone h time i.gone; begun_is = begun_more h o i.begun_is }

  pub releasing_more : (r : Rest) → IsReleasing frame tokens known r → IsReleasing frame tokens more r
  releasing_more r i = record { pass = i.pass; hop = i.hop; rest = (stays frame tokens known more w).rest r i.pass i.hop i.rest }

  -- after END_REQ above
  pub begun_on : (h new : PassedOn) (o : Option BegunBelow) → HasSettled frame tokens known more h new → IfSome o (IsBegun frame tokens known h) → IfSome o (IsBegun frame tokens more new)
  begun_on h new None s i = tt
  begun_on h new (Some b) s i = s.begun b i

  pub settled_on : (h new : PassedOn) → h.above < hop_count frame.world.platform → HasSettled frame tokens known more h new → IsSettled frame tokens more new
  settled_on h new there s = record { there = subst (λ (k : ℕ). k < hop_count frame.world.platform) (sym s.above) there; owed = s.owed; holding = s.holding }

  due_more : (count room : ℕ) (d : Due) → IsDue frame tokens known count room d → IsDue frame tokens more count room d
  due_more count room (EndAbove at h time begun) i = (i.0, i.1, gone_more h time begun i.2)
  due_more count room (Serve at h begun) i = (i.0, settled_more frame tokens known more w h i.1, (stays frame tokens known more w).begun h begun i.2)
  due_more count room (Release rest) i = (i.0, releasing_more rest i.1)

  pub dues_more : (count room : ℕ) (o : Option Due) → IfSome o (IsDue frame tokens known count room) → IfSome o (IsDue frame tokens more count room)
  dues_more count room None i = tt
  dues_more count room (Some d) i = due_more count room d i

  pub stepped_more : (s : SteppedRouter) → IsSteppedRouter frame tokens s known → IsSteppedRouter frame tokens s more
  stepped_more s i = record { node = router_more frame tokens known more w s.node i.node; due = dues_more (let n = s.node in length n.held.items) (let n = s.node in n.room) s.due i.due }
