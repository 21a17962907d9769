-- What a router holds stays known while it makes moves.
use Rattle.std.proofs.Common.{◌≡◌, ℕ, ◌<◌, ◌≤◌, false, List, [], ◌∷◌, ◌++◌, length, Option, Some, None, refl, sym, ap, subst, ◌∙◌}
use Rattle.std.specs.List.{AllByRecursion}
use Rattle.std.specs.Prelude.{IfSome, is_some}
use Rattle.std.specs.Prelude.{vec_capacity}
use Rattle.atomic_table.specs.Seated.{TableId}
use Rattle.view_lists.specs.Lists.{Within}
use Rattle.one_history.specs.Held.{Held as HeldNote}
use Rattle.one_history.specs.declared.entry.Entry.{Entry}
use Rattle.one_history.specs.declared.view.Frame.{Frame}
use Rattle.tlm_types.specs.declared.entry.Content.{Content}
use Rattle.tlm_model.specs.Plan.{Plan}
use Rattle.route_plan.specs.Valid.{hop_count}
use Rattle.node_hops.proofs.Lists.{all_by}
use Rattle.router_node.specs.Finds.{IsFound}
use Rattle.router_node.specs.Node.{IsRouter, IsStray, left, stage_of}
use Rattle.router_node.specs.Stages.{IsSettled, IsStage, IsUp}
use Rattle.router_moves.specs.Turns.{HasTurned}
use Rattle.router_moves.specs.declared.choice.Turned.{Turned}
use Rattle.router_moves.specs.declared.choice.Turned.TheVariants as Turns
use Rattle.router_node.specs.declared.finds.Found.{Found}
use Rattle.router_moves.specs.declared.items.PassedOn.{PassedOn}
use Rattle.router_moves.specs.declared.items.RouterRequest.{RouterRequest}
use Rattle.router_moves.specs.declared.items.RouterResponse.{RouterResponse}
use Rattle.router_moves.specs.declared.items.Rest.{Rest}
use Rattle.router_node.specs.declared.node.RouterNode.{RouterNode}
use Rattle.router_node.specs.declared.stage.Stage.{Stage}
use Rattle.router_node.specs.declared.stage.Stage.TheVariants.{Below, Down, Sent, Up}
use Rattle.router_node.proofs.Staged.{away_more, rest_more}
use Rattle.router_node.proofs.Stays.{stays}

-- one more at the end
pub all_push : {A : Type 0} (P : A → Type 0) (xs : List A) (x : A) → AllByRecursion P xs → P x → AllByRecursion P (xs ++ x ∷ [])
all_push P [] x all one = (one, tt)
all_push P (y ∷ xs) x all one = (all.0, all_push P xs x all.1 one)

pub all_next : {A : Type 0} (P : A → Type 0) (xs ys : List A) (x : A) → ys ≡ xs ++ x ∷ [] → AllByRecursion P xs → P x → AllByRecursion P ys
all_next P xs ys x is all one = subst (λ (l : List _). AllByRecursion P l) (sym is) (all_push P xs x all one)

pub last_is : {A : Type 0} (xs ys : List A) (x y : A) → ys ≡ xs ++ x ∷ [] → x ≡ y → ys ≡ xs ++ y ∷ []
last_is xs ys x y is same = is ∙ ap (λ (z : _). xs ++ z ∷ []) same

-- the first one, and the others
pub all_split : {A : Type 0} (P : A → Type 0) (old : List A) (x : A) (xs : List A) → old ≡ x ∷ xs → AllByRecursion P old → P x × AllByRecursion P xs
all_split P old x xs is all = subst (λ (l : List _). AllByRecursion P l) is all

module _ (frame : Frame Plan) (tokens : TableId) (known more : List (Entry Content)) (w : Within known more) where
  pub settled_more : (h : PassedOn) → IsSettled frame tokens known h → IsSettled frame tokens more h
  settled_more h i = record { there = i.there; owed = i.owed; holding = (stays frame tokens known more w).holding h i.holding }

  up_more : (r : RouterResponse) (rest : Option Rest) → IsUp frame tokens known r rest → IsUp frame tokens more r rest
  up_more r rest i = record { there = i.there; can = (stays frame tokens known more w).response r i.can; below = rest_more frame tokens known more w r.hop r.cargo.baton.txn rest i.below }

  pub stage_more : (s : Stage) → IsStage frame tokens known s → IsStage frame tokens more s
  stage_more (Down d) i = (i.0, (stays frame tokens known more w).down d i.1)
  stage_more (Below h) i = settled_more h i
  stage_more (Up r rest) i = up_more r rest i
  stage_more (Sent a) i = away_more frame tokens known more w a i

  pub all_more : (ss : List Stage) → AllByRecursion (IsStage frame tokens known) ss → AllByRecursion (IsStage frame tokens more) ss
  all_more ss all = all_by (IsStage frame tokens known) (IsStage frame tokens more) stage_more ss all

  pub stray_more : (o : Option Found) → IfSome o (IsStray frame tokens known) → IfSome o (IsStray frame tokens more)
  stray_more None i = tt
  stray_more (Some f) i = record { at_fetch = i.at_fetch; within = λ x has. w x (i.within x has); found = i.found }

  -- what is left of a transaction after a step stands behind the others
  pub all_left : (rest : List Stage) (o : Option Stage) → AllByRecursion (IsStage frame tokens known) rest → IfSome o (IsStage frame tokens more) → AllByRecursion (IsStage frame tokens more) (rest ++ left o)
  all_left rest None all i = subst (λ (l : List Stage). AllByRecursion (IsStage frame tokens more) l) (sym (append_none rest)) (all_more rest all)
    where
      append_none : (l : List Stage) → l ++ [] ≡ l
      append_none [] = refl
      append_none (x ∷ l) = ap (λ (k : List Stage). x ∷ k) (append_none l)
  all_left rest (Some s) all i = all_push (IsStage frame tokens more) rest s (all_more rest all) i

  -- A router that holds others is one still.
  pub keeps : (old new : RouterNode) → new ≡ record old { held = new.held; stray = new.stray } → IsRouter frame tokens old known → AllByRecursion (IsStage frame tokens more) new.held.items → length new.held.items ≤ old.room → old.room ≤ vec_capacity new.held
      → IfSome new.stray (IsStray frame tokens more) → IsRouter frame tokens new more
  keeps old new same is held few room stray = subst (λ (r : RouterNode). IsRouter frame tokens r more) (sym same) (record {
    router = is.router;
    first = is.first;
    accepts = is.accepts;
    latency = is.latency;
    above = is.above;
    below = is.below;
    held = held;
    few = few;
    room = room;
    stray = stray;
  })

  -- so is one that holds the same
  pub router_more : (r : RouterNode) → IsRouter frame tokens r known → IsRouter frame tokens r more
  router_more r is = keeps r r refl is (all_more r.held.items is.held) is.few is.room (stray_more r.stray is.stray)

-- a request that was fetched is held as what it has turned to
module _ (frame : Frame Plan) (tokens : TableId) (router latency : ℕ) (r : RouterRequest) (old new : HeldNote Content Plan) (there : r.hop < hop_count frame.world.platform) where
  turned_to : (t : Turned) → HasTurned frame tokens router latency r old new t → IsStage frame tokens new.knows.known (stage_of t)
  turned_to (Turns.Down d) h = (subst (λ (n : ℕ). n < hop_count frame.world.platform) (sym h.2) there, h.4)
  turned_to (Turns.Back a) h =
      let i = h.1 in
      record { there = subst (λ (n : ℕ). n < hop_count frame.world.platform) (sym i.hop) there; can = i.can; below = tt }

  pub turned_stage : (t : Turned) (s : Stage) → s ≡ stage_of t → HasTurned frame tokens router latency r old new t → IsStage frame tokens new.knows.known s
  turned_stage t s is h = subst (λ (q : Stage). IsStage frame tokens new.knows.known q) (sym is) (turned_to t h)

-- a response that was fetched now may be a stray one
pub strays : (frame : Frame Plan) (tokens : TableId) (known : List (Entry Content)) (o : Option Found) → IfSome o (IsFound frame tokens known) → IfSome o (IsStray frame tokens known)
strays frame tokens known None i = tt
strays frame tokens known (Some f) i = record { at_fetch = known; within = λ x has. has; found = i }

pub is_none : (o : Option Found) → false ≡ is_some o → o ≡ None
is_none None q = refl
is_none (Some f) q = cc
