-- Where a going through in haste looks.
use Rattle.std.proofs.Common.{◌≡◌, ℕ, ◌<◌, ◌≤◌, Bool, true, false, List, [], ◌++◌, length, Option, Some, None, refl, sym, ap, subst, ◌∙◌}
use Rattle.std.proofs.lemmas.Bool.{le-ltb, lt-ltb}
use Rattle.std.proofs.lemmas.List.{append-nil}
use Rattle.std.specs.List.{AllByRecursion}
use Rattle.std.specs.Prelude.{is_some, nat_lt}
use Rattle.atomic_table.specs.Seated.{TableId}
use Rattle.one_history.specs.Held.{Held as HeldNote}
use Rattle.one_history.specs.declared.view.Frame.{Frame}
use Rattle.one_history.specs.declared.view.View.{View}
use Rattle.tlm_types.specs.declared.entry.Content.{Content}
use Rattle.tlm_model.specs.Plan.{Plan}
use Rattle.node_hops.specs.Looks.{vain_looks}
use Rattle.router_node.specs.Finds.{AreLookedAt}
use Rattle.router_node.specs.Node.{HasTakenBack, HasTakenIn, back_looks, in_looks}
use Rattle.router_node.specs.declared.finds.Found.{Found}
use Rattle.router_node.specs.declared.node.RouterNode.{RouterNode}
use Rattle.router_node.proofs.Places.{all_before, all_behind}

-- all hops are looked at
pub all_looked : (hasty : Bool) (xs : List ℕ) → AreLookedAt hasty xs xs
all_looked hasty xs = record { before = []; after = []; part = sym (append-nil xs); all = λ q. refl }

-- what holds at each of them
pub each_looked : (hasty : Bool) (P : ℕ → Type 0) (hops some : List ℕ) → AreLookedAt hasty hops some → AllByRecursion P hops → AllByRecursion P some
each_looked hasty P hops some a all = all_before P some a.after (all_behind P a.before (some ++ a.after) (subst (λ (l : List ℕ). AllByRecursion P l) a.part all))

silent : (p : Plan) (o : Option Found) (hops : List ℕ) → is_some o ≡ true → back_looks p o hops ≡ []
silent p None hops q = cc
silent p (Some f) hops q = refl

no_room : (p : Plan) (a b : ℕ) (hops : List ℕ) → b ≤ a → in_looks p (nat_lt a b) hops ≡ []
no_room p a b hops full = ap (λ (f : Bool). in_looks p f hops) (le-ltb a b full)

with_room : (p : Plan) (a b : ℕ) (hops : List ℕ) → a < b → in_looks p (nat_lt a b) hops ≡ vain_looks p 1 hops
with_room p a b hops free = ap (λ (f : Bool). in_looks p f hops) (lt-ltb a b free)

module _ (frame : Frame Plan) (tokens : TableId) (hasty : Bool) (r : RouterNode) where
  -- no response was fetched
  pub kept_back : (v : View Content Plan) → is_some r.stray ≡ true → HasTakenBack frame tokens hasty r r v v false
  kept_back v some = (refl, (r.below.items, all_looked hasty r.below.items, sym (ap (λ (l : List (ℕ × ℕ)). v.looks ++ l) (silent frame.world r.stray r.below.items some) ∙ append-nil v.looks)))

  pub not_back : (hops : List ℕ) (was is : View Content Plan) → r.stray ≡ None → AreLookedAt hasty r.below.items hops → is.looks ≡ was.looks ++ vain_looks frame.world 2 hops → HasTakenBack frame tokens hasty r r was is false
  not_back hops was is free a l = (refl, (hops, a, l ∙ sym (ap (λ (o : Option Found). was.looks ++ back_looks frame.world o hops) free)))

  -- no request was fetched
  pub full_in : (note : HeldNote Content Plan) → r.room ≤ length r.held.items → HasTakenIn frame tokens hasty r r note note false
  full_in note full =
      (refl, (r.above.items, all_looked hasty r.above.items, sym (ap (λ (l : List (ℕ × ℕ)). note.knows.looks ++ l) (no_room frame.world (length r.held.items) r.room r.above.items full) ∙ append-nil note.knows.looks)))

  pub not_in : (hops : List ℕ) (was is : HeldNote Content Plan) → length r.held.items < r.room → AreLookedAt hasty r.above.items hops → is.knows.looks ≡ was.knows.looks ++ vain_looks frame.world 1 hops → HasTakenIn frame tokens hasty r r was is false
  not_in hops was is free a l = (refl, (hops, a, l ∙ sym (ap (λ (m : List (ℕ × ℕ)). was.knows.looks ++ m) (with_room frame.world (length r.held.items) r.room hops free))))
