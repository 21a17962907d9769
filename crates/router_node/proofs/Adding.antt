-- What a router adds to the history.
use Rattle.std.proofs.Common.{◌≡◌, ℕ, suc, ◌<◌, true, List, [], ◌∷◌, ◌++◌, length, Some, ap, ◌∙◌, length-append, arith}
use Rattle.one_history.specs.Lists.{StandBelow}
use Rattle.one_history.specs.declared.entry.Entry.{Entry}
use Rattle.one_history.specs.declared.view.View.{View}
use Rattle.tlm_types.specs.declared.entry.Content.{Content}
use Rattle.tlm_types.specs.declared.words.TxnId.{TxnId}
use Rattle.tlm_model.specs.Plan.{Plan}
use Rattle.flow_model.specs.World.{Passage}
use Rattle.flow_model.specs.Platform.{passage_of}
use Rattle.route_plan.specs.Valid.{hop_count}
use Rattle.plat_net.specs.Places.{hop_place, memory_place, own_pool}
use Rattle.plat_net.proofs.Given.{pool_there}
use Rattle.node_hops.specs.Laws.{IsNewOf}
use Rattle.node_hops.specs.Steps.{AddsAt, HasNew, IsByNode}
use Rattle.node_hops.proofs.News.{new_at, new_by, new_of}
use Rattle.router_moves.specs.Turns.{TurnAdds}
use Rattle.router_moves.specs.declared.choice.Turned.{Turned}
use Rattle.router_moves.specs.declared.choice.Turned.TheVariants as Turns
use Rattle.router_node.specs.Node.{stage_of}
use Rattle.router_node.specs.Stages.{AddsAccess, AddsOnHop, IsByRouter, is_down}
use Rattle.router_node.specs.declared.stage.Stage.{Stage}

module _ (p : Plan) (was is : View Content Plan) (below : StandBelow was.known was.seen) where
  pub at_hop : (hop : ℕ) → hop < hop_count p.platform → AddsAt (hop_place p hop) was is → HasNew (IsByRouter p) was.known is.known
  at_hop hop there a = new_by (λ (e : Entry Content). e.object ≡ hop_place p hop) (IsByRouter p) was.known is.known (λ e same router. IsByNode.OnHop hop there same) (new_at (hop_place p hop) was is below a)

  pub on_hop : AddsOnHop p was is → HasNew (IsByRouter p) was.known is.known
  on_hop a = at_hop a.hop a.there a.added

  pub in_pool : (x : TxnId) (pass : Passage) → passage_of p x ≡ Some pass → AddsAt (own_pool p x.initiator) was is → HasNew (IsByRouter p) was.known is.known
  in_pool x pass passes a =
      new_by (λ (e : Entry Content). e.object ≡ own_pool p x.initiator) (IsByRouter p) was.known is.known (λ e same router. IsByNode.OfPool x.initiator (pool_there p x pass passes).0 same) (new_at (own_pool p x.initiator) was is below a)

  pub at_memory : (x : TxnId) (pass : Passage) → passage_of p x ≡ Some pass → AddsAccess p x was is → HasNew (IsByRouter p) was.known is.known
  at_memory x pass passes a =
      new_by (IsNewOf (memory_place p a.memory) x) (IsByRouter p) was.known is.known
      (λ e i router. IsByNode.Serves (record { memory = a.memory; serves = a.there; object = i.object; pass = pass; passes = ap (passage_of p) i.txn ∙ passes })) (new_of (memory_place p a.memory) x was is below a.added)

-- a request that was taken in is to go down by an entry
pub turned_adds : (p : Plan) (initiator : ℕ) (was is : View Content Plan) (t : Turned) (s : Stage) → s ≡ stage_of t → is_down s ≡ true → TurnAdds p initiator was is t → AddsAt (own_pool p initiator) was is
turned_adds p initiator was is (Turns.Down d) s same down a = a
turned_adds p initiator was is (Turns.Back r) s same down a = let off : is_down s ≡ is_down (stage_of (Turns.Back r)) = ap is_down same in cc

-- the last of a list
pub last_same : {A : Type 0} (xs ys : List A) (x y : A) → xs ++ x ∷ [] ≡ ys ++ y ∷ [] → x ≡ y
last_same [] [] x y q = cc
last_same [] (b ∷ ys) x y q = let l : 1 ≡ suc (length (ys ++ y ∷ [])) = ap (λ (l : List _). length l) q in absurd (omega (arith, l, length-append ys (y ∷ [])))
last_same (a ∷ xs) [] x y q = let l : suc (length (xs ++ x ∷ [])) ≡ 1 = ap (λ (l : List _). length l) q in absurd (omega (arith, l, length-append xs (x ∷ [])))
last_same (a ∷ xs) (b ∷ ys) x y q = last_same xs ys x y cc
