-- What a history is opened with.
use Rattle.std.proofs.Common.{◌≡◌, ℕ, ◌<◌, ◌≤◌, List, [], ◌++◌, length, map, sum, sym, ap, subst, ◌∙◌, arith}
use Rattle.std.specs.Prelude.{Ok}
use Rattle.std.specs.List.{range_with_len}
use Rattle.one_history.specs.declared.view.Frame.{Frame}
use Rattle.one_history.specs.Moves.{IsFrame}
use Rattle.tlm_types.specs.declared.words.ObjectNo.{ObjectNo}
use Rattle.tlm_types.specs.declared.words.ObjectNo.TheVariants.{Memory, Hop}
use Rattle.tlm_model.specs.declared.platform.Platform.{Platform}
use Rattle.tlm_model.specs.Plan.{Plan}
use Rattle.platform_model.specs.Bounded.{IsBounded}
use Rattle.route_plan.specs.Planned.{planned_at}
use Rattle.route_plan.specs.Valid.{checked_plan, hop_count}
use Rattle.cargo_model.specs.Known.{objects_of}
use Rattle.cargo_net.specs.Gates.{gates_at, gates_of}
use Rattle.plat_net.specs.Objects.{frame_of, notes_of, planned_of, pools_of}
use Rattle.plat_build.proofs.GateLemmas.{few_gates}
use Rattle.plat_net.proofs.ObjectLemmas.{count_gates, count_planned, few_planned, more_objects}

-- the objects, pushed one kind after the other
pub objects_pushed : (p : Platform) (none memories hops all : List ObjectNo) → none ≡ [] → memories ≡ none ++ map Memory (range_with_len 0 (length p.memories)) → hops ≡ memories ++ map Hop (range_with_len 0 (hop_count p)) → all ≡ hops ++ pools_of p (length p.initiators) → all ≡ objects_of p
unfolding objects_of
objects_pushed p none memories hops all is first second third =
    third
    ∙ ap (λ (l : List ObjectNo). l ++ pools_of p (length p.initiators))
    (second ∙ ap (λ (l : List ObjectNo). l ++ map Hop (range_with_len 0 (hop_count p)))
    (first ∙ ap (λ (l : List ObjectNo). l ++ map Memory (range_with_len 0 (length p.memories))) is))

pub planned_is : (p : Plan) (objects : List ObjectNo) (planned : List ℕ) → objects ≡ objects_of p.platform → planned ≡ map (planned_at p) objects → planned ≡ planned_of p
unfolding planned_of
planned_is p objects planned is made = made ∙ ap (map (planned_at p)) is

pub gates_are : (p : Platform) (objects : List ObjectNo) (gates : List ℕ) → objects ≡ objects_of p → gates ≡ map (gates_at p) objects → gates ≡ gates_of p
unfolding gates_of
gates_are p objects gates is made = made ∙ ap (map (gates_at p)) is

-- what the history may be made with
pub record MayOpen (planned gates : List ℕ) : Type 0 where
  pub long : length gates ≡ length planned
  pub some_objects : 0 < length planned
  pub few : sum planned ≤ 1000000
  pub few_gates : sum gates ≤ 1024

pub may_open : (p : Plan) (objects : List ObjectNo) (planned gates : List ℕ) → IsBounded p.platform → checked_plan p ≡ Ok tt → planned ≡ planned_of p → gates ≡ gates_of p.platform → MayOpen planned gates
may_open p objects planned gates bounded limits is are = record {
  long = ap length are ∙ (count_gates p.platform ∙ (sym (count_planned p) ∙ sym (ap length is)));
  some_objects = omega (arith, ap length is, count_planned p, more_objects p.platform, bounded.some_memory);
  few = subst (λ (l : List ℕ). sum l ≤ 1000000) (sym is) (few_planned p limits);
  few_gates = subst (λ (l : List ℕ). sum l ≤ 1024) (sym are) (few_gates p.platform bounded.gates);
}

pub frame_is : (p : Plan) (f : Frame Plan) (planned gates : List ℕ) (notes : ℕ) → IsFrame f p planned gates notes → planned ≡ planned_of p → gates ≡ gates_of p.platform → notes ≡ notes_of p.platform → f ≡ frame_of p
frame_is p f planned gates notes h is are counted =
    let a : f.world ≡ p = h.0 in
    let b : f.planned ≡ planned_of p = h.1 ∙ is in
    let c : f.gates ≡ gates_of p.platform = h.2 ∙ are in
    let d : f.notes ≡ notes_of p.platform = h.3 ∙ counted in
    λ i. record { world = a i; planned = b i; gates = c i; notes = d i }

-- a history of a plan was made of that plan
pub frame_again : (p : Plan) (f : Frame Plan) → f ≡ frame_of p → f ≡ frame_of f.world
frame_again p f is = is ∙ ap frame_of (sym (ap (λ (x : Frame Plan). x.world) is))
