-- The hops of the windows of a router, and a new router.
use Rattle.std.proofs.Common.{◌≡◌, ℕ, zero, suc, ◌+◌, ◌*◌, ◌<◌, ◌≤◌, List, [], ◌∷◌, ◌++◌, length, take, get_or, sum_by, Option, Some, None, refl, sym, ap, subst, ◌∙◌, arith}
use Rattle.std.specs.List.{AllByRecursion, range_with_len}
use Rattle.std.specs.Prelude.{IfSome, slice_get}
use Rattle.std.specs.Prelude.{vec_capacity}
use Rattle.std.proofs.lemmas.List.Sums.{sum_by_more_le}
use Rattle.std.proofs.lemmas.Option.{get_or_from_slice_get, slice_get_within}
use Rattle.atomic_table.specs.Seated.{TableId}
use Rattle.one_history.specs.declared.view.Frame.{Frame}
use Rattle.tlm_model.specs.declared.platform.RouterRow.{RouterRow}
use Rattle.tlm_model.specs.declared.platform.Target.TheVariants.{Router}
use Rattle.tlm_model.specs.Plan.{Plan}
use Rattle.tlm_model.specs.Route.{window_hop}
use Rattle.node_hops.specs.Hops.{IsHopTo, hops_to}
use Rattle.node_hops.specs.Traits.{is_accepting, lanes_of, latency_of}
use Rattle.node_hops.proofs.HopLists.{all_lead}
use Rattle.router_node.specs.Finds.{IsHopBelow}
use Rattle.router_node.specs.Hops.{IsNew, row_windows, windows_of}
use Rattle.router_node.specs.Node.{IsStray}
use Rattle.router_node.specs.Stages.{IsStage}
use Rattle.router_node.specs.declared.finds.Found.{Found}
use Rattle.router_node.specs.declared.node.RouterNode.{RouterNode}
use Rattle.router_node.specs.declared.stage.Stage.{Stage}

-- one more number
pub range_more : (first k : ℕ) → range_with_len first (k + 1) ≡ range_with_len first k ++ (first + k) ∷ []
range_more first k = ap (range_with_len first) (one k) ∙ next first k
  where
    one : (k : ℕ) → k + 1 ≡ suc k
    one k = omega arith

    next : (a k : ℕ) → range_with_len a (suc k) ≡ range_with_len a k ++ (a + k) ∷ []
    next a zero = (let e : a ≡ a + 0 = omega arith in ap (λ (n : ℕ). n ∷ []) e)
    next a (suc k) = (let e : a + 1 + k ≡ a + suc k = omega arith in ap (λ (l : List ℕ). a ∷ l) (next (a + 1) k ∙ ap (λ (n : ℕ). range_with_len (a + 1) k ++ n ∷ []) e))

-- a window of a router is a hop, and no initiator's
window_is_hop : (p : Plan) (r k : ℕ) (row : RouterRow) → slice_get p.platform.routers r ≡ Some row → k < length row.windows → IsHopBelow p (window_hop p.platform r 0 + k)
window_is_hop p r k row there lt =
    let f : RouterRow → ℕ = λ row. length row.windows in
    let rows = p.platform.routers in
    let one : sum_by f (take r rows) + f (get_or rows r row) ≤ sum_by f rows = sum_by_more_le f rows r row (slice_get_within rows r row there) in
    let here : f (get_or rows r row) ≡ length row.windows = ap f (get_or_from_slice_get rows r row row there) in
    record { there = omega (arith, one, here, lt); window = omega arith }

all_range : (P : ℕ → Type 0) (first n : ℕ) → ((k : ℕ) → k < n → P (first + k)) → AllByRecursion P (range_with_len first n)
all_range P first zero each = tt
all_range P first (suc n) each =
    let start : first + 0 ≡ first = omega arith in
    (subst P start (each 0 (omega arith)), all_range P (first + 1) n (λ k below. let e : first + suc k ≡ first + 1 + k = omega arith in subst P e (each (suc k) (omega (arith, below)))))

pub windows_are : (p : Plan) (r : ℕ) → AllByRecursion (λ (h : ℕ). IsHopBelow p h) (windows_of p.platform r)
windows_are p r = go (slice_get p.platform.routers r) refl
  where
    go : (o : Option RouterRow) → slice_get p.platform.routers r ≡ o → AllByRecursion (λ (h : ℕ). IsHopBelow p h) (range_with_len (window_hop p.platform r 0) (row_windows o))
    go None at = tt
    go (Some row) at = all_range (λ (h : ℕ). IsHopBelow p h) (window_hop p.platform r 0) (length row.windows) (λ k below. window_is_hop p r k row at below)

-- a router with all of its hops, that holds nothing, is a new one
pub new_is : (frame : Frame Plan) (tokens : TableId) (p : Plan) (r : RouterNode) → p ≡ frame.world → r.router < length frame.world.platform.routers → r.first ≡ window_hop p.platform r.router 0 → r.accepts ≡ is_accepting p.platform (Router r.router) → r.latency ≡ latency_of p.platform (Router r.router)
    → r.above.items ≡ hops_to p.platform (Router r.router) → r.below.items ≡ windows_of p.platform r.router → r.held.items ≡ [] → r.room ≡ lanes_of p.platform (Router r.router) * length r.above.items → r.room ≤ vec_capacity r.held → r.stray ≡ None
    → IsNew frame tokens r.router r
new_is frame tokens p r world there first accepts latency above below empty lanes room stray =
    let q = frame.world in
    let above_are : r.above.items ≡ hops_to q.platform (Router r.router) = subst (λ (s : Plan). r.above.items ≡ hops_to s.platform (Router r.router)) world above in
    let below_are : r.below.items ≡ windows_of q.platform r.router = subst (λ (s : Plan). r.below.items ≡ windows_of s.platform r.router) world below in
    let none : length r.held.items ≡ 0 = ap (λ (l : List Stage). length l) empty in
    record {
      router_is = refl;
      above_are = above_are;
      below_are = below_are;
      empty = empty;
      room = subst (λ (s : Plan). r.room ≡ lanes_of s.platform (Router r.router) * length r.above.items) world lanes;
      stray = stray;
      is = λ known. record {
        router = there;
        first = subst (λ (s : Plan). r.first ≡ window_hop s.platform r.router 0) world first;
        accepts = subst (λ (s : Plan). r.accepts ≡ is_accepting s.platform (Router r.router)) world accepts;
        latency = subst (λ (s : Plan). r.latency ≡ latency_of s.platform (Router r.router)) world latency;
        above = subst (λ (l : List ℕ). AllByRecursion (λ (h : ℕ). IsHopTo q (Router r.router) h) l) (sym above_are) (all_lead q (Router r.router));
        below = subst (λ (l : List ℕ). AllByRecursion (λ (h : ℕ). IsHopBelow q h) l) (sym below_are) (windows_are q r.router);
        held = subst (λ (l : List Stage). AllByRecursion (IsStage frame tokens known) l) (sym empty) tt;
        few = omega (arith, none);
        room = room;
        stray = subst (λ (o : Option Found). IfSome o (IsStray frame tokens known)) (sym stray) tt;
      };
    }
