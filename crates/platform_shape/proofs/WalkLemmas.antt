-- Counts of walks, level by level.
use Rattle.std.proofs.Common.{◌≡◌, ℕ, zero, suc, ◌+◌, ◌<◌, ◌≤◌, Bool, true, false, ◌&&◌, ◌==◌, List, [], ◌∷◌, ◌++◌, length, map, take, get_or, sum_by, Some, None, slice_get, refl, sym, ap, ◌∙◌, add-one, add-zero, zero-add, arith}
use Rattle.std.specs.List.{range_with_len}
use Rattle.std.proofs.lemmas.Bool.Decides.{nat_tests}
use Rattle.std.proofs.lemmas.List.{take_all}
use Rattle.std.proofs.lemmas.List.FromFn.{map-range_with_len_more, length-map-range_with_len, get_or-map-range_with_len}
use Rattle.std.proofs.lemmas.List.Folds.{fold-map}
use Rattle.std.proofs.lemmas.List.Sums.{sum_by_more}
use Rattle.std.proofs.lemmas.Option.{slice_get_past}
use Rattle.tlm_model.specs.declared.platform.Platform.{Platform}
use Rattle.tlm_model.specs.declared.platform.RouterRow.{RouterRow}
use Rattle.tlm_model.specs.declared.platform.WindowRow.{WindowRow}
use Rattle.tlm_model.specs.declared.platform.Target.{Target}
use Rattle.tlm_model.specs.declared.platform.Target.TheVariants.{Router, Memory}
use Rattle.platform_shape.specs.declared.walks.Walks.{Walks}
use Rattle.platform_shape.specs.declared.walks.Walks.TheVariants.{To, Long}
use Rattle.platform_shape.specs.Paths.{once, is_target, targets_of}
use Rattle.platform_shape.specs.Walks.{seen, is_router, long_walks, walks_of, standing, few, AreCounts}

suc-not-zero : (k : ℕ) → (k + 1 == 0) ≡ false
suc-not-zero k = grind (arith, nat_tests)

standing-more : (k : ℕ) (b : Bool) → once (b && k + 1 == 0) ≡ 0
standing-more k true = ap once (suc-not-zero k)
standing-more k false = refl

-- walks of no window
pub walks_of-zero : (w : Walks) (p : Platform) (t : Target) → walks_of w 0 p t ≡ standing w 0 t
unfolding walks_of long_walks
walks_of-zero (To c) p t = refl
walks_of-zero Long p (Router r) = refl
walks_of-zero Long p (Memory m) = refl

long_more : (k : ℕ) (p : Platform) (t : Target) → long_walks (k + 1) p t ≡ sum_by (λ u. long_walks k p u) (targets_of p t)
unfolding long_walks
long_more k p t = rw add-one refl

-- walks of one window more
pub walks_of-more : (w : Walks) (k : ℕ) (p : Platform) (t : Target) → walks_of w (k + 1) p t ≡ standing w (k + 1) t + sum_by (λ u. walks_of w k p u) (targets_of p t)
unfolding walks_of
walks_of-more (To c) k p t = rw add-one refl
walks_of-more Long k p t =
    let none : once (is_router t && k + 1 == 0) ≡ 0 = standing-more k (is_router t) in
    long_more k p t ∙ sym (zero-add _) ∙ ap (λ n. n + sum_by (λ u. long_walks k p u) (targets_of p t)) (sym none)

one_more : (w : Walks) (k : ℕ) (p : Platform) (t : Target) → targets_of p t ≡ [] → walks_of w (k + 1) p t ≡ standing w (k + 1) t
one_more w k p t e = walks_of-more w k p t ∙ ap (λ ts. standing w (k + 1) t + sum_by (λ u. walks_of w k p u) ts) e ∙ add-zero _

-- walks from where no window leads on
pub walks_of-none : (w : Walks) (k : ℕ) (p : Platform) (t : Target) → targets_of p t ≡ [] → walks_of w k p t ≡ standing w k t
walks_of-none w zero p t e = walks_of-zero w p t
walks_of-none w (suc k) p t e = rw (← add-one) (one_more w k p t e)

few-once : (b : Bool) → few (once b) ≡ once b
few-once true = refl
few-once false = refl

few-standing : (w : Walks) (k : ℕ) (t : Target) → few (standing w k t) ≡ standing w k t
few-standing (To c) k t = few-once (is_target t (seen c))
few-standing Long k t = few-once (is_router t && k == 0)

-- the count where no window leads on
pub count_none : (w : Walks) (k : ℕ) (p : Platform) (t : Target) (n : ℕ) → targets_of p t ≡ [] → n ≡ standing w k t → n ≡ few (walks_of w k p t)
count_none w k p t n e h = h ∙ sym (few-standing w k t) ∙ ap few (sym (walks_of-none w k p t e))

-- the count of walks of no window
pub count_zero : (w : Walks) (p : Platform) (t : Target) (n : ℕ) → n ≡ standing w 0 t → n ≡ few (walks_of w 0 p t)
count_zero w p t n h = h ∙ sym (few-standing w 0 t) ∙ ap few (sym (walks_of-zero w p t))

past_routers : (p : Platform) (r : ℕ) → length p.routers ≤ r → targets_of p (Router r) ≡ []
past_routers p r le = let none : slice_get p.routers r ≡ None = slice_get_past p.routers r le in rw none refl

length-counts : (w : Walks) (k : ℕ) (p : Platform) (counts : List ℕ) → AreCounts w k p counts → length counts ≡ length p.routers
length-counts w k p counts h = ap length h.each ∙ length-map-range_with_len (λ r. few (walks_of w k p (Router r))) 0 (length p.routers)

-- the count of a router of another number than the routers have
pub count_past : (w : Walks) (k : ℕ) (p : Platform) (counts : List ℕ) (r n : ℕ) → AreCounts w k p counts → length counts ≤ r → n ≡ standing w k (Router r) → n ≡ few (walks_of w k p (Router r))
count_past w k p counts r n h le e = count_none w k p (Router r) n (past_routers p r (omega (arith, length-counts w k p counts h))) e

-- the count of a router
pub count_within : (w : Walks) (k : ℕ) (p : Platform) (counts : List ℕ) (r d : ℕ) → AreCounts w k p counts → r < length counts → get_or counts r d ≡ few (walks_of w k p (Router r))
count_within w k p counts r d h lt =
    ap (λ xs. get_or xs r d) h.each ∙ get_or-map-range_with_len (λ r. few (walks_of w k p (Router r))) 0 (length p.routers) r r d (omega (arith, length-counts w k p counts h)) (zero-add r)

-- one window more is counted
pub few_more : (f : Target → ℕ) (s count more : ℕ) (ws : List WindowRow) (i : ℕ) (w : WindowRow) → i < length ws → w ≡ get_or ws i w
    → more ≡ few (f w.to) → count ≡ few (s + sum_by (λ (v : WindowRow). f v.to) (take i ws)) → few (count + more) ≡ few (s + sum_by (λ (v : WindowRow). f v.to) (take (i + 1) ws))
few_more f s count more ws i w lt at here so_far =
    let one : sum_by (λ (v : WindowRow). f v.to) (take (i + 1) ws) ≡ sum_by (λ (v : WindowRow). f v.to) (take i ws) + f w.to = sum_by_more (λ (v : WindowRow). f v.to) ws i w lt ∙ ap (λ (v : WindowRow). sum_by (λ (v : WindowRow). f v.to) (take i ws) + f v.to) (sym at) in
    omega (arith, one)

along_windows : (w : Walks) (k : ℕ) (p : Platform) (r : ℕ) (row : RouterRow) → slice_get p.routers r ≡ Some row → targets_of p (Router r) ≡ map (λ (v : WindowRow). v.to) row.windows
along_windows w k p r row e = rw e refl

-- all windows of a router were counted
pub few_all : (w : Walks) (k : ℕ) (p : Platform) (r : ℕ) (row : RouterRow) (n i : ℕ) (ws : List WindowRow) → slice_get p.routers r ≡ Some row → ws ≡ row.windows → length ws ≤ i
    → n ≡ few (standing w (k + 1) (Router r) + sum_by (λ (v : WindowRow). walks_of w k p v.to) (take i ws)) → n ≡ few (walks_of w (k + 1) p (Router r))
few_all w k p r row n i ws e same le so_far =
    let sums : sum_by (λ u. walks_of w k p u) (targets_of p (Router r)) ≡ sum_by (λ (v : WindowRow). walks_of w k p v.to) row.windows =
    ap (sum_by (λ u. walks_of w k p u)) (along_windows w k p r row e) ∙ fold-map (λ a u. a + walks_of w k p u) (λ (v : WindowRow). v.to) 0 row.windows in
    let all : take i ws ≡ row.windows = take_all i ws le ∙ same in
    so_far ∙ ap (λ xs. few (standing w (k + 1) (Router r) + sum_by (λ (v : WindowRow). walks_of w k p v.to) xs)) all
    ∙ ap (λ n. few (standing w (k + 1) (Router r) + n)) (sym sums) ∙ ap few (sym (walks_of-more w k p (Router r)))

-- one value more of a function of the number
pub values_more : {X : Type 0} (f : ℕ → X) (xs xs' : List X) (r : ℕ) (x : X) → x ≡ f r → xs' ≡ xs ++ x ∷ [] → xs ≡ map f (range_with_len 0 r) → xs' ≡ map f (range_with_len 0 (r + 1))
values_more f xs xs' r x here pushed so_far =
    pushed ∙ ap (λ y. xs ++ y ∷ []) here ∙ ap (λ ys. ys ++ f r ∷ []) so_far ∙ sym (map-range_with_len_more f 0 r r (zero-add r))
