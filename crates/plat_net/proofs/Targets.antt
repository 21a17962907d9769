-- Where the hops of a platform lead.
use Rattle.std.proofs.Common.{◌≡◌, ℕ, zero, suc, ◌+◌, ◌-◌, ◌<◌, List, [], ◌∷◌, ◌++◌, length, take, map, get_or, Option, Some, None, refl, sym, ◌∙◌, ap, arith, subst}
use Rattle.std.specs.Prelude.{IsSomeAnd, slice_get, sum_by}
use Rattle.std.specs.List.{enumerate_from, flat_map}
use Rattle.std.proofs.lemmas.List.{map-append}
use Rattle.std.proofs.lemmas.List.Sums.{sum_by-cons}
use Rattle.tlm_model.specs.declared.platform.InitiatorRow.{InitiatorRow}
use Rattle.tlm_model.specs.declared.platform.Platform.{Platform}
use Rattle.tlm_model.specs.declared.platform.RouterRow.{RouterRow}
use Rattle.tlm_model.specs.declared.platform.Target.{Target}
use Rattle.tlm_model.specs.declared.platform.Target.TheVariants.{Router, Memory}
use Rattle.tlm_model.specs.declared.platform.WindowRow.{WindowRow}
use Rattle.tlm_model.specs.Plan.{Initiator}
use Rattle.tlm_model.specs.Route.{Found, hops_of, route_of, window_hop, window_of}
use Rattle.flow_model.specs.Platform.{all_windows}
use Rattle.flow_model.specs.World.{Passage, hop_at}
use Rattle.tlm_model.proofs.InitiatorLemmas.{initiator_from}
use Rattle.route_plan.specs.declared.ends.HopEnds.{HopEnds}
use Rattle.route_plan.specs.Routes.{binding_ends, ends_of, router_ends, window_ends}
use Rattle.cargo_model.specs.Stops.{GoesOn, Stop, hop_behind, past_router, past_target, past_window, stop_at, window_at, window_by}
use Rattle.cargo_model.proofs.HopEnds.{few_hops, found_at}
use Rattle.cargo_model.proofs.Ways.{ways_law}
use Rattle.plat_net.specs.Laws.{EndsAreStops}
use Rattle.plat_net.specs.Places.{LeadsTo}

-- an element of a mapped list, in front of another and behind one
pub front_at : {X Y : Type 0} (f : X → Y) (xs : List X) (ys : List Y) (n : ℕ) (x : X) (d : Y) → slice_get xs n ≡ Some x → get_or (map f xs ++ ys) n d ≡ f x
front_at f [] ys n x d q = cc
front_at f (y ∷ xs) ys zero x d q = ap f (one y x q)
  where
    one : {X : Type 0} (y x : X) → Some y ≡ Some x → y ≡ x
    one y x q = cc
front_at f (y ∷ xs) ys (suc n) x d q = front_at f xs ys n x d q

pub back_at : {X Y : Type 0} (f : X → Y) (xs : List X) (ys : List Y) (n m : ℕ) (d : Y) → m ≡ length xs + n → get_or (map f xs ++ ys) m d ≡ get_or ys n d
back_at f [] ys n m d q = ap (λ (k : ℕ). get_or ys k d) (zero_more m n q)
  where
    zero_more : (m n : ℕ) → m ≡ 0 + n → m ≡ n
    zero_more m n q = omega arith
back_at f (x ∷ xs) ys n zero d q = absurd (omega arith)
back_at f (x ∷ xs) ys n (suc m) d q = back_at f xs ys n m d (omega arith)

-- the window of a router among all windows
abbrev pub windows_before : List RouterRow → ℕ → ℕ
windows_before rows r = sum_by (λ (row : RouterRow). length row.windows) (take r rows)

pub window_among : {Y : Type 0} (g : WindowRow → Y) (rows : List RouterRow) (r index m : ℕ) (row : RouterRow) (v : WindowRow) (d : Y) → slice_get rows r ≡ Some row → slice_get row.windows index ≡ Some v → m ≡ windows_before rows r + index
    → get_or (map g (flat_map (λ (x : RouterRow). x.windows) rows)) m d ≡ g v
window_among g [] r index m row v d is at q = cc
window_among g (x ∷ rows) zero index m row v d is at q =
    let s : x ≡ row = one x row is in
    ap (λ (l : List _). get_or l m d) (map-append g x.windows (flat_map (λ (y : RouterRow). y.windows) rows))
    ∙ front_at g x.windows (map g (flat_map (λ (y : RouterRow). y.windows) rows)) m v d
    (ap (slice_get x.windows) (none m index q) ∙ subst (λ (y : RouterRow). slice_get y.windows index ≡ Some v) (sym s) at)
  where
    one : (x y : RouterRow) → Some x ≡ Some y → x ≡ y
    one x y q = cc

    none : (m n : ℕ) → m ≡ 0 + n → m ≡ n
    none m n q = omega arith
window_among g (x ∷ rows) (suc r) index m row v d is at q =
    let t : windows_before (x ∷ rows) (suc r) ≡ length x.windows + windows_before rows r = sum_by-cons (λ (y : RouterRow). length y.windows) x (take r rows) in
    let e : m ≡ length x.windows + (windows_before rows r + index) = omega arith in
    ap (λ (l : List _). get_or l m d) (map-append g x.windows (flat_map (λ (y : RouterRow). y.windows) rows))
    ∙ (back_at g x.windows (map g (flat_map (λ (y : RouterRow). y.windows) rows)) (windows_before rows r + index) m d e
    ∙ window_among g rows r index (windows_before rows r + index) row v d is at refl)

-- where each hop leads: the bindings in order, and then the windows of each router
abbrev pub targets : Platform → List Target
targets p = map (λ (i : InitiatorRow). i.bind) p.initiators ++ map (λ (v : WindowRow). v.to) (all_windows p)

abbrev pub target_in : Platform → ℕ → Target
target_in p h = get_or (targets p) h (Memory 0)

abbrev down_of : HopEnds → Target
down_of e = e.down

bindings_lead : (n : ℕ) (rows : List InitiatorRow) → map down_of (map binding_ends (enumerate_from n rows)) ≡ map (λ (i : InitiatorRow). i.bind) rows
bindings_lead n [] = refl
bindings_lead n (x ∷ rows) = ap (λ (l : List Target). x.bind ∷ l) (bindings_lead (n + 1) rows)

windows_lead : (r n : ℕ) (ws : List WindowRow) → map down_of (map (window_ends r) (enumerate_from n ws)) ≡ map (λ (v : WindowRow). v.to) ws
windows_lead r n [] = refl
windows_lead r n (v ∷ ws) = ap (λ (l : List Target). v.to ∷ l) (windows_lead r (n + 1) ws)

routers_lead : (n : ℕ) (rows : List RouterRow) → map down_of (flat_map router_ends (enumerate_from n rows)) ≡ map (λ (v : WindowRow). v.to) (flat_map (λ (r : RouterRow). r.windows) rows)
routers_lead n [] = refl
routers_lead n (x ∷ rows) =
    map-append down_of (router_ends (n, x)) (flat_map router_ends (enumerate_from (n + 1) rows))
    ∙ (ap (λ (l : List Target). l ++ map down_of (flat_map router_ends (enumerate_from (n + 1) rows))) (windows_lead n 0 x.windows)
    ∙ (ap (λ (l : List Target). map (λ (v : WindowRow). v.to) x.windows ++ l) (routers_lead (n + 1) rows)
    ∙ sym (map-append (λ (v : WindowRow). v.to) x.windows (flat_map (λ (r : RouterRow). r.windows) rows))))

pub ends_lead : (p : Platform) → map down_of (ends_of p) ≡ targets p
unfolding ends_of
ends_lead p =
    map-append down_of (map binding_ends (enumerate_from 0 p.initiators)) (flat_map router_ends (enumerate_from 0 p.routers))
    ∙ (ap (λ (l : List Target). l ++ map down_of (flat_map router_ends (enumerate_from 0 p.routers))) (bindings_lead 0 p.initiators)
    ∙ ap (λ (l : List Target). map (λ (i : InitiatorRow). i.bind) p.initiators ++ l) (routers_lead 0 p.routers))

mapped_at : {X Y : Type 0} (f : X → Y) (xs : List X) (n : ℕ) (x : X) (d : Y) → slice_get xs n ≡ Some x → get_or (map f xs) n d ≡ f x
mapped_at f [] n x d q = cc
mapped_at f (y ∷ xs) zero x d q = ap f (one y x q)
  where
    one : {X : Type 0} (y x : X) → Some y ≡ Some x → y ≡ x
    one y x q = cc
mapped_at f (y ∷ xs) (suc n) x d q = mapped_at f xs n x d q

-- the component that a hop leads to, by its ends
pub ends_at : (p : Platform) (h : ℕ) (e : HopEnds) → slice_get (ends_of p) h ≡ Some e → target_in p h ≡ e.down
ends_at p h e at = sym (ap (λ (l : List Target). get_or l h (Memory 0)) (ends_lead p)) ∙ mapped_at down_of (ends_of p) h e (Memory 0) at

pub leads_at : (p : Platform) (h : ℕ) (to : Target) → LeadsTo p h to → target_in p h ≡ to
leads_at p h to leads = go (slice_get (ends_of p) h) refl leads
  where
    go : (o : Option HopEnds) → slice_get (ends_of p) h ≡ o → IsSomeAnd o (λ (e : HopEnds). e.down ≡ to) → target_in p h ≡ to
    go None at l = absurd l
    go (Some e) at l = ends_at p h e at ∙ l

-- the hop behind a window that was found
behind : (p : Platform) (s : Stop) (t : Target) (f : Found) → window_at p s t ≡ Some f → target_in p (hop_behind p t f.index) ≡ (past_target p s t).to
behind p s (Memory m) f q = cc
behind p s (Router r) f q = by_row (slice_get p.routers r) refl q
  where
    by_found : (row : RouterRow) → slice_get p.routers r ≡ Some row → (w : Option Found) → window_of 0 row.windows s.address ≡ w → w ≡ Some f → target_in p (window_hop p r f.index) ≡ (past_window s w).to
    by_found row is None at q = cc
    by_found row is (Some h) at q =
        let e : h ≡ f = one h f q in
        let k = found_at 0 row.windows s.address h at in
        let n : f.index ≡ k.0 = sym (ap (λ (d : Found). d.index) e) ∙ (k.1 ∙ none k.0) in
        back_at (λ (i : InitiatorRow). i.bind) p.initiators (map (λ (v : WindowRow). v.to) (all_windows p)) (windows_before p.routers r + f.index) (window_hop p r f.index) (Memory 0) (sum (length p.initiators) (windows_before p.routers r) f.index)
        ∙ window_among (λ (v : WindowRow). v.to) p.routers r k.0 (windows_before p.routers r + f.index) row h.window (Memory 0) is k.2 (ap (λ (j : ℕ). windows_before p.routers r + j) n)
      where
        one : (g f : Found) → Some g ≡ Some f → g ≡ f
        one g f q = cc

        none : (n : ℕ) → 0 + n ≡ n
        none n = omega arith

        sum : (a b c : ℕ) → a + b + c ≡ a + (b + c)
        sum a b c = omega arith

    by_row : (row : Option RouterRow) → slice_get p.routers r ≡ row → window_by row s.address ≡ Some f → target_in p (window_hop p r f.index) ≡ (past_router s row).to
    by_row None is q = cc
    by_row (Some row) is q = by_found row is (window_of 0 row.windows s.address) refl q

-- each hop of a way leads to its stop
pub stops_at : (p : Platform) (i : Initiator) (a k : ℕ) → slice_get p.initiators i.number ≡ Some i.row → k < length (hops_of p i a) → target_in p (get_or (hops_of p i a) k 0) ≡ (stop_at p i a k).to
stops_at p i a zero is l = front_at (λ (j : InitiatorRow). j.bind) p.initiators (map (λ (v : WindowRow). v.to) (all_windows p)) i.number i.row (Memory 0) is
stops_at p i a (suc k) is l = by (window_at p (stop_at p i a k) (stop_at p i a k).to) refl
  where
    few : k < 9
    few = let m = few_hops 9 p i.row.bind a 0 in omega (arith, m, l)

    w : GoesOn p (hops_of p i a) (route_of p i a) k (stop_at p i a k)
    w = ways_law p i a k (omega arith) few

    by : (f : Option Found) → window_at p (stop_at p i a k) (stop_at p i a k).to ≡ f → target_in p (get_or (hops_of p i a) (suc k) 0) ≡ (stop_at p i a (suc k)).to
    by None q = let e : k + 1 ≡ length (hops_of p i a) = (w.stop q).0 in absurd (omega arith)
    by (Some f) q =
        let e : get_or (hops_of p i a) (k + 1) 0 ≡ hop_behind p (stop_at p i a k).to f.index = (w.on f q).1 in
        let n : suc k ≡ k + 1 = omega arith in
        ap (λ (j : ℕ). target_in p (get_or (hops_of p i a) j 0)) n ∙ (ap (target_in p) e ∙ behind p (stop_at p i a k) (stop_at p i a k).to f q)

pub ends_stop : EndsAreStops
ends_stop p tokens known x pass asked k to below leads =
    let f = initiator_from 0 p.platform.initiators p.scripts x.initiator asked.initiator asked.is in
    let own : asked.initiator.number ≡ x.initiator = f.0 ∙ none x.initiator in
    let row : slice_get p.platform.initiators asked.initiator.number ≡ Some asked.initiator.row = ap (slice_get p.platform.initiators) own ∙ f.1 in
    let hops : pass.hops ≡ hops_of p.platform asked.initiator asked.request.address = ap (λ (g : Passage). g.hops) asked.way in
    let within : k < length (hops_of p.platform asked.initiator asked.request.address) = subst (λ (l : List ℕ). k < length l) hops below in
    let here : target_in p.platform (get_or (hops_of p.platform asked.initiator asked.request.address) k 0) ≡ to = subst (λ (l : List ℕ). target_in p.platform (get_or l k 0) ≡ to) hops (leads_at p.platform (hop_at pass k) to leads) in
    sym (stops_at p.platform asked.initiator asked.request.address k row within) ∙ here
  where
    none : (n : ℕ) → 0 + n ≡ n
    none n = omega arith
