-- The ways of a platform without cycles pass no hop twice.
use Rattle.std.proofs.Common.{◌≡◌, ℕ, zero, suc, ◌+◌, ◌-◌, ◌<◌, ◌≤◌, List, [], ◌∷◌, length, take, get_or, Option, Some, None, true, false, Bool, cond, refl, ap, sym, arith, subst, ◌⊎◌, inl, inr}
use Rattle.std.specs.Prelude.{slice_get, sum_by}
use Rattle.std.proofs.lemmas.List.Sums.{sum_by-cons}
use Rattle.std.proofs.lemmas.Option.{slice_get_within}
use Rattle.tlm_types.specs.declared.words.TxnId.{TxnId}
use Rattle.tlm_model.specs.declared.platform.InitiatorRow.{InitiatorRow}
use Rattle.tlm_model.specs.declared.platform.MemoryRow.{MemoryRow}
use Rattle.tlm_model.specs.declared.platform.Platform.{Platform}
use Rattle.tlm_model.specs.declared.platform.RouterRow.{RouterRow}
use Rattle.tlm_model.specs.declared.platform.Style.{Style}
use Rattle.tlm_model.specs.declared.platform.Style.TheVariants.{Blocking, Direct, FourPhase}
use Rattle.tlm_model.specs.declared.platform.Target.{Target}
use Rattle.tlm_model.specs.declared.platform.Target.TheVariants.{Router, Memory}
use Rattle.tlm_model.specs.declared.platform.WindowRow.{WindowRow}
use Rattle.tlm_model.specs.declared.operation.Operation.{Operation}
use Rattle.tlm_model.specs.Plan.{Plan, Initiator, initiators_from, initiators_of}
use Rattle.tlm_model.specs.Route.{Found, into_memory, into_router, into_window, window_has, later, walk, window_hop, window_of}
use Rattle.tlm_model.proofs.InitiatorLemmas.{initiator_from}
use Rattle.flow_model.specs.World.{IsPassage, Passage}
use Rattle.flow_model.specs.Platform.{addresses_of, passage_by, passage_to, world_of}
use Rattle.flow_model.specs.Valid.{HasNoCycle, LeadsOver, WorldLaw}

some_same : {X : Type 0} (a b : X) → Some a ≡ Some b → a ≡ b
some_same a b q = cc

-- each hop is a window of the router that the one before leads to
abbrev Way : Platform → Target → List ℕ → Type 0
Way p t [] = Unit {0}
Way p (Memory m) (h ∷ hs) = ⊥
Way p (Router r) (h ∷ hs) = (row : RouterRow) × (index : ℕ) × (window : WindowRow) × (slice_get p.routers r ≡ Some row) × (slice_get row.windows index ≡ Some window) × (h ≡ window_hop p r index) × Way p window.to hs

found_at : (n : ℕ) (ws : List WindowRow) (a : ℕ) (f : Found) → window_of n ws a ≡ Some f → (k : ℕ) × (f.index ≡ n + k) × (slice_get ws k ≡ Some f.window)
found_at n [] a f q = cc
found_at n (v ∷ ws) a f q = go (λ r. found_at (n + 1) ws a f r) (window_has v a) q
  where
    go : (window_of (n + 1) ws a ≡ Some f → (k : ℕ) × (f.index ≡ (n + 1) + k) × (slice_get ws k ≡ Some f.window)) → (b : Bool) → cond b (Some (record { index = n; window = v })) (window_of (n + 1) ws a) ≡ Some f → (k : ℕ) × (f.index ≡ n + k) × (slice_get (v ∷ ws) k ≡ Some f.window)
    go more true q =
        let s : record { index = n; window = v } ≡ f = some_same _ f q in
        let i : n ≡ f.index = ap (λ (g : Found). g.index) s in
        (0, omega arith, ap (λ (g : Found). Some g.window) s)
    go more false q = let r = more q in let i : f.index ≡ (n + 1) + r.0 = r.1 in (suc r.0, omega arith, r.2)

pub walk_way : (k : ℕ) (p : Platform) (t : Target) (a before : ℕ) → Way p t (walk k p t a before).hops
walk_way zero p t a before = tt
walk_way (suc k) p (Memory m) a before = go (slice_get p.memories m)
  where
    go : (row : Option MemoryRow) → Way p (Memory m) (into_memory row m a before).hops
    go None = tt
    go (Some row) = tt
walk_way (suc k) p (Router r) a before = go (λ t b c. walk_way k p t b c) (slice_get p.routers r) refl
  where
    window : (row : RouterRow) → slice_get p.routers r ≡ Some row → ((t : Target) (b c : ℕ) → Way p t (walk k p t b c).hops) → (f : Option Found) → window_of 0 row.windows a ≡ f → Way p (Router r) (into_window p r f a (later before row.latency) (λ t b c. walk k p t b c)).hops
    window row is next None q = tt
    window row is next (Some f) q =
        let g = found_at 0 row.windows a f q in
        let i : f.index ≡ 0 + g.0 = g.1 in
        let j : g.0 ≡ f.index = omega arith in
        (row, f.index, f.window, is, subst (λ (n : ℕ). slice_get row.windows n ≡ Some f.window) j g.2, refl, next f.window.to (a - f.window.first + f.window.base) (later before row.latency))

    go : ((t : Target) (b c : ℕ) → Way p t (walk k p t b c).hops) → (row : Option RouterRow) → slice_get p.routers r ≡ row → Way p (Router r) (into_router p r row a before (λ t b c. walk k p t b c)).hops
    go next None q = tt
    go next (Some row) q = window row q next (window_of 0 row.windows a) refl

-- the windows of the routers, one after another
abbrev windows_before : List RouterRow → ℕ → ℕ
windows_before rows r = sum_by (λ (row : RouterRow). length row.windows) (take r rows)

before_cons : (row : RouterRow) (rows : List RouterRow) (r : ℕ) → windows_before (row ∷ rows) (suc r) ≡ length row.windows + windows_before rows r
before_cons row rows r = sum_by-cons (λ (row : RouterRow). length row.windows) row (take r rows)

before_less : (rows : List RouterRow) (r s : ℕ) (row : RouterRow) → slice_get rows r ≡ Some row → r < s → windows_before rows r + length row.windows ≤ windows_before rows s
before_less [] r s row q l = cc
before_less (x ∷ rows) r zero row q l = absurd (omega arith)
before_less (x ∷ rows) zero (suc s) row q l =
    let same : length x.windows ≡ length row.windows = ap (λ (d : RouterRow). length d.windows) (some_same x row q) in
    let t : windows_before (x ∷ rows) (suc s) ≡ length x.windows + windows_before rows s = before_cons x rows s in
    omega arith
before_less (x ∷ rows) (suc r) (suc s) row q l =
    let m : windows_before rows r + length row.windows ≤ windows_before rows s = before_less rows r s row q (omega arith) in
    let t : windows_before (x ∷ rows) (suc s) ≡ length x.windows + windows_before rows s = before_cons x rows s in
    let u : windows_before (x ∷ rows) (suc r) ≡ length x.windows + windows_before rows r = before_cons x rows r in
    omega arith

-- a hop is a window of one router
record IsWindowOf (p : Platform) (r h : ℕ) : Type 0 where
  row : RouterRow
  is : slice_get p.routers r ≡ Some row
  index : ℕ
  below : index < length row.windows
  hop : h ≡ window_hop p r index

one_router : (p : Platform) (r s h : ℕ) → IsWindowOf p r h → IsWindowOf p s h → r ≡ s
one_router p r s h a b =
    let i : a.index < length a.row.windows = a.below in
    let j : b.index < length b.row.windows = b.below in
    let q : h ≡ length p.initiators + windows_before p.routers r + a.index = a.hop in
    let t : h ≡ length p.initiators + windows_before p.routers s + b.index = b.hop in
    let up : r < s → windows_before p.routers r + length a.row.windows ≤ windows_before p.routers s = before_less p.routers r s a.row a.is in
    let down : s < r → windows_before p.routers s + length b.row.windows ≤ windows_before p.routers r = before_less p.routers s r b.row b.is in
    same up down i j q t
  where
    same : (r < s → windows_before p.routers r + length a.row.windows ≤ windows_before p.routers s) → (s < r → windows_before p.routers s + length b.row.windows ≤ windows_before p.routers r)
        → a.index < length a.row.windows → b.index < length b.row.windows
        → h ≡ length p.initiators + windows_before p.routers r + a.index → h ≡ length p.initiators + windows_before p.routers s + b.index → r ≡ s
    same up down i j q t = elim (order r s) [
      | inl c ↦ (let m : windows_before p.routers r + length a.row.windows ≤ windows_before p.routers s = up c in absurd (omega arith))
      | inr c ↦ elim c [ inl e ↦ e | inr d ↦ (let m : windows_before p.routers s + length b.row.windows ≤ windows_before p.routers r = down d in absurd (omega arith)) ]
    ]
      where
        order : (r s : ℕ) → (r < s) ⊎ ((r ≡ s) ⊎ (s < r))
        order r s = grind arith

first_window : (p : Platform) (r h : ℕ) (hs : List ℕ) → Way p (Router r) (h ∷ hs) → IsWindowOf p r h
first_window p r h hs y = record { row = y.0; is = y.3; index = y.1; below = slice_get_within y.0.windows y.1 y.2 y.4; hop = y.5 }

-- the k-th hop is a window of a router to which k windows lead
record Reached (p : Platform) (k r h : ℕ) : Type 0 where
  router : ℕ
  over : LeadsOver p k r router
  window : IsWindowOf p router h

reached : (p : Platform) (k r : ℕ) (hs : List ℕ) → Way p (Router r) hs → k < length hs → Reached p k r (get_or hs k 0)
reached p k r [] y l = absurd (omega arith)
reached p zero r (h ∷ hs) y l = record { router = r; over = refl; window = first_window p r h hs y }
reached p (suc k) r (h ∷ hs) y l = go (λ s rest m. reached p k s hs rest m) y.2.to refl y.6
  where
    go : ((s : ℕ) → Way p (Router s) hs → k < length hs → Reached p k s (get_or hs k 0)) → (t : Target) → y.2.to ≡ t → Way p t hs → Reached p (suc k) r (get_or (h ∷ hs) (suc k) 0)
    go more (Memory m) q rest = none hs rest l
      where
        none : (hs : List ℕ) → Way p (Memory m) hs → suc k < length (h ∷ hs) → Reached p (suc k) r (get_or (h ∷ hs) (suc k) 0)
        none [] rest l = absurd (omega arith)
        none (i ∷ hs) rest l = absurd rest
    go more (Router s) q rest =
        let n = more s rest (omega arith) in
        record { router = n.router; over = (s, record { row = y.0; is = y.3; index = y.1; window = y.2; there = y.4; to = q }, n.over); window = n.window }

differ_from : (p : Platform) → HasNoCycle p → (j k : ℕ) (t : Target) (hs : List ℕ) → Way p t hs → j < k → k < length hs → ¬ (get_or hs j 0 ≡ get_or hs k 0)
differ_from p free j k t [] y l m q = absurd (omega arith)
differ_from p free j k (Memory n) (h ∷ hs) y l m q = y
differ_from p free zero zero (Router r) (h ∷ hs) y l m q = absurd (omega arith)
differ_from p free zero (suc k) (Router r) (h ∷ hs) y l m q =
    let n = reached p (suc k) r (h ∷ hs) y m in
    let same : r ≡ n.router = one_router p r n.router h (first_window p r h hs y) (subst (λ (i : ℕ). IsWindowOf p n.router i) (sym q) n.window) in
    free k r (subst (λ (s : ℕ). LeadsOver p (suc k) r s) (sym same) n.over)
differ_from p free (suc j) zero (Router r) (h ∷ hs) y l m q = absurd (omega arith)
differ_from p free (suc j) (suc k) (Router r) (h ∷ hs) y l m q = differ_from p free j k y.2.to hs y.6 (omega arith) (omega arith) q

-- an initiator has its number and its row
record IsInitiator (p : Platform) (n : ℕ) (i : Initiator) : Type 0 where
  number : i.number ≡ n
  row : slice_get p.initiators n ≡ Some i.row

-- a hop of a way is no binding
pub past_bindings : (p : Platform) (k : ℕ) (t : Target) (hs : List ℕ) → Way p t hs → k < length hs → length p.initiators ≤ get_or hs k 0
past_bindings p k t [] y l = absurd (omega arith)
past_bindings p k (Memory m) (h ∷ hs) y l = absurd y
past_bindings p zero (Router r) (h ∷ hs) y l = let q : h ≡ length p.initiators + windows_before p.routers r + y.1 = y.5 in omega arith
past_bindings p (suc k) (Router r) (h ∷ hs) y l = past_bindings p k y.2.to hs y.6 (omega arith)

module _ (p : Platform) (free : HasNoCycle p) (n : ℕ) (i : Initiator) (is : IsInitiator p n i) (hs : List ℕ) (y : Way p i.row.bind hs) (routed : Bool) where
  pass : Passage
  pass = record { hops = i.number ∷ hs; routed = routed }

  below : i.number < length p.initiators
  below = let q : i.number ≡ n = is.number in let l : n < length p.initiators = slice_get_within p.initiators n i.row is.row in omega arith

  apart : (j k : ℕ) → j < length (i.number ∷ hs) → k < length (i.number ∷ hs) → get_or (i.number ∷ hs) j 0 ≡ get_or (i.number ∷ hs) k 0 → ¬ (j < k)
  apart zero zero l m q c = omega arith
  apart zero (suc k) l m q c = let b : i.number < length p.initiators = below in let t : length p.initiators ≤ get_or hs k 0 = past_bindings p k i.row.bind hs y (omega arith) in let s : i.number ≡ get_or hs k 0 = q in omega arith
  apart (suc j) zero l m q c = omega arith
  apart (suc j) (suc k) l m q c = differ_from p free j k i.row.bind hs y (omega arith) (omega arith) q

  good : IsPassage (record { hops = i.number ∷ hs; routed = routed })
  good = record { distinct = λ j k l m q. one (apart j k l m q) (apart k j m l (sym q)) }
    where
      one : {j k : ℕ} → ¬ (j < k) → ¬ (k < j) → j ≡ k
      one a b = omega arith

module _ (p : Plan) (free : HasNoCycle p.platform) where
  good_to : (n : ℕ) (i : Initiator) → IsInitiator p.platform n i → (s : Style) (a : Option (Option ℕ)) (pass : Passage) → passage_to p.platform i s a ≡ Some pass → IsPassage pass
  good_to n i is Blocking a pass q = cc
  good_to n i is Direct a pass q = cc
  good_to n i is FourPhase None pass q = cc
  good_to n i is FourPhase (Some None) pass q = cc
  good_to n i is FourPhase (Some (Some a)) pass q =
      subst IsPassage (some_same _ pass q) (good p.platform free n i is (walk 9 p.platform i.row.bind a 0).hops (walk_way 9 p.platform i.row.bind a 0) _)

  is_good : (x : TxnId) (pass : Passage) → (world_of p).passage x ≡ Some pass → IsPassage pass
  is_good x pass q = go (slice_get (initiators_of p) x.initiator) refl q
    where
      go : (i : Option Initiator) → slice_get (initiators_of p) x.initiator ≡ i → passage_by p.platform i x.seq ≡ Some pass → IsPassage pass
      go None r q = cc
      go (Some i) r q =
          let f = initiator_from 0 p.platform.initiators p.scripts x.initiator i r in
          let m : i.number ≡ 0 + x.initiator = f.0 in
          good_to x.initiator i (record { number = omega arith; row = f.1 }) i.row.style (slice_get (addresses_of i.script) x.seq) pass q

pub world_law : WorldLaw
world_law p free = record { passages = is_good p free }
