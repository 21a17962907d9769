-- What a hop of a plan leads to, and what its component answers BEGIN_REQ.
use Rattle.std.proofs.Common.{◌≡◌, ℕ, zero, suc, ◌+◌, ◌<◌, List, [], ◌∷◌, ◌++◌, length, map, get_or, Option, Some, None, refl, sym, ◌∙◌, ap, subst, arith}
use Rattle.std.specs.Prelude.{All, IsSome, IsSomeAnd, IsTrue, slice_get}
use Rattle.std.specs.List.{flat_map}
use Rattle.std.proofs.lemmas.Bool.{ltb-true}
use Rattle.std.proofs.lemmas.List.{map-append}
use Rattle.std.proofs.lemmas.Option.{get_or_from_slice_get}
use Rattle.atomic_table.specs.Seated.{TableId}
use Rattle.one_history.specs.declared.entry.Entry.{Entry}
use Rattle.one_history.specs.declared.view.Frame.{Frame}
use Rattle.one_history.specs.declared.view.View.{View}
use Rattle.tlm_types.specs.declared.entry.Content.{Content}
use Rattle.tlm_types.specs.declared.words.ReqMode.{ReqMode}
use Rattle.tlm_types.specs.declared.words.ReqMode.TheVariants as Reqs
use Rattle.tlm_types.specs.declared.words.RespMode.{RespMode}
use Rattle.tlm_types.specs.declared.words.RespMode.TheVariants.{Accept}
use Rattle.tlm_model.specs.declared.platform.InitiatorRow.{InitiatorRow}
use Rattle.tlm_model.specs.declared.platform.MemoryRow.{MemoryRow}
use Rattle.tlm_model.specs.declared.platform.Platform.{Platform}
use Rattle.tlm_model.specs.declared.platform.RouterRow.{RouterRow}
use Rattle.tlm_model.specs.declared.platform.Target.{Target}
use Rattle.tlm_model.specs.declared.platform.Target.TheVariants.{Router, Memory}
use Rattle.tlm_model.specs.declared.platform.WindowRow.{WindowRow}
use Rattle.tlm_model.specs.Plan.{Plan}
use Rattle.platform_model.specs.Bounded.{IsBounded, IsBoundedInitiator, IsBoundedRouter, is_router_mode, is_there}
use Rattle.platform_shape.specs.Shape.{IsShape}
use Rattle.route_plan.specs.declared.ends.HopEnds.{HopEnds}
use Rattle.route_plan.specs.Routes.{ends_of}
use Rattle.flow_model.specs.Platform.{all_hops, all_windows, hop_in, hop_to, no_hop, to_memory, to_router, world_of}
use Rattle.flow_model.specs.World.{Passage, hop_at, hop_count}
use Rattle.flow_model.specs.World as worlds
use Rattle.tlm_model.proofs.InitiatorLemmas.{initiator_from}
use Rattle.cargo_model.specs.declared.cargo.Cargo.{Cargo}
use Rattle.cargo_model.specs.Known.{Known}
use Rattle.cargo_model.specs.Stops.{response_at}
use Rattle.cargo_model.specs.Travel.{route_for, stop_for}
use Rattle.cargo_model.proofs.HopEnds.{hops_law}
use Rattle.cargo_net.specs.declared.forwards.Forwarded.{Forwarded}
use Rattle.cargo_net.specs.Forwards.{IsForwarded, IsRouterMode, LeadsTo as MayLeadTo, MayForward}
use Rattle.plat_net.specs.HopCalls.{CanBegin}
use Rattle.plat_net.specs.Objects.{frame_of}
use Rattle.plat_net.specs.Places.{LeadsTo, hop_place, memory_behind, place_at_end, place_of_target}
use Rattle.plat_net.proofs.Given.{ends_there, may_begin}
use Rattle.plat_net.proofs.Lookups.{short_at}
use Rattle.plat_net.proofs.Targets.{ends_lead, ends_stop, targets}

-- at each place of a list
abbrev AtEach : {A : Type 0} → (A → Type 0) → List A → Type 0
AtEach P xs = (k : ℕ) (x : _) → slice_get xs k ≡ Some x → P x

from_all : {A : Type 0} (P : A → Type 0) (xs : List A) → All P xs → AtEach P xs
from_all P xs all k x at = subst P (get_or_from_slice_get xs k x x at) (all k x (short_at xs k x at))

one : {A : Type 0} (x y : A) → Some x ≡ Some y → x ≡ y
one x y q = cc

at_appended : {A : Type 0} (P : A → Type 0) (xs ys : List A) → AtEach P xs → AtEach P ys → AtEach P (xs ++ ys)
at_appended P [] ys a b k x at = b k x at
at_appended P (z ∷ xs) ys a b zero x at = a zero x at
at_appended P (z ∷ xs) ys a b (suc k) x at = at_appended P xs ys (λ j y h. a (suc j) y h) b k x at

at_mapped : {A B : Type 0} (P : B → Type 0) (f : A → B) (xs : List A) → AtEach (λ x. P (f x)) xs → AtEach P (map f xs)
at_mapped P f [] a k x at = cc
at_mapped P f (z ∷ xs) a zero x at = subst P (one (f z) x at) (a zero z refl)
at_mapped P f (z ∷ xs) a (suc k) x at = at_mapped P f xs (λ j y h. a (suc j) y h) k x at

abbrev to_of : WindowRow → Target
to_of v = v.to

at_windows : (P : Target → Type 0) (rows : List RouterRow) → AtEach (λ (r : RouterRow). AtEach (λ (v : WindowRow). P v.to) r.windows) rows → AtEach P (map to_of (flat_map (λ (r : RouterRow). r.windows) rows))
at_windows P [] a k x at = cc
at_windows P (r ∷ rows) a k x at =
    at_appended P (map to_of r.windows) (map to_of (flat_map (λ (y : RouterRow). y.windows) rows)) (at_mapped P to_of r.windows (a zero r refl)) (at_windows P rows (λ j y h. a (suc j) y h)) k x
    (ap (λ (l : List Target). slice_get l k) (sym (map-append to_of r.windows (flat_map (λ (y : RouterRow). y.windows) rows))) ∙ at)

-- what each hop leads to is there
targets_there : (p : Platform) → IsBounded p → AtEach (λ (t : Target). IsTrue (is_there p t)) (targets p)
targets_there p b =
    at_appended (λ (t : Target). IsTrue (is_there p t)) (map (λ (i : InitiatorRow). i.bind) p.initiators) (map to_of (all_windows p))
    (at_mapped (λ (t : Target). IsTrue (is_there p t)) (λ (i : InitiatorRow). i.bind) p.initiators (λ k x at. (from_all (IsBoundedInitiator p) p.initiators b.initiators k x at).bind))
    (at_windows (λ (t : Target). IsTrue (is_there p t)) p.routers (λ k r at. from_all (λ (v : WindowRow). IsTrue (is_there p v.to)) r.windows (from_all (IsBoundedRouter p) p.routers b.routers k r at).targets))

mapped_some : {A B : Type 0} (f : A → B) (xs : List A) (n : ℕ) (x : A) → slice_get xs n ≡ Some x → slice_get (map f xs) n ≡ Some (f x)
mapped_some f [] n x at = cc
mapped_some f (z ∷ xs) zero x at = ap (λ y. Some (f y)) (one z x at)
mapped_some f (z ∷ xs) (suc n) x at = mapped_some f xs n x at

target_at : (p : Platform) (h : ℕ) (e : HopEnds) → slice_get (ends_of p) h ≡ Some e → slice_get (targets p) h ≡ Some e.down
target_at p h e at = ap (λ (l : List Target). slice_get l h) (sym (ends_lead p)) ∙ mapped_some (λ (x : HopEnds). x.down) (ends_of p) h e at

pub end_there : (p : Platform) (h : ℕ) (e : HopEnds) → IsBounded p → slice_get (ends_of p) h ≡ Some e → IsTrue (is_there p e.down)
end_there p h e b at = targets_there p b h e.down (target_at p h e at)

pub memory_below : (p : Platform) (to : Target) (m : ℕ) → IsTrue (is_there p to) → to ≡ Memory m → m < length p.memories
memory_below p to m there is = ltb-true m (length p.memories) (subst (λ (t : Target). IsTrue (is_there p t)) is there)

pub router_below : (p : Platform) (to : Target) (r : ℕ) → IsTrue (is_there p to) → to ≡ Router r → r < length p.routers
router_below p to r there is = ltb-true r (length p.routers) (subst (λ (t : Target). IsTrue (is_there p t)) is there)

-- the latency of a component
abbrev pub latency_by : Platform → Target → ℕ
latency_by p to = (hop_to p Accept to).latency

latency_any : (p : Platform) (resp : RespMode) (to : Target) → (hop_to p resp to).latency ≡ latency_by p to
latency_any p resp (Memory m) = at (slice_get p.memories m)
  where
    at : (row : Option MemoryRow) → (to_memory resp row).latency ≡ (to_memory Accept row).latency
    at None = refl
    at (Some row) = refl
latency_any p resp (Router r) = at (slice_get p.routers r)
  where
    at : (row : Option RouterRow) → (to_router resp row).latency ≡ (to_router Accept row).latency
    at None = refl
    at (Some row) = refl

fused : {X Y Z : Type 0} (f : Y → ℕ) (g : X → Y) (h : Z → ℕ) (k : X → Z) → ((x : X) → f (g x) ≡ h (k x)) → (xs : List X) → map f (map g xs) ≡ map h (map k xs)
fused f g h k same [] = refl
fused f g h k same (x ∷ xs) = ap (λ (n : ℕ). n ∷ map f (map g xs)) (same x) ∙ ap (λ (l : List ℕ). h (k x) ∷ l) (fused f g h k same xs)

abbrev latency_in : worlds.HopEnds → ℕ
latency_in x = x.latency

latencies : (p : Platform) → map latency_in (all_hops p) ≡ map (latency_by p) (targets p)
latencies p =
    map-append latency_in (map (λ (i : InitiatorRow). hop_to p i.response i.bind) p.initiators) (map (λ (v : WindowRow). hop_to p Accept v.to) (all_windows p))
    ∙ (ap (λ (l : List ℕ). l ++ map latency_in (map (λ (v : WindowRow). hop_to p Accept v.to) (all_windows p))) (fused latency_in (λ (i : InitiatorRow). hop_to p i.response i.bind) (latency_by p) (λ (i : InitiatorRow). i.bind) (λ i. latency_any p i.response i.bind) p.initiators)
    ∙ (ap (λ (l : List ℕ). map (latency_by p) (map (λ (i : InitiatorRow). i.bind) p.initiators) ++ l) (fused latency_in (λ (v : WindowRow). hop_to p Accept v.to) (latency_by p) to_of (λ v. refl) (all_windows p))
    ∙ sym (map-append (latency_by p) (map (λ (i : InitiatorRow). i.bind) p.initiators) (map to_of (all_windows p)))))

read_in : {A : Type 0} (l : List A) (h : ℕ) (f : A → ℕ) (d : A) → f (get_or l h d) ≡ get_or (map f l) h (f d)
read_in [] h f d = refl
read_in (x ∷ l) zero f d = refl
read_in (x ∷ l) (suc h) f d = read_in l h f d

mapped_read : (f : Target → ℕ) (l : List Target) (h : ℕ) (t : Target) (d : ℕ) → slice_get l h ≡ Some t → get_or (map f l) h d ≡ f t
mapped_read f [] h t d at = cc
mapped_read f (x ∷ l) zero t d at = ap f (one x t at)
mapped_read f (x ∷ l) (suc h) t d at = mapped_read f l h t d at

-- the latency behind a hop is that of the component to which it leads
pub latency_at : (p : Platform) (h : ℕ) (e : HopEnds) → slice_get (ends_of p) h ≡ Some e → (hop_in p h).latency ≡ latency_by p e.down
latency_at p h e at =
    read_in (all_hops p) h latency_in no_hop
    ∙ (ap (λ (l : List ℕ). get_or l h 0) (latencies p) ∙ mapped_read (latency_by p) (targets p) h e.down 0 (target_at p h e at))

-- a router answers as routers may
router_mode : (mode : ReqMode) → IsTrue (is_router_mode mode) → IsRouterMode mode
router_mode Reqs.Accept t = tt
router_mode Reqs.EndReq t = tt
router_mode Reqs.Short t = cc
router_mode Reqs.BeginResp t = cc
router_mode Reqs.Complete t = cc

pub router_answers : (p : Platform) (resp : RespMode) (r : ℕ) → IsBounded p → IsRouterMode (hop_to p resp (Router r)).req
router_answers p resp r b = at (slice_get p.routers r) refl
  where
    at : (row : Option RouterRow) → slice_get p.routers r ≡ row → IsRouterMode (to_router resp row).req
    at None is = tt
    at (Some row) is = router_mode row.accept (from_all (IsBoundedRouter p) p.routers b.routers r row is).accept

module _ (frame : Frame Plan) (tokens : TableId) (known : List (Entry Content)) (made : frame ≡ frame_of frame.world) (shape : IsShape frame.world.platform) (h : ℕ) (c : Cargo) (at : ℕ) (can : CanBegin frame tokens h c at known) where
  abbrev p : Plan
  p = frame.world

  stop_mode : (r : ℕ) → (stop_for p tokens (Known p.platform known) c.baton.txn can.pass can.down.asked can.hop).to ≡ Router r → IsRouterMode ((world_of p).hop (hop_at can.pass can.hop)).req
  stop_mode r is =
      let a = can.down.asked in
      let f = initiator_from 0 p.platform.initiators p.scripts c.baton.txn.initiator a.initiator a.is in
      let own : a.initiator.number ≡ c.baton.txn.initiator = f.0 ∙ none c.baton.txn.initiator in
      let row : slice_get p.platform.initiators a.initiator.number ≡ Some a.initiator.row = ap (slice_get p.platform.initiators) own ∙ f.1 in
      let hops = ap (λ (g : Passage). g.hops) a.way in
      let within = subst (λ (l : List ℕ). can.hop < length l) hops can.down.held.below in
      let leads = hops_law p.platform a.initiator a.request.address can.hop row within in
      let here = ap (λ (l : List ℕ). hop_in p.platform (get_or l can.hop 0)) hops in
      subst (λ (e : worlds.HopEnds). IsRouterMode e.req) (sym (here ∙ leads)) (subst (λ (t : Target). IsRouterMode (hop_to p.platform (response_at a.initiator can.hop) t).req) (sym is) (router_answers p.platform (response_at a.initiator can.hop) r shape.bounded))
    where
      none : (n : ℕ) → 0 + n ≡ n
      none n = omega arith

  pub leads_by : (o : Option HopEnds) → slice_get (ends_of p.platform) h ≡ o → IsSome o → MayLeadTo p can.pass can.hop (route_for p tokens (Known p.platform known) c.baton.txn can.pass can.down.asked) (place_at_end p o)
  leads_by None is some = cc
  leads_by (Some e) is some = by e.down refl
    where
      leads : (t : Target) → e.down ≡ t → LeadsTo p.platform (hop_at can.pass can.hop) t
      leads t q = subst (λ (n : ℕ). LeadsTo p.platform n t) (sym can.here) (at_end t q)
        where
          at_end : (t : Target) → e.down ≡ t → LeadsTo p.platform h t
          at_end t q = subst (λ (o : Option HopEnds). IsSomeAnd o (λ (x : HopEnds). x.down ≡ t)) (sym is) q

      by : (t : Target) → e.down ≡ t → MayLeadTo p can.pass can.hop (route_for p tokens (Known p.platform known) c.baton.txn can.pass can.down.asked) (place_at_end p (Some e))
      by (Memory m) q = subst (λ (t : Target). MayLeadTo p can.pass can.hop (route_for p tokens (Known p.platform known) c.baton.txn can.pass can.down.asked) (place_of_target p t)) (sym q)
          (ends_there frame tokens known made shape m c.baton.txn can.pass can.down.asked can.hop (memory_below p.platform e.down m (end_there p.platform h e shape.bounded is) q) can.down.held.below (leads (Memory m) q))
      by (Router r) q = subst (λ (t : Target). MayLeadTo p can.pass can.hop (route_for p tokens (Known p.platform known) c.baton.txn can.pass can.down.asked) (place_of_target p t)) (sym q)
          (stop_mode r (ends_stop p tokens known c.baton.txn can.pass can.down.asked can.hop (Router r) can.down.held.below (leads (Router r) q)))

  abbrev pub may_forward : IsSome (slice_get (ends_of p.platform) h) → MayForward frame tokens (hop_place p h) (memory_behind p h) (hop_in p.platform h).latency c at known
  may_forward some = record {
    begins = may_begin frame tokens known made shape h c at can;
    leads = leads_by (slice_get (ends_of p.platform) h) refl some;
    latency_is = ap (λ (n : ℕ). (hop_in p.platform n).latency) (sym can.here);
  }

-- the same by other names of the hop's number, of the memory behind it and of the latency
pub may_same : (frame : Frame Plan) (tokens : TableId) (known : List (Entry Content)) (c : Cargo) (at : ℕ) {n k : ℕ} {m o : Option ℕ} {l j : ℕ} → n ≡ k → m ≡ o → l ≡ j → MayForward frame tokens k o j c at known → MayForward frame tokens n m l c at known
may_same frame tokens known c at {n} {k} {m} {o} {l} {j} number memory latency may =
    subst (λ (i : ℕ). MayForward frame tokens i m l c at known) (sym number)
    (subst (λ (q : Option ℕ). MayForward frame tokens k q l c at known) (sym memory)
    (subst (λ (i : ℕ). MayForward frame tokens k o i c at known) (sym latency) may))

abbrev pub Answers : Frame Plan → TableId → List (Entry Content) → Cargo → ℕ → View Content Plan → Forwarded → ℕ → Option ℕ → ℕ → Type 0
Answers frame tokens known c at note result n m l = (may : MayForward frame tokens n m l c at known) → IsForwarded frame tokens n m l c at may.begins.pass may.begins.hop note result

pub answers_same : (frame : Frame Plan) (tokens : TableId) (known : List (Entry Content)) (c : Cargo) (at : ℕ) (note : View Content Plan) (result : Forwarded) {n k : ℕ} {m o : Option ℕ} {l j : ℕ} → n ≡ k → m ≡ o → l ≡ j → Answers frame tokens known c at note result n m l → Answers frame tokens known c at note result k o j
answers_same frame tokens known c at note result {n} {k} {m} {o} {l} {j} number memory latency a =
    subst (λ (i : ℕ). Answers frame tokens known c at note result k o i) latency
    (subst (λ (q : Option ℕ). Answers frame tokens known c at note result k q l) memory
    (subst (λ (i : ℕ). Answers frame tokens known c at note result i m l) number a))
