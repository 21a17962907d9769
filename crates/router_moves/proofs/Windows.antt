-- Where the windows of a router lead a request.
use Rattle.std.proofs.Common.{◌≡◌, ℕ, zero, suc, ◌+◌, ◌-◌, ◌^◌, ◌<◌, ◌==◌, Bool, true, false, List, [], ◌∷◌, length, map, get_or, Option, Some, None, option_map, slice_get, refl, sym, ◌∙◌, ap, subst, add-one, arith}
use Rattle.std.specs.Prelude.{◌&&◌, not}
use Rattle.std.proofs.lemmas.Bool.{eq-eqb, ne_eqb}
use Rattle.std.proofs.lemmas.Option.{slice_get_within}
use Rattle.atomic_table.specs.Seated.{TableId}
use Rattle.one_history.specs.declared.entry.Entry.{Entry}
use Rattle.tlm_types.specs.declared.entry.Content.{Content}
use Rattle.tlm_types.specs.declared.words.ReqMode.{ReqMode}
use Rattle.tlm_types.specs.declared.words.ReqMode.TheVariants.{Accept, Short, EndReq, BeginResp, Complete}
use Rattle.tlm_types.specs.declared.words.RespMode.{RespMode}
use Rattle.tlm_types.specs.declared.words.RespMode.TheVariants as RespModes
use Rattle.tlm_types.specs.declared.words.TxnId.{TxnId}
use Rattle.addr_router.specs.declared.window.Window.{Window}
use Rattle.addr_router.specs.Windows.{decoded}
use Rattle.platform_model.specs.Bounded.{IsBounded}
use Rattle.tlm_model.specs.declared.platform.Platform.{Platform}
use Rattle.tlm_model.specs.declared.platform.RouterRow.{RouterRow}
use Rattle.tlm_model.specs.declared.platform.Target.{Target}
use Rattle.tlm_model.specs.declared.platform.Target.TheVariants.{Router}
use Rattle.tlm_model.specs.Plan.{Plan}
use Rattle.tlm_model.specs.Route.{Found, Route, hops_of, route_of, window_hop, window_of}
use Rattle.flow_model.specs.World.{HopEnds, Passage, hop_at, hop_count, row_by, row_of}
use Rattle.flow_model.specs.Platform.{hop_in, hop_to, to_router, world_of}
use Rattle.tlm_model.proofs.InitiatorLemmas.{initiator_from}
use Rattle.platform_shape.specs.Shape.{IsShape}
use Rattle.route_plan.specs.Routes.{numbered_windows}
use Rattle.route_plan.proofs.NumberLemmas.{decoded_numbered, seen_by, window_is_found}
use Rattle.route_plan.proofs.StepLemmas.{hop_fits}
use Rattle.cargo_model.specs.Known.{Known}
use Rattle.cargo_model.specs.Stops.{GoesOn, Stop, end_by, hop_behind, past_router, past_target, past_window, response_at, stop_at, window_at, window_by}
use Rattle.cargo_model.specs.Travel.{IsAsked, route_for, stop_for}
use Rattle.cargo_model.proofs.HopEnds.{hops_law}
use Rattle.cargo_model.proofs.Ways.{ways_law}
use Rattle.cargo_net.specs.Descends.{owed_on}
use Rattle.plat_net.specs.Places.{LeadsTo}
use Rattle.plat_net.proofs.Given.{few_passed}
use Rattle.plat_net.proofs.Targets.{ends_stop}
use Rattle.node_hops.specs.Traits.{accepts, is_accepting}
use Rattle.plat_net.proofs.Lookups.{row_in}
use Rattle.router_moves.specs.Items.{way_in, way_of, way_over}
use Rattle.router_moves.specs.Moves.{owed_above}
use Rattle.router_moves.specs.declared.items.WayBehind.{WayBehind}

mapped_at : {X Y : Type 0} (f : X → Y) (xs : List X) (k : ℕ) (x : X) → slice_get xs k ≡ Some x → slice_get (map f xs) k ≡ Some (f x)
mapped_at f [] k x at = cc
mapped_at f (y ∷ ys) zero x at = let same : y ≡ x = one y x at in ap (λ z. Some (f z)) same
  where
    one : {X : Type 0} (y x : X) → Some y ≡ Some x → y ≡ x
    one y x q = cc
mapped_at f (y ∷ ys) (suc k) x at = mapped_at f ys k x at

one_of : {X : Type 0} (y x : X) → Some y ≡ Some x → y ≡ x
one_of y x q = cc

-- what an address was decoded to, as a way
abbrev pub way_decoded : Platform → ℕ → Option (ℕ × ℕ) → Option WayBehind
way_decoded p r None = None
way_decoded p r (Some d) = Some (record { hop = window_hop p r d.0; address = d.1 })

over_found : (p : Platform) (r a : ℕ) (o : Option Found) → way_over p r a o ≡ way_decoded p r (option_map (seen_by a) o)
over_found p r a None = refl
over_found p r a (Some f) = refl

-- the windows of a router tell its ways
pub decodes : (p : Plan) (r a : ℕ) (ws : List Window) → r < length p.platform.routers → slice_get (map numbered_windows p.platform.routers) r ≡ Some ws → way_of p r a ≡ way_decoded p.platform r (decoded ws a)
decodes p r a ws below kept =
    let row = row_in p.platform.routers r below in
    let same : ws ≡ numbered_windows row.0 = one_of ws (numbered_windows row.0) (sym kept ∙ mapped_at numbered_windows p.platform.routers r row.0 row.1) in
    ap (way_in p.platform r a) row.1
    ∙ (over_found p.platform r a (window_of 0 (let w = row.0 in w.windows) a)
    ∙ ap (way_decoded p.platform r) (sym (decoded_numbered 0 (let w = row.0 in w.windows) a) ∙ ap (λ (v : List Window). decoded v a) (sym same)))

-- the number of the hop of a window that an address was decoded by
pub decoded_fits : (p : Plan) (r a port seen : ℕ) (ws : List Window) → IsBounded p.platform → r < length p.platform.routers → slice_get (map numbered_windows p.platform.routers) r ≡ Some ws → decoded ws a ≡ Some (port, seen) → window_hop p.platform r 0 + port < 2 ^ 32
decoded_fits p r a port seen ws bounded below kept is = by (window_of 0 row.windows a) refl
  where
    row : RouterRow
    row = (row_in p.platform.routers r below).0

    there : slice_get p.platform.routers r ≡ Some row
    there = (row_in p.platform.routers r below).1

    same : ws ≡ numbered_windows row
    same = one_of ws (numbered_windows row) (sym kept ∙ mapped_at numbered_windows p.platform.routers r row there)

    seen_is : option_map (seen_by a) (window_of 0 row.windows a) ≡ Some (port, seen)
    seen_is = sym (decoded_numbered 0 row.windows a) ∙ ap (λ (v : List Window). decoded v a) (sym same) ∙ is

    by : (o : Option Found) → window_of 0 row.windows a ≡ o → window_hop p.platform r 0 + port < 2 ^ 32
    by None q = absurd (none (sym (ap (option_map (seen_by a)) q) ∙ seen_is))
      where
        none : {X : Type 0} {x : X} → None ≡ Some x → ⊥
        none q = cc
    by (Some f) q =
        let pair = one_of (seen_by a f) (port, seen) (sym (ap (option_map (seen_by a)) q) ∙ seen_is) in
        let index : f.index ≡ port = ap (λ (d : ℕ × ℕ). d.0) pair in
        hop_fits p.platform r port row bounded there (slice_get_within row.windows port f.window (subst (λ (n : ℕ). slice_get row.windows n ≡ Some f.window) index (window_is_found row.windows a f q)))

pub next_window : (p : Platform) (r port : ℕ) → window_hop p r 0 + port ≡ window_hop p r port
next_window p r port = omega arith

by_window : (p : Platform) (r a : ℕ) (o : Option RouterRow) → way_in p r a o ≡ way_over p r a (window_by o a)
by_window p r a None = refl
by_window p r a (Some row) = refl

-- a hop to a router
router_ends_at : (resp : RespMode) (o : Option RouterRow) → (to_router resp o).to_memory ≡ false
router_ends_at resp None = refl
router_ends_at resp (Some row) = refl

off : (b : Bool) (mode : ReqMode) → row_by (false && b) mode ≡ mode
off b mode = refl

above_by : (m : ReqMode) (n : ℕ) → owed_above (accepts m) n ≡ owed_on m n
above_by Accept n = refl
above_by Short n = refl
above_by EndReq n = refl
above_by BeginResp n = refl
above_by Complete n = refl

pub no_accept : (m : ReqMode) → row_by true m ≡ Accept → ⊥
no_accept Accept q = cc
no_accept Short q = cc
no_accept EndReq q = cc
no_accept BeginResp q = cc
no_accept Complete q = cc

-- An access that hop k leads to a router.
module _ (p : Plan) (tokens : TableId) (known : List (Entry Content)) (shape : IsShape p.platform) (x : TxnId) (pass : Passage) (asked : IsAsked p tokens (Known p.platform known) x pass) (k r : ℕ) (below : k < hop_count pass) (leads : LeadsTo p.platform (hop_at pass k) (Router r)) where
  abbrev stop : Stop
  stop = stop_for p tokens (Known p.platform known) x pass asked k

  stop_is : stop.to ≡ Router r
  stop_is = ends_stop p tokens known x pass asked k (Router r) below leads

  hops_are : pass.hops ≡ hops_of p.platform asked.initiator asked.request.address
  hops_are = ap (λ (g : Passage). g.hops) asked.way

  within : k < length (hops_of p.platform asked.initiator asked.request.address)
  within = subst (λ (l : List ℕ). k < length l) hops_are below

  few : k < 9
  few = let l = few_passed p tokens (Known p.platform known) x pass asked shape in omega (arith, l, below)

  on : GoesOn p.platform (hops_of p.platform asked.initiator asked.request.address) (route_of p.platform asked.initiator asked.request.address) k stop
  on = ways_law p.platform asked.initiator asked.request.address k within few

  window_is : window_at p.platform stop stop.to ≡ window_by (slice_get p.platform.routers r) stop.address
  window_is = ap (window_at p.platform stop) stop_is

  pub ends_are : hop_in p.platform (hop_at pass k) ≡ to_router (response_at asked.initiator k) (slice_get p.platform.routers r)
  ends_are =
      let f = initiator_from 0 p.platform.initiators p.scripts x.initiator asked.initiator asked.is in
      let own : asked.initiator.number ≡ x.initiator = f.0 ∙ none x.initiator in
      let row : slice_get p.platform.initiators asked.initiator.number ≡ Some asked.initiator.row = ap (slice_get p.platform.initiators) own ∙ f.1 in
      ap (λ (l : List ℕ). hop_in p.platform (get_or l k 0)) hops_are ∙ hops_law p.platform asked.initiator asked.request.address k row within ∙ ap (hop_to p.platform (response_at asked.initiator k)) stop_is
    where
      none : (n : ℕ) → 0 + n ≡ n
      none n = omega arith

  -- it leads to no memory
  pub to_no_memory : ((world_of p).hop (hop_at pass k)).to_memory ≡ false
  to_no_memory = ap (λ (e : HopEnds). e.to_memory) ends_are ∙ router_ends_at (response_at asked.initiator k) (slice_get p.platform.routers r)

  -- behind the window that has the address
  module _ (way : WayBehind) (is : way_of p r stop.address ≡ Some way) where
    -- the window that was found
    record IsOver : Type 0 where
      found : Found
      at : window_by (slice_get p.platform.routers r) stop.address ≡ Some found
      hop : way.hop ≡ window_hop p.platform r found.index
      address : way.address ≡ stop.address - found.window.first + found.window.base

    over : IsOver
    over = by (window_by (slice_get p.platform.routers r) stop.address) refl (sym (by_window p.platform r stop.address (slice_get p.platform.routers r)) ∙ is)
      where
        by : (o : Option Found) → window_by (slice_get p.platform.routers r) stop.address ≡ o → way_over p.platform r stop.address o ≡ Some way → IsOver
        by None q s = absurd (none s)
          where
            none : None ≡ Some way → ⊥
            none s = cc
        by (Some f) q s = (let e = one_of _ way s in record { found = f; at = q; hop = ap (λ (w : WayBehind). w.hop) (sym e); address = ap (λ (w : WayBehind). w.address) (sym e) })

    pub goes_on : k + 1 < hop_count pass
    goes_on = let l = (on.on over.found (window_is ∙ over.at)).0 in subst (λ (l : List ℕ). k + 1 < length l) (sym hops_are) l

    pub next_hop : hop_at pass (k + 1) ≡ way.hop
    next_hop =
        ap (λ (l : List ℕ). get_or l (k + 1) 0) hops_are ∙ (on.on over.found (window_is ∙ over.at)).1
        ∙ ap (λ (t : Target). hop_behind p.platform t (let o = over in o.found.index)) stop_is ∙ sym over.hop

    past : (o : Option RouterRow) (s : Stop) (f : Found) → window_by o s.address ≡ Some f → (past_router s o).address ≡ s.address - f.window.first + f.window.base
    past None s f q = absurd (none q)
      where
        none : None ≡ Some f → ⊥
        none q = cc
    past (Some row) s f q = ap (λ (w : Option Found). (past_window s w).address) q

    pub next_address : way.address ≡ (stop_for p tokens (Known p.platform known) x pass asked (k + 1)).address
    next_address =
        over.address
        ∙ sym (past (slice_get p.platform.routers r) stop over.found over.at)
        ∙ sym (ap (λ (t : Target). (past_target p.platform stop t).address) stop_is)
        ∙ ap (λ (n : ℕ). (stop_at p.platform asked.initiator asked.request.address n).address) (sym (add-one k))

    -- it doesn't refuse the access, and its row is its mode
    not_last : (k + 1 == hop_count pass) ≡ false
    not_last = ne_eqb (k + 1) (hop_count pass) (λ q. let l = goes_on in omega (arith, q, l))

    row_plain : row_of (world_of p) pass k ≡ ((world_of p).hop (hop_at pass k)).req
    row_plain = ap (λ (b : Bool). row_by (b && not ((world_of p).hop (hop_at pass k)).to_memory) ((world_of p).hop (hop_at pass k)).req) not_last

    pub above_is : (mode : Bool) → mode ≡ is_accepting p.platform (Router r) → r < length p.platform.routers → owed_above mode (hop_at pass k) ≡ owed_on (row_of (world_of p) pass k) (hop_at pass k)
    above_is mode same there =
        let row = row_in p.platform.routers r there in
        let req : row_of (world_of p) pass k ≡ (let w = row.0 in w.accept) = row_plain ∙ ap (λ (e : HopEnds). e.req) (ends_are ∙ ap (to_router (response_at asked.initiator k)) row.1) in
        ap (λ (b : Bool). owed_above b (hop_at pass k)) (same ∙ ap (λ (o : Option RouterRow). accepts (to_router RespModes.Accept o).rules.req) row.1)
        ∙ above_by (let w = row.0 in w.accept) (hop_at pass k)
        ∙ ap (λ (m : ReqMode). owed_on m (hop_at pass k)) (sym req)

  -- no window has it
  module _ (none : way_of p r stop.address ≡ None) where
    no_window : window_at p.platform stop stop.to ≡ None
    no_window = window_is ∙ by (window_by (slice_get p.platform.routers r) stop.address) (sym (by_window p.platform r stop.address (slice_get p.platform.routers r)) ∙ none)
      where
        by : (o : Option Found) → way_over p.platform r stop.address o ≡ None → o ≡ None
        by None q = refl
        by (Some f) q = cc

    pub ends_here : k + 1 ≡ hop_count pass
    ends_here = (on.stop no_window).0 ∙ ap length (sym hops_are)

    pub leads_nowhere : route_for p tokens (Known p.platform known) x pass asked ≡ None
    leads_nowhere = (on.stop no_window).1 ∙ ap (end_at stop) stop_is
      where
        end_at : Stop → Target → Option Route
        end_at s t = end_by p.platform s t

    last_is : (k + 1 == hop_count pass) ≡ true
    last_is = eq-eqb (k + 1) (hop_count pass) ends_here

    pub row_is_no_accept : row_of (world_of p) pass k ≡ Accept → ⊥
    row_is_no_accept q =
        no_accept ((world_of p).hop (hop_at pass k)).req (sym (ap (λ (b : Bool). row_by (b && not ((world_of p).hop (hop_at pass k)).to_memory) ((world_of p).hop (hop_at pass k)).req) last_is
        ∙ ap (λ (b : Bool). row_by (not b) ((world_of p).hop (hop_at pass k)).req) to_no_memory) ∙ q)
