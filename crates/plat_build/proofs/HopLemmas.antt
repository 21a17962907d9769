-- To which component each hop of a platform leads, and how a hop is made.
use Rattle.std.proofs.Common.{◌≡◌, ℕ, zero, suc, ◌+◌, ◌-◌, ◌≤◌, List, [], ◌∷◌, length, take, map, get_or, Some, refl, sym, ◌∙◌, ap, arith, subst}
use Rattle.std.specs.Prelude.{slice_get, sum_by, IsTrue}
use Rattle.std.proofs.lemmas.List.{take_all}
use Rattle.std.proofs.lemmas.List.Sums.{sum_by-cons}
use Rattle.atomic_table.specs.Seated.{TableId}
use Rattle.one_history.specs.declared.view.Frame.{Frame}
use Rattle.shared_object.specs.Written.{own_number}
use Rattle.shared_object.specs.Standing.{place, IsBuiltFor}
use Rattle.tlm_types.specs.declared.words.ObjectNo.TheVariants.{Hop}
use Rattle.tlm_types.specs.declared.words.RespMode.{RespMode}
use Rattle.tlm_types.specs.declared.words.RespMode.TheVariants.{Accept}
use Rattle.tlm_model.specs.declared.platform.InitiatorRow.{InitiatorRow}
use Rattle.tlm_model.specs.declared.platform.Platform.{Platform}
use Rattle.tlm_model.specs.declared.platform.RouterRow.{RouterRow}
use Rattle.tlm_model.specs.declared.platform.Target.{Target}
use Rattle.tlm_model.specs.declared.platform.WindowRow.{WindowRow}
use Rattle.tlm_model.specs.Plan.{Plan}
use Rattle.tlm_model.specs.Route.{window_hop}
use Rattle.platform_model.specs.Bounded.{is_there}
use Rattle.route_plan.specs.Valid.{hop_count}
use Rattle.token_book.specs.Account.{Account}
use Rattle.flow_model.specs.Platform.{all_windows, hop_in, hop_to, no_hop}
use Rattle.flow_model.specs.World.{HopEnds}
use Rattle.hop_object.specs.declared.call.HopTraits.{HopTraits}
use Rattle.hop_object.specs.Objects.{built_of}
use Rattle.hop_object.specs.View.{HopView}
use Rattle.cargo_model.specs.declared.cargo.Cargo.{Cargo}
use Rattle.cargo_model.specs.Known.{object_number}
use Rattle.cargo_model.proofs.HopEnds.{back_at, front_at, window_among, windows_before}
use Rattle.cargo_net.specs.Traffic.{IsHopBuilt}
use Rattle.plat_build.specs.Hops.{IsMadeTo, IsNextHop}
use Rattle.plat_net.specs.Objects.{frame_of}
use Rattle.plat_build.specs.Supplies.{IsSupply}
use Rattle.plat_build.specs.declared.supplies.Supply.{Supply}
use Rattle.plat_net.proofs.Lookups.{short_at}
use Rattle.plat_net.proofs.NumberLemmas.{hop_number, hop_there}
use Rattle.plat_net.proofs.ObjectLemmas.{gates_at_object}

-- the hop of an initiator's binding
pub binding_next : (p : Platform) (i : ℕ) (row : InitiatorRow) → slice_get p.initiators i ≡ Some row → IsTrue (is_there p row.bind) → IsNextHop p i row.response row.bind
binding_next p i row at there = record {
  below = omega (arith, short_at p.initiators i row at);
  ends = front_at (λ (j : InitiatorRow). hop_to p j.response j.bind) p.initiators (map (λ (v : WindowRow). hop_to p Accept v.to) (all_windows p)) i row no_hop at;
  there = there;
}

sum_assoc : (a b c : ℕ) → a + b + c ≡ a + (b + c)
sum_assoc a b c = omega arith

before_all : (rows : List RouterRow) (r : ℕ) (row : RouterRow) → slice_get rows r ≡ Some row → windows_before rows r + length row.windows ≤ sum_by (λ (d : RouterRow). length d.windows) rows
before_all [] r row q = cc
before_all (x ∷ rows) zero row q =
    let same : length x.windows ≡ length row.windows = ap (λ (d : RouterRow). length d.windows) (one x row q) in
    omega (arith, same, sum_by-cons (λ (d : RouterRow). length d.windows) x rows)
  where
    one : (x y : RouterRow) → Some x ≡ Some y → x ≡ y
    one x y q = cc
before_all (x ∷ rows) (suc r) row q =
    omega (arith, before_all rows r row q, sum_by-cons (λ (d : RouterRow). length d.windows) x rows, sum_by-cons (λ (d : RouterRow). length d.windows) x (take r rows))

-- the hop of a router's window
pub window_next : (p : Platform) (r index h : ℕ) (row : RouterRow) (v : WindowRow) → slice_get p.routers r ≡ Some row → slice_get row.windows index ≡ Some v → h ≡ window_hop p r index → IsTrue (is_there p v.to) → IsNextHop p h Accept v.to
window_next p r index h row v is at same there = record {
  below = omega (arith, same, before_all p.routers r row is, short_at row.windows index v at);
  ends =
      ap (hop_in p) same
      ∙ (back_at (λ (i : InitiatorRow). hop_to p i.response i.bind) p.initiators (map (λ (w : WindowRow). hop_to p Accept w.to) (all_windows p)) (windows_before p.routers r + index) (window_hop p r index) no_hop (sum_assoc (length p.initiators) (windows_before p.routers r) index)
      ∙ window_among (λ (w : WindowRow). hop_to p Accept w.to) p.routers r index (windows_before p.routers r + index) row v no_hop is at refl);
  there = there;
}

-- the first window of the next router comes after those of this one
pub next_router : (p : Platform) (r : ℕ) (row : RouterRow) → slice_get p.routers r ≡ Some row → window_hop p (r + 1) 0 ≡ window_hop p r (length row.windows)
next_router p r row at = more p.routers r at
  where
    step : (rows : List RouterRow) (r : ℕ) → slice_get rows r ≡ Some row → windows_before rows (r + 1) ≡ windows_before rows r + length row.windows
    step [] r at = cc
    step (x ∷ rows) zero at =
        let same : length x.windows ≡ length row.windows = ap (λ (d : RouterRow). length d.windows) (one x row at) in
        omega (arith, same, sum_by-cons (λ (d : RouterRow). length d.windows) x [])
      where
        one : (x y : RouterRow) → Some x ≡ Some y → x ≡ y
        one x y q = cc
    step (x ∷ rows) (suc r) at =
        omega (arith, step rows r at, ap (windows_before (x ∷ rows)) (one_on r), sum_by-cons (λ (d : RouterRow). length d.windows) x (take (r + 1) rows), sum_by-cons (λ (d : RouterRow). length d.windows) x (take r rows))
      where
        one_on : (r : ℕ) → suc r + 1 ≡ suc (r + 1)
        one_on r = omega arith

    more : (rows : List RouterRow) (r : ℕ) → slice_get rows r ≡ Some row → length p.initiators + windows_before rows (r + 1) + 0 ≡ length p.initiators + windows_before rows r + length row.windows
    more rows r at = omega (arith, step rows r at)

-- all hops are those of the bindings and those of the windows of all routers
pub all_routers : (p : Platform) (r : ℕ) → r ≡ length p.routers → window_hop p r 0 ≡ hop_count p
all_routers p r all = omega (arith, ap (sum_by (λ (row : RouterRow). length row.windows)) (take_all r p.routers (omega arith)))

-- a new hop
abbrev pub blank_hop : ℕ → HopTraits → ℕ → Account → HopView Cargo
blank_hop number traits entries book = record { number = number; traits = traits; lanes = []; request_end = 0; response_end = 0; log = record { events = []; room = entries }; book = book }

-- it may stand there
pub hop_built : (p : Plan) (f : Frame Plan) (table tokens : TableId) (h entries : ℕ) (resp : RespMode) (to : Target) (traits : HopTraits) (s : Supply) (hop : HopView Cargo) → f ≡ frame_of p → IsNextHop p.platform h resp to
    → IsSupply table tokens f (length p.platform.memories + h) (Hop h) s → IsMadeTo p.platform resp to traits → hop ≡ blank_hop h traits entries s.second
    → IsBuiltFor IsHopBuilt (place f tokens s.book.owner (own_number (built_of hop).object)) (built_of hop)
hop_built p f table tokens h entries resp to traits s hop frame next supply made is =
    let blank : HopView Cargo = blank_hop h traits entries s.second in
    let number = hop_number p.platform h next.below in
    let there = hop_there p.platform h next.below in
    let owner : s.book.owner ≡ length p.platform.memories + h = supply.book_owner in
    let base : IsBuiltFor IsHopBuilt (place f tokens s.book.owner (own_number (built_of blank).object)) (built_of blank) = record {
      own = refl;
      world = record {
        hop = h;
        object = refl;
        place = owner ∙ (sym number ∙ ap (λ (x : Frame Plan). object_number x.world.platform (Hop h)) (sym frame));
        lanes = made.lanes ∙ sym (ap (λ (e : HopEnds). e.limit) (ends f frame));
        req = made.req ∙ sym (ap (λ (e : HopEnds). e.req) (ends f frame));
        resp = made.resp_is ∙ sym (ap (λ (e : HopEnds). e.resp) (ends f frame));
      };
      gates = record {
        count = sym (ap (λ (k : ℕ). get_or f.gates k 0) owner ∙ (ap (λ (x : Frame Plan). get_or x.gates (length p.platform.memories + h) 0) frame ∙ gates_at_object p.platform (length p.platform.memories + h) (Hop h) there));
        first = λ some. absurd (omega (arith, some));
      };
      book = (ap (λ (b : Account). b.table) supply.second, ap (λ (b : Account). b.owner) supply.second ∙ ap (λ (k : ℕ). length f.planned + k) (sym owner));
    } in
    subst (λ (x : HopView Cargo). IsBuiltFor IsHopBuilt (place f tokens s.book.owner (own_number (built_of x).object)) (built_of x)) (sym is) base
  where
    ends : (f : Frame Plan) → f ≡ frame_of p → hop_in f.world.platform h ≡ hop_to p.platform resp to
    ends f frame = ap (λ (x : Frame Plan). hop_in x.world.platform h) frame ∙ next.ends
