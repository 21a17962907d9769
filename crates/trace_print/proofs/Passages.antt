-- The hops that four-phase accesses pass.
use Rattle.std.proofs.Common.{◌≡◌, ℕ, zero, suc, ◌+◌, ◌<◌, ◌≤◌, List, [], ◌∷◌, length, take, get_or, sum_by, Option, Some, None, refl, sym, ap, subst, ◌∙◌, arith}
use Rattle.std.specs.Prelude.{slice_get, is_some}
use Rattle.std.specs.List.{AllByRecursion}
use Rattle.std.proofs.lemmas.List.{length-map, length-take, take_all}
use Rattle.tlm_types.specs.declared.entry.Access.{Access}
use Rattle.tlm_types.specs.declared.entry.Entry.{Entry}
use Rattle.tlm_types.specs.declared.words.TxnId.{TxnId}
use Rattle.tlm_model.specs.declared.platform.InitiatorRow.{InitiatorRow}
use Rattle.tlm_model.specs.declared.platform.Platform.{Platform}
use Rattle.tlm_model.specs.declared.platform.RouterRow.{RouterRow}
use Rattle.tlm_model.specs.declared.platform.Style.{Style}
use Rattle.tlm_model.specs.declared.platform.Style.TheVariants.{Blocking, Direct, FourPhase}
use Rattle.tlm_model.specs.Actions.{ask_for}
use Rattle.tlm_model.specs.Plan.{Plan, Initiator, initiators_of}
use Rattle.tlm_model.specs.Requests.{Asked, Request, Transport, requests_of}
use Rattle.tlm_model.specs.Route.{hops_of, route_of, walk}
use Rattle.tlm_model.proofs.RequestLemmas.{ask_at}
use Rattle.report_model.specs.Report.{hop_words}
use Rattle.flow_model.specs.World.{Passage}
use Rattle.flow_model.specs.World.{hop_count as passed_count}
use Rattle.flow_model.specs.Platform.{accessed, addresses_of, passage_by, passage_of, passage_to}
use Rattle.tlm_model.proofs.InitiatorLemmas.{initiator_from}
use Rattle.platform_model.specs.Bounded.{IsBounded}
use Rattle.platform_shape.specs.Shape.{IsShape}
use Rattle.platform_shape.proofs.SinglePaths.{some_same}
use Rattle.route_plan.specs.Routes.{ends_of, row_walk}
use Rattle.route_plan.specs.Valid.{hop_count}
use Rattle.route_plan.proofs.NumberLemmas.{length-ends_of, window_hop-le}
use Rattle.route_plan.proofs.StepLemmas.{few_hops_at}
use Rattle.route_plan.proofs.WayLemmas.{bound_within}
use Rattle.trace_print.specs.Hops.{hop_word_of}
use Rattle.trace_print.proofs.HopLemmas.{words-of-ends}

-- a platform has as many words of hops as hops, and few
pub count-hop-words : (p : Platform) → length (hop_words p) ≡ hop_count p
count-hop-words p = sym (ap length (words-of-ends p)) ∙ (length-map (ends_of p) (hop_word_of p) ∙ length-ends_of p)

pub few-hops : (p : Platform) → IsBounded p → hop_count p ≤ 288
few-hops p h =
    let f : RouterRow → ℕ = λ row. length row.windows in
    let n : ℕ = length p.routers in
    let whole : sum_by f (take n p.routers) ≡ sum_by f p.routers = ap (sum_by f) (take_all n p.routers (omega arith)) in
    let bound = window_hop-le p n h in
    omega (arith, bound, whole, length-take n p.routers, h.router_count)

-- a four-phase access passes the way of an address
record IsWayOf (p : Plan) (x : TxnId) (pass : Passage) : Type 0 where
  initiator : Initiator
  is : slice_get (initiators_of p) x.initiator ≡ Some initiator
  address : ℕ
  way : pass ≡ record { hops = hops_of p.platform initiator address; routed = is_some (route_of p.platform initiator address) }

way-of : (p : Plan) (x : TxnId) (pass : Passage) → passage_of p x ≡ Some pass → IsWayOf p x pass
way-of p x pass q = go (slice_get (initiators_of p) x.initiator) refl q
  where
    by_style : (i : Initiator) → slice_get (initiators_of p) x.initiator ≡ Some i → (s : Style) (a : Option (Option ℕ)) → passage_to p.platform i s a ≡ Some pass → IsWayOf p x pass
    by_style i is Blocking a q = cc
    by_style i is Direct a q = cc
    by_style i is FourPhase None q = cc
    by_style i is FourPhase (Some None) q = cc
    by_style i is FourPhase (Some (Some a)) q = record { initiator = i; is = is; address = a; way = sym (some_same _ pass q) }

    go : (o : Option Initiator) → slice_get (initiators_of p) x.initiator ≡ o → passage_by p.platform o x.seq ≡ Some pass → IsWayOf p x pass
    go None is q = cc
    go (Some i) is q = by_style i is i.row.style (slice_get (addresses_of i.script) x.seq) q

-- it passes at least one hop and at most nine, of the hops that there are
pub record IsPassed (p : Platform) (pass : Passage) : Type 0 where
  pub last : ℕ
  pub some : last + 1 ≡ passed_count pass
  pub few : passed_count pass ≤ 9
  pub there : AllByRecursion (λ h. h < hop_count p) pass.hops

pub is-passed : (p : Plan) → IsShape p.platform → (x : TxnId) (pass : Passage) → passage_of p x ≡ Some pass → IsPassed p.platform pass
is-passed p shape x pass q =
    let w = way-of p x pass q in
    let i = w.initiator in
    let f = initiator_from 0 p.platform.initiators p.scripts x.initiator i w.is in
    let number : i.number ≡ x.initiator = omega (arith, f.0) in
    let hops = hops_of p.platform i w.address in
    let walked : (row_walk p.platform x.initiator (Some i.row) w.address).hops ≡ hops = ap (λ (n : ℕ). n ∷ (walk 9 p.platform i.row.bind w.address 0).hops) (sym number) in
    let bound = subst (λ (o : Option InitiatorRow). length (row_walk p.platform x.initiator o w.address).hops ≤ 9) f.1 (few_hops_at p.platform x.initiator w.address shape) in
    let within = bound_within p.platform x.initiator w.address in
    let all = subst (λ (o : Option InitiatorRow). AllByRecursion (λ h. h < hop_count p.platform) (row_walk p.platform x.initiator o w.address).hops) f.1 within.hops in
    let same : pass.hops ≡ hops = ap (λ (g : Passage). g.hops) w.way in
    record {
      last = length (walk 9 p.platform i.row.bind w.address 0).hops;
      some = omega (arith, ap length same);
      few = omega (arith, ap length same, ap length walked, bound);
      there = subst (AllByRecursion (λ h. h < hop_count p.platform)) (walked ∙ sym same) all;
    }

-- what holds of each hop holds of the one at place k
pub hop-at-place : (P : ℕ → Type 0) (hops : List ℕ) (k : ℕ) → AllByRecursion P hops → k < length hops → P (get_or hops k 0)
hop-at-place P [] k all below = absurd (omega (arith, below))
hop-at-place P (h ∷ hops) zero all below = all.0
hop-at-place P (h ∷ hops) (suc k) all below = hop-at-place P hops k all.1 (omega (arith, below))

-- an access of a four-phase initiator has a passage
pub passes-some : (p : Plan) (before : List Entry) (x : TxnId) (i : Initiator) (r : Request) (a : Access) → slice_get (initiators_of p) x.initiator ≡ Some i → i.row.style ≡ FourPhase
    → slice_get (requests_of p.platform i before) x.seq ≡ Some r → r.asked ≡ Transport a → (pass : Passage) × (passage_of p x ≡ Some pass)
passes-some p before x i r a is style asked transport =
    let at : slice_get (addresses_of i.script) x.seq ≡ Some (Some r.address) =
    ask_at accessed (λ a n. refl) p.platform i before r 0 0 0 i.script x.seq asked ∙ ap (λ (d : Asked). Some (accessed (ask_for r.address d))) transport in (
      record { hops = hops_of p.platform i r.address; routed = is_some (route_of p.platform i r.address) },
      ap (λ (o : Option Initiator). passage_by p.platform o x.seq) is ∙ (ap (λ (s : Style). passage_to p.platform i s (slice_get (addresses_of i.script) x.seq)) style ∙ ap (passage_to p.platform i FourPhase) at),
    )
