-- The invalidation that is next: its request, its price, and that there are the tickets for all gates that it may have to close.
use Rattle.std.proofs.Common.{◌≡◌, ℕ, zero, suc, ◌+◌, ◌<◌, ◌≤◌, Bool, true, false, ◌||◌, List, [], ◌∷◌, ◌++◌, map, Option, Some, None, refl, ap, ◌∙◌, subst, arith}
use Rattle.std.specs.Prelude.{slice_get}
use Rattle.std.specs.List.{list_any}
use Rattle.std.proofs.lemmas.Grind.{common_steps}
use Rattle.tlm_types.specs.declared.words.ObjectNo.{ObjectNo}
use Rattle.tlm_types.specs.declared.words.ObjectNo.TheVariants.{Memory}
use Rattle.tlm_types.specs.declared.entry.Entry.{Entry}
use Rattle.tlm_model.specs.declared.operation.Operation.{Operation}
use Rattle.tlm_model.specs.declared.platform.Platform.{Platform}
use Rattle.tlm_model.specs.declared.platform.Style.{Style}
use Rattle.tlm_model.specs.declared.platform.Style.TheVariants.{FourPhase}
use Rattle.tlm_model.specs.declared.ask.Ask.TheVariants.{Invalidation as AnInvalidation}
use Rattle.tlm_model.specs.Plan.{Plan, Initiator, initiators_of}
use Rattle.tlm_model.specs.Requests.{Invalidation, Request, requests_of}
use Rattle.tlm_model.proofs.RequestLemmas.{ask_at}
use Rattle.flow_model.specs.Events.{Event}
use Rattle.flow_model.specs.Platform.{addresses_of, passage_by, passage_of, passage_to}
use Rattle.joined_traffic.specs.Accesses.{sum_below, txn_of}
use Rattle.platform_shape.specs.Paths.{once}
use Rattle.route_plan.specs.Planned.{asks_in, invalidates, is_routed_to}
use Rattle.script_engine.specs.declared.part.Part.TheVariants.{Invalidates}
use Rattle.script_engine.specs.Part.{part_of}
use Rattle.script_engine.specs.State.{Due, next_of, op_at}
use Rattle.script_engine.specs.Asking.{requests_after, requests_at}
use Rattle.port_model.specs.Stages.{ahead, count_of, price, price_of}
use Rattle.port_model.specs.Closings.{invalidates_at, open_gates}
use Rattle.port_model.specs.Way.{IsUnderWay, Port}
use Rattle.port_model.proofs.Alone.{invalidation_numbers}
use Rattle.port_model.proofs.NextAsks.{get_after, price_at}
use Rattle.port_model.proofs.Origins.{origin}
use Rattle.port_model.proofs.Sums.{part}
use Rattle.port_model.proofs.Takes.{made_count}

-- the request of an invalidation, at this time and stage
abbrev pub invalidation_for : ℕ → ℕ → ℕ → ℕ → ℕ → Request
invalidation_for s a n t g = record { seq = s; address = a; asked = Invalidation n; time = t; stage = g + 1 }

-- the first of what an engine is to ask for is the request of what is next
head_after : (p : Platform) (i : Initiator) (h : List Entry) (s t g : ℕ) (due : Option Due) (ops : List Operation) (k a n : ℕ) → part_of (op_at s due ops) ≡ Invalidates k a n →
    slice_get (requests_after p i h s t g due ops) 0 ≡ Some (invalidation_for k a n t g)
head_after p i h s t g due ops k a n next_is = grind (arith, common_steps)

any_map : {A : Type 0} (f : A → Bool) (xs : List A) (k : ℕ) → slice_get (map f xs) k ≡ Some true → list_any f xs ≡ true
any_map f [] k e = cc
any_map f (x ∷ xs) zero e = ap (λ (b : Bool). b || list_any f xs) (first (f x) e)
  where
    first : (b : Bool) → Some b ≡ Some true → b ≡ true
    first b e = cc
any_map f (x ∷ xs) (suc k) e = by (f x) (any_map f xs k e)
  where
    by : (b : Bool) → list_any f xs ≡ true → (b || list_any f xs) ≡ true
    by true r = refl
    by false r = r

module _ (p : Plan) (i : Initiator) (port : Port) (known : List Event) (seen : ℕ) (left : ObjectNo → ℕ) (u : IsUnderWay p i port known seen left) (s a n : ℕ) (next_is : next_of port.engine ≡ Invalidates s a n) where
  abbrev pub q : Request
  q = invalidation_for s a n u.asking.blocking u.step

  -- it stands at the next number
  pub next_asked : slice_get (requests_of p.platform i (u.mine ++ [])) port.engine.seq ≡ Some q
  next_asked =
      ap (λ (l : List Request). slice_get l port.engine.seq) (u.asking.asked [])
      ∙ subst (λ (k : ℕ). slice_get (u.asking.passed ++ requests_at p.platform i (u.mine ++ []) u.asking.blocking u.step port.engine) k ≡ Some q) u.asking.count
      (get_after u.asking.passed (requests_at p.platform i (u.mine ++ []) u.asking.blocking u.step port.engine) q (head_after p.platform i (u.mine ++ []) port.engine.seq u.asking.blocking u.step port.engine.due port.engine.remaining s a n next_is))

  pub price_is : (o : ObjectNo) → price p i o port.engine.seq ≡ price_of p i o (AnInvalidation a)
  price_is o = price_at p i o (u.mine ++ []) q port.engine.seq next_asked

  -- it passes no hop
  pub passes_none : slice_get (initiators_of p) i.number ≡ Some i → i.row.style ≡ FourPhase → passage_of p (txn_of i.number port.engine.seq) ≡ None
  passes_none is style =
      ap (λ (j : Option Initiator). passage_by p.platform j port.engine.seq) is
      ∙ (ap (λ (y : Style). passage_to p.platform i y (slice_get (addresses_of i.script) port.engine.seq)) style
      ∙ ap (passage_to p.platform i FourPhase) (origin p.platform i (u.mine ++ []) q port.engine.seq next_asked))

  module _ (m : ℕ) (leads : is_routed_to p i m a ≡ true) where
    pub invalidates_here : invalidates_at p i m ≡ true
    invalidates_here = any_map (invalidates p i m) (asks_in i) port.engine.seq
        (ask_at (invalidates p i m) (λ b k. refl) p.platform i (u.mine ++ []) q 0 0 0 i.script port.engine.seq next_asked ∙ ap (λ (b : Bool). Some b) leads)

    pub price_here : price p i (Memory m) port.engine.seq ≡ 1
    price_here = price_is (Memory m) ∙ ap once leads

    -- there is its ticket, and one for each gate that isn't known to be closed
    pub tickets_here : port.waiting ≡ false → open_gates p m known < left (Memory m)
    tickets_here quiet =
        let l = invalidation_numbers port.engine s a n next_is in
        let c = u.asking.numbers in
        let one : ahead p i (Memory m) port.engine.seq (u.stage port.engine.seq) ≤ sum_below (λ k. ahead p i (Memory m) k (u.stage k)) (count_of i) = part (λ k. ahead p i (Memory m) k (u.stage k)) port.engine.seq (count_of i) (omega arith) in
        let z : ahead p i (Memory m) port.engine.seq (u.stage port.engine.seq) ≡ price p i (Memory m) port.engine.seq = ap (ahead p i (Memory m) port.engine.seq) (u.staged.ahead port.engine.seq (let k = made_count p i port known seen left u quiet in omega arith)) in
        let e = price_here in
        let t = u.closes m invalidates_here in
        omega arith
